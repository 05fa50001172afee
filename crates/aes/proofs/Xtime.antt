-- Multiplication in the field is linear.
use Prim.Native.Nat.{ℕ, zero, suc, ◌*◌, ◌/◌, ◌%◌, ◌<◌}
use mathlib.Core.Path.{◌≡◌, sym, ap, ap₂, ◌∙◌}
use native.Mathlib.Omega.{arith}
use native.Mathlib.Nat.{zero-mul, one-mul}
use lib.Bits.{xor_zero_r, xor_self}
use Rattle.aes.specs.Field.{xor, xtime, multiples, mul}
use Rattle.aes.proofs.Xor.{sum_self, sum_lt, sum_swap, sum_shr, sum_mod, sum_double}

-- a bit's multiple of b
bit_times : (x y b : ℕ) → x < 2 → y < 2 → xor x y * b ≡ xor (x * b) (y * b)
unfolding xor
bit_times zero y b hx hy = rw (zero-mul b)
bit_times (suc zero) zero b hx hy = rw (zero-mul b, one-mul b) (sym (xor_zero_r b))
bit_times (suc zero) (suc zero) b hx hy = rw (zero-mul b) (sym (xor_self (1 * b)))
bit_times (suc zero) (suc (suc y)) b hx hy = absurd (omega arith)
bit_times (suc (suc x)) y b hx hy = absurd (omega arith)

pub xtime_sum : (a b : ℕ) → a < 256 → b < 256 → xtime (xor a b) ≡ xor (xtime a) (xtime b)
unfolding xtime
xtime_sum a b ha hb =
    ap₂ xor
    (ap (λ (x : ℕ). x % 256) (sum_double a b) ∙ sum_mod (a * 2) (b * 2) 8)
    (ap (λ (x : ℕ). x * 27) (sum_shr a b 7) ∙ bit_times (a / 128) (b / 128) 27 (omega arith) (omega arith))
    ∙ sum_swap (a * 2 % 256) (b * 2 % 256) (a / 128 * 27) (b / 128 * 27)

pub xtime_lt : (a : ℕ) → a < 256 → xtime a < 256
unfolding xtime
xtime_lt a h = sum_lt (a * 2 % 256) (a / 128 * 27) (omega arith) (omega arith)

-- a multiple by a bit
times_sum : (k a b : ℕ) → k < 2 → k * xor a b ≡ xor (k * a) (k * b)
times_sum zero a b h = rw (zero-mul (xor a b), zero-mul a, zero-mul b) (sym (sum_self 0))
times_sum (suc zero) a b h = rw (one-mul (xor a b), one-mul a, one-mul b)
times_sum (suc (suc k)) a b h = absurd (omega arith)

times_lt : (k a : ℕ) → k < 2 → a < 256 → k * a < 256
times_lt zero a h l = rw (zero-mul a) (omega arith)
times_lt (suc zero) a h l = rw (one-mul a) l
times_lt (suc (suc k)) a h l = absurd (omega arith)

pub multiples_sum : (n k a b : ℕ) → a < 256 → b < 256 → multiples n k (xor a b) ≡ xor (multiples n k a) (multiples n k b)
unfolding multiples
multiples_sum zero k a b ha hb = sym (sum_self 0)
multiples_sum (suc n) k a b ha hb =
    ap₂ xor (times_sum (k % 2) a b (omega arith))
    (ap (multiples n (k / 2)) (xtime_sum a b ha hb) ∙ multiples_sum n (k / 2) (xtime a) (xtime b) (xtime_lt a ha) (xtime_lt b hb))
    ∙ sum_swap (k % 2 * a) (k % 2 * b) (multiples n (k / 2) (xtime a)) (multiples n (k / 2) (xtime b))

pub multiples_lt : (n k a : ℕ) → a < 256 → multiples n k a < 256
unfolding multiples
multiples_lt zero k a h = omega arith
multiples_lt (suc n) k a h =
    sum_lt (k % 2 * a) (multiples n (k / 2) (xtime a)) (times_lt (k % 2) a (omega arith) h)
    (multiples_lt n (k / 2) (xtime a) (xtime_lt a h))

-- multiplication by a constant is linear

pub mul_sum : (k a b : ℕ) → a < 256 → b < 256 → mul k (xor a b) ≡ xor (mul k a) (mul k b)
unfolding mul
mul_sum k a b ha hb = multiples_sum 8 k a b ha hb

pub mul_lt : (k a : ℕ) → a < 256 → mul k a < 256
unfolding mul
mul_lt k a h = multiples_lt 8 k a h
