-- Laws of the sum of octets.
use Prim.Native.Nat.{ℕ, zero, suc, ◌+◌, ◌*◌, ◌/◌, ◌%◌, ◌^◌, ◌<◌}
use mathlib.Core.Path.{◌≡◌, refl, sym, ap, ap₂, ◌∙◌}
use native.Mathlib.Omega.{arith}
use native.Mathlib.Nat.{add-zero}
use lib.Arith.{bin_ind}
use lib.Bits.{bit_xor, differ, xor_step, xor_comm, xor_self, xor_zero_r, xor_lt, xor_shr, xor_mod, xor_block}
use Rattle.aes.specs.Field.{xor}

-- on bits
differ_assoc : (x y z : ℕ) → x < 2 → y < 2 → z < 2 → differ (differ x y) z ≡ differ x (differ y z)
differ_assoc zero y z hx hy hz = refl
differ_assoc (suc zero) zero z hx hy hz = refl
differ_assoc (suc zero) (suc zero) zero hx hy hz = refl
differ_assoc (suc zero) (suc zero) (suc zero) hx hy hz = refl
differ_assoc (suc zero) (suc zero) (suc (suc z)) hx hy hz = absurd (omega arith)
differ_assoc (suc zero) (suc (suc y)) z hx hy hz = absurd (omega arith)
differ_assoc (suc (suc x)) y z hx hy hz = absurd (omega arith)

differ_lt : (x y : ℕ) → x < 2 → y < 2 → differ x y < 2
differ_lt zero y hx hy = hy
differ_lt (suc zero) zero hx hy = hx
differ_lt (suc zero) (suc zero) hx hy = omega arith
differ_lt (suc zero) (suc (suc y)) hx hy = absurd (omega arith)
differ_lt (suc (suc x)) y hx hy = absurd (omega arith)

digit : (a b : ℕ) → bit_xor a b % 2 ≡ differ (a % 2) (b % 2)
digit a b =
    let d : differ (a % 2) (b % 2) < 2 = differ_lt (a % 2) (b % 2) (omega arith) (omega arith) in
    omega (arith, xor_step a b)

half : (a b : ℕ) → bit_xor a b / 2 ≡ bit_xor (a / 2) (b / 2)
half a b = xor_shr a b 1

assoc : (a b c : ℕ) → bit_xor (bit_xor a b) c ≡ bit_xor a (bit_xor b c)
assoc =
    bin_ind (λ (n : ℕ). (b c : ℕ) → bit_xor (bit_xor n b) c ≡ bit_xor n (bit_xor b c)) (λ b c. refl)
    (λ n ih b c.
    xor_step (bit_xor n b) c
    ∙ ap₂ (λ (x y : ℕ). bit_xor x (c / 2) * 2 + differ y (c % 2)) (half n b) (digit n b)
    ∙ ap₂ (λ (x y : ℕ). x * 2 + y) (ih (b / 2) (c / 2)) (differ_assoc (n % 2) (b % 2) (c % 2) (omega arith) (omega arith) (omega arith))
    ∙ ap₂ (λ (x y : ℕ). bit_xor (n / 2) x * 2 + differ (n % 2) y) (sym (half b c)) (sym (digit b c))
    ∙ sym (xor_step n (bit_xor b c)))

-- the laws, over the name

pub sum_assoc : (a b c : ℕ) → xor (xor a b) c ≡ xor a (xor b c)
unfolding xor
sum_assoc = assoc

pub sum_comm : (a b : ℕ) → xor a b ≡ xor b a
unfolding xor
sum_comm = xor_comm

pub sum_self : (a : ℕ) → xor a a ≡ 0
unfolding xor
sum_self = xor_self

pub sum_zero : (a : ℕ) → xor a 0 ≡ a
unfolding xor
sum_zero = xor_zero_r

pub zero_sum : (a : ℕ) → xor 0 a ≡ a
unfolding xor
zero_sum a = refl

-- an octet and an octet make an octet
pub sum_lt : (a b : ℕ) → a < 256 → b < 256 → xor a b < 256
unfolding xor
sum_lt = xor_lt 8

-- added twice is not added
pub sum_twice : (a b : ℕ) → xor (xor a b) b ≡ a
sum_twice a b = sum_assoc a b b ∙ rw (sum_self b) (sum_zero a)

-- sums of sums change places
pub sum_swap : (a b c d : ℕ) → xor (xor a b) (xor c d) ≡ xor (xor a c) (xor b d)
sum_swap a b c d =
    sum_assoc a b (xor c d)
    ∙ ap (xor a) (sym (sum_assoc b c d) ∙ ap (λ (x : ℕ). xor x d) (sum_comm b c) ∙ sum_assoc c b d)
    ∙ sym (sum_assoc a c (xor b d))

-- through shifts
pub sum_shr : (a b k : ℕ) → xor a b / 2 ^ k ≡ xor (a / 2 ^ k) (b / 2 ^ k)
unfolding xor
sum_shr = xor_shr

pub sum_mod : (a b k : ℕ) → xor a b % 2 ^ k ≡ xor (a % 2 ^ k) (b % 2 ^ k)
unfolding xor
sum_mod = xor_mod

pub sum_double : (a b : ℕ) → xor a b * 2 ≡ xor (a * 2) (b * 2)
unfolding xor
sum_double a b = sym (ap₂ bit_xor (sym (add-zero (a * 2))) (sym (add-zero (b * 2))) ∙ xor_block 1 a b 0 0 (omega arith) (omega arith) ∙ add-zero (bit_xor a b * 2))
