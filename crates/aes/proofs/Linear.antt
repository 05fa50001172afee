-- Linear functions of octets, which are told by their values at the eight octets that have one bit.
use Prim.Native.Nat.{ℕ, zero, suc, ◌+◌, ◌*◌, ◌-◌, ◌^◌, ◌<◌, ◌≤◌}
use mathlib.Core.Path.{◌≡◌, refl, sym, ap, ap₂, ◌∙◌}
use native.Mathlib.Omega.{arith}
use native.Mathlib.Nat.{pow-suc, one-mul}
use lib.Bits.{bit_xor, xor_block, xor_zero_r}
use lib.Dec.{T, eqb, ltb, ltb→lt}
use Rattle.octets.proofs.Tests.{by_size}
use Rattle.aes.specs.Field.{xor, mul}
use Rattle.aes.proofs.Below.{all, below, agree}
use Rattle.aes.proofs.Xor.{sum_self, sum_swap, zero_sum}
use Rattle.aes.proofs.Xtime.{mul_sum}

abbrev pub Linear : (ℕ → ℕ) → Type 0
Linear f = (a b : ℕ) → a < 256 → b < 256 → f (xor a b) ≡ xor (f a) (f b)

-- ---- which functions are linear

pub same_linear : Linear (λ x. x)
same_linear a b ha hb = refl

pub mul_linear : (k : ℕ) → Linear (mul k)
mul_linear k a b ha hb = mul_sum k a b ha hb

pub sum_linear : (f g : ℕ → ℕ) → Linear f → Linear g → Linear (λ x. xor (f x) (g x))
sum_linear f g lf lg a b ha hb = ap₂ xor (lf a b ha hb) (lg a b ha hb) ∙ sum_swap (f a) (f b) (g a) (g b)

pub times_linear : (k : ℕ) (f : ℕ → ℕ) → Linear f → ((x : ℕ) → x < 256 → f x < 256) → Linear (λ x. mul k (f x))
times_linear k f lf small a b ha hb = ap (mul k) (lf a b ha hb) ∙ mul_sum k (f a) (f b) (small a ha) (small b hb)

-- ---- the eight octets

at_zero : (f : ℕ → ℕ) → Linear f → f 0 ≡ 0
at_zero f l = ap f (sym (zero_sum 0)) ∙ l 0 0 (omega arith) (omega arith) ∙ sum_self (f 0)

power_small : (k : ℕ) → k < 8 → 2 ^ k < 256
power_small k h = ltb→lt (2 ^ k) 256 (below (λ i. ltb (2 ^ i) 256) 8 tt k h)

-- a bit above the others is added to them
bit_above : (k y : ℕ) → y < 2 ^ k → xor y (2 ^ k) ≡ 2 ^ k + y
unfolding xor
bit_above k y h =
    let a : y ≡ 0 * 2 ^ k + y = omega arith in
    let b : 2 ^ k ≡ 1 * 2 ^ k + 0 = omega arith in
    ap₂ bit_xor a b ∙ xor_block k 0 1 y 0 h (omega arith) ∙ ap₂ ◌+◌ (one-mul (2 ^ k)) (xor_zero_r y)

module _ (f g : ℕ → ℕ) (lf : Linear f) (lg : Linear g) (same : (k : ℕ) → k < 8 → f (2 ^ k) ≡ g (2 ^ k)) where
  up_to : (k : ℕ) → k ≤ 8 → (x : ℕ) → x < 2 ^ k → f x ≡ g x
  up_to zero h x l = let e : x ≡ 0 = omega arith in rw e (at_zero f lf ∙ sym (at_zero g lg))
  up_to (suc k) h x l =
      by_size x (2 ^ k) (up_to k (omega arith) x)
      (λ b.
      let p : 2 ^ suc k ≡ 2 ^ k * 2 = pow-suc 2 k in
      let s : 2 ^ k < 256 = power_small k h in
      let y : x - 2 ^ k < 2 ^ k = omega arith in
      let e : xor (x - 2 ^ k) (2 ^ k) ≡ x = bit_above k (x - 2 ^ k) y ∙ omega arith in
      ap f (sym e) ∙ lf (x - 2 ^ k) (2 ^ k) (omega arith) s
      ∙ ap₂ xor (up_to k (omega arith) (x - 2 ^ k) y) (same k h)
      ∙ sym (lg (x - 2 ^ k) (2 ^ k) (omega arith) s) ∙ ap g e)

-- two linear functions agree on all octets where a test at the eight passes
pub linear_agree : (f g : ℕ → ℕ) → Linear f → Linear g → T (all (λ k. eqb (f (2 ^ k)) (g (2 ^ k))) 8) → (x : ℕ) → x < 256 → f x ≡ g x
linear_agree f g lf lg t = up_to f g lf lg (agree (λ k. f (2 ^ k)) (λ k. g (2 ^ k)) 8 t) 8 (omega arith)
