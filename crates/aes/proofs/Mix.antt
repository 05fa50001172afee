-- A column times one matrix and then times the other is the column.
use Prim.Native.Nat.{ℕ, ◌^◌, ◌<◌}
use mathlib.Core.Path.{◌≡◌, refl, sym, ap₂, ◌∙◌}
use native.Mathlib.Omega.{arith}
use lib.Dec.{T, eqb}
use Rattle.aes.specs.Field.{xor, xtime, multiples, mul}
use Rattle.aes.specs.State.{row_times}
use Rattle.aes.proofs.Xor.{sum_lt, sum_swap, sum_zero, zero_sum}
use Rattle.aes.proofs.Xtime.{mul_sum, mul_lt}
use Rattle.aes.proofs.Below.{all}
use Rattle.aes.proofs.Linear.{Linear, same_linear, linear_agree}

-- ---- one matrix
module _ (j k l m : ℕ) where
  pub row_lt : (a b c d : ℕ) → a < 256 → b < 256 → c < 256 → d < 256 → row_times j k l m a b c d < 256
  unfolding row_times
  row_lt a b c d ha hb hc hd =
      sum_lt (xor (mul j a) (mul k b)) (xor (mul l c) (mul m d))
      (sum_lt (mul j a) (mul k b) (mul_lt j a ha) (mul_lt k b hb))
      (sum_lt (mul l c) (mul m d) (mul_lt l c hc) (mul_lt m d hd))

  pub row_sum : (a b c d e f g h : ℕ) → a < 256 → b < 256 → c < 256 → d < 256 → e < 256 → f < 256 → g < 256 → h < 256
      → row_times j k l m (xor a e) (xor b f) (xor c g) (xor d h) ≡ xor (row_times j k l m a b c d) (row_times j k l m e f g h)
  unfolding row_times
  row_sum a b c d e f g h ha hb hc hd he hf hg hh =
      ap₂ xor
      (ap₂ xor (mul_sum j a e ha he) (mul_sum k b f hb hf) ∙ sum_swap (mul j a) (mul j e) (mul k b) (mul k f))
      (ap₂ xor (mul_sum l c g hc hg) (mul_sum m d h hd hh) ∙ sum_swap (mul l c) (mul l g) (mul m d) (mul m h))
      ∙ sum_swap (xor (mul j a) (mul k b)) (xor (mul j e) (mul k f)) (xor (mul l c) (mul m d)) (xor (mul l g) (mul m h))

-- ---- one after the other: j k l m first. What stands at the top of the column then
module _ (j k l m p q r s : ℕ) where
  unfoldable pub top : (a b c d : ℕ) → ℕ
  top a b c d =
      row_times p q r s (row_times j k l m a b c d) (row_times j k l m b c d a) (row_times j k l m c d a b) (row_times j k l m d a b c)

  top_sum : (a b c d e f g h : ℕ) → a < 256 → b < 256 → c < 256 → d < 256 → e < 256 → f < 256 → g < 256 → h < 256
      → top (xor a e) (xor b f) (xor c g) (xor d h) ≡ xor (top a b c d) (top e f g h)
  unfolding top
  top_sum a b c d e f g h ha hb hc hd he hf hg hh =
      rw (
        row_sum j k l m a b c d e f g h ha hb hc hd he hf hg hh,
        row_sum j k l m b c d a f g h e hb hc hd ha hf hg hh he,
        row_sum j k l m c d a b g h e f hc hd ha hb hg hh he hf,
        row_sum j k l m d a b c h e f g hd ha hb hc hh he hf hg,
      )
      (row_sum p q r s
      (row_times j k l m a b c d) (row_times j k l m b c d a) (row_times j k l m c d a b) (row_times j k l m d a b c)
      (row_times j k l m e f g h) (row_times j k l m f g h e) (row_times j k l m g h e f) (row_times j k l m h e f g)
      (row_lt j k l m a b c d ha hb hc hd) (row_lt j k l m b c d a hb hc hd ha)
      (row_lt j k l m c d a b hc hd ha hb) (row_lt j k l m d a b c hd ha hb hc)
      (row_lt j k l m e f g h he hf hg hh) (row_lt j k l m f g h e hf hg hh he)
      (row_lt j k l m g h e f hg hh he hf) (row_lt j k l m h e f g hh he hf hg))

  -- it is enough to look at columns with one octet
  pub record Undone : Type 0 where
    pub first : (x : ℕ) → x < 256 → top x 0 0 0 ≡ x
    pub second : (x : ℕ) → x < 256 → top 0 x 0 0 ≡ 0
    pub third : (x : ℕ) → x < 256 → top 0 0 x 0 ≡ 0
    pub fourth : (x : ℕ) → x < 256 → top 0 0 0 x ≡ 0

  two : (a b c d : ℕ) → a < 256 → b < 256 → c < 256 → d < 256 → top a b c d ≡ xor (top a b 0 0) (top 0 0 c d)
  two a b c d ha hb hc hd =
      let z : 0 < 256 = omega arith in
      rw (← top_sum a b 0 0 0 0 c d ha hb z z z z hc hd) (rw (sum_zero a, sum_zero b, zero_sum c, zero_sum d) refl)

  pub undone : Undone → (a b c d : ℕ) → a < 256 → b < 256 → c < 256 → d < 256 → top a b c d ≡ a
  undone u a b c d ha hb hc hd =
      let z : 0 < 256 = omega arith in
      two a b c d ha hb hc hd
      ∙ ap₂ xor
      (ap₂ (λ (x y : ℕ). top x y 0 0) (sym (sum_zero a)) (sym (zero_sum b))
      ∙ ap₂ (λ (x y : ℕ). top (xor a 0) (xor 0 b) x y) (sym (sum_zero 0)) (sym (sum_zero 0))
      ∙ top_sum a 0 0 0 0 b 0 0 ha z z z z hb z z ∙ ap₂ xor (u.first a ha) (u.second b hb) ∙ sum_zero a)
      (ap₂ (λ (x y : ℕ). top 0 0 x y) (sym (sum_zero c)) (sym (zero_sum d))
      ∙ ap₂ (λ (x y : ℕ). top x y (xor c 0) (xor 0 d)) (sym (sum_zero 0)) (sym (sum_zero 0))
      ∙ top_sum 0 0 c 0 0 0 0 d z z hc z z z z hd ∙ ap₂ xor (u.third c hc) (u.fourth d hd) ∙ sum_zero 0)
      ∙ sum_zero a

  -- each of these is linear, so a test at the eight octets with one bit is enough
  first_linear : Linear (λ x. top x 0 0 0)
  first_linear a b ha hb = let z : 0 < 256 = omega arith in rw (zero_sum 0) at (top_sum a 0 0 0 b 0 0 0 ha z z z hb z z z)

  second_linear : Linear (λ x. top 0 x 0 0)
  second_linear a b ha hb = let z : 0 < 256 = omega arith in rw (zero_sum 0) at (top_sum 0 a 0 0 0 b 0 0 z ha z z z hb z z)

  third_linear : Linear (λ x. top 0 0 x 0)
  third_linear a b ha hb = let z : 0 < 256 = omega arith in rw (zero_sum 0) at (top_sum 0 0 a 0 0 0 b 0 z z ha z z z hb z)

  fourth_linear : Linear (λ x. top 0 0 0 x)
  fourth_linear a b ha hb = let z : 0 < 256 = omega arith in rw (zero_sum 0) at (top_sum 0 0 0 a 0 0 0 b z z z ha z z z hb)

  none_linear : Linear (λ x. 0)
  none_linear a b ha hb = sym (zero_sum 0)

  pub by_bits : T (all (λ k. eqb (top (2 ^ k) 0 0 0) (2 ^ k)) 8) → T (all (λ k. eqb (top 0 (2 ^ k) 0 0) 0) 8)
      → T (all (λ k. eqb (top 0 0 (2 ^ k) 0) 0) 8) → T (all (λ k. eqb (top 0 0 0 (2 ^ k)) 0) 8) → Undone
  by_bits a b c d = record {
    first = linear_agree (λ x. top x 0 0 0) (λ x. x) first_linear same_linear a;
    second = linear_agree (λ x. top 0 x 0 0) (λ x. 0) second_linear none_linear b;
    third = linear_agree (λ x. top 0 0 x 0) (λ x. 0) third_linear none_linear c;
    fourth = linear_agree (λ x. top 0 0 0 x) (λ x. 0) fourth_linear none_linear d;
  }

-- ---- the two matrices of AES, either way

pub inv_mix : Undone 2 3 1 1 14 11 13 9
unfolding top row_times mul multiples xtime xor
inv_mix = by_bits 2 3 1 1 14 11 13 9 tt tt tt tt

pub mix_inv : Undone 14 11 13 9 2 3 1 1
unfolding top row_times mul multiples xtime xor
mix_inv = by_bits 14 11 13 9 2 3 1 1 tt tt tt tt
