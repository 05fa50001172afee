-- An octet of a column times each matrix, by doublings.
use Prim.Native.Nat.{ℕ, ◌^◌, ◌<◌}
use mathlib.Core.Path.{◌≡◌, sym, ap, ap₂, ◌∙◌}
use lib.Dec.{T, eqb}
use Rattle.aes.specs.Field.{xor, xtime, multiples, mul}
use Rattle.aes.specs.State.{row_times}
use Rattle.aes.proofs.Xor.{sum_assoc, sum_lt, sum_swap}
use Rattle.aes.proofs.Xtime.{xtime_sum, xtime_lt, mul_sum, mul_lt}
use Rattle.aes.proofs.Mix.{row_sum}
use Rattle.aes.proofs.Below.{all}
use Rattle.aes.proofs.Linear.{Linear, same_linear, mul_linear, sum_linear, times_linear, linear_agree}

-- ---- products by constants, each a test at the eight octets with one bit

xtime_linear : Linear xtime
xtime_linear = xtime_sum

small : (k : ℕ) → (x : ℕ) → x < 256 → mul k x < 256
small k x = mul_lt k x

one : (x : ℕ) → x < 256 → mul 1 x ≡ x
unfolding mul multiples xtime xor
one = linear_agree (mul 1) (λ x. x) (mul_linear 1) same_linear tt

two : (x : ℕ) → x < 256 → mul 2 x ≡ xtime x
unfolding mul multiples xtime xor
two = linear_agree (mul 2) xtime (mul_linear 2) xtime_linear tt

three : (x : ℕ) → x < 256 → mul 3 x ≡ xor (xtime x) x
unfolding mul multiples xtime xor
three = linear_agree (mul 3) (λ x. xor (xtime x) x) (mul_linear 3) (sum_linear xtime (λ x. x) xtime_linear same_linear) tt

pub four : (x : ℕ) → x < 256 → xtime (xtime x) ≡ mul 4 x
unfolding mul multiples xtime xor
four =
    linear_agree (λ x. xtime (xtime x)) (mul 4)
    (λ a b ha hb. ap xtime (xtime_sum a b ha hb) ∙ xtime_sum (xtime a) (xtime b) (xtime_lt a ha) (xtime_lt b hb)) (mul_linear 4) tt

-- k times is i times and j times
parts : (k i j : ℕ) → T (all (λ n. eqb (mul k (2 ^ n)) (xor (mul i (2 ^ n)) (mul j (2 ^ n)))) 8)
    → (x : ℕ) → x < 256 → mul k x ≡ xor (mul i x) (mul j x)
parts k i j = linear_agree (mul k) (λ x. xor (mul i x) (mul j x)) (mul_linear k) (sum_linear (mul i) (mul j) (mul_linear i) (mul_linear j))

nine : (x : ℕ) → x < 256 → mul 9 x ≡ xor (mul 1 x) (mul 8 x)
unfolding mul multiples xtime xor
nine = parts 9 1 8 tt

eleven : (x : ℕ) → x < 256 → mul 11 x ≡ xor (mul 3 x) (mul 8 x)
unfolding mul multiples xtime xor
eleven = parts 11 3 8 tt

thirteen : (x : ℕ) → x < 256 → mul 13 x ≡ xor (mul 1 x) (mul 12 x)
unfolding mul multiples xtime xor
thirteen = parts 13 1 12 tt

fourteen : (x : ℕ) → x < 256 → mul 14 x ≡ xor (mul 2 x) (mul 12 x)
unfolding mul multiples xtime xor
fourteen = parts 14 2 12 tt

-- i times and j times of 4 times is k times
of_four : (k i j : ℕ) → T (all (λ n. eqb (xor (mul i (mul 4 (2 ^ n))) (mul j (mul 4 (2 ^ n)))) (mul k (2 ^ n))) 8)
    → (x : ℕ) → x < 256 → xor (mul i (mul 4 x)) (mul j (mul 4 x)) ≡ mul k x
of_four k i j =
    linear_agree (λ x. xor (mul i (mul 4 x)) (mul j (mul 4 x))) (mul k)
    (sum_linear (λ x. mul i (mul 4 x)) (λ x. mul j (mul 4 x)) (times_linear i (mul 4) (mul_linear 4) (small 4)) (times_linear j (mul 4) (mul_linear 4) (small 4)))
    (mul_linear k)

twelve : (x : ℕ) → x < 256 → xor (mul 2 (mul 4 x)) (mul 1 (mul 4 x)) ≡ mul 12 x
unfolding mul multiples xtime xor
twelve = of_four 12 2 1 tt

eight : (x : ℕ) → x < 256 → xor (mul 3 (mul 4 x)) (mul 1 (mul 4 x)) ≡ mul 8 x
unfolding mul multiples xtime xor
eight = of_four 8 3 1 tt

-- ---- the octets

module _ (a b c d : ℕ) (ha : a < 256) (hb : b < 256) (hc : c < 256) (hd : d < 256) where
  pub mix_octet : xor (xor (xtime (xor a b)) b) (xor c d) ≡ row_times 2 3 1 1 a b c d
  unfolding row_times
  mix_octet =
      ap₂ xor
      (ap (λ (x : ℕ). xor x b) (xtime_sum a b ha hb) ∙ sum_assoc (xtime a) (xtime b) b ∙ ap₂ xor (sym (two a ha)) (sym (three b hb)))
      (ap₂ xor (sym (one c hc)) (sym (one d hd)))

  hp : xor a c < 256
  hp = sum_lt a c ha hc

  hq : xor b d < 256
  hq = sum_lt b d hb hd

  -- what the two multiples add
  added : row_times 2 3 1 1 (mul 4 (xor a c)) (mul 4 (xor b d)) (mul 4 (xor a c)) (mul 4 (xor b d)) ≡ row_times 12 8 12 8 a b c d
  unfolding row_times
  added =
      sum_swap (mul 2 (mul 4 (xor a c))) (mul 3 (mul 4 (xor b d))) (mul 1 (mul 4 (xor a c))) (mul 1 (mul 4 (xor b d)))
      ∙ ap₂ xor (twelve (xor a c) hp ∙ mul_sum 12 a c ha hc) (eight (xor b d) hq ∙ mul_sum 8 b d hb hd)
      ∙ sum_swap (mul 12 a) (mul 12 c) (mul 8 b) (mul 8 d)

  parted : row_times 14 11 13 9 a b c d ≡ xor (row_times 2 3 1 1 a b c d) (row_times 12 8 12 8 a b c d)
  unfolding row_times
  parted =
      ap₂ xor
      (ap₂ xor (fourteen a ha) (eleven b hb) ∙ sum_swap (mul 2 a) (mul 12 a) (mul 3 b) (mul 8 b))
      (ap₂ xor (thirteen c hc) (nine d hd) ∙ sum_swap (mul 1 c) (mul 12 c) (mul 1 d) (mul 8 d))
      ∙ sum_swap (xor (mul 2 a) (mul 3 b)) (xor (mul 12 a) (mul 8 b)) (xor (mul 1 c) (mul 1 d)) (xor (mul 12 c) (mul 8 d))

  pub inv_mix_octet : row_times 2 3 1 1 (xor a (mul 4 (xor a c))) (xor b (mul 4 (xor b d))) (xor c (mul 4 (xor a c))) (xor d (mul 4 (xor b d)))
      ≡ row_times 14 11 13 9 a b c d
  inv_mix_octet =
      row_sum 2 3 1 1 a b c d (mul 4 (xor a c)) (mul 4 (xor b d)) (mul 4 (xor a c)) (mul 4 (xor b d)) ha hb hc hd
      (mul_lt 4 (xor a c) hp) (mul_lt 4 (xor b d) hq) (mul_lt 4 (xor a c) hp) (mul_lt 4 (xor b d) hq)
      ∙ ap (xor (row_times 2 3 1 1 a b c d)) added ∙ sym parted
