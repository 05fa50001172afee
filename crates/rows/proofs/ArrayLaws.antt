-- A part of a list in an array of zeros, eight octets at a time.
use Prim.Native.Nat.{ℕ, ◌+◌, ◌-◌, ◌≤◌}
use mathlib.Core.Path.{◌≡◌, refl, sym, ap, ◌∙◌}
use mathlib.Core.Bool.{Bool, true, false}
use mathlib.Core.List.{List, [], append-nil}
use native.Mathlib.Omega.{arith}
use native.Mathlib.Nat.{le_refl}
use lib.Dec.{leb}
use lib.ListN.{length, length-take, replicate, take, drop, drop_of_length-le, take-append-drop}
use lib.Seq.{take-add, take_all, take-nil, length-take-le}
use borrow.Author.Tests.{leb-true, leb-false}
use Rattle.octets.specs.Part.{part}
use Rattle.octets.specs.Write.{over, put}
use Rattle.octets.proofs.PartLaws.{part_tail}
use Rattle.octets.proofs.WriteLaws.{over_over, over_length, put_whole}
use Rattle.rules.specs.Layout.{padded}
use Rattle.rows.proofs.PadLaws.{padded_front}

-- nothing over a list
over_none : (l : List ℕ) (at : ℕ) → over l at [] ≡ l
over_none l at =
    let e : at + 0 ≡ at = omega arith in
    rw (e, append-nil (take at l)) (take-append-drop at l)

module _ (z t x : List ℕ) (i k : ℕ) (room : i + k ≤ length z) (e : x ≡ over z 0 (take i t)) where
  abbrev q : List ℕ
  q = take k (drop i t)

  more_over : over x i q ≡ over z 0 (take (i + k) t)
  more_over = go (leb i (length t)) refl
    where
      go : (b : Bool) → leb i (length t) ≡ b → over x i q ≡ over z 0 (take (i + k) t)
      go true h =
          let l : 0 + length (take i t) ≡ i = omega (arith, length-take-le i t (leb-true i (length t) h)) in
          ap (λ (y : List ℕ). over y i q) e ∙ ap (λ (j : ℕ). over (over z 0 (take i t)) j q) (sym l)
          ∙ over_over z (take i t) q 0 (omega arith)
          ∙ ap (over z 0) (sym (take-add i k t))
      go false h =
          let g : length t ≤ i = omega (arith, leb-false i (length t) h) in
          let n : q ≡ [] = rw (drop_of_length-le t g) (take-nil k) in
          ap (over x i) n ∙ over_none x i ∙ e ∙ ap (over z 0) (take_all i t (omega arith) ∙ sym (take_all (i + k) t (omega arith)))

  -- k octets more
  pub more_put : (p y : List ℕ) → p ≡ part t i (i + k) → y ≡ put x i p → y ≡ over z 0 (take (i + k) t)
  unfolding part
  more_put p y f w =
      let n : i + k - i ≡ k = omega arith in
      let l : length x ≡ length z = ap length e ∙ over_length z 0 (take i t) (omega (arith, length-take i t)) in
      let g : p ≡ q = rw n at f in
      w ∙ ap (put x i) g ∙ put_whole x i q (omega (arith, length-take k (drop i t))) ∙ more_over

-- the first none of them
pub none_put : (z t : List ℕ) → z ≡ over z 0 (take 0 t)
none_put z t = sym (over_none z 0)

-- octets at the front of n zeros
padded_over : (n : ℕ) (p : List ℕ) → length p ≤ n → over (replicate n 0) 0 p ≡ padded n p
unfolding padded
padded_over n p h =
    let z : 0 + length p ≡ length p = omega arith in
    rw z (sym (padded_front p n n h (le_refl n)))

-- n octets from an offset on
pub all_put : (n : ℕ) (s t x : List ℕ) (at : ℕ) → t ≡ part s at (length s) → x ≡ over (replicate n 0) 0 (take n t) → x ≡ padded n (part s at (at + n))
unfolding part
all_put n s t x at e f =
    let k : at + n - at ≡ n = omega arith in
    let g : take n t ≡ take (at + n - at) (drop at s) = ap (take n) (e ∙ part_tail s at (length s) (le_refl _)) ∙ ap (λ (m : ℕ). take m (drop at s)) (sym k) in
    f ∙ ap (over (replicate n 0) 0) g ∙ padded_over n (take (at + n - at) (drop at s)) (omega (arith, length-take (at + n - at) (drop at s)))
