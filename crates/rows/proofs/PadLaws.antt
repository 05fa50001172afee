-- A padded field, written over an output.
use Prim.Native.Nat.{ℕ, zero, suc, ◌+◌, ◌≤◌, ◌<◌}
use mathlib.Core.Path.{◌≡◌, refl, sym, ap, ◌∙◌}
use mathlib.Core.List.{List, [], ◌∷◌, ◌++◌, append-nil}
use native.Mathlib.Omega.{arith}
use native.Mathlib.Nat.{le_of_eq, le_refl}
use native.Mathlib.Numerals.{add-one}
use lib.ListN.{drop, drop_of_length-le, get_or, length, length-replicate, length-take, replicate, set, take}
use lib.Seq.{paste, paste-suc, sets-eq, take_all}
use Rattle.octets.specs.Part.{part}
use Rattle.octets.specs.Write.{over, put}
use Rattle.octets.proofs.PartLaws.{part_front}
use Rattle.octets.proofs.WriteLaws.{over_front, over_over, put_whole}
use Rattle.rules.specs.Layout.{field, padded}
use Rattle.rules.proofs.FieldLaws.{padded_length}

zeros : (n i : ℕ) → get_or {A = ℕ} (replicate n 0) i 0 ≡ 0
zeros zero i = refl
zeros (suc n) zero = refl
zeros (suc n) (suc i) = zeros n i

-- one zero more
pub zeros_next : (d : List ℕ) (at n i : ℕ) → at + i < length d → i < n → set (paste d at (replicate n 0) i) (at + i) 0 ≡ paste d at (replicate n 0) (i + 1)
zeros_next d at n i h k =
    let l : i < length (replicate {A = ℕ} n 0) = rw length-replicate k in
    rw add-one (ap (set (paste d at (replicate n 0) i) (at + i)) (sym (zeros n i)) ∙ paste-suc d at (replicate n 0) i 0 h l)

-- all of them
pub zeros_all : (d : List ℕ) (at n : ℕ) → paste d at (replicate n 0) n ≡ over d at (replicate n 0)
zeros_all d at n =
    let l = length-replicate {A = ℕ} n 0 in
    rw (take_all n (replicate {A = ℕ} n 0) (omega arith), l)

-- nothing padded is zeros
pub padded_none : (n : ℕ) → padded n [] ≡ replicate n 0
unfolding padded
padded_none n = take_all n (replicate n 0) (le_of_eq (length-replicate n 0))

zeros_front : (n m : ℕ) → n ≤ m → take {A = ℕ} n (replicate m 0) ≡ replicate n 0
zeros_front zero m h = refl
zeros_front (suc n) zero h = absurd (omega arith)
zeros_front (suc n) (suc m) h = ap (λ (z : List ℕ). 0 ∷ z) (zeros_front n m (omega arith))

pub padded_front : (p : List ℕ) (n m : ℕ) → length p ≤ n → n ≤ m → take n (p ++ replicate m 0) ≡ p ++ drop (length p) (replicate n 0)
padded_front [] n m h k = zeros_front n m k
padded_front (x ∷ p) zero m h k = absurd (omega arith)
padded_front (x ∷ p) (suc n) m h k = ap (λ (z : List ℕ). x ∷ z) (padded_front p n m (omega arith) (omega arith))

padded_take : (s : List ℕ) (n m : ℕ) → take n (take n s ++ replicate m 0) ≡ take n (s ++ replicate m 0)
padded_take s zero m = refl
padded_take [] (suc n) m = refl
padded_take (x ∷ s) (suc n) m = ap (λ (z : List ℕ). x ∷ z) (padded_take s n m)

-- zeros, and octets over their front
pub padded_over : (d x p s : List ℕ) (at n : ℕ) → at + n ≤ length d → x ≡ over d at (replicate n 0) → p ≡ part s 0 n
    → over x at p ≡ over d at (padded n s)
unfolding padded
padded_over d x p s at n h e f =
    let q = take n s in
    let z = length-replicate {A = ℕ} n 0 in
    let k : length q ≤ n = omega (arith, length-take n s) in
    rw (f ∙ part_front s n) (ap (λ (y : List ℕ). over y at q) e
    ∙ over_front d (replicate n 0) q at (omega arith) (omega arith)
    ∙ ap (over d at) (sym (padded_front q n n k (le_refl n)) ∙ padded_take s n n))

-- a length octet, and the padded field behind it
pub field_over : (o x s : List ℕ) (at limit : ℕ) → at + 1 + limit ≤ length o → x ≡ over (set o at (length s)) (at + 1) (padded limit s) → x ≡ over o at (field limit s)
field_over o x s at limit h e =
    let n = length s ∷ [] in
    e
    ∙ ap (λ (z : List ℕ). over z (at + 1) (padded limit s)) (sets-eq n o at (omega arith))
    ∙ over_over o n (padded limit s) at (omega arith)

-- octets over all of an output
pub over_all : (l q : List ℕ) → length q ≡ length l → over l 0 q ≡ q
over_all l q e =
    let h : length l ≤ 0 + length q = omega arith in
    rw (drop_of_length-le l h) (append-nil q)

-- padded octets where there is room for them
pub padded_put : (l s : List ℕ) (at n : ℕ) → at + n ≤ length l → put l at (padded n s) ≡ over l at (padded n s)
padded_put l s at n h = put_whole l at (padded n s) (omega (arith, padded_length n s))
