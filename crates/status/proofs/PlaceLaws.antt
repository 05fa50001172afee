-- Laws of the entries of places, one place behind the other.
use Prim.Native.Nat.{ℕ, suc, ◌+◌, ◌≤◌, ◌<◌}
use mathlib.Core.Path.{◌≡◌, refl, sym, ap, ◌∙◌}
use mathlib.Core.Bool.{Bool}
use mathlib.Core.List.{List, [], ◌∷◌, ◌++◌, append-nil}
use native.Mathlib.Omega.{arith}
use native.Mathlib.Nat.{zero-add, add-zero}
use lib.ListN.{length, get_or, take, drop, length-append, take-append-drop}
use lib.Seq.{take-suc, length-take-le}
use Rattle.status.specs.Places.{Shown, vacant, live, entries_from, entries_of}
use Rattle.status.specs.declared.entry.Entry.{Entry}

pub from_append : (place : ℕ) (x y : List Shown) → entries_from place (x ++ y) ≡ entries_from place x ++ entries_from (place + length x) y
unfolding entries_from
from_append place [] y = ap (λ (n : ℕ). entries_from n y) (sym (add-zero place))
from_append place (vacant ∷ x) y =
    let e : suc place + length x ≡ place + suc (length x) = omega arith in
    from_append (suc place) x y ∙ ap (λ (n : ℕ). entries_from (suc place) x ++ entries_from n y) e
from_append place (live keyed endpoint ∷ x) y =
    let e : suc place + length x ≡ place + suc (length x) = omega arith in
    ap (λ (es : List Entry). record { place = place; keyed = keyed; endpoint = endpoint } ∷ es)
    (from_append (suc place) x y ∙ ap (λ (n : ℕ). entries_from (suc place) x ++ entries_from n y) e)

-- an entry for each place at most
pub from_length : (place : ℕ) (l : List Shown) → length (entries_from place l) ≤ length l
unfolding entries_from
from_length place [] = omega arith
from_length place (vacant ∷ l) = omega (arith, from_length (suc place) l)
from_length place (live keyed endpoint ∷ l) = omega (arith, from_length (suc place) l)

-- ---- the first places, and one more

module _ (l : List Shown) where
  abbrev pub first_of : ℕ → List Entry
  first_of i = entries_of (take i l)

  pub first_none : first_of 0 ≡ []
  unfolding entries_from
  first_none = refl

  pub first_few : (i : ℕ) → length (first_of i) ≤ length (entries_of l)
  first_few i =
      omega (arith, ap length (ap entries_of (sym (take-append-drop i l)) ∙ from_append 0 (take i l) (drop i l)), length-append (first_of i) (entries_from (0 + length (take i l)) (drop i l)))

  module _ (i : ℕ) (h : i < length l) where
    first_next : first_of (suc i) ≡ first_of i ++ entries_from i (get_or l i vacant ∷ [])
    first_next =
        let e : 0 + length (take i l) ≡ i = zero-add (length (take i l)) ∙ length-take-le i l (omega arith) in
        ap entries_of (take-suc l i vacant h) ∙ from_append 0 (take i l) (get_or l i vacant ∷ [])
        ∙ ap (λ (n : ℕ). first_of i ++ entries_from n (get_or l i vacant ∷ [])) e

    pub first_vacant : get_or l i vacant ≡ vacant → first_of (suc i) ≡ first_of i
    unfolding entries_from
    first_vacant e = first_next ∙ ap (λ (s : Shown). first_of i ++ entries_from i (s ∷ [])) e ∙ append-nil (first_of i)

    pub first_live : (keyed : Bool) (endpoint : ℕ) → get_or l i vacant ≡ live keyed endpoint
        → first_of (suc i) ≡ first_of i ++ (record { place = i; keyed = keyed; endpoint = endpoint } ∷ [])
    unfolding entries_from
    first_live keyed endpoint e = first_next ∙ ap (λ (s : Shown). first_of i ++ entries_from i (s ∷ [])) e
