-- The spare number of a list is none of it, and no greater than the list is long.
use Prim.Native.Nat.{ℕ, zero, suc, ◌+◌, ◌≤◌, ◌<◌}
use mathlib.Core.Path.{◌≡◌, refl}
use mathlib.Core.Logic.{⊎_elim}
use mathlib.Core.Bool.{true, false}
use mathlib.Core.List.Memᴰ
use mathlib.Core.List.{List, [], ◌∷◌, Memᴰ}
use native.Mathlib.Omega.{arith}
use borrow.Author.Tests.{eqb-true, eq-eqb}
use lib.Dec.{eqb}
use lib.ListN.{length}
use Rattle.octets.proofs.Tests.{by_choice}
use Rattle.rules.specs.Search.{some_of, Distinct}
use Rattle.rules.specs.Reaching.{spare_from, spare}
use Rattle.rules.proofs.Choices.{no_both}
use Rattle.rules.proofs.KeepLaws.{found_some, first_found}
use Rattle.rules.proofs.DistinctLaws.{distinct_le}

-- ---- whether a number is in a list, by the test of its elements

module _ (n : ℕ) (used : List ℕ) where
  in_list_lem : some_of (eqb n) used ≡ true → Memᴰ n used
  in_list_lem h = let r = first_found (eqb n) 0 used h in Memᴰ.cast (eqb-true _ _ r.1) r.0

  not_in_list : some_of (eqb n) used ≡ false → Memᴰ n used → ⊥
  not_in_list h m = no_both (found_some (eqb n) m (eq-eqb n n refl)) h

-- ---- numbers below n that were tried and are in the list, each once

record Tried (n : ℕ) (used tried : List ℕ) : Type 0 where
  distinct : Distinct tried
  inside : (y : ℕ) → Memᴰ y tried → Memᴰ y used
  below : (y : ℕ) → Memᴰ y tried → y < n

none_tried : (used : List ℕ) → Tried 0 used []
none_tried used = record { distinct = tt; inside = λ y m. absurd (Memᴰ.not-nil m); below = λ y m. absurd (Memᴰ.not-nil m) }

one_more_lem : {n : ℕ} {used tried : List ℕ} → Tried n used tried → Memᴰ n used → Tried (suc n) used (n ∷ tried)
one_more_lem {n} {used} {tried} t m = record {
  distinct = (λ k. omega (arith, t.below n k), t.distinct);
  inside = λ y k. ⊎_elim (λ q. Memᴰ.cast q m) (t.inside y) (Memᴰ.cases_cons k);
  below = λ y k. ⊎_elim (λ (q : y ≡ n). omega arith) (λ j. omega (arith, t.below y j)) (Memᴰ.cases_cons k);
}

-- there are no more of them than the list is long, so one try more than it is long finds another
spare_from_lem : (tries n : ℕ) (used tried : List ℕ) → Tried n used tried → length used ≤ length tried + tries → Memᴰ (spare_from tries n used) used → ⊥
unfolding spare_from
spare_from_lem zero n used tried t h m =
    let more = one_more_lem t m in
    omega (arith, distinct_le (n ∷ tried) used more.distinct more.inside)
spare_from_lem (suc tries) n used tried t h m =
    by_choice (λ s. Memᴰ s used → ⊥) (some_of (eqb n) used) _ _
    (λ e. spare_from_lem tries (suc n) used (n ∷ tried) (one_more_lem t (in_list_lem n used e)) (omega arith))
    (not_in_list n used) m

pub spare_new : (used : List ℕ) → Memᴰ (spare used) used → ⊥
spare_new used = spare_from_lem (length used) 0 used [] (none_tried used) (omega arith)

-- ---- how great it is

spare_most : (tries n : ℕ) (used : List ℕ) → spare_from tries n used ≤ n + tries
unfolding spare_from
spare_most zero n used = omega arith
spare_most (suc tries) n used =
    by_choice (λ s. s ≤ n + suc tries) (some_of (eqb n) used) _ _ (λ e. omega (arith, spare_most tries (suc n) used)) (λ e. omega arith)

pub spare_low : (used : List ℕ) → spare used ≤ length used
spare_low used = omega (arith, spare_most (length used) 0 used)
