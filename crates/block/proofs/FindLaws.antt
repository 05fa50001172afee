-- The first row that passes a test, found by trying one place after the other.
use Prim.Native.Nat.{ℕ, zero, suc, ◌≤◌, ◌<◌}
use mathlib.Core.Path.{◌≡◌, refl, ap, ◌∙◌}
use mathlib.Core.Bool.{Bool, true, false}
use mathlib.Core.List.{List, [], ◌∷◌}
use native.Mathlib.Omega.{arith}
use borrow.Author.Tests.{lt-ltb}
use lib.ListN.{length, get_or}
use Rattle.std.specs.Prelude.{Option, Some, None, MatchOption}
use Rattle.rules.specs.Limits.{places}
use Rattle.rules.specs.Layout.{rows, row_of}
use Rattle.rules.specs.Search.{first}
use Rattle.rules.proofs.RowsLaws.{rows_length}
use Rattle.block.specs.InTable.{in_table}

module _ {A : Type 0} (p : A → Bool) (d : A) where
  first_at : (l : List A) (i : ℕ) → i < length l → p (get_or l i d) ≡ true → ((k : ℕ) → k < i → p (get_or l k d) ≡ false) → first p l ≡ i
  unfolding first
  first_at [] i h t f = absurd (omega arith)
  first_at (x ∷ l) zero h t f = rw t refl
  first_at (x ∷ l) (suc i) h t f = rw (f 0 (omega arith)) (ap suc (first_at l i (omega arith) t (λ k g. f (suc k) (omega arith))))

  first_none : (l : List A) → ((k : ℕ) → k < length l → p (get_or l k d) ≡ false) → first p l ≡ length l
  unfolding first
  first_none [] f = refl
  first_none (x ∷ l) f = rw (f 0 (omega arith)) (ap suc (first_none l (λ k g. f (suc k) (omega arith))))

pub found : (p : List ℕ → Bool) (s : List ℕ) (r : Option ℕ)
    → MatchOption r ((k : ℕ) → 0 ≤ k → k < places → p (row_of s k) ≡ false)
    (λ i. (0 ≤ i) × (i < places) × (p (row_of s i) ≡ true) × ((k : ℕ) → 0 ≤ k → k < i → p (row_of s k) ≡ false))
    → r ≡ in_table (first p (rows s))
unfolding row_of
found p s None h =
    let n = rows_length s in
    let e : first p (rows s) ≡ places = first_none p [] (rows s) (λ k g. h k (omega arith) (omega arith)) ∙ n in
    rw e refl
found p s (Some i) h =
    let n = rows_length s in
    let e : first p (rows s) ≡ i = first_at p [] (rows s) i (omega arith) h.2 (λ k g. h.3 k (omega arith) g) in
    rw (e, lt-ltb i places h.1) refl
