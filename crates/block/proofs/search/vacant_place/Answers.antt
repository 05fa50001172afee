use mathlib.Core.Path.{◌≡◌}
use mathlib.Core.Bool.{true, false}
use Prim.Native.Nat.{ℕ}
use borrow.Author.Rules.{rules}
use Rattle.std.proofs.lemmas.Iterator.{first_from_Range}
use Rattle.rules.specs.Layout as L
use Rattle.rules.specs.Table as Spec
use Rattle.block.proofs.FindLaws.{found}
use Rattle.block.proofs.search.vacant_place.Goals as goal

pub returns : goal.returns
unfolding Spec.vacant_place L.vacant
returns c =
    let s = c.args.state.now in
    found (L.vacant) s _
    (first_from_Range _ _ _ _ (λ (k : ℕ). L.vacant (L.row_of s k) ≡ true) (λ (k : ℕ). L.vacant (L.row_of s k) ≡ false) c.find.ensures.ran (λ x q k. search rules) (λ x q k. search rules))
