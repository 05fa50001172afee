use mathlib.Core.Path.{sym, ap, ◌∙◌}
use Prim.Native.Nat.{ℕ}
use mathlib.Core.List.{List}
use Rattle.octets.specs.Part.{same}
use Rattle.rules.specs.Layout as L
use Rattle.rules.proofs.SearchLaws.{second_holds, second_fails}
use Rattle.rows.proofs.row.is_named.Goals as goal

pub returns-then-same : goal.returns-then-same
unfolding L.named
returns-then-same c =
    let a = c.args in
    c.is_live.ensures ∙ second_holds _ (ap (λ (l : List ℕ). same l a.identifier.now) (sym c.identifier_of.ensures) ∙ sym c.same.ensures ∙ c.if-same.true)

pub returns-else-same : goal.returns-else-same
unfolding L.named
returns-else-same c =
    let a = c.args in
    c.if-same.false ∙ second_fails (L.live a.row.now) (ap (λ (l : List ℕ). same l a.identifier.now) (sym c.identifier_of.ensures) ∙ sym c.same.ensures ∙ c.if-same.false)
