use mathlib.Core.Path.{◌≡◌, sym, ◌∙◌}
use mathlib.Core.Bool.{true, false}
use Rattle.rules.specs.Layout as L
use Rattle.rules.specs.Table as Spec
use Rattle.distributor.proofs.ending.end.Goals as goal

pub returns-then-not-is_up : goal.returns-then-not-is_up
unfolding Spec.answer Spec.step Spec.end_answer Spec.end_next
returns-then-not-is_up c =
    let u : L.up c.args.state.now ≡ false = sym c.is_up.ensures ∙ c.if-not-is_up.true in
    (rw u, rw u)

pub returns : goal.returns
unfolding Spec.answer Spec.step Spec.end_answer Spec.end_next
returns c =
    let u : L.up c.args.state.now ≡ true = sym c.is_up.ensures ∙ c.if-not-is_up.false in
    (rw u, c.put_down.ensures ∙ rw u)
