use mathlib.Core.Path.{refl, sym, subst, ◌∙◌}
use mathlib.Core.Bool.{not}
use Prim.Native.Nat.{ℕ}
use borrow.Author.Tests.{eq-eqb, ne_eqb}
use Rattle.std.specs.Prelude.{Result}
use Rattle.octets.specs.declared.refusal.Refusal.{Refusal}
use Rattle.rules.specs.Table as Spec
use Rattle.rules.specs.Verdict.{allowed, refuse}
use Rattle.distributor.specs.Outcomes.{Checks}
use Rattle.distributor.proofs.CheckLaws.{eleven_first, neither, place_left}
use Rattle.distributor.proofs.opening.check_open.Goals as goal

pub returns-then-not-is_up : goal.returns-then-not-is_up
unfolding Spec.open_verdict
returns-then-not-is_up c = rw (sym c.is_up.ensures ∙ c.if-not-is_up.true) refl

pub returns-then-identifier-ne-WIDTH : goal.returns-then-identifier-ne-WIDTH
unfolding Spec.open_verdict
returns-then-identifier-ne-WIDTH c = rw ((sym c.is_up.ensures ∙ c.if-not-is_up.false), ne_eqb _ _ c.if-identifier-ne-WIDTH.true) refl

pub returns-then-is_taken : goal.returns-then-is_taken
unfolding Spec.open_verdict
returns-then-is_taken c =
    let a = c.args in
    let s = a.state.now in
    let i = a.identifier.now in
    rw ((sym c.is_up.ensures ∙ c.if-not-is_up.false), eq-eqb _ _ c.if-identifier-ne-WIDTH.false) (eleven_first (Spec.serves s a.endpoint) (Spec.knows s i) _ (refuse (not (Spec.has_room s)) 10 allowed) (sym c.is_taken.ensures ∙ c.if-is_taken.true) c.taken.ensures)

pub returns : goal.returns
unfolding Spec.open_verdict
returns c =
    rw ((sym c.is_up.ensures ∙ c.if-not-is_up.false), eq-eqb _ _ c.if-identifier-ne-WIDTH.false, neither _ _ _ (sym c.is_taken.ensures ∙ c.if-is_taken.false))
    (subst (λ (r : Result ℕ Refusal). Checks (refuse (not (Spec.has_room c.args.state.now)) 10 allowed) (Spec.vacant_place c.args.state.now) r) (sym c.ok_or.ensures.value) (place_left _ _ c.vacant_place.ensures))
