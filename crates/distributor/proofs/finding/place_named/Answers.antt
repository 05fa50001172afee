use mathlib.Core.Path.{sym, subst}
use Prim.Native.Nat.{ℕ}
use Rattle.std.specs.Prelude.{Result}
use Rattle.octets.specs.declared.refusal.Refusal.{Refusal}
use Rattle.rules.specs.Table as Spec
use Rattle.distributor.specs.Outcomes.{Found}
use Rattle.distributor.proofs.CheckLaws.{found}
use Rattle.distributor.proofs.finding.place_named.Goals as goal

pub returns : goal.returns
returns c = subst (λ (r : Result ℕ Refusal). Found (Spec.place_of_identifier c.args.state.now c.args.identifier.now) r) (sym c.ok_or.ensures.value) (found _ _ c.place_of_identifier.ensures)
