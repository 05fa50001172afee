use Rattle.std.proofs.Common.{◌≡◌, length}
use Rattle.message.specs.Profiles as Spec
use Rattle.message.proofs.profiles.sound.Given as goal

abbrev pub invariant-loop-entry : goal.invariant-loop-entry
invariant-loop-entry l = Spec.sound (Spec.entries l.list) ≡ Spec.sound (Spec.entries l.rest)

abbrev pub decreases-loop-entry : goal.decreases-loop-entry
decreases-loop-entry l = length l.rest
