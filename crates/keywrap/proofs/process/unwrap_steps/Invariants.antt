use mathlib.Core.Path.{◌≡◌}
use Rattle.keywrap.specs.KeyWrap.{unwrap_steps}
use Rattle.keywrap.proofs.process.unwrap_steps.Given as goal

-- Step t and those before it are to come.
abbrev pub invariant-loop-t : goal.invariant-loop-t
invariant-loop-t l = unwrap_steps l.w l.t-counter l.x ≡ unwrap_steps l.w l.steps l.initial.x
