use Prim.Native.Nat.{◌+◌, ◌-◌, ◌≤◌}
use mathlib.Core.Path.{◌≡◌}
use Rattle.keywrap.specs.KeyWrap.{wrap_steps}
use Rattle.keywrap.proofs.process.wrap_steps.Given as goal

-- Before step t, the steps before it.
abbrev pub invariant-loop-t : goal.invariant-loop-t
invariant-loop-t l = (l.t-counter ≤ l.steps + 1) × (l.x ≡ wrap_steps l.w (l.t-counter - 1) l.initial.x)
