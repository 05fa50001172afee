use Prim.Native.Nat.{◌*◌, ◌-◌}
use mathlib.Core.Path.{◌≡◌}
use lib.ListN.{length, take}
use Rattle.aes.specs.KeyExpansion.{schedule}
use Rattle.aes.proofs.schedule.expand.Given as goal

-- The words before word i are in their places.
abbrev pub invariant-loop-i : goal.invariant-loop-i
invariant-loop-i l = (length l.w ≡ 176) × (take (4 * l.i) l.w ≡ schedule (l.i - 4) l.fn.key)
