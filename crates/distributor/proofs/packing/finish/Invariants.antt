use Prim.Native.Nat.{ℕ, ◌-◌, ◌*◌}
use mathlib.Core.Path.{◌≡◌}
use mathlib.Core.List.{List}
use lib.ListN.{length}
use Rattle.distributor.specs.Packing.{Holds}
use Rattle.distributor.proofs.packing.finish.Given as goal

abbrev pub invariant-loop-left : goal.invariant-loop-left
invariant-loop-left l =
    (length l.out ≡ length l.initial.out) × ((first : List ℕ) (number : ℕ) → Holds first number l.initial.out (l.end - l.count) l.last (l.count * 8) → Holds first number l.out (l.end - (l.left - 1)) l.last ((l.left - 1) * 8))
