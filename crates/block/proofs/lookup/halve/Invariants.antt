use Prim.Native.Nat.{◌+◌, ◌-◌, ◌≤◌, ◌<◌}
use mathlib.Core.Path.{◌≡◌}
use Rattle.rules.specs.Halving.{halved}
use Rattle.rules.specs.Limits.{places, rounds}
use Rattle.rules.specs.Index.{index_endpoint}
use Rattle.block.proofs.lookup.halve.Given as goal

abbrev pub invariant-loop-turn : goal.invariant-loop-turn
invariant-loop-turn l =
    (l.lo + l.left ≤ places) × (0 < l.left) × (l.looked ≡ l._turn)
    × (halved (rounds - 1) (index_endpoint l.state) l.endpoint 0 l.n ≡ halved (rounds - 1 - l._turn) (index_endpoint l.state) l.endpoint l.lo l.left)
