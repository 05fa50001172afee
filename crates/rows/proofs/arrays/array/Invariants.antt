use Prim.Native.Nat.{◌*◌}
use mathlib.Core.Path.{◌≡◌}
use lib.ListN.{replicate, take}
use Rattle.octets.specs.Write.{over}
use Rattle.rows.proofs.arrays.array.Given as goal

abbrev pub invariant-loop-k : goal.invariant-loop-k
invariant-loop-k g l = l.a ≡ over (replicate g.row.N 0) 0 (take (8 * l.k) l.tail)
