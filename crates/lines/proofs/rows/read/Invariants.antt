use Rattle.std.proofs.Common.{◌≤◌, length}
use Rattle.lines.proofs.rows.read.Given as goal

abbrev pub invariant-loop-i : goal.invariant-loop-i
invariant-loop-i l = l.at ≤ length l.out
