use mathlib.Core.Path.{◌≡◌}
use lib.ListN.{drop}
use Rattle.status.specs.Numbers.{apart}
use Rattle.status.proofs.numbers.differ.Given as goal

abbrev pub invariant-loop-i : goal.invariant-loop-i
invariant-loop-i l = apart l.list ≡ apart (drop l.i l.list)
