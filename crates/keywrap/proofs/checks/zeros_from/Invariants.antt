use mathlib.Core.Path.{◌≡◌}
use mathlib.Core.Bool.{◌&&◌}
use lib.Dec.{eqb}
use lib.ListN.{take, drop}
use Rattle.keywrap.specs.Padding.{zeros}
use Rattle.keywrap.proofs.checks.zeros_from.Given as goal

-- What was found so far.
abbrev pub invariant-loop-i : goal.invariant-loop-i
invariant-loop-i l = eqb l.bad 0 ≡ (eqb l.found 0 && zeros (drop l.from (take l.i l.x)))
