use mathlib.Core.Path.{refl, sym}
use native.Mathlib.Omega.{arith}
use borrow.Author.Tests.{le-leb, lt-leb}
use Prim.Native.Nat.{◌-◌}
use Rattle.rules.specs.Limits.{rounds}
use Rattle.rules.proofs.HalvingLaws.{halved_one}
use Rattle.block.proofs.lookup.nearest.Goals as goal

pub returns-then-n-le1 : goal.returns-then-n-le1
returns-then-n-le1 c = let a = c.args in (sym (halved_one _ a.endpoint (rounds - 1) 0 a.n c.if-n-le1.true), rw (le-leb _ _ c.if-n-le1.true) refl, omega arith)

pub returns : goal.returns
returns c = (c.halve.ensures.0, rw (lt-leb _ _ c.if-n-le1.false) c.halve.ensures.1, omega (arith, c.halve.ensures.1))
