use native.Mathlib.Omega.{arith}
use Rattle.std.proofs.lemmas.Grind.{common_steps}
use Rattle.status.proofs.NumbersLaws.{rising_apart}
use Rattle.status.proofs.entries.entries_good.Goals as goal

pub returns-then-places_rise : goal.returns-then-places_rise
returns-then-places_rise c =
    let a = c.args in
    let p = c.places_rise.ensures in
    rising_apart a.page.now a.count p.0 p.1 c.if-places_rise.true c.differ.ensures (grind (arith, common_steps))
