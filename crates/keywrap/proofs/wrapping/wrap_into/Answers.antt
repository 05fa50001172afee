use Prim.Native.Nat.{◌+◌, ◌-◌, ◌%◌}
use mathlib.Core.Path.{◌≡◌, refl, ap}
use native.Mathlib.Omega.{arith}
use lib.ListN.{length}
use Rattle.keywrap.specs.Padding.{padding, initial_registers, wrap}
use Rattle.keywrap.proofs.PaddingLaws.{initial_long}
use Rattle.keywrap.proofs.wrapping.wrap_into.Goals as goal

pub wrap_registers-requires : goal.wrap_registers-requires
unfolding padding
wrap_registers-requires c =
    let p = c.args.plaintext.now in
    let l : length (initial_registers p) ≡ 8 + (length p + (8 - length p % 8) % 8) = initial_long p (omega arith) (omega arith) in
    let e = ap length c.load.ensures in
    (omega arith, (omega arith, omega arith))

pub returns : goal.returns
unfolding wrap
returns c = (c.forget.ensures.0, rw (c.wrap_registers.ensures, c.load_schedule.ensures, c.load.ensures) refl)
