use Prim.Native.Nat.{◌/◌}
use native.Mathlib.Omega.{arith}
use Rattle.aes.specs.Field.{xor}
use Rattle.aes.specs.KeyExpansion.{sub_word}
use Rattle.aes.proofs.Rcon.{rcon_rule}
use Rattle.aes.proofs.ScheduleLaws.{temp_fourth, temp_other}
use Rattle.aes.proofs.schedule.temp_word.Goals as goal

pub returns-then-i-eq0 : goal.returns-then-i-eq0
unfolding sub_word xor
returns-then-i-eq0 c =
    let a = c.args in
    rw (c.sub_word-t.ensures, rcon_rule (a.i / 4) (omega arith)) (temp_fourth a.w.now a.i c.if-i-eq0.true)

pub returns : goal.returns
returns c =
    let a = c.args in
    temp_other a.w.now a.i c.if-i-eq0.false
