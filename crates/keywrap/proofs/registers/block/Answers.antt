use mathlib.Core.Path.{◌≡◌, refl}
use native.Mathlib.Omega.{arith}
use lib.ListN.{length, take, drop, length-drop}
use lib.Seq.{length-take-le}
use Prim.Native.Nat.{◌+◌, ◌*◌, ◌-◌}
use Rattle.keywrap.specs.KeyWrap.{block}
use Rattle.keywrap.proofs.CodeLaws.{both_halves}
use Rattle.keywrap.proofs.registers.block.Goals as goal

pub returns : goal.returns
unfolding block
returns c =
    let x = c.args.x.now in
    let i = c.args.i in
    let p : length (take 8 x) ≡ 8 = length-take-le 8 x (omega arith) in
    let d : length (drop (8 * i) x) ≡ length x - 8 * i = length-drop (8 * i) x in
    let q : length (take 8 (drop (8 * i) x)) ≡ 8 = length-take-le 8 (drop (8 * i) x) (omega arith) in
    let e : 8 * i + 8 - 8 * i ≡ 8 = omega arith in
    let r = rw e at c.copy_from_slice-2.ensures.after in
    rw (r, c.copy_from_slice.ensures.after) (both_halves (take 8 x) (take 8 (drop (8 * i) x)) _ p q refl)
