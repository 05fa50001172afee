use mathlib.Core.Path.{sym, ◌∙◌}
use native.Mathlib.Omega.{arith}
use Rattle.octets.proofs.WriteLaws.{put_whole, put_none}
use Rattle.rules.specs.Layout.{padded}
use Rattle.rules.proofs.FieldLaws.{padded_length}
use Rattle.rows.proofs.padding.put_padded.Goals as goal

pub returns-then-n-out : goal.returns-then-n-out
returns-then-n-out c =
    let a = c.args in
    let q = padded a.n a.s.now in
    c.pad.ensures ∙ sym (put_whole a.out.now a.at q (omega (arith, padded_length a.n a.s.now)))

pub returns-else-n-out : goal.returns-else-n-out
returns-else-n-out c =
    let a = c.args in
    let q = padded a.n a.s.now in
    sym (put_none a.out.now a.at q (omega (arith, padded_length a.n a.s.now)))

pub returns-else-at-out : goal.returns-else-at-out
returns-else-at-out c =
    let a = c.args in
    let q = padded a.n a.s.now in
    sym (put_none a.out.now a.at q (omega (arith, padded_length a.n a.s.now)))
