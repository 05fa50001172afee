use Prim.Native.Nat.{◌+◌, ◌-◌}
use mathlib.Core.Path.{◌≡◌, ap, ◌∙◌}
use native.Mathlib.Omega.{arith}
use lib.ListN.{length, drop, take}
use Rattle.octets.specs.Write.{put}
use Rattle.octets.specs.Part.{part}
use Rattle.octets.proofs.PartLaws.{part_tail, part_front, part_length}
use Rattle.rules.proofs.FieldLaws.{padded_whole}
use Rattle.rows.proofs.EndsLaws.{ends}
use Rattle.rows.proofs.padding.put_ends.Goals as goal

pub returns : goal.returns
returns g c =
    let a = c.args in
    let l = a.out.now in
    let s = a.s.now in
    let n = g.row.N in
    let d = length s - n in
    let z : 0 + n ≡ n = omega arith in
    let first : c.array.result ≡ take n s = c.array.ensures ∙ padded_whole n (part s 0 (0 + n)) (part_length s 0 (0 + n) (omega arith) ∙ omega arith) ∙ ap (part s 0) z ∙ part_front s n in
    let last : c.array-2.result ≡ drop d s = c.array-2.ensures ∙ padded_whole n (part s d (d + n)) (part_length s d (d + n) (omega arith) ∙ omega arith) ∙ part_tail s d (d + n) (omega arith) in
    c.put_octets-2.ensures.1
    ∙ ap (put _ (a.at + d)) last
    ∙ ends l s _ a.at n d (omega arith) (omega arith) (omega arith) (c.put_octets.ensures.1 ∙ ap (put l a.at) first)
