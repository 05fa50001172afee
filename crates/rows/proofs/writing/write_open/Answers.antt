use native.Mathlib.Omega.{arith}
use mathlib.Core.Path.{◌≡◌, refl, sym, ap, ◌∙◌}
use Prim.Native.Nat.{ℕ, ◌-◌}
use mathlib.Core.List.{List, [], ◌∷◌, ◌++◌}
use lib.ListN.{length, length-append}
use Rattle.rules.specs.Layout as L
use Rattle.rules.specs.Layout.{row_length, endpoint_at, identifier_at, state_at, profile_at}
use Rattle.octets.proofs.WriteLaws.{wrote_none, wrote_over, wrote_more}
use Rattle.octets.specs.Number.{octets_of_32}
use Rattle.message.specs.Limits.{width}
use Rattle.rules.proofs.FieldLaws.{padded_length}
use Rattle.rows.proofs.PadLaws.{padded_none}
use Rattle.rows.proofs.RowWriting.{wrote_at, wrote_all}
use Rattle.rows.proofs.writing.write_open.Goals as goal

pub returns : goal.returns
unfolding L.open_row
returns c =
    let a = c.args in
    let o = a.row.now in
    let i = a.identifier.now in
    let e = a.endpoint in
    let n : length o ≡ row_length = c.requires in
    let four : c.to_be_bytes.result ≡ octets_of_32 e = grind arith in
    let w2 = wrote_at (wrote_more (octets_of_32 e) (wrote_none o) (omega arith) (rw four at c.put_octets.ensures.0) (rw four at c.put_octets.ensures.1)) identifier_at refl in
    let w3 = wrote_at (wrote_over {r = state_at} (L.padded width i) w2 (omega (arith, padded_length width i)) c.pad.ensures) state_at (simp padded_length) in
    let w4 = wrote_at (wrote_more (1 ∷ []) w3 (simp padded_length (omega arith)) c.put_octet.ensures.0 c.put_octet.ensures.1) profile_at (simp (length-append, padded_length)) in
    let w5 = wrote_over {r = row_length} (L.padded (row_length - profile_at) []) w4 (omega (arith, padded_length (row_length - profile_at) [])) c.pad-2.ensures in
    wrote_all w5 (sym n) ∙ ap (λ (y : List ℕ). octets_of_32 e ++ L.padded width i ++ (1 ∷ []) ++ y) (padded_none (row_length - profile_at))
