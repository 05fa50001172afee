use native.Mathlib.Omega.{arith}
use mathlib.Core.Path.{◌≡◌, sym, ◌∙◌}
use mathlib.Core.List.{[], ◌∷◌, ◌++◌}
use lib.ListN.{length}
use Rattle.rules.specs.Layout as L
use Rattle.octets.proofs.WriteLaws.{wrote_none, wrote_over, wrote_more}
use Rattle.octets.specs.Number.{octets16}
use Rattle.octets.specs.Part.{part}
use Rattle.octets.proofs.PartLaws.{part_front}
use Rattle.octets.specs.Bounds.{part_in}
use Rattle.message.specs.Limits.{mki_limit, salt_limit}
use Rattle.message.specs.Parts.{key_bounds}
use Rattle.rules.specs.Limits.{key_limit}
use Rattle.rules.specs.Keys.{keys_in}
use Rattle.rules.proofs.FieldLaws.{field_length}
use Rattle.rows.proofs.RowWriting.{wrote_at, wrote_keep, wrote_all, octets_of_16_lem}
use Rattle.rules.proofs.KeysRoom.{part_room}
use lib.ListN.{length-append}
use Rattle.rules.specs.Layout.{row_length, state_at, profile_at, mki_at, client_key_at, server_key_at, client_salt_at, server_salt_at}
use Rattle.rows.proofs.writing.write_keys.Goals as goal

pub put_part-requires : goal.put_part-requires
put_part-requires c =
    let a = c.args in
    let n : length a.row.now ≡ row_length = c.requires in
    (rw c.bounds-k.ensures (part_room a.keys.octets.now _ a.keys.lengths.mki (omega (arith, c.well_formed, c.ranges))), omega arith)

pub put_part-requires-2 : goal.put_part-requires-2
put_part-requires-2 c =
    let a = c.args in
    let n : length a.row.now ≡ row_length = c.requires in
    (rw c.bounds-k.ensures (part_room a.keys.octets.now _ a.keys.lengths.client_key (omega (arith, c.well_formed, c.ranges))), omega arith)

pub put_part-requires-3 : goal.put_part-requires-3
put_part-requires-3 c =
    let a = c.args in
    let n : length a.row.now ≡ row_length = c.requires in
    (rw c.bounds-k.ensures (part_room a.keys.octets.now _ a.keys.lengths.server_key (omega (arith, c.well_formed, c.ranges))), omega arith)

pub put_part-requires-4 : goal.put_part-requires-4
put_part-requires-4 c =
    let a = c.args in
    let n : length a.row.now ≡ row_length = c.requires in
    (rw c.bounds-k.ensures (part_room a.keys.octets.now _ a.keys.lengths.client_salt (omega (arith, c.well_formed, c.ranges))), omega arith)

pub put_part-requires-5 : goal.put_part-requires-5
put_part-requires-5 c =
    let a = c.args in
    let n : length a.row.now ≡ row_length = c.requires in
    (rw c.bounds-k.ensures (part_room a.keys.octets.now _ a.keys.lengths.server_salt (omega (arith, c.well_formed, c.ranges))), omega arith)

pub returns : goal.returns
unfolding L.keyed_row keys_in
returns c =
    let a = c.args in
    let o = a.row.now in
    let s = a.keys.octets.now in
    let k = key_bounds a.keys.lengths in
    let n : length o ≡ row_length = c.requires in
    let bounds = c.bounds-k.ensures in
    let w0 = wrote_keep (wrote_none o) state_at (omega arith) (omega arith) in
    let m0 : length (part o 0 state_at) ≡ state_at = sym w0.offset in
    let w1 = wrote_at (wrote_more (2 ∷ []) w0 (omega arith) c.put_octet.ensures.0 c.put_octet.ensures.1) profile_at (rw (length-append, m0)) in
    let m1 : length (part o 0 state_at ++ (2 ∷ [])) ≡ profile_at = sym w1.offset in
    let w2 = wrote_at (wrote_more (octets16 a.keys.profile) w1 (omega arith) c.put_number16.ensures.0 c.put_number16.ensures.1) mki_at (rw (length-append, m1)) in
    let w3 = wrote_over {r = client_key_at} (L.field mki_limit (part_in s k.mki)) w2 (omega (arith, field_length mki_limit (part_in s k.mki))) (rw c.bounds-k.ensures at c.put_part.ensures) in
    let w4 = wrote_over {r = server_key_at} (L.field key_limit (part_in s k.client_key)) w3 (omega (arith, field_length key_limit (part_in s k.client_key))) (rw c.bounds-k.ensures at c.put_part-2.ensures) in
    let w5 = wrote_over {r = client_salt_at} (L.field key_limit (part_in s k.server_key)) w4 (omega (arith, field_length key_limit (part_in s k.server_key))) (rw c.bounds-k.ensures at c.put_part-3.ensures) in
    let w6 = wrote_over {r = server_salt_at} (L.field salt_limit (part_in s k.client_salt)) w5 (omega (arith, field_length salt_limit (part_in s k.client_salt))) (rw c.bounds-k.ensures at c.put_part-4.ensures) in
    let w7 = wrote_over {r = row_length} (L.field salt_limit (part_in s k.server_salt)) w6 (omega (arith, field_length salt_limit (part_in s k.server_salt))) (rw c.bounds-k.ensures at c.put_part-5.ensures) in
    wrote_all w7 (sym n) ∙ rw (part_front o state_at, octets_of_16_lem a.keys.profile (omega (arith, c.ranges)))
