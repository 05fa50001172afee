-- The worked octets mean what document 01 writes: by computing the definitions.
use Prim.Native.Nat.{ℕ}
use mathlib.Core.Path.{◌≡◌, refl}
use mathlib.Core.Bool.{true, false, not}
use mathlib.Core.List.{List, [], ◌∷◌}
use Rattle.octets.specs.Number.{number16_at}
use Rattle.octets.specs.Part.{part}
use Rattle.octets.specs.Range.{within}
use Rattle.demux.specs.Sorting.{kind_of, sorting}
use Rattle.ekt.specs.Splitting.{form_of, tag_length, length_fits, split_full, split_extension, splitting}
use Rattle.ekt.specs.Parts.{front, ciphertext, extension_data}
use Rattle.message.specs.Message.{encode}
use Rattle.message.specs.Profiles.{is_profile, entries, good_list}
use Rattle.message.specs.Frame as Frame
use Rattle.message.specs.Walk.{past, fixed, complete}
use Rattle.message.specs.Body.{content, endpoint_disconnect}
use Rattle.rules.specs.Refusals.{start_message, no_room, receiving}
use Rattle.rules.specs.Answer.{wrote}
use Rattle.rules.specs.Layout.{up, down_block, up_block}
use Rattle.rules.specs.Table.{start_verdict, start_answer, start_next, fields_answer, fields_next, read_answer, read_next, octets_answer, octets_next}
use Rattle.vectors.specs.Worked.{Worked, both}

-- ---- of either block only the first octet is looked at

down_is_down : up down_block ≡ false
unfolding up down_block
down_is_down = refl

up_is_up : (list : List ℕ) → up (up_block list) ≡ true
unfolding up up_block
up_is_up list = refl

-- ---- what octets on a started tunnel come to, by their reading alone

read_answer_lem : (list octets : List ℕ) → octets_answer (up_block list) octets ≡ read_answer (up_block list) octets (receiving octets)
unfolding octets_answer
read_answer_lem list octets = rw (up_is_up list) refl

read_next_lem : (list octets : List ℕ) → octets_next (up_block list) octets ≡ read_next (up_block list) octets (receiving octets)
unfolding octets_next
read_next_lem list octets = rw (up_is_up list) refl

-- ---- what a start from the first state comes to, by its list and the room alone

allowed_answer : (list : List ℕ) (room : ℕ) → not (good_list list) ≡ false → no_room (start_message list) room ≡ false
    → start_answer down_block list room ≡ wrote (encode (start_message list))
unfolding start_answer start_verdict
allowed_answer list room good fits = rw (down_is_down, good, fits) refl

allowed_next : (list : List ℕ) (room : ℕ) → not (good_list list) ≡ false → no_room (start_message list) room ≡ false
    → start_next down_block list room ≡ up_block list
unfolding start_next start_verdict
allowed_next list room good fits = rw (down_is_down, good, fits) refl

pub worked : Worked
unfolding number16_at part within kind_of sorting form_of tag_length length_fits split_full split_extension splitting front ciphertext extension_data encode is_profile entries good_list Frame.kind_of Frame.version_frame Frame.plain_frame Frame.frame past fixed complete content endpoint_disconnect receiving fields_answer fields_next
worked = record {
  p1 = record { answer = allowed_answer both 10 refl refl; next = allowed_next both 10 refl refl };
  p2 = record { answer = allowed_answer (0x00 ∷ 0x0A ∷ []) 8 refl refl; next = allowed_next (0x00 ∷ 0x0A ∷ []) 8 refl refl };
  p3 = record { answer = read_answer_lem both (0x02 ∷ 0x00 ∷ 0x01 ∷ 0x03 ∷ []); next = read_next_lem both (0x02 ∷ 0x00 ∷ 0x01 ∷ 0x03 ∷ []) };
  p4 = record { answer = read_answer_lem both (0x02 ∷ 0x13 ∷ 0x88 ∷ 0x01 ∷ []); next = read_next_lem both (0x02 ∷ 0x13 ∷ 0x88 ∷ 0x01 ∷ []) };
  p5 = record { answer = read_answer_lem both (0x02 ∷ 0x00 ∷ 0x01 ∷ []); next = read_next_lem both (0x02 ∷ 0x00 ∷ 0x01 ∷ []) };
  p6 = record { answer = read_answer_lem both (0x03 ∷ 0x10 ∷ 0x01 ∷ []); next = read_next_lem both (0x03 ∷ 0x10 ∷ 0x01 ∷ []) };
  p7 = record { answer = read_answer_lem both (0x06 ∷ 0x00 ∷ 0x00 ∷ []); next = read_next_lem both (0x06 ∷ 0x00 ∷ 0x00 ∷ []) };
  p8 = record { answer = read_answer_lem both (0x01 ∷ 0x00 ∷ 0x00 ∷ []); next = read_next_lem both (0x01 ∷ 0x00 ∷ 0x00 ∷ []) };
  p9 = record { answer = read_answer_lem both (0x05 ∷ 0x00 ∷ 0x00 ∷ []); next = read_next_lem both (0x05 ∷ 0x00 ∷ 0x00 ∷ []) };
  p10 = λ rest. refl;
  p11 = record { answer = refl; in_front = refl; encrypted = refl; extended = refl };
  p12 = record { answer = refl; in_front = refl; encrypted = refl; extended = refl };
  p13 = record { answer = refl; in_front = refl; encrypted = refl; extended = refl };
  p14 = record { answer = refl; in_front = refl; encrypted = refl; extended = refl };
}
