-- A refused call changes nothing, but refusal 2, which only Tunnel octets gives: it ends the tunnel and empties the table. Nor does "more needed" change anything.
use Prim.Native.Nat.{ℕ}
use mathlib.Core.Path.{◌≡◌, refl, sym, ap, ◌∙◌}
use mathlib.Core.Bool.{Bool, true, false, cond, not}
use mathlib.Core.List.{List}
use lib.Dec.{eqb}
use Rattle.octets.specs.Bounds.{part_in}
use Rattle.message.specs.Message.{encode, endpoint_disconnect}
use Rattle.message.specs.Parts.{identifier_bounds, dtls_bounds}
use Rattle.message.specs.Profiles.{good_list}
use Rattle.message.specs.Read as Read
use Rattle.message.specs.declared.bodies.Fields.{Fields}
use Rattle.message.specs.declared.bodies.Fields.TheVariants.{SupportedProfiles, UnsupportedVersion, MediaKeys, TunneledDtls, EndpointDisconnect}
use Rattle.rules.specs.Call as Call
use Rattle.rules.specs.Layout.{up, row_of, endpoint_of, down_block, up_block}
use Rattle.rules.specs.Verdict.{Verdict, allowed, refusal, after}
use Rattle.rules.specs.Answer.{Answer, refused, wrote, placed, ended, found, keys_stored, delivery, removed, page, by_answer, answered}
use Rattle.rules.specs.Refusals.{wrong_width, no_room, no_room_for_page, not_dtls, too_long, start_message, receiving}
use Rattle.rules.specs.Table as Table
use Rattle.rules.specs.Table.{answer, step, knows, serves, has_room, without, packet_message}
use Rattle.rules.specs.Unchanged.{RefusedKeeps, MoreNeededKeeps}
use Rattle.rules.proofs.VerdictLaws.{Avoids, avoids, keys_avoid}

-- the block after a call, by its answer: of a refusal and of "more needed" it is settled
abbrev leaves : Answer → (old new : List ℕ) → List ℕ
leaves a old new = by_answer (λ number taken. cond (eqb number 2) down_block old) old (λ place. new) (λ endpoint dtls taken. new) (λ entries. new) (λ taken. new) a

module _ (s : List ℕ) where
  by_verdict : (v : Verdict) → Avoids 2 v → (taken : ℕ) (a : Answer) (new : List ℕ) → leaves a s new ≡ new
      → leaves (answered v taken a) s (after v new s) ≡ after v new s
  by_verdict allowed h taken a new e = e
  by_verdict (refusal n) h taken a new e = rw h

  -- calls that change no record
  by_reading : (v : Verdict) → Avoids 2 v → (a : Answer) → leaves a s s ≡ s → leaves (answered v 0 a) s s ≡ s
  by_reading allowed h a e = e
  by_reading (refusal n) h a e = rw h

  by_known : (b : Bool) (taken : ℕ) (a : Answer) (new : List ℕ) → leaves a s new ≡ new
      → leaves (cond b a (refused 6 taken)) s (cond b new s) ≡ cond b new s
  by_known true taken a new e = e
  by_known false taken a new e = refl

  by_endpoint : (b : Bool) (taken : ℕ) (a : Answer) → leaves a s s ≡ s → leaves (cond b a (refused 6 taken)) s s ≡ s
  by_endpoint true taken a e = e
  by_endpoint false taken a e = refl

  by_end : (b : Bool) → leaves (cond b ended (refused 1 0)) s (cond b down_block s) ≡ cond b down_block s
  by_end true = refl
  by_end false = refl

  by_fields : (octets : List ℕ) (f : Fields) (taken : ℕ)
      → leaves (Table.fields_answer s octets f taken) s (Table.fields_next s octets f) ≡ Table.fields_next s octets f
  unfolding Table.fields_answer Table.fields_next
  by_fields octets (SupportedProfiles v n) taken = refl
  by_fields octets (UnsupportedVersion v) taken = refl
  by_fields octets (MediaKeys profile k) taken =
      let i = part_in octets identifier_bounds in
      by_verdict (Table.keys_verdict s i profile k) (keys_avoid 2 refl refl refl refl s i profile k) taken (keys_stored (Table.endpoint_for s i) taken) (Table.rekeyed s i octets profile k) refl
  by_fields octets (TunneledDtls n) taken = by_endpoint (knows s (part_in octets identifier_bounds)) taken (delivery (endpoint_of (row_of s (Table.place_of_identifier s (part_in octets identifier_bounds)))) (dtls_bounds n) taken) refl
  by_fields octets EndpointDisconnect taken = by_known (knows s (part_in octets identifier_bounds)) taken (removed (Table.endpoint_for s (part_in octets identifier_bounds)) taken) (without s (part_in octets identifier_bounds)) refl

  by_read : (octets : List ℕ) (r : Read.Answer) → leaves (Table.read_answer s octets r) s (Table.read_next s octets r) ≡ Table.read_next s octets r
  by_read octets Read.more_needed = refl
  by_read octets (Read.refused number taken) = refl
  by_read octets (Read.accepted f taken) = by_fields octets f taken

  by_octets : (b : Bool) (octets : List ℕ) (r : Read.Answer)
      → leaves (cond b (Table.read_answer s octets r) (refused 1 0)) s (cond b (Table.read_next s octets r) s) ≡ cond b (Table.read_next s octets r) s
  by_octets true octets r = by_read octets r
  by_octets false octets r = refl

  start_avoids : (list : List ℕ) (room : ℕ) → Avoids 2 (Table.start_verdict s list room)
  unfolding Table.start_verdict
  start_avoids list room = avoids 2 (up s) 17 _ refl (avoids 2 (not (good_list list)) 16 _ refl (avoids 2 (no_room (start_message list) room) 13 _ refl tt))

  open_avoids : (i : List ℕ) (e : ℕ) → Avoids 2 (Table.open_verdict s i e)
  unfolding Table.open_verdict
  open_avoids i e =
      avoids 2 (not (up s)) 1 _ refl (avoids 2 (wrong_width i) 20 _ refl (avoids 2 (knows s i) 11 _ refl
      (avoids 2 (serves s e) 12 _ refl (avoids 2 (not (has_room s)) 10 _ refl tt))))

  packet_avoids : (e : ℕ) (packet : List ℕ) (room : ℕ) → Avoids 2 (Table.packet_verdict s e packet room)
  unfolding Table.packet_verdict
  packet_avoids e packet room =
      avoids 2 (not (up s)) 1 _ refl (avoids 2 (not (serves s e)) 6 _ refl (avoids 2 (not_dtls packet) 14 _ refl
      (avoids 2 (too_long packet) 15 _ refl (avoids 2 (no_room (packet_message s e packet) room) 13 _ refl tt))))

  close_avoids : (i : List ℕ) (room : ℕ) → Avoids 2 (Table.close_verdict s i room)
  unfolding Table.close_verdict
  close_avoids i room =
      avoids 2 (not (up s)) 1 _ refl (avoids 2 (wrong_width i) 20 _ refl (avoids 2 (not (knows s i)) 6 _ refl
      (avoids 2 (no_room (endpoint_disconnect i) room) 13 _ refl tt)))

  look_avoids : (e : ℕ) → Avoids 2 (Table.look_verdict s e)
  unfolding Table.look_verdict
  look_avoids e = avoids 2 (not (up s)) 1 _ refl (avoids 2 (not (serves s e)) 6 _ refl tt)

  page_avoids : (room : ℕ) → Avoids 2 (Table.page_verdict s room)
  unfolding Table.page_verdict
  page_avoids room = avoids 2 (no_room_for_page (Table.page_entries s) room) 13 _ refl tt

  left : (c : Call.Call) → leaves (answer s c) s (step s c) ≡ step s c
  unfolding answer step Table.start_answer Table.start_next Table.open_answer Table.open_next Table.packet_answer Table.close_answer Table.close_next Table.end_answer Table.end_next Table.look_answer Table.page_answer Table.octets_answer Table.octets_next
  left (Call.start list room) = by_verdict (Table.start_verdict s list room) (start_avoids list room) 0 (wrote (encode (start_message list))) (up_block list) refl
  left (Call.opening i e) = by_verdict (Table.open_verdict s i e) (open_avoids i e) 0 (placed _) _ refl
  left (Call.booth_packet e packet room) = by_reading (Table.packet_verdict s e packet room) (packet_avoids e packet room) (wrote (encode (packet_message s e packet))) refl
  left (Call.tunnel_octets octets) = by_octets (up s) octets (receiving octets)
  left (Call.close i room) = by_verdict (Table.close_verdict s i room) (close_avoids i room) 0 (wrote (encode (endpoint_disconnect i))) (without s i) refl
  left Call.end = by_end (up s)
  left (Call.look e) = by_reading (Table.look_verdict s e) (look_avoids e) (found (Table.association_of (row_of s (Table.place_of_endpoint s e)))) refl
  left (Call.write_page room) = by_reading (Table.page_verdict s room) (page_avoids room) (page (Table.page_entries s)) refl

pub refused_keeps : (s : List ℕ) (c : Call.Call) → RefusedKeeps s c
refused_keeps s c number taken e = sym (left s c) ∙ ap (λ (a : Answer). leaves a s (step s c)) e

pub more_needed_keeps : (s : List ℕ) (c : Call.Call) → MoreNeededKeeps s c
more_needed_keeps s c e = sym (left s c) ∙ ap (λ (a : Answer). leaves a s (step s c)) e
