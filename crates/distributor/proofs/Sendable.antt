-- An allowed call has a message that fits, so its octets are written; a refused call leaves output and block as they were.
use Prim.Native.Nat.{ℕ, ◌+◌, ◌%◌, ◌≤◌, ◌<◌}
use mathlib.Core.Path.{◌≡◌, refl, sym, ap, subst, ◌∙◌}
use mathlib.Core.Bool.{Bool, true, false, not, ◌&&◌}
use mathlib.Core.List.{List, [], ◌∷◌}
use native.Mathlib.Omega.{arith}
use borrow.Author.Tests.{ltb-true, ltb-false, eqb-true, eqb-false, not-true, not-false, le-ltb, eq-eqb}
use lib.Dec.{ltb, eqb}
use lib.ListN.{length, length-append}
use Rattle.octets.proofs.Tests.{both, false_true}
use Rattle.octets.proofs.RangeLaws.{inside}
use Rattle.octets.specs.Part.{part}
use Rattle.octets.proofs.PartLaws.{part_length}
use Rattle.demux.specs.Sorting.{sorting}
use Rattle.message.specs.Limits.{width, header, most16}
use Rattle.message.specs.Message.{Message, tunneled_dtls, endpoint_disconnect, encode, encode_body}
use Rattle.message.specs.Profiles.{entries, sound, good_list}
use Rattle.message.specs.Write as Write
use Rattle.message.proofs.AnswerLaws.{Fits, encode_length}
use Rattle.rules.specs.Limits.{places, list_limit, packet_limit}
use Rattle.rules.specs.Index.{without_entry}
use Rattle.rules.specs.Layout.{up, block_length, row_of, endpoint_of, identifier_of, identifier_at, padded, vacant_row, with_row, up_block}
use Rattle.rules.specs.Verdict.{Verdict, allowed, refusal, refuse, after}
use Rattle.rules.specs.Answer.{Answer, wrote, answered}
use Rattle.std.specs.Prelude.{Result, Ok, Err}
use Rattle.octets.specs.Refusal.{number_of}
use Rattle.octets.specs.declared.refusal.Refusal.{Refusal}
use Rattle.writers.specs.Outcome.{answer_of}
use Rattle.distributor.specs.Outcomes.{Sends, opened_of}
use Rattle.rules.specs.Refusals.{wrong_width, no_room, not_dtls, too_long, start_message}
use Rattle.rules.specs.Table.{place_of_identifier, place_of_endpoint, knows, serves, start_verdict, start_answer, start_next, packet_message, packet_verdict, packet_answer, close_verdict, close_answer, close_next, without, open_verdict, open_answer, open_next}
use Rattle.rules.proofs.RowsLaws.{row_length_lem}
use Rattle.rules.proofs.ListRoom.{good_list_room}
use Rattle.rules.proofs.FieldLaws.{padded_whole}
use Rattle.rules.proofs.VerdictLaws.{passed}
use Rattle.rules.proofs.ViewVerdicts.{start_passed, close_passed, packet_passed}

-- ---- what hangs on a verdict

kept : {A : Type 0} (w : Verdict) (n : ℕ) (new old : A) → refusal n ≡ w → old ≡ after w new old
kept w n new old h = rw (sym h)

changed : {A : Type 0} (w : Verdict) (new old : A) → allowed ≡ w → new ≡ after w new old
changed w new old h = rw (sym h)

not_sent : (w : Verdict) (r : Refusal) (a : Answer) (out : List ℕ) → refusal (number_of r) ≡ w → Sends (answered w 0 a) out out (Err r)
not_sent w r a out h = rw (sym h) (refl, refl)

-- a message that fits is written
fits_written : (m : Message) (room : ℕ) → Fits m room → Write.writing m room ≡ Write.written (length (encode m))
unfolding Write.writing
fits_written m room f = rw (f.identifier, f.fields, le-ltb _ _ f.limit, le-ltb _ _ f.there)

module _ (w : Verdict) (m : Message) (out new : List ℕ) (h : allowed ≡ w) (f : Fits m (length out)) where
  was_sent : (r : Result ℕ Refusal) → Write.Writes m out new (answer_of r) → Sends (answered w 0 (wrote (encode m))) out new r
  unfolding Write.output
  was_sent (Ok count) e =
      let l : Write.written count ≡ Write.written (length (encode m)) = e.0 ∙ fits_written m (length out) f in
      rw (sym h) record {
        octets = encode m;
        told = refl;
        counted = cc;
        written = e.1 ∙ ap (λ (a : Write.Answer). Write.output_after a m out) (fits_written m (length out) f);
      }
  was_sent (Err r) e = absurd (let l : Write.refused (number_of r) ≡ Write.written (length (encode m)) = e.0 ∙ fits_written m (length out) f in cc)

-- a place that is there
there : (n place : ℕ) → n ≡ place → ltb place places ≡ true → n < places
there n place e h = rw e (ltb-true _ _ h)

-- ---- Start

pub start_length : (list : List ℕ) → length (encode (start_message list)) ≡ header + 3 + length list
start_length list = encode_length (start_message list) ∙ omega arith

-- a good list can be written
list_fits : (list : List ℕ) → good_list list ≡ true → Write.fields_fit (start_message list) ≡ true
unfolding good_list
list_fits list h =
    let a = both (not (eqb (length list) 0) && eqb (length list % 2) 0) (sound (entries list)) h in
    let b = both (not (eqb (length list) 0)) (eqb (length list % 2) 0) a.0 in
    let z = eqb-false (length list) 0 (not-true _ b.0) in
    rw (inside 1 most16 (length list) (omega (arith, z)) (omega (arith, good_list_room list h)), b.1)

start_fits : (s list : List ℕ) (room : ℕ) → start_verdict s list room ≡ allowed → Fits (start_message list) room
unfolding start_verdict
start_fits s list room h =
    let a = passed (not (good_list list)) _ _ (passed (up s) _ _ h).1 in
    let g = not-false _ a.0 in
    record {
      identifier = refl;
      fields = list_fits list g;
      limit = omega (arith, good_list_room list g);
      there = ltb-false room (length (encode (start_message list))) (passed (no_room (start_message list) room) _ _ a.1).0;
    }

module _ (s list out : List ℕ) where
  pub start_refused : {x : Result ℕ Refusal} (r : Refusal) → x ≡ Err r → refusal (number_of r) ≡ start_verdict s list (length out)
      → Sends (start_answer s list (length out)) out out x × (s ≡ start_next s list (length out))
  unfolding start_answer start_next
  start_refused {x} r t w =
      (subst (λ (y : Result ℕ Refusal). Sends (start_answer s list (length out)) out out y) (sym t) (not_sent _ r _ out w), kept _ _ _ s w)

  module _ (w : allowed ≡ start_verdict s list (length out)) where
    pub start_room_lem : length list ≤ list_limit
    start_room_lem = good_list_room list (start_passed s list (length out) (sym w))

    start_sent : (new : List ℕ) (r : Result ℕ Refusal) → Write.Writes (start_message list) out new (answer_of r) → Sends (start_answer s list (length out)) out new r
    unfolding start_answer
    start_sent new r e = was_sent _ (start_message list) out new w (start_fits s list (length out) (sym w)) r e

    pub start_done : (new block : List ℕ) (count : ℕ) → Write.Writes (start_message list) out new (Write.written count) → block ≡ up_block list
        → Sends (start_answer s list (length out)) out new (Ok count) × (block ≡ start_next s list (length out))
    unfolding start_next
    start_done new block count e b = (start_sent new (Ok count) e, b ∙ changed _ (up_block list) s w)

    -- its writer refuses nothing
    pub start_written : (new : List ℕ) (n : ℕ) → Write.Writes (start_message list) out new (Write.refused n) → ⊥
    start_written new n e = let l : Write.refused n ≡ Write.written (length (encode (start_message list))) = e.0 ∙ fits_written (start_message list) (length out) (start_fits s list (length out) (sym w)) in cc

-- ---- Close

pub close_length : (i : List ℕ) → length i ≡ width → length (encode (endpoint_disconnect i)) ≡ header + width
close_length i h = encode_length (endpoint_disconnect i) ∙ ap (λ (n : ℕ). header + n) h

record CloseFits (i : List ℕ) (room : ℕ) : Type 0 where
  wide : length i ≡ width
  fits : Fits (endpoint_disconnect i) room

close_fits : (s i : List ℕ) (room : ℕ) → close_verdict s i room ≡ allowed → CloseFits i room
unfolding close_verdict
close_fits s i room h =
    let a = passed (wrong_width i) _ _ (passed (not (up s)) _ _ h).1 in
    let b = passed (not (knows s i)) _ _ a.1 in
    let w = not-false _ a.0 in
    let n = eqb-true (length i) width w in
    let r = ltb-false room (length (encode (endpoint_disconnect i))) (passed (no_room (endpoint_disconnect i) room) _ _ b.1).0 in
    record { wide = n; fits = record { identifier = w; fields = refl; limit = omega (arith, n); there = r } }

module _ (s i out : List ℕ) where
  pub close_refused : {x : Result ℕ Refusal} (r : Refusal) → x ≡ Err r → refusal (number_of r) ≡ close_verdict s i (length out)
      → Sends (close_answer s i (length out)) out out x × (s ≡ close_next s i (length out))
  unfolding close_answer close_next
  close_refused {x} r t w =
      (subst (λ (y : Result ℕ Refusal). Sends (close_answer s i (length out)) out out y) (sym t) (not_sent _ r _ out w), kept _ _ _ s w)

  module _ (n : ℕ) (w : (allowed ≡ close_verdict s i (length out)) × (n ≡ place_of_identifier s i)) where
    pub close_place : n < places
    close_place = there n (place_of_identifier s i) w.1 (close_passed s i (length out) (sym w.0))

    close_sent : (new : List ℕ) (r : Result ℕ Refusal) → Write.Writes (endpoint_disconnect i) out new (answer_of r) → Sends (close_answer s i (length out)) out new r
    unfolding close_answer
    close_sent new r e = was_sent _ (endpoint_disconnect i) out new w.0 (close_fits s i (length out) (sym w.0)).fits r e

    pub close_done : (new block : List ℕ) (count : ℕ) → Write.Writes (endpoint_disconnect i) out new (Write.written count) → block ≡ without_entry (with_row s n vacant_row) (endpoint_of (row_of s n))
        → Sends (close_answer s i (length out)) out new (Ok count) × (block ≡ close_next s i (length out))
    unfolding close_next
    close_done new block count e b = (
      close_sent new (Ok count) e,
      b ∙ ap (λ (k : ℕ). without_entry (with_row s k vacant_row) (endpoint_of (row_of s k))) w.1 ∙ changed _ (without s i) s w.0,
    )

    -- its writer refuses nothing
    pub close_written : (new : List ℕ) (k : ℕ) → Write.Writes (endpoint_disconnect i) out new (Write.refused k) → ⊥
    close_written new k e = let l : Write.refused k ≡ Write.written (length (encode (endpoint_disconnect i))) = e.0 ∙ fits_written (endpoint_disconnect i) (length out) (close_fits s i (length out) (sym w.0)).fits in cc

-- ---- Booth packet

-- the identifier of a row has its width
identifier_length : (s : List ℕ) (place : ℕ) → length s ≡ block_length → place < places → length (identifier_of (row_of s place)) ≡ width
unfolding identifier_of
identifier_length s place l h =
    part_length (row_of s place) identifier_at (identifier_at + width) (omega (arith, row_length_lem s record { size = l } place h)) ∙ omega arith

dtls_body : (i packet : List ℕ) → length i ≡ width → length (encode_body (tunneled_dtls i packet)) ≡ width + 2 + length packet
dtls_body i packet h = simp length-append (omega arith)

-- a DTLS packet is not empty
dtls_some : (packet : List ℕ) → not_dtls packet ≡ false → 1 ≤ length packet
unfolding not_dtls sorting
dtls_some [] h = absurd (false_true (sym h))
dtls_some (x ∷ packet) h = omega arith

module _ (s : List ℕ) (l : length s ≡ block_length) (e : ℕ) (packet : List ℕ) where
  module _ (h : serves s e ≡ true) where
    served_width : length (identifier_of (row_of s (place_of_endpoint s e))) ≡ width
    served_width = identifier_length s (place_of_endpoint s e) l (ltb-true _ _ h)

    packet_body : length (encode_body (packet_message s e packet)) ≡ width + 2 + length packet
    unfolding packet_message
    packet_body = dtls_body (identifier_of (row_of s (place_of_endpoint s e))) packet served_width

    pub packet_length : length (encode (packet_message s e packet)) ≡ header + width + 2 + length packet
    packet_length = encode_length (packet_message s e packet) ∙ ap (λ (n : ℕ). header + n) packet_body ∙ omega arith

  -- refused by itself, where an association has the endpoint
  abbrev pub alone : (room : ℕ) → Verdict
  alone room = refuse (not_dtls packet) 14 (refuse (too_long packet) 15 (refuse (ltb room (header + width + 2 + length packet)) 13 allowed))

  unserved_same : (b : Bool) (v x : Verdict) → (b ≡ true → v ≡ x) → refuse (not b) 6 v ≡ refuse (not b) 6 x
  unserved_same true v x h = h refl
  unserved_same false v x h = refl

  pub packet_by_alone : (room : ℕ) → up s ≡ true → packet_verdict s e packet room ≡ refuse (not (serves s e)) 6 (alone room)
  unfolding packet_verdict
  packet_by_alone room u =
      rw u (unserved_same (serves s e) _ _ (λ h. ap (λ (k : ℕ). refuse (not_dtls packet) 14 (refuse (too_long packet) 15 (refuse (ltb room k) 13 allowed))) (packet_length h)))

  packet_fits : (room : ℕ) → packet_verdict s e packet room ≡ allowed → Fits (packet_message s e packet) room
  unfolding packet_verdict packet_message
  packet_fits room h =
      let a = passed (not (serves s e)) _ _ (passed (not (up s)) _ _ h).1 in
      let b = passed (not_dtls packet) _ _ a.1 in
      let d = passed (too_long packet) _ _ b.1 in
      let v = not-false _ a.0 in
      let n = ltb-false packet_limit (length packet) d.0 in
      let r = ltb-false room (length (encode (packet_message s e packet))) (passed (no_room (packet_message s e packet) room) _ _ d.1).0 in
      record {
        identifier = eq-eqb _ _ (served_width v);
        fields = inside 1 most16 (length packet) (dtls_some packet b.0) (omega (arith, n));
        limit = omega (arith, packet_body v, n);
        there = r;
      }

  module _ (out : List ℕ) (n : ℕ) (w : (allowed ≡ packet_verdict s e packet (length out)) × (n ≡ place_of_endpoint s e)) where
    packet_served : serves s e ≡ true
    packet_served = packet_passed s e packet (length out) (sym w.0)

    -- the identifier that the message has is that of the endpoint's row
    packet_identifier : (i row : List ℕ) → i ≡ padded width (part row identifier_at (identifier_at + width)) → row ≡ row_of s n
        → i ≡ identifier_of (row_of s (place_of_endpoint s e))
    unfolding identifier_of
    packet_identifier i row j k =
        j
        ∙ ap (λ (r : List ℕ). padded width (part r identifier_at (identifier_at + width))) (k ∙ ap (row_of s) w.1)
        ∙ padded_whole width _ (served_width packet_served)

    pub packet_sent : (new i row : List ℕ) (r : Result ℕ Refusal) → Write.Writes (tunneled_dtls i packet) out new (answer_of r)
        → i ≡ padded width (part row identifier_at (identifier_at + width)) → row ≡ row_of s n → Sends (packet_answer s e packet (length out)) out new r
    unfolding packet_answer packet_message
    packet_sent new i row r o j k =
        was_sent _ (packet_message s e packet) out new w.0 (packet_fits (length out) (sym w.0)) r
        (subst (λ (x : List ℕ). Write.Writes (tunneled_dtls x packet) out new (answer_of r)) (packet_identifier i row j k) o)

pub packet_refused : (s : List ℕ) (e : ℕ) (packet out : List ℕ) {x : Result ℕ Refusal} (r : Refusal)
    → x ≡ Err r → refusal (number_of r) ≡ packet_verdict s e packet (length out) → Sends (packet_answer s e packet (length out)) out out x
unfolding packet_answer
packet_refused s e packet out {x} r t w =
    subst (λ (y : Result ℕ Refusal). Sends (packet_answer s e packet (length out)) out out y) (sym t) (not_sent _ r _ out w)

-- ---- Open, refused

pub open_refused : (s i : List ℕ) (e : ℕ) {x : Result ℕ Refusal} (r : Refusal) → x ≡ Err r → refusal (number_of r) ≡ open_verdict s i e
    → (opened_of x ≡ open_answer s i e) × (s ≡ open_next s i e)
unfolding open_answer open_next
open_refused s i e {x} r t w = (ap opened_of t ∙ rw (← w) refl, kept _ _ _ s w)
