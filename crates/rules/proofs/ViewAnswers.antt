-- What a call on a block answers is what the call on its view answers.
use Prim.Native.Nat.{ℕ}
use mathlib.Core.Path.{◌≡◌, refl, sym, ap, ◌∙◌}
use mathlib.Core.Bool.{true}
use mathlib.Core.List.{List}
use Rattle.octets.specs.Bounds.{part_in}
use Rattle.message.specs.Message.{Message, encode}
use Rattle.message.specs.Parts.{identifier_bounds, dtls_bounds}
use Rattle.message.specs.Read as Read
use Rattle.message.specs.declared.bodies.Fields.{Fields}
use Rattle.message.specs.declared.bodies.Fields.TheVariants.{SupportedProfiles, UnsupportedVersion, MediaKeys, TunneledDtls, EndpointDisconnect}
use Rattle.rules.specs.Call.{Call, start, opening, booth_packet, tunnel_octets, close, end, look, write_page}
use Rattle.rules.specs.Layout.{up, row_of}
use Rattle.rules.specs.Answer.{refused, wrote, found, keys_stored, delivery, removed}
use Rattle.rules.specs.Refusals.{receiving}
use Rattle.rules.specs.Table.{place_of_identifier, knows, endpoint_for, keys_verdict, packet_verdict, look_verdict, start_answer, open_answer, packet_answer, close_answer, end_answer, look_answer, page_answer, fields_answer, read_answer, octets_answer, answer}
use Rattle.rules.specs.View.{view, endpoint_in}
use Rattle.rules.specs.ViewSteps as Steps
use Rattle.rules.specs.ViewSteps.{view_answer}
use Rattle.rules.proofs.Legal.{Legal}
use Rattle.rules.proofs.VerdictLaws.{answered_same, cond_same}
use Rattle.rules.proofs.ViewTests.{view_up, view_vacant, view_knows, view_known, view_served, association_endpoint}
use Rattle.rules.proofs.ViewPages.{view_entries}
use Rattle.rules.proofs.ViewVerdicts.{view_start_verdict, view_open_verdict, view_close_verdict, view_look_verdict, view_page_verdict, view_keys_verdict, view_packet_message, view_packet_verdict, packet_passed, look_passed, keys_passed}

module _ (s : List ℕ) where
  endpoint_seen : (i : List ℕ) → knows s i ≡ true → endpoint_for s i ≡ Steps.endpoint_for (view s) i
  endpoint_seen i h = sym (ap endpoint_in (view_known s i h) ∙ association_endpoint (row_of s (place_of_identifier s i)))

  fields_answer_lem : up s ≡ true → (octets : List ℕ) (f : Fields) (taken : ℕ) → fields_answer s octets f taken ≡ Steps.fields_answer (view s) octets f taken
  unfolding fields_answer Steps.fields_answer
  fields_answer_lem u octets (SupportedProfiles v n) taken = refl
  fields_answer_lem u octets (UnsupportedVersion v) taken = refl
  fields_answer_lem u octets (MediaKeys profile k) taken =
      let i = part_in octets identifier_bounds in
      rw (view_keys_verdict s u i profile k)
      (answered_same (keys_verdict s i profile k) taken (λ h. ap (λ (e : ℕ). keys_stored e taken) (endpoint_seen i (keys_passed s i profile k h).known)))
  fields_answer_lem u octets (TunneledDtls n) taken =
      let i = part_in octets identifier_bounds in
      rw (view_knows s i) (cond_same (knows s i) (refused 6 taken) (λ h. ap (λ (e : ℕ). delivery e (dtls_bounds n) taken) (endpoint_seen i h)))
  fields_answer_lem u octets EndpointDisconnect taken =
      let i = part_in octets identifier_bounds in
      rw (view_knows s i) (cond_same (knows s i) (refused 6 taken) (λ h. ap (λ (e : ℕ). removed e taken) (endpoint_seen i h)))

  read_answer_lem : up s ≡ true → (octets : List ℕ) (a : Read.Answer) → read_answer s octets a ≡ Steps.read_answer (view s) octets a
  read_answer_lem u octets Read.more_needed = refl
  read_answer_lem u octets (Read.refused number taken) = refl
  read_answer_lem u octets (Read.accepted f taken) = fields_answer_lem u octets f taken

  pub call_answer : Legal s → (c : Call) → answer s c ≡ view_answer (view s) c
  unfolding answer view_answer start_answer open_answer packet_answer octets_answer close_answer end_answer look_answer page_answer
  call_answer l (start list room) = rw (view_start_verdict s list room)
  call_answer l (opening i e) = rw (view_open_verdict s l i e, view_vacant s)
  call_answer l (booth_packet e packet room) =
      rw (view_packet_verdict s l e packet room)
      (answered_same (packet_verdict s e packet room) 0 (λ h.
      ap (λ (m : Message). wrote (encode m)) (sym (view_packet_message s l e packet (packet_passed s e packet room h)))))
  call_answer l (tunnel_octets octets) = rw (view_up s) (cond_same (up s) (refused 1 0) (λ u. read_answer_lem u octets (receiving octets)))
  call_answer l (close i room) = rw (view_close_verdict s i room)
  call_answer l end = rw (view_up s)
  call_answer l (look e) =
      rw (view_look_verdict s l e) (answered_same (look_verdict s e) 0 (λ h. ap found (sym (view_served s l e (look_passed s e h)))))
  call_answer l (write_page room) = rw (view_page_verdict s room, view_entries s)
