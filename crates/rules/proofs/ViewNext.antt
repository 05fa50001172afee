-- The block that a call leaves is seen as the view that the call leaves.
use Prim.Native.Nat.{ℕ, ◌<◌}
use mathlib.Core.Path.{◌≡◌, refl, sym, ap, ap₂, subst, ◌∙◌}
use mathlib.Core.Bool.{true, false}
use mathlib.Core.List.{List, []}
use mathlib.Core.Option.{some, none}
use borrow.Author.Tests.{ltb-true, not-true}
use lib.Dec.{eqb, ltb}
use lib.ListN.{length, get_or, set}
use Rattle.octets.specs.Bounds.{part_in}
use Rattle.message.specs.Parts.{identifier_bounds}
use Rattle.message.specs.Read as Read
use Rattle.message.specs.declared.bodies.Fields.{Fields}
use Rattle.message.specs.declared.bodies.Fields.TheVariants.{SupportedProfiles, UnsupportedVersion, MediaKeys, TunneledDtls, EndpointDisconnect}
use Rattle.message.specs.Keys.{KeyLengths}
use Rattle.rules.specs.Limits.{places}
use Rattle.rules.specs.Keys.{Keys, keys_in}
use Rattle.rules.specs.Call.{Call, start, opening, booth_packet, tunnel_octets, close, end, look, write_page}
use Rattle.rules.specs.Layout.{up, rows, row_of, live, vacant, serving, identifier_of, endpoint_of, row_length, vacant_row, open_row, keyed_row, with_row}
use Rattle.rules.specs.Search as Search
use Rattle.rules.proofs.Entries as Entries
use Rattle.rules.specs.Index.{with_entry}
use Rattle.rules.proofs.SearchLaws.{some_first, first_passes}
use Rattle.rules.proofs.RowsLaws.{rows_length}
use Rattle.rules.specs.Verdict.{allowed}
use Rattle.rules.specs.Answer.{Association, opened, keyed}
use Rattle.rules.specs.Refusals.{receiving}
use Rattle.rules.specs.Table.{place_of_identifier, vacant_place, knows, serves, has_room, start_verdict, open_verdict, close_verdict, keys_verdict, start_next, open_next, close_next, end_next, fields_next, read_next, octets_next, association_of, without, rekeyed, step}
use Rattle.rules.specs.View.{view, identifier_in, endpoint_in, is_for}
use Rattle.rules.specs.ViewSteps as Steps
use Rattle.rules.specs.ViewSteps.{is_vacant, set_first, first_with, rekey, view_step}
use Rattle.rules.proofs.RowsLaws.{row_length_lem}
use Rattle.rules.proofs.Legal.{Legal, place_first}
use Rattle.rules.proofs.LegalSteps.{row_tells, vacant_live, front_with, with_table}
use Rattle.rules.proofs.IndexTable as Index
use Rattle.rules.proofs.RowLaws.{vacant_row_length, vacant_row_lem, open_row_length, open_row_lem, keyed_row_length, keyed_row_lem}
use Rattle.rules.proofs.KeysRoom.{keys_room}
use Rattle.rules.proofs.ViewTests.{view_up, view_identifier, view_vacant, view_knows, view_known, known_live, association_identifier, association_endpoint}
use Rattle.rules.proofs.ViewVerdicts.{view_start_verdict, view_open_verdict, view_close_verdict, view_keys_verdict, start_passed, open_passed, close_passed, keys_passed}
use Rattle.rules.proofs.Seen.{Seen, as_it_is, by_verdict, by_test, down_seen, up_seen, row_seen}

rekey_is : (k : Keys) (a : Association) → rekey k a ≡ keyed (identifier_in a) (endpoint_in a) k
rekey_is k (opened i e) = refl
rekey_is k (keyed i e old) = refl

-- ---- what the index asks for

room_vacant : (s : List ℕ) → has_room s ≡ true → live (get_or (rows s) (vacant_place s) []) ≡ false
unfolding vacant_place vacant
room_vacant s h = not-true _ (first_passes vacant (rows s) [] (rw (rows_length s) (ltb-true _ _ h)))

fresh_none : (s : List ℕ) → Legal s → (e : ℕ) → serves s e ≡ false → Search.some_of (Entries.serving live endpoint_of e) (rows s) ≡ false
unfolding serving
fresh_none s l e h = some_first (serving e) (rows s) ∙ ap₂ ltb (sym (place_first s l e)) (rows_length s) ∙ h

known_row : (s i : List ℕ) → knows s i ≡ true → live (get_or (rows s) (place_of_identifier s i) []) ≡ true
unfolding row_of
known_row s i h = known_live s i h

rekey_legal : (s : List ℕ) (l : Legal s) (at : ℕ) (w : at < places) (r : List ℕ) (n : length r ≡ row_length) → live r ≡ live (row_of s at) → endpoint_of r ≡ endpoint_of (row_of s at)
    → Index.Legal live endpoint_of (front_with s l at w r n) (with_row s at r) (set (rows s) at r)
unfolding row_of
rekey_legal s l at w r n a b = Index.legal_rekey live endpoint_of [] _ (with_row s at r) (rows s) (with_table s l at w r n) at w r a b

-- ---- the block that a call leaves

module _ (s : List ℕ) (l : Legal s) where
  start_seen : (list : List ℕ) (room : ℕ) → Seen (step s (start list room)) (view_step (view s) (start list room))
  unfolding step view_step start_next
  start_seen list room =
      rw (view_start_verdict s list room)
      (by_verdict (start_verdict s list room) (λ h. up_seen list (start_passed s list room h)) (as_it_is s l))

  open_seen : (i : List ℕ) (e : ℕ) → Seen (step s (opening i e)) (view_step (view s) (opening i e))
  unfolding step view_step open_next
  open_seen i e =
      rw (view_open_verdict s l i e)
      (by_verdict (open_verdict s i e) (λ h.
      let o = open_passed s i e h in
      let at = vacant_place s in
      let r = open_row i e in
      let w : at < places = ltb-true _ _ o.room in
      let n = open_row_length i e in
      let f = open_row_lem i e o.wide in
      let q = row_tells r (opened i e) f in
      let k = Index.legal_open live endpoint_of [] (front_with s l at w r n) (with_row s at r) (rows s) (with_table s l at w r n) at w r
      (room_vacant s o.room) q.0 (fresh_none s l (endpoint_of r) (ap (serves s) q.1 ∙ o.fresh)) in
      row_seen s l at w r n (some (opened i e)) f is_vacant (view_vacant s)
      (with_entry (with_row s at r) e at) (subst (λ (a : ℕ). Index.Legal live endpoint_of (front_with s l at w r n) (with_entry (with_row s at r) a at) (set (rows s) at r)) q.1 k))
      (as_it_is s l))

  without_seen : (i : List ℕ) → knows s i ≡ true → Seen (without s i) (set_first (is_for i) none (view s))
  unfolding row_of
  without_seen i h =
      let at = place_of_identifier s i in
      let w : at < places = ltb-true _ _ h in
      row_seen s l at w vacant_row vacant_row_length none vacant_row_lem (is_for i) (view_identifier s i)
      (without s i) (Index.legal_close live endpoint_of [] _ (with_row s at vacant_row) (rows s) (with_table s l at w vacant_row vacant_row_length) at w vacant_row (known_row s i h) vacant_live)

  close_seen : (i : List ℕ) (room : ℕ) → Seen (step s (close i room)) (view_step (view s) (close i room))
  unfolding step view_step close_next
  close_seen i room =
      rw (view_close_verdict s i room)
      (by_verdict (close_verdict s i room) (λ h. without_seen i (close_passed s i room h)) (as_it_is s l))

  end_seen : Seen (step s end) (view_step (view s) end)
  unfolding step view_step end_next
  end_seen = rw (view_up s) (by_test (up s) (λ _. down_seen) (as_it_is s l))

  rekeyed_seen : (i octets : List ℕ) (profile : ℕ) (k : KeyLengths) → keys_verdict s i profile k ≡ allowed
      → Seen (rekeyed s i octets profile k) (set_first (is_for i) (some (rekey (keys_in octets profile k) (first_with (is_for i) (view s)))) (view s))
  rekeyed_seen i octets profile k h =
      let o = keys_passed s i profile k h in
      let at = place_of_identifier s i in
      let within : at < places = ltb-true _ _ o.known in
      let r = row_of s at in
      let new = keys_in octets profile k in
      let n = row_length_lem s l.sized at within in
      let f : rekey new (first_with (is_for i) (view s)) ≡ keyed (identifier_of r) (endpoint_of r) new =
      ap (rekey new) (view_known s i o.known) ∙ rekey_is new (association_of r)
      ∙ ap₂ (λ (j : List ℕ) (e : ℕ). keyed j e new) (association_identifier r) (association_endpoint r) in
      let new_row = keyed_row new r in
      let nl = keyed_row_length new r n in
      let kr = keyed_row_lem new r n (keys_room octets profile k o.keys o.others) in
      let q = row_tells new_row (keyed (identifier_of r) (endpoint_of r) new) kr in
      row_seen s l at within new_row nl (some (rekey new (first_with (is_for i) (view s))))
      (kr ∙ ap some (sym f)) (is_for i) (view_identifier s i)
      (with_row s at new_row)
      (rekey_legal s l at within new_row nl (q.0 ∙ sym (known_live s i o.known)) q.1)

  fields_seen : up s ≡ true → (octets : List ℕ) (f : Fields) → Seen (fields_next s octets f) (Steps.fields_next (view s) octets f)
  unfolding fields_next Steps.fields_next
  fields_seen u octets (SupportedProfiles v n) = as_it_is s l
  fields_seen u octets (UnsupportedVersion v) = down_seen
  fields_seen u octets (MediaKeys profile k) =
      rw (view_keys_verdict s u (part_in octets identifier_bounds) profile k)
      (by_verdict (keys_verdict s (part_in octets identifier_bounds) profile k) (rekeyed_seen (part_in octets identifier_bounds) octets profile k) (as_it_is s l))
  fields_seen u octets (TunneledDtls n) = as_it_is s l
  fields_seen u octets EndpointDisconnect =
      rw (view_knows s (part_in octets identifier_bounds))
      (by_test (knows s (part_in octets identifier_bounds)) (without_seen (part_in octets identifier_bounds)) (as_it_is s l))

  read_seen : up s ≡ true → (octets : List ℕ) (a : Read.Answer) → Seen (read_next s octets a) (Steps.read_next (view s) octets a)
  read_seen u octets Read.more_needed = as_it_is s l
  read_seen u octets (Read.refused number taken) = by_test (eqb number 2) (λ _. down_seen) (as_it_is s l)
  read_seen u octets (Read.accepted f taken) = fields_seen u octets f

  octets_seen : (octets : List ℕ) → Seen (step s (tunnel_octets octets)) (view_step (view s) (tunnel_octets octets))
  unfolding step view_step octets_next
  octets_seen octets = rw (view_up s) (by_test (up s) (λ u. read_seen u octets (receiving octets)) (as_it_is s l))

  pub step_seen : (c : Call) → Seen (step s c) (view_step (view s) c)
  unfolding step view_step
  step_seen (start list room) = start_seen list room
  step_seen (opening i e) = open_seen i e
  step_seen (booth_packet e packet room) = as_it_is s l
  step_seen (tunnel_octets octets) = octets_seen octets
  step_seen (close i room) = close_seen i room
  step_seen end = end_seen
  step_seen (look e) = as_it_is s l
  step_seen (write_page room) = as_it_is s l
