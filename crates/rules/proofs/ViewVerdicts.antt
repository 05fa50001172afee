-- The verdicts on a block are those on its view, and what an allowed call has passed.
use Prim.Native.Nat.{ℕ}
use mathlib.Core.Path.{◌≡◌, refl, ap, ◌∙◌}
use mathlib.Core.Bool.{Bool, true, false, not}
use mathlib.Core.List.{List}
use borrow.Author.Tests.{eqb-true, not-false}
use lib.ListN.{length}
use Rattle.message.specs.Limits.{width}
use Rattle.message.specs.Message.{tunneled_dtls}
use Rattle.message.specs.Profiles.{good_list, in_list, keys_fit, mki_and_salts_fit}
use Rattle.message.specs.Keys.{KeyLengths}
use Rattle.rules.specs.Layout.{up, list_of, row_of}
use Rattle.rules.specs.Verdict.{allowed}
use Rattle.rules.specs.Orders.{packet_order}
use Rattle.rules.specs.Refusals.{wrong_width, no_room, not_dtls, too_long}
use Rattle.rules.specs.Table.{place_of_endpoint, knows, serves, has_room, start_verdict, open_verdict, packet_message, packet_verdict, close_verdict, look_verdict, page_verdict, keys_verdict}
use Rattle.rules.specs.Tunnel.{list_in}
use Rattle.rules.specs.View.{view, identifier_in}
use Rattle.rules.specs.ViewSteps as Steps
use Rattle.rules.proofs.Legal.{Legal}
use Rattle.rules.proofs.TunnelLaws.{tunnel_list}
use Rattle.rules.proofs.VerdictLaws.{passed}
use Rattle.rules.proofs.ViewTests.{view_up, view_knows, view_serves, view_room, view_served, association_identifier}
use Rattle.rules.proofs.ViewPages.{view_entries}

-- ---- the same verdicts

module _ (s : List ℕ) where
  pub view_start_verdict : (list : List ℕ) (room : ℕ) → Steps.start_verdict (view s) list room ≡ start_verdict s list room
  unfolding Steps.start_verdict start_verdict
  view_start_verdict list room = rw (view_up s)

  pub view_open_verdict : Legal s → (i : List ℕ) (e : ℕ) → Steps.open_verdict (view s) i e ≡ open_verdict s i e
  unfolding Steps.open_verdict open_verdict
  view_open_verdict l i e = rw (view_up s, view_knows s i, view_serves s l e, view_room s)

  pub view_close_verdict : (i : List ℕ) (room : ℕ) → Steps.close_verdict (view s) i room ≡ close_verdict s i room
  unfolding Steps.close_verdict close_verdict
  view_close_verdict i room = rw (view_up s, view_knows s i)

  pub view_look_verdict : Legal s → (e : ℕ) → Steps.look_verdict (view s) e ≡ look_verdict s e
  unfolding Steps.look_verdict look_verdict
  view_look_verdict l e = rw (view_up s, view_serves s l e)

  pub view_page_verdict : (room : ℕ) → Steps.page_verdict (view s) room ≡ page_verdict s room
  unfolding Steps.page_verdict page_verdict
  view_page_verdict room = rw (view_entries s)

  view_list : up s ≡ true → list_in (view s).tunnel ≡ list_of s
  unfolding view
  view_list u = tunnel_list s u

  -- the list of a tunnel that is down is empty in the view
  pub view_keys_verdict : up s ≡ true → (i : List ℕ) (profile : ℕ) (k : KeyLengths) → Steps.keys_verdict (view s) i profile k ≡ keys_verdict s i profile k
  unfolding Steps.keys_verdict keys_verdict
  view_keys_verdict u i profile k = rw (view_knows s i, view_list u)

  -- a message to an endpoint need only be known where it is served
  pub view_packet_message : Legal s → (e : ℕ) (packet : List ℕ) → serves s e ≡ true → Steps.packet_message (view s) e packet ≡ packet_message s e packet
  unfolding packet_message
  view_packet_message l e packet h =
      ap (λ (i : List ℕ). tunneled_dtls i packet) (ap identifier_in (view_served s l e h) ∙ association_identifier (row_of s (place_of_endpoint s e)))

  pub view_packet_verdict : Legal s → (e : ℕ) (packet : List ℕ) (room : ℕ) → Steps.packet_verdict (view s) e packet room ≡ packet_verdict s e packet room
  unfolding Steps.packet_verdict packet_verdict
  view_packet_verdict l e packet room = rw (view_up s, view_serves s l e) (go (serves s e) (view_packet_message l e packet))
    where
      go : (b : Bool) → (b ≡ true → Steps.packet_message (view s) e packet ≡ packet_message s e packet)
          → packet_order (not (up s)) (not b) (not_dtls packet) (too_long packet) (no_room (Steps.packet_message (view s) e packet) room)
          ≡ packet_order (not (up s)) (not b) (not_dtls packet) (too_long packet) (no_room (packet_message s e packet) room)
      go true h = rw (h refl)
      go false h = refl

-- ---- what an allowed call has passed

pub record OpenPassed (s i : List ℕ) (e : ℕ) : Type 0 where
  pub wide : length i ≡ width
  pub fresh : serves s e ≡ false
  pub room : has_room s ≡ true

pub record KeysPassed (s i : List ℕ) (profile : ℕ) (k : KeyLengths) : Type 0 where
  pub known : knows s i ≡ true
  pub keys : keys_fit profile k ≡ true
  pub others : mki_and_salts_fit k ≡ true

module _ (s : List ℕ) where
  pub start_passed : (list : List ℕ) (room : ℕ) → start_verdict s list room ≡ allowed → good_list list ≡ true
  unfolding start_verdict
  start_passed list room h = not-false _ (passed (not (good_list list)) _ _ (passed (up s) _ _ h).1).0

  pub open_passed : (i : List ℕ) (e : ℕ) → open_verdict s i e ≡ allowed → OpenPassed s i e
  unfolding open_verdict
  open_passed i e h =
      let a = passed (wrong_width i) _ _ (passed (not (up s)) _ _ h).1 in
      let b = passed (serves s e) _ _ (passed (knows s i) _ _ a.1).1 in
      record { wide = eqb-true _ _ (not-false _ a.0); fresh = b.0; room = not-false _ (passed (not (has_room s)) _ _ b.1).0 }

  pub close_passed : (i : List ℕ) (room : ℕ) → close_verdict s i room ≡ allowed → knows s i ≡ true
  unfolding close_verdict
  close_passed i room h =
      not-false _ (passed (not (knows s i)) _ _ (passed (wrong_width i) _ _ (passed (not (up s)) _ _ h).1).1).0

  pub packet_passed : (e : ℕ) (packet : List ℕ) (room : ℕ) → packet_verdict s e packet room ≡ allowed → serves s e ≡ true
  unfolding packet_verdict
  packet_passed e packet room h = not-false _ (passed (not (serves s e)) _ _ (passed (not (up s)) _ _ h).1).0

  pub look_passed : (e : ℕ) → look_verdict s e ≡ allowed → serves s e ≡ true
  unfolding look_verdict
  look_passed e h = not-false _ (passed (not (serves s e)) _ _ (passed (not (up s)) _ _ h).1).0

  pub keys_passed : (i : List ℕ) (profile : ℕ) (k : KeyLengths) → keys_verdict s i profile k ≡ allowed → KeysPassed s i profile k
  unfolding keys_verdict
  keys_passed i profile k h =
      let a = passed (not (knows s i)) _ _ h in
      let b = passed (not (keys_fit profile k)) _ _ (passed (not (in_list profile (list_of s))) _ _ a.1).1 in
      record { known = not-false _ a.0; keys = not-false _ b.0; others = not-false _ (passed (not (mki_and_salts_fit k)) _ _ b.1).0 }
