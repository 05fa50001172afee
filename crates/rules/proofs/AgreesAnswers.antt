-- Where a view and cards agree, every call answers what the cards say, place numbers apart.
use Prim.Native.Nat.{ℕ}
use mathlib.Core.Path.{◌≡◌, refl, sym, ap, ◌∙◌}
use mathlib.Core.Bool.{Bool, true, false, cond, not}
use mathlib.Core.List.{List, []}
use mathlib.Core.Option.{none}
use lib.Dec.{ltb}
use lib.ListN.{length, get_or, replicate}
use Rattle.octets.specs.Bounds.{part_in}
use Rattle.status.specs.Bits.{octets_for}
use Rattle.status.specs.Limits.{page_bits}
use Rattle.status.proofs.PageLaws.{layout_length}
use Rattle.message.specs.Limits.{width}
use Rattle.message.specs.Message.{tunneled_dtls, endpoint_disconnect}
use Rattle.message.specs.Parts.{identifier_bounds, dtls_bounds}
use Rattle.message.specs.Profiles.{good_list, in_list, keys_fit, mki_and_salts_fit}
use Rattle.message.specs.Read as Read
use Rattle.message.specs.declared.bodies.Fields.{Fields}
use Rattle.message.specs.declared.bodies.Fields.TheVariants.{SupportedProfiles, UnsupportedVersion, MediaKeys, TunneledDtls, EndpointDisconnect}
use Rattle.message.specs.Keys.{KeyLengths}
use Rattle.rules.specs.Search as Search
use Rattle.rules.specs.Tunnel.{is_up, list_in}
use Rattle.rules.specs.Call as Call
use Rattle.rules.specs.Verdict.{Verdict, allowed, refusal, refuse}
use Rattle.rules.specs.Answer.{Association, Answer, refused, found, delivery, keys_stored, removed, answered}
use Rattle.rules.specs.Refusals.{wrong_width, no_room, not_dtls, too_long, start_message, receiving}
use Rattle.rules.specs.View.{AtPlace, View, identifier_in, is_for}
use Rattle.rules.specs.Cards.{Held, blank, opened, keyed, Cards, filled, holding, live, endpoint_live, all_live}
use Rattle.rules.specs.CardAnswers as CardAnswers
use Rattle.rules.specs.CardAnswers.{tunnel_on, identifier_with, association_on, by_card, message_expected, read_expected, expected}
use Rattle.rules.specs.Claim.{except_place}
use Rattle.rules.specs.ViewSteps.{entries_in, is_serving, association_at, first_with, endpoint_for, has, start_verdict, open_verdict, packet_verdict, close_verdict, look_verdict, page_verdict, keys_verdict, fields_answer, read_answer, view_answer}
use Rattle.rules.specs.Orders.{start_order, open_order, close_order, keys_order}
use Rattle.rules.proofs.KeepLaws.{first_found, first_none, first_kept, first_is}
use Rattle.rules.proofs.ProfilesLaws.{expected_reads}
use Rattle.rules.proofs.Agrees.{Agrees, places_on}
use Rattle.rules.proofs.AgreesSays.{known_is, serving_card, busy_is}
use Rattle.rules.proofs.AgreesPages.{agrees_pages}
use Rattle.rules.proofs.AgreesVerdicts.{up_is, open_is, close_is, keys_is}

-- ---- answers, place numbers apart

except_cond : (b : Bool) (x y : Answer) → except_place (cond b x y) ≡ cond b (except_place x) (except_place y)
except_cond true x y = refl
except_cond false x y = refl

-- under verdicts that are equal
except_answered : {w u : Verdict} (n : ℕ) (a : Answer) → w ≡ u → except_place (answered w n a) ≡ answered u n (except_place a)
except_answered {w} n a q = go w ∙ ap (λ (x : Verdict). answered x n (except_place a)) q
  where
    go : (w : Verdict) → except_place (answered w n a) ≡ answered w n (except_place a)
    go allowed = refl
    go (refusal number) = refl

-- where refusal 6 comes first
known_first : (known : Bool) (w : Verdict) (taken : ℕ) (a : Answer) → answered (refuse (not known) 6 w) taken a ≡ cond known (answered w taken a) (refused 6 taken)
known_first true w taken a = refl
known_first false w taken a = refl

-- what Look finds counts only where the endpoint is live
found_live : (down live : Bool) (a b : Association) → (live ≡ true → a ≡ b)
    → answered (refuse down 1 (refuse (not live) 6 allowed)) 0 (found a) ≡ answered (refuse down 1 (refuse (not live) 6 allowed)) 0 (found b)
found_live true live a b f = refl
found_live false true a b f = ap found (f refl)
found_live false false a b f = refl

module _ {v : View} {cards : Cards} (g : Agrees v cards) where
  up_on : is_up v.tunnel ≡ is_up (tunnel_on cards)
  up_on = sym (up_is g (replicate width 0))

  -- ---- what serves an endpoint

  module _ (e : ℕ) where
    abbrev at : List ℕ → Bool
    at i = holding e (cards.card i).held

    abbrev server : AtPlace
    server = get_or v.table (Search.first (is_serving e) v.table) none

    served_identifier : identifier_in (first_with (is_serving e) v) ≡ identifier_with cards e
    served_identifier = go (has (is_serving e) v) refl ∙ first_kept at [] cards.opening
      where
        go : (b : Bool) → has (is_serving e) v ≡ b → identifier_in (association_at server) ≡ get_or cards.opening (Search.first at cards.opening) []
        go true h =
            let r = first_found (is_serving e) none v.table h in
            let o = first_found at [] cards.opening (sym (busy_is g e) ∙ h) in
            g.ends _ _ e (serving_card g e server r.0 r.1).1 o.1
        go false h =
            ap (λ (s : AtPlace). identifier_in (association_at s)) (first_none (is_serving e) none v.table h)
            ∙ sym (first_none at [] cards.opening (sym (busy_is g e) ∙ h))

    served : endpoint_live cards e ≡ true → first_with (is_serving e) v ≡ association_on (identifier_with cards e) (cards.card (identifier_with cards e)).held
    served h =
        let r = first_found (is_serving e) none v.table (busy_is g e ∙ h) in
        (serving_card g e server r.0 r.1).0.association ∙ ap (λ (i : List ℕ). association_on i (cards.card i).held) served_identifier

  -- ---- the verdicts

  start_expected_lem : (list : List ℕ) (room : ℕ) → start_verdict v list room ≡ start_order (is_up (tunnel_on cards)) (not (good_list list)) (no_room (start_message list) room)
  unfolding start_verdict
  start_expected_lem list room = rw up_on

  open_expected_lem : (i : List ℕ) (e : ℕ)
      → open_verdict v i e ≡ open_order (CardAnswers.is_down cards) (wrong_width i) (filled (cards.card i).held) (endpoint_live cards e) (all_live cards)
  open_expected_lem i e = open_is g i e ∙ rw up_on

  packet_expected_lem : (e : ℕ) (packet : List ℕ) (room : ℕ)
      → packet_verdict v e packet room
      ≡ refuse (CardAnswers.is_down cards) 1
      (refuse (not (endpoint_live cards e)) 6
      (refuse (not_dtls packet) 14
      (refuse (too_long packet) 15
      (refuse (no_room (tunneled_dtls (identifier_with cards e) packet) room) 13 allowed))))
  unfolding packet_verdict
  packet_expected_lem e packet room = rw (up_on, busy_is g e, served_identifier e)

  close_expected_lem : (i : List ℕ) (room : ℕ)
      → close_verdict v i room ≡ close_order (CardAnswers.is_down cards) (wrong_width i) (not (filled (cards.card i).held)) (no_room (endpoint_disconnect i) room)
  close_expected_lem i room = close_is g i room ∙ rw up_on

  look_expected_lem : (e : ℕ) → look_verdict v e ≡ refuse (CardAnswers.is_down cards) 1 (refuse (not (endpoint_live cards e)) 6 allowed)
  unfolding look_verdict
  look_expected_lem e = rw (up_on, busy_is g e)

  page_expected_lem : (room : ℕ) → page_verdict v room ≡ refuse (ltb room (octets_for (page_bits (length (live cards))))) 13 allowed
  unfolding page_verdict
  page_expected_lem room = rw (layout_length (entries_in v), (agrees_pages v cards g).number)

  keys_expected : (i : List ℕ) (profile : ℕ) (k : KeyLengths)
      → keys_verdict v i profile k
      ≡ keys_order (not (filled (cards.card i).held)) (not (in_list profile (list_in (tunnel_on cards)))) (not (keys_fit profile k)) (not (mki_and_salts_fit k))
  keys_expected i profile k = keys_is g i profile k ∙ rw (g.tunnel (replicate width 0))

  -- ---- Tunnel octets

  module _ (octets : List ℕ) where
    abbrev i : List ℕ
    i = part_in octets identifier_bounds

    -- 7, 8, 9 by the cards' list
    abbrev listed : (profile : ℕ) → KeyLengths → Verdict
    listed profile k = refuse (not (in_list profile (list_in (tunnel_on cards)))) 7 (refuse (not (keys_fit profile k)) 8 (refuse (not (mki_and_salts_fit k)) 9 allowed))

    -- by the endpoint of the association, or of the card
    card_answer : (taken : ℕ) (a : ℕ → Answer) → cond (has (is_for i) v) (a (endpoint_for v i)) (refused 6 taken) ≡ by_card (cards.card i).held taken a
    card_answer taken a = go (cards.card i).held (known_is g i) (g.on_cards i)
      where
        go : (h : Held) → has (is_for i) v ≡ filled h → Search.keep (is_for i) v.table ≡ places_on i h
            → cond (has (is_for i) v) (a (endpoint_for v i)) (refused 6 taken) ≡ by_card h taken a
        go blank q s = rw q
        go (opened e) q s = rw (q, first_is (is_for i) none v.table s)
        go (keyed e k) q s = rw (q, first_is (is_for i) none v.table s)

    keys_answer_lem : (profile : ℕ) (k : KeyLengths) (taken : ℕ)
        → except_place (answered (keys_verdict v i profile k) taken (keys_stored (endpoint_for v i) taken)) ≡ message_expected cards octets (MediaKeys profile k) taken
    keys_answer_lem profile k taken =
        let w : keys_verdict v i profile k ≡ refuse (not (has (is_for i) v)) 6 (listed profile k) = keys_expected i profile k ∙ rw (known_is g i) in
        except_answered taken (keys_stored (endpoint_for v i) taken) w
        ∙ known_first (has (is_for i) v) _ taken _
        ∙ card_answer taken (λ e. answered (listed profile k) taken (keys_stored e taken))

    fields_answer_lem : (f : Fields) (taken : ℕ) → except_place (fields_answer v octets f taken) ≡ message_expected cards octets f taken
    unfolding fields_answer
    fields_answer_lem (SupportedProfiles x n) taken = refl
    fields_answer_lem (UnsupportedVersion x) taken = refl
    fields_answer_lem (MediaKeys profile k) taken = keys_answer_lem profile k taken
    fields_answer_lem (TunneledDtls n) taken = except_cond (has (is_for i) v) _ _ ∙ card_answer taken (λ e. delivery e (dtls_bounds n) taken)
    fields_answer_lem EndpointDisconnect taken = except_cond (has (is_for i) v) _ _ ∙ card_answer taken (λ e. removed e taken)

    read_answer_lem : (r : Read.Answer) → except_place (read_answer v octets r) ≡ read_expected cards octets r
    read_answer_lem Read.more_needed = refl
    read_answer_lem (Read.refused number taken) = refl
    read_answer_lem (Read.accepted f taken) = fields_answer_lem f taken

-- ---- every call

pub agrees_answer : (v : View) (cards : Cards) → Agrees v cards → (c : Call.Call) → except_place (view_answer v c) ≡ expected cards c
unfolding view_answer expected
agrees_answer v cards g (Call.start list room) = except_answered 0 _ (start_expected_lem g list room)
agrees_answer v cards g (Call.opening i e) = except_answered 0 _ (open_expected_lem g i e)
agrees_answer v cards g (Call.booth_packet e packet room) = except_answered 0 _ (packet_expected_lem g e packet room) ∙ rw (served_identifier g e)
agrees_answer v cards g (Call.tunnel_octets octets) = except_cond (is_up v.tunnel) _ _ ∙ rw (up_on g, read_answer_lem g octets (receiving octets), expected_reads cards octets)
agrees_answer v cards g (Call.close i room) = except_answered 0 _ (close_expected_lem g i room)
agrees_answer v cards g Call.end = except_cond (is_up v.tunnel) _ _ ∙ rw (up_on g)
agrees_answer v cards g (Call.look e) = except_answered 0 _ (look_expected_lem g e) ∙ found_live (CardAnswers.is_down cards) (endpoint_live cards e) _ _ (served g e)
agrees_answer v cards g (Call.write_page room) = except_answered 0 _ (page_expected_lem g room)
