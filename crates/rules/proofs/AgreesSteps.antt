-- Each call keeps a view and cards in agreement.
use Prim.Native.Nat.{ℕ}
use mathlib.Core.Path.{◌≡◌, refl, sym, ap, ◌∙◌}
use mathlib.Core.Bool.{true, cond, not, ◌&&◌}
use mathlib.Core.List.{List}
use mathlib.Core.Option.{some, none}
use borrow.Author.Tests.{eqb-true, eq-eqb, not-false}
use lib.ListN.{length, set}
use Rattle.octets.specs.Part.{same}
use Rattle.octets.proofs.SameLaws.{same_refl}
use Rattle.octets.proofs.Tests.{by_choice}
use Rattle.message.specs.Limits.{width}
use Rattle.message.specs.Message.{endpoint_disconnect}
use Rattle.message.specs.Profiles.{good_list}
use Rattle.rules.specs.Search.{first}
use Rattle.rules.specs.Tunnel.{down, up_with, is_up}
use Rattle.rules.specs.Call as Call
use Rattle.rules.specs.Verdict.{after}
use Rattle.rules.specs.Answer as Answer
use Rattle.rules.specs.Refusals.{wrong_width, no_room, start_message}
use Rattle.rules.specs.View.{View, is_for}
use Rattle.rules.specs.Cards as Cards
use Rattle.rules.specs.Cards.{blank, opened, Cards, filled, endpoint_live, all_live}
use Rattle.rules.specs.ViewSteps.{is_vacant, set_first, down_view, up_view, is_down, start_verdict, open_verdict, close_verdict, view_step}
use Rattle.rules.proofs.Choices.{chosen}
use Rattle.rules.proofs.NamingLaws.{naming_more, naming_once, naming_here}
use Rattle.rules.proofs.Accepting.{accepts, by_verdict, passes, start_accepts, open_accepts, close_accepts}
use Rattle.rules.proofs.Agrees.{Agrees}
use Rattle.rules.proofs.AgreesSays.{full_is}
use Rattle.rules.proofs.AgreesVerdicts.{up_is, open_is, close_is}
use Rattle.rules.proofs.AgreesChange.{all_blank, blanking, idle_card, same_named, unchanged, Stored, one_verdict}
use Rattle.rules.proofs.AgreesStores.{open_stored, removed_stored}
use Rattle.rules.proofs.AgreesOctets.{octets_step}

module _ {v : View} {cards : Cards} (g : Agrees v cards) where
  -- ---- Start

  module _ (list : List ℕ) (room : ℕ) where
    start_test : (i : List ℕ) → (not (is_up (cards.card i).tunnel) && good_list list && not (no_room (start_message list) room)) ≡ accepts (start_verdict v list room)
    unfolding start_verdict
    start_test i = rw (up_is g i) (start_accepts (is_up v.tunnel) (good_list list) (no_room (start_message list) room))

    start_step : Agrees (after (start_verdict v list room) (up_view list) v) (Cards.next cards (Call.start list room))
    unfolding Cards.next Cards.card_next Cards.opening_next
    start_step =
        by_verdict (λ (x : View). Agrees x (Cards.next cards (Call.start list room))) (start_verdict v list room) (up_view list) v
        (λ q. all_blank (up_with list) _ (λ i. chosen _ (cards.card i) (start_test i ∙ q)) g.once)
        (λ q. unchanged g _ (same_named g) (λ i. chosen _ (cards.card i) (start_test i ∙ q)))

  -- ---- Open

  module _ (i : List ℕ) (e : ℕ) where
    open_test : (same i i && not (wrong_width i) && is_up (cards.card i).tunnel && not (filled (cards.card i).held) && not (endpoint_live cards e) && not (all_live cards))
        ≡ accepts (open_verdict v i e)
    open_test =
        rw (same_refl i, up_is g i, open_is g i e)
        (open_accepts (wrong_width i) (is_up v.tunnel) (filled (cards.card i).held) (endpoint_live cards e) (all_live cards))

    opened_at_lem : accepts (open_verdict v i e) ≡ true
        → Stored g i (opened e) (Cards.next cards (Call.opening i e)) (set v.table (first is_vacant v.table) (some (Answer.opened i e)))
    unfolding Cards.next Cards.opening_next
    opened_at_lem q =
        let p1 = passes (is_down v) 1 _ (sym (ap accepts (open_is g i e)) ∙ q) in
        let p20 = passes (wrong_width i) 20 _ p1.1 in
        let p11 = passes (filled (cards.card i).held) 11 _ p20.1 in
        let p12 = passes (endpoint_live cards e) 12 _ p11.1 in
        let p10 = passes (all_live cards) 10 _ p12.1 in
        let w : length i ≡ width = eqb-true (length i) width (not-false _ p20.0) in
        open_stored g i _ e (not-false _ p1.0) w p11.0 p12.0 (not-false _ (full_is g ∙ p10.0)) (naming_here i cards.opening w)

    open_step : Agrees (after (open_verdict v i e) (set_first is_vacant (some (Answer.opened i e)) v) v) (Cards.next cards (Call.opening i e))
    unfolding Cards.next Cards.card_next Cards.opening_next
    open_step =
        one_verdict g i (opened e) _ _ (open_verdict v i e)
        (record {
          named = record { more = naming_more i cards.opening; once = naming_once i cards.opening g.once };
          own = chosen _ (cards.card i) open_test;
          others = λ j q. rw q;
        })
        opened_at_lem

  -- ---- Close

  module _ (i : List ℕ) (room : ℕ) where
    close_test : filled (cards.card i).held ≡ true
        → (same i i && is_up (cards.card i).tunnel && not (no_room (endpoint_disconnect i) room)) ≡ accepts (close_verdict v i room)
    close_test f =
        rw (same_refl i, up_is g i, close_is g i room, f, eq-eqb (length i) width (g.sized i f))
        (close_accepts (is_up v.tunnel) (no_room (endpoint_disconnect i) room))

    close_filled : accepts (close_verdict v i room) ≡ true → filled (cards.card i).held ≡ true
    close_filled q =
        let p1 = passes (is_down v) 1 _ (sym (ap accepts (close_is g i room)) ∙ q) in
        let p20 = passes (wrong_width i) 20 _ p1.1 in
        not-false _ (passes (not (filled (cards.card i).held)) 6 _ p20.1).0

    close_step : Agrees (after (close_verdict v i room) (set_first (is_for i) none v) v) (Cards.next cards (Call.close i room))
    unfolding Cards.next Cards.card_next Cards.opening_next
    close_step =
        one_verdict g i blank _ _ (close_verdict v i room)
        (record { named = same_named g; own = blanking (cards.card i) _ _ close_test; others = λ j q. rw q })
        (λ q. removed_stored g i _ (close_filled q))

  -- ---- End

  end_step : Agrees (cond (is_up v.tunnel) down_view v) (Cards.next cards Call.end)
  unfolding Cards.next Cards.card_next Cards.opening_next
  end_step =
      by_choice (λ (x : View). Agrees x (Cards.next cards Call.end)) (is_up v.tunnel) down_view v
      (λ q. all_blank down _ (λ i. refl) g.once)
      (λ q. unchanged g _ (same_named g) (idle_card g q))

-- ---- every call

pub agrees_step : (v : View) (cards : Cards) → Agrees v cards → (c : Call.Call) → Agrees (view_step v c) (Cards.next cards c)
unfolding view_step Cards.next Cards.card_next Cards.opening_next
agrees_step v cards g (Call.start list room) = start_step g list room
agrees_step v cards g (Call.opening i e) = open_step g i e
agrees_step v cards g (Call.booth_packet e packet room) = g
agrees_step v cards g (Call.tunnel_octets octets) = octets_step g octets
agrees_step v cards g (Call.close i room) = close_step g i room
agrees_step v cards g Call.end = end_step g
agrees_step v cards g (Call.look e) = g
agrees_step v cards g (Call.write_page room) = g
