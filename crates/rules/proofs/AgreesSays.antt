-- What agreement says: each of a call's tests on the view is the cards' test, and the view is as the cards say.
use Prim.Native.Nat.{ℕ}
use native.Mathlib.Nat.{le_antisymm}
use native.Mathlib.Omega.{arith}
use mathlib.Core.Path.{◌≡◌, refl, sym, ap, ◌∙◌, subst}
use mathlib.Core.Bool.{Bool, true, not}
use mathlib.Core.List.{List, [], map, Memᴰ}
use mathlib.Core.Option.{some, none}
use borrow.Author.Tests.{eq-eqb}
use lib.ListN.{length, get_or, length-map}
use Rattle.octets.proofs.SameLaws.{same_refl}
use Rattle.octets.proofs.Tests.{false_true}
use Rattle.rules.specs.Search as Search
use Rattle.rules.specs.Search.{keep, Distinct}
use Rattle.rules.specs.Answer.{Association}
use Rattle.rules.specs.View.{AtPlace, View, identifier_in, endpoint_in, is_for}
use Rattle.rules.specs.Cards.{Cards, filled, holding, live, endpoint_live, all_live}
use Rattle.rules.specs.CardAnswers.{association_on}
use Rattle.rules.specs.Claim.{records, AsCards}
use Rattle.rules.specs.ViewSteps.{is_vacant, is_serving, association_at, has}
use Rattle.rules.proofs.Choices.{bool_ext}
use Rattle.rules.proofs.KeepLaws.{non_empty, kept, keeps, found_some, some_keep, first_found}
use Rattle.rules.proofs.DistinctLaws.{distinct_le, distinct_keep, distinct_map}
use Rattle.rules.proofs.Agrees.{Agrees, OnCard, card_on, places_filled, on_card, holding_filled}
use Rattle.rules.proofs.RecordLaws.{recorded, records_all, records_le, all_taken, distinct_identifiers, few_on, held_on_lem, filled_on}

module _ {v : View} {cards : Cards} (g : Agrees v cards) where
  -- a live record is on the card of its identifier
  pub its_card : {a : Association} → Memᴰ (some a) v.table → OnCard (identifier_in a) (cards.card (identifier_in a)).held a
  its_card {a} m =
      let i = identifier_in a in
      on_card i (cards.card i).held (subst (λ (l : List AtPlace). Memᴰ (some a) l) (g.on_cards i) (keeps (is_for i) m (same_refl i)))

  -- the association of a filled card is in the table
  pub in_table : (i : List ℕ) → filled (cards.card i).held ≡ true → Memᴰ (some (association_on i (cards.card i).held)) v.table
  in_table i f =
      let m : Memᴰ (some (association_on i (cards.card i).held)) (keep (is_for i) v.table) = rw (g.on_cards i, places_filled i (cards.card i).held f) (mathlib.Core.List.Memᴰ.head refl) in
      (kept (is_for i) v.table m).0

  -- 11, 6: an identifier is live where its card is filled
  pub known_is : (i : List ℕ) → has (is_for i) v ≡ filled (cards.card i).held
  known_is i = some_keep (is_for i) v.table ∙ ap non_empty (g.on_cards i) ∙ filled_on i (cards.card i).held

  -- what serves an endpoint is on a card that holds it
  pub serving_card : (e : ℕ) (s : AtPlace) → Memᴰ s v.table → is_serving e s ≡ true
      → OnCard (identifier_in (association_at s)) (cards.card (identifier_in (association_at s))).held (association_at s) × (holding e (cards.card (identifier_in (association_at s))).held ≡ true)
  serving_card e none m h = absurd (false_true h)
  serving_card e (some a) m h = let c = its_card m in (c, sym (c.endpoint e) ∙ h)

  -- 12
  pub busy_is : (e : ℕ) → has (is_serving e) v ≡ endpoint_live cards e
  busy_is e = bool_ext (has (is_serving e) v) (endpoint_live cards e) there back
    where
      at : List ℕ → Bool
      at i = holding e (cards.card i).held

      there : has (is_serving e) v ≡ true → endpoint_live cards e ≡ true
      there h =
          let r = first_found (is_serving e) none v.table h in
          let c = serving_card e _ r.0 r.1 in
          found_some at (g.among _ c.0.full) c.1

      back : endpoint_live cards e ≡ true → has (is_serving e) v ≡ true
      back h =
          let i : List ℕ = get_or cards.opening (Search.first at cards.opening) [] in
          let r = first_found at [] cards.opening h in
          let f : filled (cards.card i).held ≡ true = holding_filled e (cards.card i).held r.1 in
          found_some (is_serving e) (in_table i f) ((card_on i (cards.card i).held f).endpoint e ∙ r.1)

  -- ---- as many cards are filled as there are records

  identifiers_distinct : Distinct (map identifier_in (records v.table))
  identifiers_distinct = distinct_identifiers v.table (λ i. rw (g.on_cards i) (few_on i (cards.card i).held))

  live_distinct : Distinct (live cards)
  live_distinct = distinct_keep (λ i. filled (cards.card i).held) cards.opening g.once

  counted : (i : List ℕ) → filled (cards.card i).held ≡ true → Memᴰ i (live cards)
  counted i f = keeps (λ j. filled (cards.card j).held) (g.among i f) f

  live_filled : (i : List ℕ) → Memᴰ i (live cards) → filled (cards.card i).held ≡ true
  live_filled i m = (kept (λ j. filled (cards.card j).held) cards.opening m).1

  records_live : (i : List ℕ) → Memᴰ i (map identifier_in (records v.table)) → Memᴰ i (live cards)
  records_live i m =
      let r : (a : Association) × Memᴰ a (records v.table) × (identifier_in a ≡ i) = mathlib.Core.List.Memᴰ.of_map identifier_in (records v.table) m in
      mathlib.Core.List.Memᴰ.cast (sym r.2) (counted (identifier_in r.0) (its_card (recorded v.table r.1)).full)

  live_records : (i : List ℕ) → Memᴰ i (live cards) → Memᴰ i (map identifier_in (records v.table))
  live_records i m =
      let f = live_filled i m in
      mathlib.Core.List.Memᴰ.cast (sym (card_on i (cards.card i).held f).identifier) (mathlib.Core.List.Memᴰ.map identifier_in (records_all v.table (in_table i f)))

  pub live_count : length (live cards) ≡ length (records v.table)
  live_count =
      le_antisymm (distinct_le _ _ live_distinct live_records) (distinct_le _ _ identifiers_distinct records_live)
      ∙ length-map (records v.table) identifier_in

  -- 10
  pub full_is : not (has is_vacant v) ≡ all_live cards
  full_is = all_taken v.table ∙ rw (live_count, g.size)

  -- records with one endpoint have one identifier
  same_end : (a b : Association) → Memᴰ a (records v.table) → Memᴰ b (records v.table) → endpoint_in a ≡ endpoint_in b → identifier_in a ≡ identifier_in b
  same_end a b m n q =
      let e = endpoint_in b in
      g.ends _ _ e (sym ((its_card (recorded v.table m)).endpoint e) ∙ eq-eqb _ _ q) (sym ((its_card (recorded v.table n)).endpoint e) ∙ eq-eqb e e refl)

pub agrees_cards : (v : View) (cards : Cards) → Agrees v cards → AsCards v cards
agrees_cards v cards g =
    record {
      tunnel = g.tunnel;
      size = g.size;
      idle = g.idle;
      held = λ i. rw (g.on_cards i) (held_on_lem i (cards.card i).held);
      sized = g.sized;
      counted = λ i. (counted g i, live_filled g i);
      once = live_distinct g;
      few = omega (arith, live_count g, g.size, records_le v.table);
      identifiers = identifiers_distinct g;
      endpoints = distinct_map identifier_in endpoint_in (records v.table) (same_end g) (identifiers_distinct g);
    }
