-- The three stores: an association opened at a vacant place, one keyed, and one removed.
use Prim.Native.Nat.{ℕ}
use mathlib.Core.Path.{◌≡◌, refl, sym, ap, ◌∙◌, subst}
use mathlib.Core.Bool.{true, false}
use mathlib.Core.List.{List, [], ◌∷◌, Memᴰ}
use mathlib.Core.Option.{some, none}
use borrow.Author.Tests.{eqb-true}
use lib.ListN.{length, get_or, set, length-set}
use Rattle.octets.specs.Part.{same}
use Rattle.octets.proofs.SameLaws.{same_refl, same_true}
use Rattle.message.specs.Limits.{width}
use Rattle.rules.specs.Search.{first, keep}
use Rattle.rules.specs.Keys.{Keys}
use Rattle.rules.specs.Tunnel.{is_up}
use Rattle.rules.specs.Answer as Answer
use Rattle.rules.specs.Answer.{Association}
use Rattle.rules.specs.View.{AtPlace, View, identifier_in, is_for}
use Rattle.rules.specs.Cards.{Held, blank, opened, keyed, Cards, filled, holding, endpoint_live, with_keys}
use Rattle.rules.specs.CardAnswers.{association_on}
use Rattle.rules.specs.ViewSteps.{is_vacant, association_at, has, first_with, rekey}
use Rattle.rules.proofs.Choices.{no_both, by_test, chosen}
use Rattle.rules.proofs.KeepLaws.{found_some, first_lt, first_found, first_is, keep_set_neither, keep_set_new, keep_set_first}
use Rattle.rules.proofs.Agrees.{Agrees, places_on, card_on, places_filled, places_blank, holding_filled}
use Rattle.rules.proofs.AgreesSays.{known_is}
use Rattle.rules.proofs.AgreesChange.{Stored}

-- ---- places of other identifiers

other : (i j : List ℕ) (s : AtPlace) → same i j ≡ false → is_for i s ≡ true → is_for j s ≡ false
other i j none f h = refl
other i j (some a) f h = rw (same_true (identifier_in a) i h) f

vacant_for : (j : List ℕ) (s : AtPlace) → is_vacant s ≡ true → is_for j s ≡ false
vacant_for j none h = refl
vacant_for j (some a) h = no_both h refl

-- ---- a card keyed

rekey_for : (k : Keys) (a : Association) → identifier_in (rekey k a) ≡ identifier_in a
rekey_for k (Answer.opened i e) = refl
rekey_for k (Answer.keyed i e old) = refl

keyed_holding : (k : Keys) (e : ℕ) (h : Held) → holding e (with_keys k h) ≡ true → holding e h ≡ true
keyed_holding k e blank t = t
keyed_holding k e (opened x) t = t
keyed_holding k e (keyed x old) t = t

places_keyed : (i : List ℕ) (k : Keys) (h : Held) → filled h ≡ true → places_on i (with_keys k h) ≡ some (rekey k (association_on i h)) ∷ []
places_keyed i k blank f = no_both f refl
places_keyed i k (opened x) f = refl
places_keyed i k (keyed x old) f = refl

module _ {v : View} {cards : Cards} (g : Agrees v cards) (i : List ℕ) (cards' : Cards) where
  -- ---- Open

  module _ (e : ℕ) where
    pub open_stored : is_up v.tunnel ≡ true → length i ≡ width → filled (cards.card i).held ≡ false → endpoint_live cards e ≡ false → has is_vacant v ≡ true
        → Memᴰ i cards'.opening → Stored g i (opened e) cards' (set v.table (first is_vacant v.table) (some (Answer.opened i e)))
    open_stored u w f b r m =
        record {
          up = u;
          size = length-set v.table at new ∙ g.size;
          own = keep_set_new (is_for i) v.table at new (g.on_cards i ∙ places_blank i (cards.card i).held f) (first_lt is_vacant v.table r) (same_refl i);
          others = λ j q. keep_set_neither (is_for j) v.table at new none (vacant_for j (get_or v.table at none) (first_found is_vacant none v.table r).1) q;
          ends = ends;
          sized = λ _. w;
          among = λ _. m;
        }
      where
        at : ℕ
        at = first is_vacant v.table

        new : AtPlace
        new = some (Answer.opened i e)

        -- no card has this endpoint
        ends : (j : List ℕ) (x : ℕ) → same i j ≡ false → holding x (opened e) ≡ true → holding x (cards.card j).held ≡ true → ⊥
        ends j x q s t =
            let z : holding e (cards.card j).held ≡ true = subst (λ (y : ℕ). holding y (cards.card j).held ≡ true) (sym (eqb-true e x s)) t in
            no_both (found_some (λ l. holding e (cards.card l).held) (g.among j (holding_filled e (cards.card j).held z)) z) b

  -- ---- the place of i

  module _ (f : filled (cards.card i).held ≡ true) where
    abbrev at : ℕ
    at = first (is_for i) v.table

    its_up : is_up v.tunnel ≡ true
    its_up = by_test (λ b. b ≡ true) (is_up v.tunnel) (λ e. refl) (λ e. no_both f (g.idle e i))

    its_record : keep (is_for i) v.table ≡ some (association_on i (cards.card i).held) ∷ []
    its_record = g.on_cards i ∙ places_filled i (cards.card i).held f

    its_place : is_for i (get_or v.table at none) ≡ true
    its_place = (first_found (is_for i) none v.table (known_is g i ∙ f)).1

    replaced_others : (y : AtPlace) → ((j : List ℕ) → same i j ≡ false → is_for j y ≡ false)
        → (j : List ℕ) → same i j ≡ false → keep (is_for j) (set v.table at y) ≡ keep (is_for j) v.table
    replaced_others y n j q = keep_set_neither (is_for j) v.table at y none (other i j (get_or v.table at none) q its_place) (n j q)

    -- type 5 and Close
    pub removed_stored : Stored g i blank cards' (set v.table at none)
    removed_stored =
        record {
          up = its_up;
          size = length-set v.table at none ∙ g.size;
          own = keep_set_first (is_for i) v.table none its_record;
          others = replaced_others none (λ j q. refl);
          ends = λ j e q s t. no_both s refl;
          sized = λ s. no_both s refl;
          among = λ s. no_both s refl;
        }

    -- type 3
    pub keyed_stored : (k : Keys) → Memᴰ i cards'.opening
        → Stored g i (with_keys k (cards.card i).held) cards' (set v.table at (some (rekey k (first_with (is_for i) v))))
    keyed_stored k m =
        record {
          up = its_up;
          size = length-set v.table at new ∙ g.size;
          own = stored;
          others = replaced_others new (λ j q. other i j new q its_new);
          ends = λ j e q s t. no_both (rw (g.ends i j e (keyed_holding k e (cards.card i).held s) t) (same_refl j)) q;
          sized = λ _. g.sized i f;
          among = λ _. m;
        }
      where
        new : AtPlace
        new = some (rekey k (first_with (is_for i) v))

        its_new : is_for i new ≡ true
        its_new = rw (first_is (is_for i) none v.table its_record, rekey_for k (association_on i (cards.card i).held), (card_on i (cards.card i).held f).identifier) (same_refl i)

        stored : keep (is_for i) (set v.table at new) ≡ places_on i (with_keys k (cards.card i).held)
        stored =
            keep_set_first (is_for i) v.table new its_record ∙ chosen (new ∷ []) [] its_new
            ∙ ap (λ (s : AtPlace). some (rekey k (association_at s)) ∷ []) (first_is (is_for i) none v.table its_record)
            ∙ sym (places_keyed i k (cards.card i).held f)
