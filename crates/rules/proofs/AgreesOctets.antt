-- Tunnel octets keep a view and cards in agreement, whatever is read.
use Prim.Native.Nat.{ℕ}
use mathlib.Core.Path.{◌≡◌, refl, sym, ap, ◌∙◌}
use mathlib.Core.Bool.{true, cond, not, ◌&&◌}
use mathlib.Core.List.{List}
use borrow.Author.Tests.{not-false}
use lib.Dec.{eqb}
use Rattle.octets.specs.Bounds.{part_in}
use Rattle.octets.specs.Part.{same}
use Rattle.octets.proofs.SameLaws.{same_refl}
use Rattle.octets.proofs.Tests.{by_choice}
use Rattle.message.specs.Parts.{identifier_bounds}
use Rattle.message.specs.Profiles.{in_list, keys_fit, mki_and_salts_fit}
use Rattle.message.specs.Read as Read
use Rattle.message.specs.declared.bodies.Fields.{Fields}
use Rattle.message.specs.declared.bodies.Fields.TheVariants.{SupportedProfiles, UnsupportedVersion, MediaKeys, TunneledDtls, EndpointDisconnect}
use Rattle.message.specs.Keys.{KeyLengths}
use Rattle.rules.specs.Keys.{keys_in}
use Rattle.rules.specs.Tunnel.{down, is_up, list_in}
use Rattle.rules.specs.Call as Call
use Rattle.rules.specs.Refusals.{receiving}
use Rattle.rules.specs.View.{View, is_for}
use Rattle.rules.specs.Cards as Cards
use Rattle.rules.specs.Cards.{blank, Cards, filled, with_keys, down_card, message_card, read_card}
use Rattle.rules.specs.ViewSteps.{has, down_view, keys_verdict, fields_next, read_next}
use Rattle.rules.proofs.Choices.{by_test, chosen}
use Rattle.rules.proofs.Accepting.{accepts, passes, keys_accepts}
use Rattle.rules.proofs.ProfilesLaws.{card_reads}
use Rattle.rules.proofs.Agrees.{Agrees}
use Rattle.rules.proofs.AgreesSays.{known_is}
use Rattle.rules.proofs.AgreesVerdicts.{up_is, keys_is}
use Rattle.rules.proofs.AgreesChange.{cards_are, all_blank, blanking, same_named, unchanged, one_card, one_verdict}
use Rattle.rules.proofs.AgreesStores.{removed_stored, keyed_stored}

module _ {v : View} {cards : Cards} (g : Agrees v cards) (octets : List ℕ) where
  abbrev i : List ℕ
  i = part_in octets identifier_bounds

  -- the cards after a message, and after a reading
  abbrev fields_cards : Fields → Cards
  fields_cards f = record { card = λ j. message_card (cards.card j) octets f j; opening = cards.opening }

  abbrev read_cards : Read.Answer → Cards
  read_cards r = record { card = λ j. read_card (cards.card j) octets r j; opening = cards.opening }

  -- ---- type 3

  module _ (profile : ℕ) (k : KeyLengths) where
    keys_test : (same i i && filled (cards.card i).held && in_list profile (list_in (cards.card i).tunnel) && keys_fit profile k && mki_and_salts_fit k)
        ≡ accepts (keys_verdict v i profile k)
    keys_test =
        rw (same_refl i, g.tunnel i, keys_is g i profile k)
        (keys_accepts (filled (cards.card i).held) (in_list profile (list_in v.tunnel)) (keys_fit profile k) (mki_and_salts_fit k))

    keys_filled : accepts (keys_verdict v i profile k) ≡ true → filled (cards.card i).held ≡ true
    keys_filled q = not-false _ (passes (not (filled (cards.card i).held)) 6 _ (sym (ap accepts (keys_is g i profile k)) ∙ q)).0

    keys_step : Agrees (fields_next v octets (MediaKeys profile k)) (fields_cards (MediaKeys profile k))
    unfolding fields_next
    keys_step =
        one_verdict g i (with_keys (keys_in octets profile k) (cards.card i).held) _ _ (keys_verdict v i profile k)
        (record { named = same_named g; own = chosen _ (cards.card i) keys_test; others = λ j q. rw q })
        (λ q. keyed_stored g i _ (keys_filled q) (keys_in octets profile k) (g.among i (keys_filled q)))

  -- ---- type 5

  gone_step : Agrees (fields_next v octets EndpointDisconnect) (fields_cards EndpointDisconnect)
  unfolding fields_next
  gone_step =
      one_card g i blank _ _ (has (is_for i) v)
      (record {
        named = same_named g;
        own = blanking (cards.card i) (same i i) (has (is_for i) v) (λ f. same_refl i ∙ sym (known_is g i ∙ f));
        others = λ j q. rw q;
      })
      (λ q. removed_stored g i _ (sym (known_is g i) ∙ q))

  -- ---- every message, and every reading

  fields_step : (f : Fields) → Agrees (fields_next v octets f) (fields_cards f)
  unfolding fields_next
  fields_step (SupportedProfiles x n) = g
  fields_step (UnsupportedVersion x) = all_blank down _ (λ j. refl) g.once
  fields_step (MediaKeys profile k) = keys_step profile k
  fields_step (TunneledDtls n) = g
  fields_step EndpointDisconnect = gone_step

  read_step : (r : Read.Answer) → Agrees (read_next v octets r) (read_cards r)
  read_step Read.more_needed = g
  read_step (Read.refused number taken) =
      by_test (λ b. Agrees (cond b down_view v) (record { card = λ j. cond b down_card (cards.card j); opening = cards.opening })) (eqb number 2)
      (λ e. all_blank down _ (λ j. refl) g.once) (λ e. g)
  read_step (Read.accepted f taken) = fields_step f

  pub octets_step : Agrees (cond (is_up v.tunnel) (read_next v octets (receiving octets)) v) (Cards.next cards (Call.tunnel_octets octets))
  unfolding Cards.next Cards.card_next Cards.opening_next
  octets_step =
      by_choice (λ (x : View). Agrees x (Cards.next cards (Call.tunnel_octets octets))) (is_up v.tunnel) _ v
      (λ q. cards_are _ _ _ (λ j. chosen _ (cards.card j) (up_is g j ∙ q) ∙ sym (card_reads (cards.card j) octets j)) (read_step (receiving octets)))
      (λ q. unchanged g _ (same_named g) (λ j. chosen _ (cards.card j) (up_is g j ∙ q)))
