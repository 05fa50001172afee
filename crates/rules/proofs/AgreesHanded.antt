-- What tunnel octets hand out is what the cards say: it follows from the answer.
use Prim.Native.Nat.{ℕ}
use mathlib.Core.Path.{◌≡◌, refl, sym, ap, ◌∙◌}
use mathlib.Core.Bool.{false, not}
use mathlib.Core.List.{List}
use lib.ListN.{replicate}
use Rattle.octets.specs.Bounds.{part_in}
use Rattle.octets.proofs.Tests.{by_choice}
use Rattle.message.specs.Limits.{width}
use Rattle.message.specs.Parts.{identifier_bounds, dtls_bounds, meaning}
use Rattle.message.specs.Profiles.{in_list, keys_fit, mki_and_salts_fit}
use Rattle.message.specs.Read as Read
use Rattle.message.specs.declared.bodies.Fields.{Fields}
use Rattle.message.specs.declared.bodies.Fields.TheVariants.{SupportedProfiles, UnsupportedVersion, MediaKeys, TunneledDtls, EndpointDisconnect}
use Rattle.rules.specs.Tunnel.{is_up, list_in}
use Rattle.rules.specs.Call as Call
use Rattle.rules.specs.Verdict.{Verdict, allowed, refusal, refuse}
use Rattle.rules.specs.Answer.{Answer, refused, more_needed, wrote, placed, ended, found, keys_stored, delivery, removed, version, page, answered}
use Rattle.rules.specs.Refusals.{receiving}
use Rattle.rules.specs.View.{View}
use Rattle.rules.specs.Cards.{Held, blank, opened, keyed, Cards, filled}
use Rattle.rules.specs.CardAnswers.{tunnel_on, by_card, message_expected, read_expected, expected}
use Rattle.rules.specs.Claim.{except_place, nothing, handed_by, handed_on, handed_for, handed_read, expected_handout}
use Rattle.rules.specs.ViewSteps.{view_answer}
use Rattle.rules.proofs.Choices.{no_both}
use Rattle.rules.proofs.ProfilesLaws.{handed_reads, expected_reads}
use Rattle.rules.proofs.Agrees.{Agrees}
use Rattle.rules.proofs.AgreesVerdicts.{up_is}
use Rattle.rules.proofs.AgreesAnswers.{agrees_answer}

-- place numbers do not count
handed_except : (octets : List ℕ) (a : Answer) → handed_by octets (except_place a) ≡ handed_by octets a
handed_except octets (refused number taken) = refl
handed_except octets more_needed = refl
handed_except octets (wrote written) = refl
handed_except octets (placed place) = refl
handed_except octets ended = refl
handed_except octets (found a) = refl
handed_except octets (keys_stored endpoint taken) = refl
handed_except octets (delivery e dtls taken) = refl
handed_except octets (removed endpoint taken) = refl
handed_except octets (version number taken) = refl
handed_except octets (page entries) = refl

-- ---- by the answer that is expected, where the tunnel is up

keys_handed : (octets : List ℕ) (w : Verdict) (endpoint taken : ℕ) → handed_by octets (answered w taken (keys_stored endpoint taken)) ≡ nothing
keys_handed octets allowed endpoint taken = refl
keys_handed octets (refusal number) endpoint taken = refl

card_handed : (octets : List ℕ) (h : Held) (taken : ℕ) (a : ℕ → Answer) → ((e : ℕ) → handed_by octets (a e) ≡ nothing) → handed_by octets (by_card h taken a) ≡ nothing
card_handed octets blank taken a n = refl
card_handed octets (opened e) taken a n = n e
card_handed octets (keyed e k) taken a n = n e

dtls_handed : (octets : List ℕ) (h : Held) (n taken : ℕ)
    → handed_by octets (by_card h taken (λ e. delivery e (dtls_bounds n) taken)) ≡ handed_on h (part_in octets (dtls_bounds n))
dtls_handed octets blank n taken = refl
dtls_handed octets (opened e) n taken = refl
dtls_handed octets (keyed e k) n taken = refl

not_handed : (h : Held) (dtls : List ℕ) → filled h ≡ false → handed_on h dtls ≡ nothing
not_handed blank dtls f = refl
not_handed (opened e) dtls f = no_both refl f
not_handed (keyed e k) dtls f = no_both refl f

module _ (cards : Cards) (octets : List ℕ) where
  abbrev i : List ℕ
  i = part_in octets identifier_bounds

  message_handed : (f : Fields) (taken : ℕ) → handed_by octets (message_expected cards octets f taken) ≡ handed_for cards (meaning octets f)
  unfolding meaning
  message_handed (SupportedProfiles x n) taken = refl
  message_handed (UnsupportedVersion x) taken = refl
  message_handed (MediaKeys profile k) taken =
      card_handed octets (cards.card i).held taken _ (λ e.
      keys_handed octets
      (refuse (not (in_list profile (list_in (tunnel_on cards)))) 7 (refuse (not (keys_fit profile k)) 8 (refuse (not (mki_and_salts_fit k)) 9 allowed))) e taken)
  message_handed (TunneledDtls n) taken = dtls_handed octets (cards.card i).held n taken
  message_handed EndpointDisconnect taken = card_handed octets (cards.card i).held taken _ (λ e. refl)

  read_handed : (r : Read.Answer) → handed_by octets (read_expected cards octets r) ≡ handed_read cards octets r
  read_handed Read.more_needed = refl
  read_handed (Read.refused number taken) = refl
  read_handed (Read.accepted f taken) = message_handed f taken

  -- ---- nothing, where no card is filled

  module _ (b : (j : List ℕ) → filled (cards.card j).held ≡ false) where
    message_blank : (f : Fields) → handed_for cards (meaning octets f) ≡ nothing
    unfolding meaning
    message_blank (SupportedProfiles x n) = refl
    message_blank (UnsupportedVersion x) = refl
    message_blank (MediaKeys profile k) = refl
    message_blank (TunneledDtls n) = not_handed (cards.card i).held (part_in octets (dtls_bounds n)) (b i)
    message_blank EndpointDisconnect = refl

    read_blank : (r : Read.Answer) → handed_read cards octets r ≡ nothing
    read_blank Read.more_needed = refl
    read_blank (Read.refused number taken) = refl
    read_blank (Read.accepted f taken) = message_blank f

module _ {v : View} {cards : Cards} (g : Agrees v cards) (octets : List ℕ) where
  expected_handed : handed_by octets (expected cards (Call.tunnel_octets octets)) ≡ handed_read cards octets (Read.reading octets)
  unfolding expected
  expected_handed =
      by_choice (λ (a : Answer). handed_by octets a ≡ handed_read cards octets (Read.reading octets)) (is_up (tunnel_on cards)) _ _
      (λ q. ap (handed_by octets) (sym (expected_reads cards octets)) ∙ read_handed cards octets (receiving octets) ∙ handed_reads cards octets)
      (λ q. sym (read_blank cards octets (g.idle (sym (up_is g (replicate width 0)) ∙ q)) (Read.reading octets)))

pub agrees_handed : (v : View) (cards : Cards) → Agrees v cards → (octets : List ℕ)
    → handed_by octets (view_answer v (Call.tunnel_octets octets)) ≡ expected_handout cards (Call.tunnel_octets octets)
unfolding expected_handout
agrees_handed v cards g octets =
    sym (handed_except octets (view_answer v (Call.tunnel_octets octets)))
    ∙ ap (λ (a : Answer). handed_by octets a) (agrees_answer v cards g (Call.tunnel_octets octets))
    ∙ expected_handed g octets
