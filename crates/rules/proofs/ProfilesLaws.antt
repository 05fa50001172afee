-- A type 1 from the key distributor changes no card and hands out nothing, so cards may go by the reading rules alone.
use Prim.Native.Nat.{ℕ, ◌+◌}
use mathlib.Core.Path.{◌≡◌, refl}
use mathlib.Core.List.{List}
use Rattle.octets.specs.Part.{part}
use Rattle.octets.proofs.Tests.{by_choice}
use Rattle.message.specs.Limits.{header}
use Rattle.message.specs.Frame as Frame
use Rattle.message.specs.Body as Body
use Rattle.message.specs.Walk.{complete, fixed, profile_list, begin}
use Rattle.message.specs.Read as Read
use Rattle.message.specs.Direction.{of_kinds}
use Rattle.message.specs.Parts.{meaning}
use Rattle.message.specs.declared.framing.Kind.{Kind}
use Rattle.message.specs.declared.bodies.Fields.TheVariants.{SupportedProfiles}
use Rattle.rules.specs.Refusals.{is_profiles, receiving}
use Rattle.rules.specs.Cards.{Card, Cards, read_card}
use Rattle.rules.specs.CardAnswers.{read_expected, octets_expected}
use Rattle.rules.specs.Claim.{nothing, handed_read}

-- by whether a whole message of type 1 is at the front
pub by_profiles : {X : Type 0} (P : X → Type 0) (f : Frame.Framing) (x : ℕ → X) (y : X)
    → ((n : ℕ) → f ≡ Frame.whole Kind.SupportedProfiles n → P (x n)) → P y → P (of_kinds is_profiles f x y)
by_profiles P Frame.more_needed x y g h = h
by_profiles P (Frame.refused number taken) x y g h = h
by_profiles P (Frame.version number) x y g h = h
by_profiles P (Frame.whole Kind.SupportedProfiles n) x y g h = g n refl
by_profiles P (Frame.whole Kind.UnsupportedVersion n) x y g h = h
by_profiles P (Frame.whole Kind.MediaKeys n) x y g h = h
by_profiles P (Frame.whole Kind.TunneledDtls n) x y g h = h
by_profiles P (Frame.whole Kind.EndpointDisconnect n) x y g h = h
by_profiles P (Frame.whole Kind.Unlisted n) x y g h = h

-- what is made of either
pub of_profiles : {X Y : Type 0} (g : X → Y) (f : Frame.Framing) (x : ℕ → X) (y : X) → g (of_kinds is_profiles f x y) ≡ of_kinds is_profiles f (λ n. g (x n)) (g y)
of_profiles g Frame.more_needed x y = refl
of_profiles g (Frame.refused number taken) x y = refl
of_profiles g (Frame.version number) x y = refl
of_profiles g (Frame.whole Kind.SupportedProfiles n) x y = refl
of_profiles g (Frame.whole Kind.UnsupportedVersion n) x y = refl
of_profiles g (Frame.whole Kind.MediaKeys n) x y = refl
of_profiles g (Frame.whole Kind.TunneledDtls n) x y = refl
of_profiles g (Frame.whole Kind.EndpointDisconnect n) x y = refl
of_profiles g (Frame.whole Kind.Unlisted n) x y = refl

-- its body is good or bad
profiles_body : (P : Body.Content → Type 0) → ((v n : ℕ) → P (Body.fields (SupportedProfiles v n))) → P (Body.refused 5)
    → (body : List ℕ) → P (Body.content Kind.SupportedProfiles body)
unfolding Body.content Body.supported_profiles
profiles_body P g h body = by_choice P (complete body (profile_list body (fixed body 1 begin))) _ _ (λ q. g _ _) (λ q. h)

-- the cards after a reading
module _ (c : Card) (octets i : List ℕ) where
  profiles_card : (n : ℕ) → c ≡ read_card c octets (Read.frame_answer octets (Frame.whole Kind.SupportedProfiles n)) i
  profiles_card n = profiles_body (λ x. c ≡ read_card c octets (Read.body_answer (header + n) x) i) (λ v m. refl) refl (part octets header (header + n))

  pub card_reads : read_card c octets (receiving octets) i ≡ read_card c octets (Read.reading octets) i
  unfolding receiving Read.reading
  card_reads =
      by_profiles (λ r. read_card c octets r i ≡ read_card c octets (Read.frame_answer octets (Frame.frame octets)) i) (Frame.frame octets) _ _
      (λ n e. rw e (profiles_card n)) refl

-- what a reading hands out
module _ (cards : Cards) (octets : List ℕ) where
  profiles_handed : (n : ℕ) → nothing ≡ handed_read cards octets (Read.frame_answer octets (Frame.whole Kind.SupportedProfiles n))
  unfolding meaning
  profiles_handed n = profiles_body (λ x. nothing ≡ handed_read cards octets (Read.body_answer (header + n) x)) (λ v m. refl) refl (part octets header (header + n))

  pub handed_reads : handed_read cards octets (receiving octets) ≡ handed_read cards octets (Read.reading octets)
  unfolding receiving Read.reading
  handed_reads =
      by_profiles (λ r. handed_read cards octets r ≡ handed_read cards octets (Read.frame_answer octets (Frame.frame octets))) (Frame.frame octets) _ _
      (λ n e. rw e (profiles_handed n)) refl

  -- what is answered
  pub expected_reads : read_expected cards octets (receiving octets) ≡ octets_expected cards octets (Frame.frame octets)
  unfolding receiving
  expected_reads = of_profiles (read_expected cards octets) (Frame.frame octets) _ _
