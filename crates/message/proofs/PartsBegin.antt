-- The body of a message begins after octet 3 of the lent octets, and its DTLS octets at octet A + 5.
use Prim.Native.Nat.{ℕ, ◌+◌, ◌≤◌}
use mathlib.Core.Path.{◌≡◌, sym, ap, ◌∙◌}
use mathlib.Core.Bool.{true}
use mathlib.Core.List.{List}
use native.Mathlib.Omega.{arith}
use lib.ListN.{length}
use denote.Ref.{Bor}
use Rattle.octets.specs.Number.{number16_at}
use Rattle.octets.specs.Bounds.{between}
use Rattle.octets.specs.Lent.{BeginsAt, PartIn}
use Rattle.octets.proofs.Tests.{by_choice}
use Rattle.octets.proofs.PartLaws.{part_length}
use Rattle.octets.proofs.LentLaws.{within_begins}
use Rattle.message.specs.Limits.{width, header}
use Rattle.message.specs.Frame as Frame
use Rattle.message.specs.Walk.{Walk, begin, fixed, field16, complete}
use Rattle.message.specs.Body as Body
use Rattle.message.specs.Read.{Answer, body_answer, frame_answer, reading}
use Rattle.message.specs.Parts.{field_bounds, bounds_of, bounds_for, field, FieldOf, BodyLength, DtlsBegins, PartsBegin}
use Rattle.message.specs.declared.framing.Kind.{Kind}
use Rattle.message.specs.declared.bodies.Fields.{Fields}
use Rattle.message.specs.declared.bodies.Fields.TheVariants.{SupportedProfiles, UnsupportedVersion, MediaKeys, TunneledDtls, EndpointDisconnect}
use Rattle.message.specs.declared.bounds.Field.{Field}
use Rattle.message.proofs.FrameSays.{Whole, whole_type, FrameSays, frame_says}
use Rattle.message.proofs.WalkSays.{past_says, complete_says}
use Rattle.message.proofs.Encoded.{body_of, body_length}

module _ (s b d : Bor (List ℕ)) where
  abbrev BeginBy : Answer → Type 0
  BeginBy a = PartIn s (bounds_for (bounds_of a) Field.Body) b → PartIn s (bounds_for (bounds_of a) Field.Dtls) d → PartsBegin s b d a

  body_begins : (f : Fields) (n : ℕ) → header + n ≤ length s.now → PartIn s (field_bounds f (header + n)).body b → BeginsAt s header b
  body_begins (SupportedProfiles version k) n h p = within_begins p (omega arith) (omega arith)
  body_begins (UnsupportedVersion version) n h p = within_begins p (omega arith) (omega arith)
  body_begins (MediaKeys profile k) n h p = within_begins p (omega arith) (omega arith)
  body_begins (TunneledDtls k) n h p = within_begins p (omega arith) (omega arith)
  body_begins EndpointDisconnect n h p = within_begins p (omega arith) (omega arith)

  module _ {kind : Kind} {n : ℕ} (whole : Whole s.now kind n) where
    abbrev body : List ℕ
    body = body_of s.now n

    -- all that was taken behind the header
    body_long : PartIn s (between header (header + n)) b → length b.now ≡ number16_at s.now 1
    body_long p = ap length p.octets ∙ body_length s.now n whole.there ∙ sym whole.told

    -- a body that the walk w ends, read as f
    ended : (w : Walk) (f : Fields) → (PartIn s (field_bounds f (header + n)).body b → BodyLength s b f)
        → (complete body w ≡ true → PartIn s (field_bounds f (header + n)).dtls d → DtlsBegins s d f)
        → BeginBy (body_answer (header + n) (Body.ending body w f))
    ended w f long dtls =
        by_choice (λ c. BeginBy (body_answer (header + n) c)) (complete body w) _ _
        (λ e p q. (body_begins f n whole.there p, long p, dtls e q))
        (λ _ p q. tt)

    dtls_begins : BeginBy (body_answer (header + n) (Body.tunneled_dtls body))
    unfolding Body.tunneled_dtls fixed field16
    dtls_begins =
        let identifier = fixed body width begin in
        let dtls = field16 body identifier in
        ended dtls (TunneledDtls _) body_long (λ e q.
        let c = complete_says body dtls e in
        let v = past_says _ _ _ identifier c.0 in
        let a = past_says _ _ _ begin v.before in
        let l = body_length s.now n whole.there in
        (within_begins q (omega arith) (omega (arith, whole.there)), ap length q.octets ∙ part_length s.now _ _ (omega (arith, whole.there)) ∙ omega arith))

  by_kind : (kind : Kind) (n : ℕ) → Whole s.now kind n → BeginBy (body_answer (header + n) (Body.content kind (body_of s.now n)))
  unfolding Body.content Body.supported_profiles Body.media_keys Body.endpoint_disconnect
  by_kind Kind.SupportedProfiles n whole = ended whole _ (SupportedProfiles _ _) (body_long whole) (λ _ _. tt)
  by_kind Kind.UnsupportedVersion n whole = absurd (whole.other (whole_type whole))
  by_kind Kind.MediaKeys n whole = ended whole _ (MediaKeys _ _) (body_long whole) (λ _ _. tt)
  by_kind Kind.TunneledDtls n whole = dtls_begins whole
  by_kind Kind.EndpointDisconnect n whole = ended whole _ EndpointDisconnect (body_long whole) (λ _ _. tt)
  by_kind Kind.Unlisted n whole = λ p q. tt

  by_frame : (f : Frame.Framing) → FrameSays s.now f → BeginBy (frame_answer s.now f)
  by_frame Frame.more_needed h = λ p q. tt
  by_frame (Frame.refused number taken) h = λ p q. tt
  by_frame (Frame.version number) h = λ p q. (within_begins p (omega arith) (omega (arith, h.there)), ap length p.octets ∙ part_length s.now 3 4 h.there, tt)
  by_frame (Frame.whole kind n) h = by_kind kind n h

  -- the theorem
  pub parts_begin : FieldOf s Field.Body b → FieldOf s Field.Dtls d → PartsBegin s b d (reading s.now)
  unfolding reading
  parts_begin = by_frame (Frame.frame s.now) (frame_says s.now)

-- a field that is handed back has the octets of the definition
pub field_octets : {s r : Bor (List ℕ)} (f : Field) → FieldOf s f r → r.now ≡ field s.now f
unfolding field
field_octets f p = p.octets
