-- The limits of what reading answers: a refusal's number is one octet, fields end within the lent octets, and their numbers have 16 bits.
use Prim.Native.Nat.{ℕ, ◌+◌, ◌-◌, ◌^◌, ◌≤◌, ◌<◌}
use mathlib.Core.Path.{◌≡◌}
use mathlib.Core.Bool.{true, cond}
use mathlib.Core.List.{List}
use native.Mathlib.Omega.{arith}
use lib.Dec.{ltb, eqb}
use lib.ListN.{length, drop}
use Rattle.octets.specs.Number.{octet_at, number16_at, Octets}
use Rattle.octets.specs.Part.{part}
use Rattle.octets.proofs.Tests.{by_choice}
use Rattle.octets.proofs.NumberLaws.{number16_below}
use Rattle.octets.proofs.OctetLaws.{take_octets, drop_octets}
use Rattle.message.specs.Limits.{width, header, body_limit}
use Rattle.message.specs.Frame as Frame
use Rattle.message.specs.Walk.{begin, fixed, field8, field16, profile_list, complete}
use Rattle.message.specs.Body as Body
use Rattle.message.specs.Read.{Answer, more_needed, refused, accepted, body_answer, frame_answer, reading}
use Rattle.message.specs.Parts.{identifier_bounds, list_bounds, dtls_bounds, key_bounds}
use Rattle.message.specs.declared.framing.Kind.{Kind}
use Rattle.message.specs.declared.bodies.Fields.{Fields}
use Rattle.message.specs.declared.bodies.Fields.TheVariants.{SupportedProfiles, UnsupportedVersion, MediaKeys, TunneledDtls, EndpointDisconnect}
use Rattle.message.proofs.FrameSays.{Whole, whole_type, FrameSays, frame_says}
use Rattle.message.proofs.WalkSays.{past_says, complete_says}
use Rattle.message.proofs.Encoded.{body_of, body_length}
use Rattle.shawm.specs.Numbers.{version_of, profile_of}

-- where the last of the fields ends
abbrev pub fields_end : Fields → ℕ
fields_end (SupportedProfiles version n) = (list_bounds n).end
fields_end (UnsupportedVersion version) = header + 1
fields_end (MediaKeys profile k) = (key_bounds k).server_salt.end
fields_end (TunneledDtls n) = (dtls_bounds n).end
fields_end EndpointDisconnect = identifier_bounds.end

-- version and profile
abbrev Small : Fields → Type 0
Small f = (version_of f < 2 ^ 16) × (profile_of f < 2 ^ 16)

pub record FieldLimits (s : List ℕ) (f : Fields) : Type 0 where
  pub ends : fields_end f ≤ length s
  pub small : Octets s → Small f

abbrev pub ReadLimits : List ℕ → Answer → Type 0
ReadLimits s more_needed = Unit {0}
ReadLimits s (refused number taken) = number < 256
ReadLimits s (accepted f taken) = FieldLimits s f

-- ---- a part of octets is octets

part_octets : (s : List ℕ) (from to : ℕ) → Octets s → Octets (part s from to)
unfolding part
part_octets s from to o = take_octets (to - from) (drop from s) (drop_octets from s o)

-- ---- by the reading's steps

module _ (s : List ℕ) where
  module _ {kind : Kind} {n : ℕ} (whole : Whole s kind n) where
    abbrev body : List ℕ
    body = body_of s n

    abbrev BodyLimits : Body.Content → Type 0
    BodyLimits c = ReadLimits s (body_answer (header + n) c)

    -- a body that the walk w ends, read as f (the type of walks is `message`'s own, and not named here)
    ended : (w : _) (f : Fields) → (complete body w ≡ true → fields_end f ≡ header + w.at) → (Octets body → Small f)
        → BodyLimits (cond (complete body w) (Body.fields f) (Body.refused 5))
    ended w f found small =
        by_choice BodyLimits (complete body w) _ _
        (λ e. record {
          ends = omega (arith, found e, (complete_says body w e).1, body_length s n whole.there, whole.there);
          small = λ o. small (part_octets s header (header + n) o);
        })
        (λ _. omega arith)

    list_limits : BodyLimits (Body.supported_profiles body)
    unfolding Body.supported_profiles fixed profile_list
    list_limits =
        let version = fixed body 1 begin in
        let list = profile_list body version in
        ended list (SupportedProfiles _ _) (λ e.
        let b = past_says _ _ _ version (complete_says body list e).0 in
        let a = past_says _ _ _ begin b.before in
        omega arith) (λ o. omega (arith, o 0))

    keys_limits : BodyLimits (Body.media_keys body)
    unfolding Body.media_keys fixed field8
    keys_limits =
        let identifier = fixed body width begin in
        let profile = fixed body 2 identifier in
        let mki = field8 body 0 profile in
        let client_key = field8 body 1 mki in
        let server_key = field8 body 1 client_key in
        let client_salt = field8 body 1 server_key in
        let server_salt = field8 body 1 client_salt in
        ended server_salt (MediaKeys _ _) (λ e.
        let g = past_says _ _ _ client_salt (complete_says body server_salt e).0 in
        let f = past_says _ _ _ server_key g.before in
        let d = past_says _ _ _ client_key f.before in
        let c = past_says _ _ _ mki d.before in
        let b = past_says _ _ _ profile c.before in
        let a = past_says _ _ _ identifier b.before in
        omega (arith, past_says _ _ _ begin a.before)) (λ o. omega (arith, number16_below body identifier.at o))

    dtls_limits : BodyLimits (Body.tunneled_dtls body)
    unfolding Body.tunneled_dtls fixed field16
    dtls_limits =
        let identifier = fixed body width begin in
        let dtls = field16 body identifier in
        ended dtls (TunneledDtls _) (λ e.
        let b = past_says _ _ _ identifier (complete_says body dtls e).0 in
        let a = past_says _ _ _ begin b.before in
        omega arith) (λ _. omega arith)

    disconnect_limits : BodyLimits (Body.endpoint_disconnect body)
    unfolding Body.endpoint_disconnect fixed
    disconnect_limits =
        let identifier = fixed body width begin in
        ended identifier EndpointDisconnect (λ e.
        let a = past_says _ _ _ begin (complete_says body identifier e).0 in
        omega arith) (λ _. omega arith)

  body_limits : (kind : Kind) (n : ℕ) → Whole s kind n → ReadLimits s (body_answer (header + n) (Body.content kind (body_of s n)))
  unfolding Body.content
  body_limits Kind.SupportedProfiles n whole = list_limits whole
  body_limits Kind.UnsupportedVersion n whole = absurd (whole.other (whole_type whole))
  body_limits Kind.MediaKeys n whole = keys_limits whole
  body_limits Kind.TunneledDtls n whole = dtls_limits whole
  body_limits Kind.EndpointDisconnect n whole = disconnect_limits whole
  body_limits Kind.Unlisted n whole = omega arith

  -- a frame is refused by a number of one octet
  abbrev FrameLimits : Frame.Framing → Type 0
  FrameLimits Frame.more_needed = Unit {0}
  FrameLimits (Frame.refused number taken) = number < 256
  FrameLimits (Frame.version number) = Unit {0}
  FrameLimits (Frame.whole kind n) = Unit {0}

  frame_limits : FrameLimits (Frame.frame s)
  unfolding Frame.frame Frame.version_frame Frame.plain_frame
  frame_limits =
      by_choice FrameLimits (eqb (octet_at s 0) 2) _ _
      (λ _.
      by_choice FrameLimits (ltb (length s) header) _ _ (λ _. tt) (λ _.
      by_choice FrameLimits (eqb (number16_at s 1) 0) _ _ (λ _. omega arith) (λ _.
      by_choice FrameLimits (ltb (length s) (header + 1)) _ _ (λ _. tt) (λ _. tt))))
      (λ _.
      by_choice FrameLimits (ltb (length s) header) _ _ (λ _. tt) (λ _.
      by_choice FrameLimits (ltb body_limit (number16_at s 1)) _ _ (λ _. omega arith) (λ _.
      by_choice FrameLimits (ltb (length s) (header + number16_at s 1)) _ _ (λ _. tt) (λ _. tt))))

  by_frame : (f : Frame.Framing) → FrameSays s f → FrameLimits f → ReadLimits s (frame_answer s f)
  by_frame Frame.more_needed h l = tt
  by_frame (Frame.refused number taken) h l = l
  by_frame (Frame.version number) h l = record { ends = h.there; small = λ o. omega (arith, h.read, o header) }
  by_frame (Frame.whole kind n) h l = body_limits kind n h

  pub reading_limits : ReadLimits s (reading s)
  unfolding reading
  reading_limits = by_frame (Frame.frame s) (frame_says s) frame_limits
