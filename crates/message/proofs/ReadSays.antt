-- What reading says of any octets: fields that it accepts are written back to the octets taken; of type 2, what was lent.
use Prim.Native.Nat.{ℕ, ◌+◌, ◌≤◌}
use mathlib.Core.Path.{◌≡◌, refl, sym, ap, ◌∙◌}
use mathlib.Core.Bool.{true, cond}
use mathlib.Core.List.{List}
use native.Mathlib.Omega.{arith}
use lib.ListN.{length}
use lib.Dec.{eqb}
use borrow.Author.Tests.{eq-eqb}
use Rattle.octets.specs.Number.{octet_at, Octets}
use Rattle.octets.specs.Part.{part}
use Rattle.octets.specs.Bounds.{part_in}
use Rattle.octets.proofs.Tests.{by_choice}
use Rattle.octets.proofs.PartLaws.{part_length}
use Rattle.message.specs.Limits.{width, header}
use Rattle.message.specs.Message.{type_of, encode_body}
use Rattle.message.specs.Frame as Frame
use Rattle.message.specs.Walk.{Walk, complete}
use Rattle.message.specs.Body as Body
use Rattle.message.specs.Read.{Answer, more_needed, refused, accepted, body_answer, frame_answer, reading}
use Rattle.message.specs.Parts.{identifier_bounds, meaning}
use Rattle.message.specs.Write.{identifier_fits, fields_fit}
use Rattle.message.specs.Claims.{WritesBack}
use Rattle.message.specs.declared.framing.Kind.{Kind}
use Rattle.message.specs.declared.bodies.Fields.{Fields}
use Rattle.message.specs.declared.bodies.Fields.TheVariants.{SupportedProfiles, UnsupportedVersion, MediaKeys, TunneledDtls, EndpointDisconnect}
use Rattle.message.proofs.FrameSays.{Version, Whole, whole_type, FrameSays, frame_says}
use Rattle.message.proofs.WalkSays.{complete_says}
use Rattle.message.proofs.Encoded.{body_of, body_length, encoded, encoded_written, encoded_output}
use Rattle.message.proofs.Reached.{Reaches, begun, past_part, past_octet, past_number, past_field8, past_field16, past_list}

abbrev pub FieldsSay : List ℕ → Fields → (taken : ℕ) → Type 0
FieldsSay s (SupportedProfiles version n) taken = WritesBack s (SupportedProfiles version n) taken
FieldsSay s (UnsupportedVersion version) taken = Version s version × (taken ≡ length s)
FieldsSay s (MediaKeys profile k) taken = WritesBack s (MediaKeys profile k) taken
FieldsSay s (TunneledDtls n) taken = WritesBack s (TunneledDtls n) taken
FieldsSay s EndpointDisconnect taken = WritesBack s EndpointDisconnect taken

abbrev pub AnswerSays : List ℕ → Answer → Type 0
AnswerSays s more_needed = Unit {0}
AnswerSays s (refused number taken) = Unit {0}
AnswerSays s (accepted f taken) = FieldsSay s f taken

module _ (s : List ℕ) (o : Octets s) where
  module _ {kind : Kind} {n : ℕ} (whole : Whole s kind n) where
    abbrev body : List ℕ
    body = body_of s n

    abbrev BodySays : Body.Content → Type 0
    BodySays c = AnswerSays s (body_answer (header + n) c)

    -- a body that the walk ends, read as f
    ended : {w : Walk} {to : ℕ} (f : Fields)
        → Reaches s w to (encode_body (meaning s f)) (fields_fit (meaning s f))
        → octet_at s 0 ≡ type_of (meaning s f)
        → (to ≡ header + n → identifier_fits (meaning s f) ≡ true)
        → (WritesBack s f (header + n) → FieldsSay s f (header + n))
        → BodySays (cond (complete body w) (Body.fields f) (Body.refused 5))
    ended {w} {to} f walk type identifier says =
        by_choice BodySays (complete body w) _ _ (λ e.
        let c = complete_says body w e in
        let r = walk c.0 in
        let end : to ≡ header + n = sym r.offset ∙ ap (λ (i : ℕ). header + i) (c.1 ∙ body_length s n whole.there) in
        let same : encode_body (meaning s f) ≡ body = r.same ∙ ap (part s header) end in
        says (record {
          octets = encoded s n whole.there o whole.told (meaning s f) type same;
          answer = encoded_written s n whole.there o whole.told (meaning s f) type same (identifier end) r.fits whole.small;
          result = encoded_output s n whole.there o whole.told (meaning s f) type same (identifier end) r.fits whole.small;
        })) (λ _. tt)

    identifier_fits_lem : width ≤ n → eqb (length (part_in s identifier_bounds)) width ≡ true
    identifier_fits_lem h = eq-eqb _ _ (part_length s header (header + width) (omega (arith, whole.there)) ∙ omega arith)

    profiles_say : octet_at s 0 ≡ 1 → BodySays (Body.supported_profiles body)
    unfolding Body.supported_profiles meaning
    profiles_say t =
        let walk = past_list whole o (past_octet whole o (begun s)) in
        ended (SupportedProfiles _ _) walk t (λ _. refl) (λ b. b)

    dtls_says : octet_at s 0 ≡ 4 → BodySays (Body.tunneled_dtls body)
    unfolding Body.tunneled_dtls meaning
    dtls_says t =
        let walk = past_field16 whole o (past_part whole o (begun s) width) in
        ended (TunneledDtls _) walk t (λ e. identifier_fits_lem (omega arith)) (λ b. b)

    disconnect_says : octet_at s 0 ≡ 5 → BodySays (Body.endpoint_disconnect body)
    unfolding Body.endpoint_disconnect meaning
    disconnect_says t =
        let walk = past_part whole o (begun s) width in
        ended EndpointDisconnect walk t (λ e. identifier_fits_lem (omega arith)) (λ b. b)

    keys_say : octet_at s 0 ≡ 3 → BodySays (Body.media_keys body)
    unfolding Body.media_keys meaning
    keys_say t =
        let profile = past_number whole o (past_part whole o (begun s) width) in
        let mki = past_field8 whole o profile 0 in
        let client_key = past_field8 whole o mki 1 in
        let server_key = past_field8 whole o client_key 1 in
        let client_salt = past_field8 whole o server_key 1 in
        let server_salt = past_field8 whole o client_salt 1 in
        ended (MediaKeys _ _) server_salt t (λ e. identifier_fits_lem (omega arith)) (λ b. b)

  body_says : (kind : Kind) (n : ℕ) → Whole s kind n → AnswerSays s (body_answer (header + n) (Body.content kind (body_of s n)))
  unfolding Body.content
  body_says Kind.SupportedProfiles n whole = profiles_say whole (whole_type whole)
  body_says Kind.UnsupportedVersion n whole = absurd (whole.other (whole_type whole))
  body_says Kind.MediaKeys n whole = keys_say whole (whole_type whole)
  body_says Kind.TunneledDtls n whole = dtls_says whole (whole_type whole)
  body_says Kind.EndpointDisconnect n whole = disconnect_says whole (whole_type whole)
  body_says Kind.Unlisted n whole = tt

  by_frame : (f : Frame.Framing) → FrameSays s f → AnswerSays s (frame_answer s f)
  by_frame Frame.more_needed h = tt
  by_frame (Frame.refused number taken) h = tt
  by_frame (Frame.version number) h = (h, refl)
  by_frame (Frame.whole kind n) h = body_says kind n h

  pub reading_says : AnswerSays s (reading s)
  unfolding reading
  reading_says = by_frame (Frame.frame s) (frame_says s)
