-- A whole TunneledDtls at the front of lent octets, by a few tests on them: reading finds one exactly where they hold.
use Prim.Native.Nat.{ℕ, ◌+◌, ◌≤◌}
use mathlib.Core.Path.{◌≡◌, refl, sym, ap, subst, ◌∙◌}
use mathlib.Core.List.{List}
use native.Mathlib.Omega.{arith}
use Rattle.std.specs.Prelude.{Option, Some, None, unwrap_or}
use lib.ListN.{length}
use Rattle.octets.specs.Number.{octet_at, number16_at}
use Rattle.octets.proofs.InPart.{number_in}
use Rattle.message.specs.Limits.{body_limit, header, width}
use Rattle.message.specs.Frame as Frame
use Rattle.message.specs.Body as Body
use Rattle.message.specs.Read.{Answer, more_needed, refused, accepted, body_answer, frame_answer, reading}
use Rattle.message.specs.Parts.{dtls_in, dtls_found}
use Rattle.message.specs.declared.framing.Kind.{Kind}
use Rattle.message.specs.declared.bodies.Fields.TheVariants.{SupportedProfiles, UnsupportedVersion, MediaKeys, TunneledDtls, EndpointDisconnect}
use Rattle.message.proofs.FrameSays.{Whole, whole_type, whole_frame, FrameSays, frame_says}
use Rattle.message.proofs.WalkEnds.{dtls_whole}
use Rattle.message.proofs.Encoded.{body_of, body_length}
use Rattle.message.proofs.BodyCases.{DtlsBody, profiles_body, version_body, keys_body, dtls_body, disconnect_body}

pub record Tunneled (s : List ℕ) (n : ℕ) : Type 0 where
  pub some : 1 ≤ n
  pub type : octet_at s 0 ≡ 4
  pub told : number16_at s 1 ≡ width + 2 + n
  pub read : number16_at s (header + width) ≡ n
  pub small : number16_at s 1 ≤ body_limit
  pub there : header + number16_at s 1 ≤ length s

-- ---- where they hold

module _ (s : List ℕ) (n : ℕ) (t : Tunneled s n) where
  whole : Whole s Kind.TunneledDtls (width + 2 + n)
  unfolding Frame.kind_of
  whole = record { other = λ e. omega (arith, t.type); kinds = rw t.type refl; told = t.told; small = omega (arith, t.told, t.small); there = omega (arith, t.told, t.there) }

  pub tunneled_frame : Frame.frame s ≡ Frame.whole Kind.TunneledDtls (width + 2 + n)
  tunneled_frame = whole_frame s Kind.TunneledDtls (width + 2 + n) whole

  pub tunneled_content : Body.content Kind.TunneledDtls (body_of s (width + 2 + n)) ≡ Body.fields (TunneledDtls n)
  unfolding Body.content
  tunneled_content =
      let body : List ℕ = body_of s (width + 2 + n) in
      let l : length body ≡ width + 2 + n = body_length s (width + 2 + n) whole.there in
      let e : number16_at body width ≡ n = number_in s header (width + 2 + n) width (omega arith) ∙ t.read in
      dtls_whole body (omega (arith, t.some)) (omega arith) ∙ ap (λ (m : ℕ). Body.fields (TunneledDtls m)) e

  tunneled_read : reading s ≡ accepted (TunneledDtls n) (header + (width + 2 + n))
  unfolding reading
  tunneled_read = ap (frame_answer s) tunneled_frame ∙ ap (body_answer (header + (width + 2 + n))) tunneled_content

-- ---- and where reading finds one

many_found : (a : Answer) → unwrap_or (dtls_found a) 0 ≡ dtls_in a
many_found more_needed = refl
many_found (refused number taken) = refl
many_found (accepted (SupportedProfiles version n) taken) = refl
many_found (accepted (UnsupportedVersion version) taken) = refl
many_found (accepted (MediaKeys profile k) taken) = refl
many_found (accepted (TunneledDtls n) taken) = refl
many_found (accepted EndpointDisconnect taken) = refl

module _ (s : List ℕ) where
  abbrev FoundSays : Option ℕ → Type 0
  FoundSays None = Unit {0}
  FoundSays (Some n) = Tunneled s n

  abbrev DtlsSays : Answer → Type 0
  DtlsSays a = FoundSays (dtls_found a)

  module _ {kind : Kind} {n : ℕ} (w : Whole s kind n) where
    abbrev body : List ℕ
    body = body_of s n

    abbrev Says : Body.Content → Type 0
    Says c = DtlsSays (body_answer (header + n) c)

    dtls_says : octet_at s 0 ≡ 4 → (m : ℕ) → DtlsBody body m → Says (Body.fields (TunneledDtls m))
    dtls_says type m d =
        let l = body_length s n w.there in
        record {
          some = d.some;
          type = type;
          told = omega (arith, w.told, d.ends);
          read = sym (number_in s header n width (omega (arith, d.ends))) ∙ d.read;
          small = omega (arith, w.told, w.small);
          there = omega (arith, w.told, w.there);
        }

    by_kind : (k : Kind) → kind ≡ k → Says (Body.content k body)
    unfolding Body.content
    by_kind Kind.SupportedProfiles e = profiles_body Says (tt) body (λ version m. tt)
    by_kind Kind.UnsupportedVersion e = version_body Says (tt) body (λ version. tt)
    by_kind Kind.MediaKeys e = keys_body Says (tt) body (λ profile k. tt)
    by_kind Kind.TunneledDtls e = dtls_body Says (tt) body (dtls_says (whole_type (subst (λ (k : Kind). Whole s k n) e w)))
    by_kind Kind.EndpointDisconnect e = disconnect_body Says (tt) body (tt)
    by_kind Kind.Unlisted e = tt

  by_frame : (f : Frame.Framing) → FrameSays s f → DtlsSays (frame_answer s f)
  by_frame Frame.more_needed h = tt
  by_frame (Frame.refused number taken) h = tt
  by_frame (Frame.version number) h = tt
  by_frame (Frame.whole kind n) h = by_kind h kind refl

  reading_says : DtlsSays (reading s)
  unfolding reading
  reading_says = by_frame (Frame.frame s) (frame_says s)

  -- how many octets are found, 0 where none are
  pub found_many : unwrap_or (dtls_found (reading s)) 0 ≡ dtls_in (reading s)
  found_many = many_found (reading s)

  pub tunneled_told : (n : ℕ) → Some n ≡ dtls_found (reading s) → Tunneled s n
  tunneled_told n e = subst FoundSays (sym e) reading_says

  -- a test that fails
  pub none_found : ((n : ℕ) → Tunneled s n → ⊥) → None ≡ dtls_found (reading s)
  none_found f = go (dtls_found (reading s)) reading_says
    where
      go : (o : Option ℕ) → FoundSays o → None ≡ o
      go None h = refl
      go (Some n) h = absurd (f n h)

  -- all tests hold
  pub so_many : (n : ℕ) → Tunneled s n → Some n ≡ dtls_found (reading s)
  so_many n t = sym (ap dtls_found (tunneled_read s n t))
