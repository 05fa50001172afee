-- The body of each listed type is good, or refusal 5: by cases.
use Prim.Native.Nat.{ℕ, ◌+◌, ◌≤◌}
use mathlib.Core.Path.{◌≡◌, sym, ap}
use mathlib.Core.List.{List}
use native.Mathlib.Omega.{arith}
use lib.ListN.{length}
use lib.Dec.{leb}
use borrow.Author.Tests.{leb-true}
use Rattle.octets.specs.Number.{number16_at}
use Rattle.octets.proofs.Tests.{by_choice}
use Rattle.message.specs.Limits.{width}
use Rattle.message.specs.Walk.{begin, fixed, field8, field16, profile_list, complete}
use Rattle.message.specs.Body as Body
use Rattle.message.specs.Body.{Content, refused, fields, content}
use Rattle.message.specs.declared.framing.Kind.{Kind}
use Rattle.message.specs.Keys.{KeyLengths}
use Rattle.message.specs.declared.bodies.Fields.TheVariants.{SupportedProfiles, UnsupportedVersion, MediaKeys, TunneledDtls, EndpointDisconnect}
use Rattle.message.proofs.WalkSays.{past_says, complete_says}

-- what a good body of a TunneledDtls says of its DTLS octets
pub record DtlsBody (body : List ℕ) (n : ℕ) : Type 0 where
  pub some : 1 ≤ n
  pub read : number16_at body width ≡ n
  pub ends : width + 2 + n ≡ length body

module _ (P : Content → Type 0) (bad : P (refused 5)) (body : List ℕ) where
  pub profiles_body : ((version n : ℕ) → P (fields (SupportedProfiles version n))) → P (content Kind.SupportedProfiles body)
  unfolding content Body.supported_profiles
  profiles_body good = by_choice P (complete body (profile_list body (fixed body 1 begin))) _ _ (λ _. good _ _) (λ _. bad)

  pub version_body : ((version : ℕ) → P (fields (UnsupportedVersion version))) → P (content Kind.UnsupportedVersion body)
  unfolding content Body.unsupported_version
  version_body good = by_choice P (leb 1 (length body)) _ _ (λ _. good _) (λ _. bad)

  pub keys_body : ((profile : ℕ) (k : KeyLengths) → P (fields (MediaKeys profile k))) → P (content Kind.MediaKeys body)
  unfolding content Body.media_keys
  keys_body good =
      let mki = field8 body 0 (fixed body 2 (fixed body width begin)) in
      by_choice P (complete body (field8 body 1 (field8 body 1 (field8 body 1 (field8 body 1 mki))))) _ _ (λ _. good _ _) (λ _. bad)

  pub dtls_body : ((n : ℕ) → DtlsBody body n → P (fields (TunneledDtls n))) → P (content Kind.TunneledDtls body)
  unfolding content Body.tunneled_dtls fixed field16
  dtls_body good =
      let identifier = fixed body width begin in
      let dtls = field16 body identifier in
      by_choice P (complete body dtls) _ _
      (λ e.
      let c = complete_says body dtls e in
      let v = past_says _ _ _ identifier c.0 in
      let at : identifier.at ≡ width = (past_says _ _ _ begin v.before).offset in
      good _ (record { some = leb-true _ _ v.test; read = ap (number16_at body) (sym at); ends = omega (arith, c.1, v.offset) }))
      (λ _. bad)

  pub disconnect_body : P (fields EndpointDisconnect) → P (content Kind.EndpointDisconnect body)
  unfolding content Body.endpoint_disconnect
  disconnect_body good = by_choice P (complete body (fixed body width begin)) _ _ (λ _. good) (λ _. bad)
