-- What a body holds, by the message's type: RFC 9185, sections 6.2 to 6.6; document 01, step 4 of the reading. The body alone is read.
use Rattle.std.specs.Prelude.{ℕ, cond, List, length, leb, Result, Ok, Err}
use Rattle.octets.specs.Number.{octet_at, number16_at}
use Rattle.octets.specs.Refusal.{number_of}
use Rattle.octets.specs.declared.refusal.Refusal.{Refusal}
use Rattle.message.specs.Limits.{width}
use Rattle.message.specs.Walk.{Walk, begin, fixed, field8, field16, profile_list, complete}
use Rattle.message.specs.declared.framing.Kind.{Kind}
use Rattle.message.specs.declared.bodies.Fields.{Fields}
use Rattle.message.specs.declared.bodies.Fields.TheVariants.{SupportedProfiles, UnsupportedVersion, MediaKeys, TunneledDtls, EndpointDisconnect}

-- a refusal by its number, or the fields: their numbers and lengths, from which their bounds follow (Parts)
pub data Content : Type 0 where
  refused : (number : ℕ) → Content
  fields : Fields → Content

-- a body that its last field ends, or refusal 5
abbrev pub ending : List ℕ → Walk → Fields → Content
ending body w f = cond (complete body w) (fields f) (refused 5)

-- version 1; list length 2; profiles of 2 octets each, at least one
unfoldable pub supported_profiles : List ℕ → Content
supported_profiles body =
    let version = fixed body 1 begin in
    let list = profile_list body version in
    ending body list (SupportedProfiles (octet_at body 0) (number16_at body version.at))

-- highest version 1; type 2 alone may be longer than its field (section 5.5)
unfoldable pub unsupported_version : List ℕ → Content
unsupported_version body = cond (leb 1 (length body)) (fields (UnsupportedVersion (octet_at body 0))) (refused 5)

-- identifier A; profile 2; MKI of 0 to 255, keys and salts of 1 to 255, each behind a length octet
unfoldable pub media_keys : List ℕ → Content
media_keys body =
    let identifier = fixed body width begin in
    let profile = fixed body 2 identifier in
    let mki = field8 body 0 profile in
    let client_key = field8 body 1 mki in
    let server_key = field8 body 1 client_key in
    let client_salt = field8 body 1 server_key in
    let server_salt = field8 body 1 client_salt in
    ending body server_salt
    (MediaKeys (number16_at body identifier.at) (record {
      mki = octet_at body profile.at;
      client_key = octet_at body mki.at;
      server_key = octet_at body client_key.at;
      client_salt = octet_at body server_key.at;
      server_salt = octet_at body client_salt.at;
    }))

-- identifier A; length 2; DTLS octets, at least 1
unfoldable pub tunneled_dtls : List ℕ → Content
tunneled_dtls body =
    let identifier = fixed body width begin in
    let dtls = field16 body identifier in
    ending body dtls (TunneledDtls (number16_at body identifier.at))

-- identifier A
unfoldable pub endpoint_disconnect : List ℕ → Content
endpoint_disconnect body = ending body (fixed body width begin) EndpointDisconnect

-- type 0 or 6 to 255 is refusal 3
unfoldable pub content : Kind → List ℕ → Content
content Kind.SupportedProfiles body = supported_profiles body
content Kind.UnsupportedVersion body = unsupported_version body
content Kind.MediaKeys body = media_keys body
content Kind.TunneledDtls body = tunneled_dtls body
content Kind.EndpointDisconnect body = endpoint_disconnect body
content Kind.Unlisted body = refused 3

-- the number and the values that each case of a result stands for
abbrev pub content_of : Result Fields Refusal → Content
content_of (Ok f) = fields f
content_of (Err r) = refused (number_of r)
