-- The five tunnel messages as values, and their octets: RFC 9185, sections 6.1 to 6.6.
use Rattle.std.specs.Prelude.{ℕ, List, [], ◌∷◌, ◌++◌, length}
use Rattle.octets.specs.Number.{octets16}

-- a profile list is octets, two to a profile
pub data Message : Type 0 where
  supported_profiles : (version : ℕ) (profiles : List ℕ) → Message
  unsupported_version : (version : ℕ) → Message
  media_keys : (identifier : List ℕ) (profile : ℕ) (mki client_key server_key client_salt server_salt : List ℕ) → Message
  tunneled_dtls : (identifier dtls : List ℕ) → Message
  endpoint_disconnect : (identifier : List ℕ) → Message

-- MsgType
abbrev pub type_of : Message → ℕ
type_of (supported_profiles version profiles) = 1
type_of (unsupported_version version) = 2
type_of (media_keys identifier profile mki client_key server_key client_salt server_salt) = 3
type_of (tunneled_dtls identifier dtls) = 4
type_of (endpoint_disconnect identifier) = 5

-- a vector with one length octet, and one with two (RFC 8446, section 3.4)
abbrev pub vector8 : List ℕ → List ℕ
vector8 x = length x ∷ x

abbrev pub vector16 : List ℕ → List ℕ
vector16 x = octets16 (length x) ++ x

abbrev pub encode_body : Message → List ℕ
encode_body (supported_profiles version profiles) = (version ∷ []) ++ vector16 profiles
encode_body (unsupported_version version) = version ∷ []
encode_body (media_keys identifier profile mki client_key server_key client_salt server_salt) =
    identifier ++ octets16 profile ++ vector8 mki ++ vector8 client_key ++ vector8 server_key ++ vector8 client_salt ++ vector8 server_salt
encode_body (tunneled_dtls identifier dtls) = identifier ++ vector16 dtls
encode_body (endpoint_disconnect identifier) = identifier

-- TunnelMessage: type, length of the body, body
unfoldable pub encode : Message → List ℕ
encode m = (type_of m ∷ octets16 (length (encode_body m))) ++ encode_body m
