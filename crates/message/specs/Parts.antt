-- Where the fields of a message stand in the lent octets, and the message that they make up: RFC 9185, sections 6.2 to 6.6.
use Rattle.std.specs.Prelude.{ℕ, ◌+◌, List, ◌≡◌, length, Option, Some, None}
use Rattle.std.specs.Borrow.{Bor}
use Rattle.octets.specs.Number.{number16_at}
use Rattle.octets.specs.Bounds.{between, behind, nowhere, part_in}
use Rattle.octets.specs.Lent.{BeginsAt, PartIn}
use Rattle.octets.specs.declared.parts.Bounds.{Bounds}
use Rattle.message.specs.Limits.{width, header}
use Rattle.message.specs.Message as Message
use Rattle.message.specs.Read.{Answer, more_needed, refused, accepted, reading}
use Rattle.message.specs.declared.bodies.Fields.{Fields}
use Rattle.message.specs.declared.bodies.Fields.TheVariants.{SupportedProfiles, UnsupportedVersion, MediaKeys, TunneledDtls, EndpointDisconnect}
use Rattle.message.specs.Keys.{KeyLengths}
use Rattle.message.specs.Keys.{KeyBounds}
use Rattle.message.specs.declared.bounds.FieldBounds.{FieldBounds}
use Rattle.message.specs.declared.bounds.Field.{Field}

-- ---- where a field stands

abbrev pub identifier_bounds : Bounds
identifier_bounds = behind header width

-- behind the version and the list's length
abbrev pub list_bounds : (n : ℕ) → Bounds
list_bounds n = behind (header + 3) n

-- behind the identifier and the length: octet A + 5
abbrev pub dtls_bounds : (n : ℕ) → Bounds
dtls_bounds n = behind (header + width + 2) n

abbrev pub keys_at : (mki client_key server_key client_salt server_salt : Bounds) → KeyBounds
keys_at mki client_key server_key client_salt server_salt =
    record { mki = mki; client_key = client_key; server_key = server_key; client_salt = client_salt; server_salt = server_salt }

-- behind the identifier and the profile, each behind its length octet
abbrev pub key_bounds : KeyLengths → KeyBounds
key_bounds k =
    let mki = behind (header + width + 3) k.mki in
    let client_key = behind (mki.end + 1) k.client_key in
    let server_key = behind (client_key.end + 1) k.server_key in
    let client_salt = behind (server_key.end + 1) k.client_salt in
    let server_salt = behind (client_salt.end + 1) k.server_salt in
    keys_at mki client_key server_key client_salt server_salt

abbrev pub no_keys : KeyBounds
no_keys = keys_at nowhere nowhere nowhere nowhere nowhere

-- ---- every field of an answer; one that is not there is empty, from 0 to 0

abbrev pub bounds_at : (body identifier list dtls : Bounds) → KeyBounds → FieldBounds
bounds_at body identifier list dtls keys =
    record { body = body; identifier = identifier; profile_list = list; dtls = dtls; keys = keys }

-- a message's body is all that was taken behind the header; of type 2 it is the one octet that is read
abbrev pub field_bounds : Fields → (taken : ℕ) → FieldBounds
field_bounds (SupportedProfiles version n) taken = bounds_at (between header taken) nowhere (list_bounds n) nowhere no_keys
field_bounds (UnsupportedVersion version) taken = bounds_at (behind header 1) nowhere nowhere nowhere no_keys
field_bounds (MediaKeys profile k) taken = bounds_at (between header taken) identifier_bounds nowhere nowhere (key_bounds k)
field_bounds (TunneledDtls n) taken = bounds_at (between header taken) identifier_bounds nowhere (dtls_bounds n) no_keys
field_bounds EndpointDisconnect taken = bounds_at (between header taken) identifier_bounds nowhere nowhere no_keys

abbrev pub bounds_of : Answer → FieldBounds
bounds_of more_needed = bounds_at nowhere nowhere nowhere nowhere no_keys
bounds_of (refused number taken) = bounds_at nowhere nowhere nowhere nowhere no_keys
bounds_of (accepted f taken) = field_bounds f taken

abbrev pub bounds_for : FieldBounds → Field → Bounds
bounds_for p Field.Body = p.body
bounds_for p Field.Identifier = p.identifier
bounds_for p Field.ProfileList = p.profile_list
bounds_for p Field.Dtls = p.dtls
bounds_for p Field.Mki = p.keys.mki
bounds_for p Field.ClientKey = p.keys.client_key
bounds_for p Field.ServerKey = p.keys.server_key
bounds_for p Field.ClientSalt = p.keys.client_salt
bounds_for p Field.ServerSalt = p.keys.server_salt

-- how many DTLS octets the message has that an answer tells; 0 where it has none
abbrev pub dtls_in : Answer → ℕ
dtls_in more_needed = 0
dtls_in (refused number taken) = 0
dtls_in (accepted (SupportedProfiles version n) taken) = 0
dtls_in (accepted (UnsupportedVersion version) taken) = 0
dtls_in (accepted (MediaKeys profile k) taken) = 0
dtls_in (accepted (TunneledDtls n) taken) = n
dtls_in (accepted EndpointDisconnect taken) = 0

-- the same, none where it has none
abbrev pub dtls_found : Answer → Option ℕ
dtls_found more_needed = None
dtls_found (refused number taken) = None
dtls_found (accepted (SupportedProfiles version n) taken) = None
dtls_found (accepted (UnsupportedVersion version) taken) = None
dtls_found (accepted (MediaKeys profile k) taken) = None
dtls_found (accepted (TunneledDtls n) taken) = Some n
dtls_found (accepted EndpointDisconnect taken) = None

-- a field of the message at the front of s, as a part of s
unfoldable pub field : List ℕ → Field → List ℕ
field s f = part_in s (bounds_for (bounds_of (reading s)) f)

-- ---- the same as a part of the lent octets themselves

-- r is that field of the message at the front of s
abbrev pub FieldOf : (s : Bor (List ℕ)) → Field → (r : Bor (List ℕ)) → Type 0
FieldOf s f r = PartIn s (bounds_for (bounds_of (reading s.now)) f) r

-- the body is as long as the message says; of type 2 it is the one octet that is read
abbrev pub BodyLength : (s body : Bor (List ℕ)) → Fields → Type 0
BodyLength s body (SupportedProfiles version n) = length body.now ≡ number16_at s.now 1
BodyLength s body (UnsupportedVersion version) = length body.now ≡ 1
BodyLength s body (MediaKeys profile k) = length body.now ≡ number16_at s.now 1
BodyLength s body (TunneledDtls n) = length body.now ≡ number16_at s.now 1
BodyLength s body EndpointDisconnect = length body.now ≡ number16_at s.now 1

-- the DTLS octets of a TunneledDtls begin at octet A + 5, and are as many as it says
abbrev pub DtlsBegins : (s dtls : Bor (List ℕ)) → Fields → Type 0
DtlsBegins s dtls (SupportedProfiles version n) = Unit {0}
DtlsBegins s dtls (UnsupportedVersion version) = Unit {0}
DtlsBegins s dtls (MediaKeys profile k) = Unit {0}
DtlsBegins s dtls (TunneledDtls n) = BeginsAt s 21 dtls × (length dtls.now ≡ n)
DtlsBegins s dtls EndpointDisconnect = Unit {0}

-- the body of any message that is read begins after octet 3
abbrev pub PartsBegin : (s body dtls : Bor (List ℕ)) → Answer → Type 0
PartsBegin s body dtls more_needed = Unit {0}
PartsBegin s body dtls (refused number taken) = Unit {0}
PartsBegin s body dtls (accepted f taken) = BeginsAt s 3 body × BodyLength s body f × DtlsBegins s dtls f

-- ---- what an answer means on its octets

unfoldable pub meaning : List ℕ → Fields → Message.Message
meaning s (SupportedProfiles version n) = Message.supported_profiles version (part_in s (list_bounds n))
meaning s (UnsupportedVersion version) = Message.unsupported_version version
meaning s (MediaKeys profile k) =
    Message.media_keys (part_in s identifier_bounds) profile (part_in s (key_bounds k).mki)
    (part_in s (key_bounds k).client_key) (part_in s (key_bounds k).server_key)
    (part_in s (key_bounds k).client_salt) (part_in s (key_bounds k).server_salt)
meaning s (TunneledDtls n) = Message.tunneled_dtls (part_in s identifier_bounds) (part_in s (dtls_bounds n))
meaning s EndpointDisconnect = Message.endpoint_disconnect (part_in s identifier_bounds)
