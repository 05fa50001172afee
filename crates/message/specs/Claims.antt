-- What the theorems in proofs/ say of reading and writing: demand 2, and that an answer once given stays.
use Rattle.std.specs.Prelude.{ℕ, ◌+◌, ◌≤◌, ◌≡◌, List, ◌++◌, length, take, drop}
use Rattle.octets.specs.Number.{Octets}
use Rattle.message.specs.Limits.{most16}
use Rattle.message.specs.Message.{Message, supported_profiles, unsupported_version, media_keys, tunneled_dtls, endpoint_disconnect, encode}
use Rattle.message.specs.Read.{Answer, more_needed, refused, accepted, reading}
use Rattle.message.specs.Parts.{meaning, field}
use Rattle.message.specs.declared.bounds.Field.{Field}
use Rattle.message.specs.Write.{writing, written, output}
use Rattle.message.specs.declared.bodies.Fields.{Fields}
use Rattle.message.specs.declared.bodies.Fields.TheVariants.{SupportedProfiles, UnsupportedVersion, MediaKeys, TunneledDtls, EndpointDisconnect}

-- a message's numbers are such as their octets can tell; a version stands as itself
abbrev pub Numbers : Message → Type 0
Numbers (supported_profiles version profiles) = Unit {0}
Numbers (unsupported_version version) = Unit {0}
Numbers (media_keys identifier profile mki client_key server_key client_salt server_salt) = profile ≤ most16
Numbers (tunneled_dtls identifier dtls) = Unit {0}
Numbers (endpoint_disconnect identifier) = Unit {0}

-- reading takes exactly a message's octets; of type 2, every lent octet
abbrev pub taken_with : Message → List ℕ → ℕ
taken_with (supported_profiles version profiles) rest = length (encode (supported_profiles version profiles))
taken_with (unsupported_version version) rest = length (encode (unsupported_version version) ++ rest)
taken_with (media_keys identifier profile mki client_key server_key client_salt server_salt) rest =
    length (encode (media_keys identifier profile mki client_key server_key client_salt server_salt))
taken_with (tunneled_dtls identifier dtls) rest = length (encode (tunneled_dtls identifier dtls))
taken_with (endpoint_disconnect identifier) rest = length (encode (endpoint_disconnect identifier))

-- a message that stands before any octets is read as itself
pub record ReadsBack (m : Message) (rest : List ℕ) : Type 0 where
  pub fields : Fields
  pub answer : reading (encode m ++ rest) ≡ accepted fields (taken_with m rest)
  pub means : meaning (encode m ++ rest) fields ≡ m

-- fields that were read are written back to the octets taken, wherever there is room for them
pub record WritesBack (s : List ℕ) (f : Fields) (taken : ℕ) : Type 0 where
  pub octets : encode (meaning s f) ≡ take taken s
  pub answer : (room : ℕ) → taken ≤ room → writing (meaning s f) room ≡ written taken
  pub result : (out : List ℕ) → taken ≤ length out → output (meaning s f) out ≡ take taken s ++ drop taken out

-- the message whose fields are those that the parts hand back
abbrev pub meant : List ℕ → Fields → Message
meant s (SupportedProfiles version n) = supported_profiles version (field s Field.ProfileList)
meant s (UnsupportedVersion version) = unsupported_version version
meant s (MediaKeys profile k) =
    media_keys (field s Field.Identifier) profile (field s Field.Mki) (field s Field.ClientKey) (field s Field.ServerKey)
    (field s Field.ClientSalt) (field s Field.ServerSalt)
meant s (TunneledDtls n) = tunneled_dtls (field s Field.Identifier) (field s Field.Dtls)
meant s EndpointDisconnect = endpoint_disconnect (field s Field.Identifier)

-- the fields are of another type than 2
abbrev pub NotVersion : Fields → Type 0
NotVersion (SupportedProfiles version n) = Unit {0}
NotVersion (UnsupportedVersion version) = ⊥
NotVersion (MediaKeys profile k) = Unit {0}
NotVersion (TunneledDtls n) = Unit {0}
NotVersion EndpointDisconnect = Unit {0}

-- an answer where more octets are lent behind: the same; of type 2, with every lent octet taken
abbrev pub lent_more : Answer → (more : ℕ) → Answer
lent_more more_needed more = more_needed
lent_more (refused number taken) more = refused number taken
lent_more (accepted (SupportedProfiles version n) taken) more = accepted (SupportedProfiles version n) taken
lent_more (accepted (UnsupportedVersion version) taken) more = accepted (UnsupportedVersion version) (taken + more)
lent_more (accepted (MediaKeys profile k) taken) more = accepted (MediaKeys profile k) taken
lent_more (accepted (TunneledDtls n) taken) more = accepted (TunneledDtls n) taken
lent_more (accepted EndpointDisconnect taken) more = accepted EndpointDisconnect taken

-- octets behind which reading no longer asks for more
pub record Ended (s : List ℕ) : Type 0 where
  pub rest : List ℕ
  pub octets : Octets rest
  pub ended : reading (s ++ rest) ≡ more_needed → ⊥
