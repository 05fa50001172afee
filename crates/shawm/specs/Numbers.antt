-- The numbers that a message holds, by their numbers in the C interface; 0 where there is none.
use Rattle.std.specs.Prelude.{ℕ, cond, eqb}
use Rattle.message.specs.Read.{Answer, more_needed, refused, accepted}
use Rattle.message.specs.declared.bodies.Fields.{Fields}
use Rattle.message.specs.declared.bodies.Fields.TheVariants.{SupportedProfiles, UnsupportedVersion, MediaKeys, TunneledDtls, EndpointDisconnect}

-- the version of types 1 and 2
abbrev pub version_of : Fields → ℕ
version_of (SupportedProfiles version n) = version
version_of (UnsupportedVersion version) = version
version_of (MediaKeys profile k) = 0
version_of (TunneledDtls n) = 0
version_of EndpointDisconnect = 0

-- the profile of type 3
abbrev pub profile_of : Fields → ℕ
profile_of (SupportedProfiles version n) = 0
profile_of (UnsupportedVersion version) = 0
profile_of (MediaKeys profile k) = profile
profile_of (TunneledDtls n) = 0
profile_of EndpointDisconnect = 0

-- 16 version, 17 profile
unfoldable pub number_in : Fields → (field : ℕ) → ℕ
number_in f field = cond (eqb field 16) (version_of f) (cond (eqb field 17) (profile_of f) 0)

abbrev pub field_number : Answer → (field : ℕ) → ℕ
field_number more_needed field = 0
field_number (refused number taken) field = 0
field_number (accepted f taken) field = number_in f field
