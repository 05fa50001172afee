-- The parts handed back are the fields of the message that was read.
use Prim.Native.Nat.{ℕ}
use mathlib.Core.Path.{◌≡◌, refl}
use mathlib.Core.List.{List}
use Rattle.message.specs.Read.{reading, accepted}
use Rattle.message.specs.Parts.{meaning, field}
use Rattle.message.specs.Claims.{meant}
use Rattle.message.specs.declared.bodies.Fields.{Fields}
use Rattle.message.specs.declared.bodies.Fields.TheVariants.{SupportedProfiles, UnsupportedVersion, MediaKeys, TunneledDtls, EndpointDisconnect}

pub fields_mean : (s : List ℕ) (f : Fields) (taken : ℕ) → reading s ≡ accepted f taken → meaning s f ≡ meant s f
unfolding meaning field
fields_mean s (SupportedProfiles version n) taken e = rw e
fields_mean s (UnsupportedVersion version) taken e = refl
fields_mean s (MediaKeys profile k) taken e = rw e
fields_mean s (TunneledDtls n) taken e = rw e
fields_mean s EndpointDisconnect taken e = rw e
