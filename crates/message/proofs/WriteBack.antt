-- Fields that were read are written back to the octets taken.
use Prim.Native.Nat.{ℕ}
use mathlib.Core.Path.{◌≡◌}
use mathlib.Core.List.{List}
use Rattle.octets.specs.Number.{Octets}
use Rattle.message.specs.Read.{accepted, reading}
use Rattle.message.specs.Claims.{WritesBack, NotVersion}
use Rattle.message.specs.declared.bodies.Fields.{Fields}
use Rattle.message.specs.declared.bodies.Fields.TheVariants.{SupportedProfiles, UnsupportedVersion, MediaKeys, TunneledDtls, EndpointDisconnect}
use Rattle.message.proofs.ReadSays.{FieldsSay, reading_says}

back : (s : List ℕ) (f : Fields) (taken : ℕ) → NotVersion f → FieldsSay s f taken → WritesBack s f taken
back s (SupportedProfiles version n) taken _ says = says
back s (UnsupportedVersion version) taken not _ = absurd not
back s (MediaKeys profile k) taken _ says = says
back s (TunneledDtls n) taken _ says = says
back s EndpointDisconnect taken _ says = says

pub read_writes_back : (s : List ℕ) (f : Fields) (taken : ℕ) → Octets s → NotVersion f → reading s ≡ accepted f taken → WritesBack s f taken
read_writes_back s f taken o not e = back s f taken not (rw e at (reading_says s o))
