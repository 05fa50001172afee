-- The key fields that the table and the cards take from the octets of a MediaKeys are those of the message that was read.
use Prim.Native.Nat.{ℕ}
use mathlib.Core.Path.{◌≡◌, refl}
use mathlib.Core.List.{List}
use Rattle.octets.specs.Bounds.{part_in}
use Rattle.message.specs.Message.{media_keys}
use Rattle.message.specs.Parts.{identifier_bounds, meaning}
use Rattle.message.specs.declared.bodies.Fields.TheVariants.{MediaKeys}
use Rattle.message.specs.Keys.{KeyLengths}
use Rattle.rules.specs.Keys.{keys_in}

pub keys_mean : (s : List ℕ) (profile : ℕ) (k : KeyLengths)
    → let f = keys_in s profile k in
    meaning s (MediaKeys profile k) ≡ media_keys (part_in s identifier_bounds) f.profile f.mki f.client_key f.server_key f.client_salt f.server_salt
unfolding meaning keys_in
keys_mean s profile k = refl
