-- The keys that calls_for sends are received as they are sent: read octet by octet, whatever the place is.
use Prim.Native.Nat.{ℕ}
use mathlib.Core.Path.{◌≡◌, refl}
use lib.ListN.{length}
use Rattle.octets.specs.Number.{number16_at}
use Rattle.octets.specs.Part.{part}
use Rattle.octets.specs.Bounds.{part_in}
use Rattle.message.specs.Message.{encode}
use Rattle.message.specs.Frame as Frame
use Rattle.message.specs.Walk as Walk
use Rattle.message.specs.Body as Body
use Rattle.message.specs.Read as Read
use Rattle.message.specs.Parts.{identifier_bounds}
use Rattle.message.specs.declared.bodies.Fields.TheVariants.{MediaKeys}
use Rattle.message.specs.Keys.{KeyLengths}
use Rattle.rules.specs.Refusals.{receiving}
use Rattle.rules.specs.Reaching.{identifier_for, keys_for}

-- of the key fields in keys_for
abbrev pub lengths : KeyLengths
lengths = record { mki = 0; client_key = 16; server_key = 16; client_salt = 12; server_salt = 12 }

pub keys_received : (place : ℕ) → receiving (keys_for place) ≡ Read.accepted (MediaKeys 9 lengths) (length (keys_for place))
unfolding receiving Frame.frame Frame.plain_frame Frame.kind_of Body.content Body.media_keys Walk.past Walk.fixed Walk.field8 Walk.complete encode number16_at part
keys_received place = refl

pub keys_name : (place : ℕ) → part_in (keys_for place) identifier_bounds ≡ identifier_for place
unfolding encode part
keys_name place = refl
