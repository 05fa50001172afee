-- What there is for each of the key fields of MediaKeys: its length, and where it stands.
use Rattle.std.specs.Prelude.{ℕ}
use Rattle.octets.specs.declared.parts.Bounds.{Bounds}
use Rattle.message.specs.declared.keys.Keys.{Keys}

abbrev pub KeyLengths : Type 0
KeyLengths = Keys ℕ

abbrev pub KeyBounds : Type 0
KeyBounds = Keys Bounds
