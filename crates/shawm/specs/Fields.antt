-- Where a field of a message begins and ends, by its number in the C interface. One that is not there is empty, from 0 to 0.
use Rattle.std.specs.Prelude.{ℕ, cond, List, eqb}
use Rattle.octets.specs.Bounds.{nowhere}
use Rattle.octets.specs.declared.parts.Bounds.{Bounds}
use Rattle.message.specs.Read.{reading}
use Rattle.message.specs.Parts.{bounds_of, bounds_for}
use Rattle.message.specs.declared.bounds.FieldBounds.{FieldBounds}
use Rattle.message.specs.declared.bounds.Field.{Field}

-- 1 identifier, 2 profile list, 3 MKI, 4 client key, 5 server key, 6 client salt, 7 server salt, 8 DTLS octets
unfoldable pub numbered_bounds : FieldBounds → (field : ℕ) → Bounds
numbered_bounds p field =
    cond (eqb field 1) (bounds_for p Field.Identifier)
    (cond (eqb field 2) (bounds_for p Field.ProfileList)
    (cond (eqb field 3) (bounds_for p Field.Mki)
    (cond (eqb field 4) (bounds_for p Field.ClientKey)
    (cond (eqb field 5) (bounds_for p Field.ServerKey)
    (cond (eqb field 6) (bounds_for p Field.ClientSalt)
    (cond (eqb field 7) (bounds_for p Field.ServerSalt)
    (cond (eqb field 8) (bounds_for p Field.Dtls)
    nowhere)))))))

-- in what is read at the front of s
unfoldable pub field_bounds : (s : List ℕ) → (field : ℕ) → Bounds
field_bounds s field = numbered_bounds (bounds_of (reading s)) field
