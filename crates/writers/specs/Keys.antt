-- MediaKeys by the parts that its fields are lent as.
use Rattle.std.specs.Prelude.{ℕ, ◌+◌, Bool, List, length, Option}
use Rattle.std.specs.Bool.{then_some}
use Rattle.std.specs.Borrow.{Bor}
use Rattle.message.specs.Limits.{width}
use Rattle.message.specs.Message as Message
use Rattle.message.specs.Write.{key_fields_fit}
use Rattle.message.specs.declared.keys.Keys.{Keys}

abbrev pub KeyFields : Type 0
KeyFields = Keys (Bor (List ℕ))

abbrev pub media_keys : (identifier : List ℕ) (profile : ℕ) → KeyFields → Message.Message
media_keys identifier profile k = Message.media_keys identifier profile k.mki.now k.client_key.now k.server_key.now k.client_salt.now k.server_salt.now

-- whether their length octets can tell them, and only the MKI is empty
abbrev pub fit : KeyFields → Bool
fit k = key_fields_fit (length k.mki.now) (length k.client_key.now) (length k.server_key.now) (length k.client_salt.now) (length k.server_salt.now)

-- how long the body is with them, none where they don't fit
abbrev pub body_length : KeyFields → Option ℕ
body_length k =
    then_some (fit k)
    (width + 7 + length k.mki.now + length k.client_key.now + length k.server_key.now + length k.client_salt.now + length k.server_salt.now)
