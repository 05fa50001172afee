-- What writing a message answers, and what it leaves in the output: document 01, "Tunnel messages", refusals 20; 5; 2; 13.
use Rattle.std.specs.Prelude.{ℕ, ◌%◌, ◌≡◌, Bool, true, false, cond, not, ◌&&◌, List, ◌++◌, length, drop, ltb, eqb}
use Rattle.octets.specs.Range.{within}
use Rattle.message.specs.Limits.{width, body_limit, most8, most16}
use Rattle.message.specs.Message.{Message, supported_profiles, unsupported_version, media_keys, tunneled_dtls, endpoint_disconnect, encode, encode_body}

-- a refusal by its number, or the number of octets written
pub data Answer : Type 0 where
  refused : (number : ℕ) → Answer
  written : (count : ℕ) → Answer

-- an identifier has A octets
abbrev pub identifier_fits : Message → Bool
identifier_fits (supported_profiles version profiles) = true
identifier_fits (unsupported_version version) = true
identifier_fits (media_keys identifier profile mki client_key server_key client_salt server_salt) = eqb (length identifier) width
identifier_fits (tunneled_dtls identifier dtls) = eqb (length identifier) width
identifier_fits (endpoint_disconnect identifier) = eqb (length identifier) width

-- the five fields of MediaKeys, by their lengths
abbrev pub key_fields_fit : (mki client_key server_key client_salt server_salt : ℕ) → Bool
key_fields_fit mki client_key server_key client_salt server_salt =
    within 0 most8 mki && within 1 most8 client_key && within 1 most8 server_key && within 1 most8 client_salt && within 1 most8 server_salt

-- no field is shorter than its least or longer than its length octets can say, and a profile list is even
abbrev pub fields_fit : Message → Bool
fields_fit (supported_profiles version profiles) = within 1 most16 (length profiles) && eqb (length profiles % 2) 0
fields_fit (unsupported_version version) = true
fields_fit (media_keys identifier profile mki client_key server_key client_salt server_salt) =
    key_fields_fit (length mki) (length client_key) (length server_key) (length client_salt) (length server_salt)
fields_fit (tunneled_dtls identifier dtls) = within 1 most16 (length dtls)
fields_fit (endpoint_disconnect identifier) = true

-- a body within the limit, and a message that there is room for
abbrev pub fitting : (body_length message_length room : ℕ) → Answer
fitting body_length message_length room =
    cond (ltb body_limit body_length) (refused 2)
    (cond (ltb room message_length) (refused 13)
    (written message_length))

-- the earliest refusal, or the octets that are written; refusals 2 and 13 go by the encoding
unfoldable pub writing : Message → (room : ℕ) → Answer
writing m room =
    cond (not (identifier_fits m)) (refused 20)
    (cond (not (fields_fit m)) (refused 5)
    (fitting (length (encode_body m)) (length (encode m)) room))

abbrev pub accepts : Answer → Bool
accepts (refused number) = false
accepts (written count) = true

-- a message at the front of an output, and the octets behind it as they were
abbrev pub front : Message → List ℕ → List ℕ
front m out = encode m ++ drop (length (encode m)) out

-- the output afterwards: written to, or every octet as it was
abbrev pub output_after : Answer → Message → List ℕ → List ℕ
output_after (refused number) m out = out
output_after (written count) m out = front m out

unfoldable pub output : Message → List ℕ → List ℕ
output m out = output_after (writing m (length out)) m out

-- what a writer promises: its answer, and the output before and after
abbrev pub Writes : Message → (before after : List ℕ) → Answer → Type 0
Writes m before after answer = (answer ≡ writing m (length before)) × (after ≡ output m before)
