-- The record that Look gives by value (document 01, "The record and its calls"): its fields padded with zeros, and how it is read.
use Rattle.std.specs.Prelude.{ℕ, ◌+◌, cond, List, eqb, take, Option, Some, None, Result, Ok, Err}
use Rattle.octets.specs.Number.{octet_at, number16_at}
use Rattle.octets.specs.Part.{part}
use Rattle.octets.specs.Refusal.{number_of}
use Rattle.octets.specs.declared.refusal.Refusal.{Refusal}
use Rattle.message.specs.Limits.{width, mki_limit, salt_limit}
use Rattle.rules.specs.Limits.{key_limit}
use Rattle.rules.specs.Keys.{Keys}
use Rattle.rules.specs.Layout.{state_at, identifier_at, profile_at, mki_at, client_key_at, server_key_at, client_salt_at, server_salt_at, endpoint_of, padded}
use Rattle.rules.specs.Answer.{Answer, Association, opened, keyed, refused, found}
use Rattle.distributor.specs.declared.looking.Padded.{Padded}
use Rattle.distributor.specs.declared.looking.RecordKeys.{RecordKeys}
use Rattle.distributor.specs.declared.looking.Record.{Record}

-- n octets of a row from an offset on
abbrev pub stretch : List ℕ → (at n : ℕ) → List ℕ
stretch r at n = padded n (part r at (at + n))

-- the field behind a length octet, of at most n octets
abbrev pub field_at : (n : ℕ) → List ℕ → (at : ℕ) → Padded n
field_at n r at = record { length = octet_at r at; octets = stretch r (at + 1) n }

unfoldable pub record_keys : List ℕ → RecordKeys
record_keys r = record {
  profile = number16_at r profile_at;
  mki = field_at mki_limit r mki_at;
  client_key = field_at key_limit r client_key_at;
  server_key = field_at key_limit r server_key_at;
  client_salt = field_at salt_limit r client_salt_at;
  server_salt = field_at salt_limit r server_salt_at;
}

-- the record of a live row; an open one has no keys
unfoldable pub record_of : List ℕ → Record
record_of r = record {
  identifier = stretch r identifier_at width;
  endpoint = endpoint_of r;
  keys = cond (eqb (octet_at r state_at) 1) None (Some (record_keys r));
}

-- ---- how a record is read: each field as far as its length

abbrev pub field_read : {n : ℕ} → Padded n → List ℕ
field_read f = take f.length f.octets

abbrev pub keys_read : RecordKeys → Keys
keys_read k = record {
  profile = k.profile;
  mki = field_read k.mki;
  client_key = field_read k.client_key;
  server_key = field_read k.server_key;
  client_salt = field_read k.client_salt;
  server_salt = field_read k.server_salt;
}

abbrev pub association_with : (identifier : List ℕ) (endpoint : ℕ) → Option RecordKeys → Association
association_with identifier endpoint None = opened identifier endpoint
association_with identifier endpoint (Some k) = keyed identifier endpoint (keys_read k)

abbrev pub association_in : Record → Association
association_in a = association_with a.identifier a.endpoint a.keys

-- the number or the association that each case of the result stands for
abbrev pub look_of : Result Record Refusal → Answer
look_of (Ok a) = found (association_in a)
look_of (Err r) = refused (number_of r) 0
