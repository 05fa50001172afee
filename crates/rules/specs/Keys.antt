-- The key fields of an association, and those that a MediaKeys message brings: document 01, "The record and its calls"; RFC 9185, section 6.4.
use Rattle.std.specs.Prelude.{ℕ, List}
use Rattle.octets.specs.Bounds.{part_in}
use Rattle.message.specs.Parts.{key_bounds}
use Rattle.message.specs.Keys.{KeyLengths}

pub record Keys : Type 0 where
  pub profile : ℕ
  pub mki : List ℕ
  pub client_key : List ℕ
  pub server_key : List ℕ
  pub client_salt : List ℕ
  pub server_salt : List ℕ

-- of a message that was read at the front of s
unfoldable pub keys_in : List ℕ → (profile : ℕ) → KeyLengths → Keys
keys_in s profile k = record {
  profile = profile;
  mki = part_in s (key_bounds k).mki;
  client_key = part_in s (key_bounds k).client_key;
  server_key = part_in s (key_bounds k).server_key;
  client_salt = part_in s (key_bounds k).client_salt;
  server_salt = part_in s (key_bounds k).server_salt;
}
