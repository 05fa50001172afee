-- The tests of Profiles in other words, with the numbers of document 01 ("Tunnel messages", "The record and its calls") and of RFC 9185, section 5.4: what the theorems in proofs/ say of them.
use Rattle.std.specs.Prelude.{ℕ, ◌+◌, ◌*◌, ◌≤◌, ◌<◌, ◌≡◌, ◌↔◌, ◌⊎◌, true, List, length}
use Rattle.octets.specs.Number.{octet_at, Octets}
use Rattle.message.specs.Profiles as Profiles
use Rattle.message.specs.Read.{accepted, reading}
use Rattle.message.specs.declared.bodies.Fields.TheVariants.{MediaKeys}
use Rattle.message.specs.Keys.{KeyLengths}

-- a list's entry: which one it is, that both its octets are there, and the profile that they tell
pub record EntryOf (list : List ℕ) (profile : ℕ) : Type 0 where
  pub which : ℕ
  pub there : 2 * which + 1 < length list
  pub told : octet_at list (2 * which) * 256 + octet_at list (2 * which + 1) ≡ profile

-- a profile of ours with keys of its length: 16 octets each, or 32
abbrev pub KeysOf : (profile : ℕ) → KeyLengths → Type 0
KeysOf profile k =
    ((profile ≡ 0x0009) × (k.client_key ≡ 16) × (k.server_key ≡ 16))
    ⊎ ((profile ≡ 0x000A) × (k.client_key ≡ 32) × (k.server_key ≡ 32))

pub record ProfileTests : Type 0 where
  -- 7: a profile is in a list exactly when it is an entry; a lone last octet is none
  pub in_list : (profile : ℕ) (list : List ℕ) → (Profiles.in_list profile list ≡ true) ↔ EntryOf list profile
  -- 8: of a client key that has an octet, and so of any that was read
  pub keys_fit : (profile : ℕ) (k : KeyLengths) → 1 ≤ k.client_key → (Profiles.keys_fit profile k ≡ true) ↔ KeysOf profile k
  pub keys_read : (s : List ℕ) → Octets s → (profile : ℕ) (k : KeyLengths) (taken : ℕ) → reading s ≡ accepted (MediaKeys profile k) taken
      → (Profiles.keys_fit profile k ≡ true) ↔ KeysOf profile k
  -- 9: an MKI of at most 16 octets, salts of at most 32
  pub mki_and_salts_fit : (k : KeyLengths) → (Profiles.mki_and_salts_fit k ≡ true) ↔ ((k.mki ≤ 16) × (k.client_salt ≤ 32) × (k.server_salt ≤ 32))
