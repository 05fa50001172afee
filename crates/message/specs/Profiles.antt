-- The SRTP protection profiles that we speak, and the rules that tables of associations share: document 01, "The record and its calls".
use Rattle.std.specs.Prelude.{ℕ, ◌+◌, ◌*◌, ◌%◌, Bool, true, false, cond, not, ◌&&◌, ◌||◌, List, [], ◌∷◌, length, leb, eqb, Option, Some, None}
use Rattle.message.specs.Limits.{mki_limit, salt_limit}
use Rattle.message.specs.Keys.{KeyLengths}

-- a profile and the length of its keys: half the usual, as only the hop-by-hop half is told (RFC 9185, section 5.4)
pub record Profile : Type 0 where
  pub number : ℕ
  pub key_length : ℕ

-- the one table of them: the double AES-GCM profiles of RFC 8723
abbrev pub profiles : List Profile
profiles = record { number = 0x0009; key_length = 16 } ∷ record { number = 0x000A; key_length = 32 } ∷ []

-- the key length of a profile, 0 where it is none
abbrev pub lookup : ℕ → List Profile → ℕ
lookup p [] = 0
lookup p (row ∷ rows) = cond (eqb p row.number) row.key_length (lookup p rows)

unfoldable pub key_length : ℕ → ℕ
key_length p = lookup p profiles

-- a profile is one of the table
abbrev pub listed : ℕ → List Profile → Bool
listed p [] = false
listed p (row ∷ rows) = eqb p row.number || listed p rows

unfoldable pub is_profile : ℕ → Bool
is_profile p = listed p profiles

-- the key length of a profile that is one of ours, none of any other
unfoldable pub found_key_length : ℕ → Option ℕ
found_key_length p = cond (is_profile p) (Some (key_length p)) None

-- ---- profile lists, lent as octets, two to a profile

-- where no rule names odd lengths, a lone last octet is no profile (document 01, "Tunnel messages")
unfoldable pub entries : List ℕ → List ℕ
entries [] = []
entries (x ∷ []) = []
entries (x ∷ y ∷ l) = (x * 256 + y) ∷ entries l

abbrev pub member : ℕ → List ℕ → Bool
member p [] = false
member p (x ∷ l) = eqb x p || member p l

unfoldable pub in_list : ℕ → List ℕ → Bool
in_list p list = member p (entries list)

-- every entry is a profile, and none comes twice
abbrev pub sound : List ℕ → Bool
sound [] = true
sound (x ∷ l) = is_profile x && not (member x l) && sound l

-- refusal 16 is for any other: not empty, of even length, with no repeat, every entry a profile
unfoldable pub good_list : List ℕ → Bool
good_list list = not (eqb (length list) 0) && eqb (length list % 2) 0 && sound (entries list)

-- ---- the lengths of key fields

-- both keys have the profile's length: refusal 8 is for any other
unfoldable pub keys_fit : (profile : ℕ) → KeyLengths → Bool
keys_fit profile k = eqb k.client_key (key_length profile) && eqb k.server_key (key_length profile)

-- the MKI and the salts are within our limits: refusal 9 is for any other
unfoldable pub mki_and_salts_fit : KeyLengths → Bool
mki_and_salts_fit k = leb k.mki mki_limit && leb k.client_salt salt_limit && leb k.server_salt salt_limit
