-- The block of octets that holds tunnel and table: where things stand, how they are read, and what a row is made of. No document lays it out.
use Rattle.std.specs.Prelude.{ℕ, zero, suc, ◌+◌, ◌*◌, ◌-◌, Bool, not, ◌&&◌, List, [], ◌∷◌, ◌++◌, eqb, length, take, drop, replicate, get_or}
use Rattle.octets.specs.Number.{octet_at, number16_at, number32_at, octets_of_16, octets_of_32}
use Rattle.octets.specs.Part.{part, same}
use Rattle.octets.specs.Write.{over}
use Rattle.message.specs.Limits.{width, mki_limit, salt_limit}
use Rattle.rules.specs.Limits.{places, key_limit, list_limit}
use Rattle.rules.specs.Keys.{Keys}

-- ---- offsets in a row: endpoint, identifier, state (0 vacant, 1 open, else keyed), profile; then each field behind a length octet, padded with zeros

abbrev pub endpoint_at : ℕ
endpoint_at = 0

abbrev pub identifier_at : ℕ
identifier_at = endpoint_at + 4

abbrev pub state_at : ℕ
state_at = identifier_at + width

abbrev pub profile_at : ℕ
profile_at = state_at + 1

abbrev pub mki_at : ℕ
mki_at = profile_at + 2

abbrev pub client_key_at : ℕ
client_key_at = mki_at + 1 + mki_limit

abbrev pub server_key_at : ℕ
server_key_at = client_key_at + 1 + key_limit

abbrev pub client_salt_at : ℕ
client_salt_at = server_key_at + 1 + key_limit

abbrev pub server_salt_at : ℕ
server_salt_at = client_salt_at + 1 + salt_limit

abbrev pub row_length : ℕ
row_length = server_salt_at + 1 + salt_limit

-- ---- offsets in the block: the rows; the tunnel (0 down, else up), its profile list behind a length octet; the index: the number of its entries, their places, their endpoints

abbrev pub tunnel_at : ℕ
tunnel_at = places * row_length

abbrev pub list_at : ℕ
list_at = tunnel_at + 1

abbrev pub index_at : ℕ
index_at = list_at + 1 + list_limit

abbrev pub index_places_at : ℕ
index_places_at = index_at + 2

abbrev pub index_endpoints_at : ℕ
index_endpoints_at = index_places_at + places

abbrev pub block_length : ℕ
block_length = index_endpoints_at + 4 * places

-- ---- reading

-- the field behind a length octet
abbrev pub field_of : List ℕ → (at limit : ℕ) → List ℕ
field_of r at limit = take (octet_at r at) (part r (at + 1) (at + 1 + limit))

unfoldable pub up : List ℕ → Bool
up s = not (eqb (octet_at s tunnel_at) 0)

unfoldable pub list_of : List ℕ → List ℕ
list_of s = field_of s list_at list_limit

-- k rows of n octets
unfoldable pub chunks : (k n : ℕ) → List ℕ → List (List ℕ)
chunks zero n l = []
chunks (suc k) n l = take n l ∷ chunks k n (drop n l)

unfoldable pub rows : List ℕ → List (List ℕ)
rows s = chunks places row_length s

unfoldable pub row_of : List ℕ → (place : ℕ) → List ℕ
row_of s place = get_or (rows s) place []

abbrev pub state_of : List ℕ → ℕ
state_of r = octet_at r state_at

unfoldable pub live : List ℕ → Bool
live r = not (eqb (octet_at r state_at) 0)

unfoldable pub identifier_of : List ℕ → List ℕ
identifier_of r = part r identifier_at (identifier_at + width)

unfoldable pub endpoint_of : List ℕ → ℕ
endpoint_of r = number32_at r endpoint_at

unfoldable pub keys_of : List ℕ → Keys
keys_of r = record {
  profile = number16_at r profile_at;
  mki = field_of r mki_at mki_limit;
  client_key = field_of r client_key_at key_limit;
  server_key = field_of r server_key_at key_limit;
  client_salt = field_of r client_salt_at salt_limit;
  server_salt = field_of r server_salt_at salt_limit;
}

unfoldable pub named : (identifier row : List ℕ) → Bool
named identifier r = live r && same (identifier_of r) identifier

unfoldable pub serving : (endpoint : ℕ) (row : List ℕ) → Bool
serving endpoint r = live r && eqb (endpoint_of r) endpoint

unfoldable pub vacant : List ℕ → Bool
vacant r = not (live r)

-- ---- writing

-- the first n octets of x, with zeros behind where there are fewer
unfoldable pub padded : (n : ℕ) → List ℕ → List ℕ
padded n x = take n (x ++ replicate n 0)

-- a length octet and a padded field
abbrev pub field : (limit : ℕ) → List ℕ → List ℕ
field limit x = length x ∷ padded limit x

unfoldable pub vacant_row : List ℕ
vacant_row = replicate row_length 0

unfoldable pub open_row : List ℕ → ℕ → List ℕ
open_row identifier endpoint = octets_of_32 endpoint ++ padded width identifier ++ (1 ∷ []) ++ replicate (row_length - profile_at) 0

-- a row with all its key fields replaced; endpoint and identifier stay
unfoldable pub keyed_row : Keys → List ℕ → List ℕ
keyed_row k r =
    take state_at r ++ (2 ∷ []) ++ octets_of_16 k.profile ++ field mki_limit k.mki ++ field key_limit k.client_key
    ++ field key_limit k.server_key ++ field salt_limit k.client_salt ++ field salt_limit k.server_salt

-- the block with another row at a place
unfoldable pub with_row : List ℕ → (place : ℕ) → List ℕ → List ℕ
with_row s place r = over s (place * row_length) r

-- tunnel down, table empty: the first state
unfoldable pub down_block : List ℕ
down_block = replicate block_length 0

-- tunnel up with a profile list, table empty
unfoldable pub up_block : List ℕ → List ℕ
up_block list = replicate tunnel_at 0 ++ (1 ∷ field list_limit list) ++ replicate (block_length - index_at) 0
