-- The index in a block: the endpoints of the live rows, rising, and the rows' places (document 02, order 2). In a block that calls lead to, its octets follow from the rows, and those that hold nothing are zero.
use Rattle.std.specs.Prelude.{ℕ, ◌+◌, ◌*◌, ◌-◌, cond, List, [], ◌∷◌, ◌++◌, ltb, length}
use Rattle.octets.specs.Number.{octet_at, number16_at, octets_of_16}
use Rattle.octets.specs.Word.{quad_at, low_first32}
use Rattle.octets.specs.Part.{part}
use Rattle.octets.specs.Write.{over}
use Rattle.rules.specs.Limits.{places, rounds}
use Rattle.rules.specs.Layout.{index_at, index_places_at, index_endpoints_at, padded}
use Rattle.rules.specs.Halving.{Spot, here, missing, halving}
use Rattle.rules.specs.Order.{Entry}

-- ---- reading

-- no more than there are places, whatever the block holds
unfoldable pub count_of : List ℕ → ℕ
count_of s = cond (ltb (number16_at s index_at) places) (number16_at s index_at) places

-- the lowest octet first
unfoldable pub index_endpoint : List ℕ → (at : ℕ) → ℕ
index_endpoint s at = quad_at s (index_endpoints_at + 4 * at)

unfoldable pub index_place : List ℕ → (at : ℕ) → ℕ
index_place s at = octet_at s (index_places_at + at)

-- ---- searching

unfoldable pub spot : List ℕ → (endpoint : ℕ) → Spot
spot s endpoint = halving rounds (index_endpoint s) endpoint (count_of s)

abbrev pub place_at_spot : List ℕ → Spot → ℕ
place_at_spot s (here at) = index_place s at
place_at_spot s (missing at) = places

-- ---- the octets of an index

-- those of each entry, one after the other
unfoldable pub column : (Entry → List ℕ) → List Entry → List ℕ
column octets [] = []
column octets (x ∷ m) = octets x ++ column octets m

abbrev pub place_octets : Entry → List ℕ
place_octets x = x.place ∷ []

abbrev pub endpoint_octets : Entry → List ℕ
endpoint_octets x = low_first32 x.endpoint

unfoldable pub index_octets : List Entry → List ℕ
index_octets m = octets_of_16 (length m) ++ (padded places (column place_octets m) ++ padded (4 * places) (column endpoint_octets m))

-- ---- writing

-- octets put in at an offset, those from there on moved up
unfoldable pub entered : List ℕ → (from to : ℕ) → List ℕ → List ℕ
entered s from to q = over (over s (from + length q) (part s from to)) from q

-- as many octets taken out at an offset, those behind moved down, and these put in the gap that is left
unfoldable pub withdrawn : List ℕ → (from to : ℕ) → List ℕ → List ℕ
withdrawn s from to q = over (over s from (part s (from + length q) to)) (to - length q) q

unfoldable pub inserted_at : List ℕ → (at endpoint place : ℕ) → List ℕ
inserted_at s at endpoint place =
    let n = count_of s in
    let with_place = entered s (index_places_at + at) (index_places_at + n) (place ∷ []) in
    let with_both = entered with_place (index_endpoints_at + 4 * at) (index_endpoints_at + 4 * n) (low_first32 endpoint) in
    over with_both index_at (octets_of_16 (n + 1))

unfoldable pub removed_at : List ℕ → (at : ℕ) → List ℕ
removed_at s at =
    let n = count_of s in
    let without_place = withdrawn s (index_places_at + at) (index_places_at + n) (0 ∷ []) in
    let without_both = withdrawn without_place (index_endpoints_at + 4 * at) (index_endpoints_at + 4 * n) (0 ∷ 0 ∷ 0 ∷ 0 ∷ []) in
    over without_both index_at (octets_of_16 (n - 1))

-- an endpoint put in where it is missing, unless the index is full; and taken out where it stands
abbrev pub entering : List ℕ → (endpoint place : ℕ) → Spot → List ℕ
entering s endpoint place (here at) = s
entering s endpoint place (missing at) = cond (ltb (count_of s) places) (inserted_at s at endpoint place) s

abbrev pub leaving : List ℕ → Spot → List ℕ
leaving s (here at) = removed_at s at
leaving s (missing at) = s

unfoldable pub with_entry : List ℕ → (endpoint place : ℕ) → List ℕ
with_entry s endpoint place = entering s endpoint place (spot s endpoint)

unfoldable pub without_entry : List ℕ → (endpoint : ℕ) → List ℕ
without_entry s endpoint = leaving s (spot s endpoint)
