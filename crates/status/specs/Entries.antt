-- The entries of a status page, their bits, and which lists of them a table can give: document 02, order 1.
use Rattle.std.specs.Prelude.{ℕ, zero, suc, ◌+◌, ◌^◌, Bool, true, false, cond, not, ◌&&◌, ◌||◌, List, [], ◌∷◌, ◌++◌, leb, ltb, eqb}
use Rattle.status.specs.Limits.{places, place_bits, state_bits, endpoint_bits, entry_bits}
use Rattle.status.specs.Bits.{bits_of, value_of}
use Rattle.status.specs.declared.entry.Entry.{Entry}

-- "1 is keyed"
abbrev pub state_of : (keyed : Bool) → ℕ
state_of keyed = cond keyed 1 0

-- "5 bits place, 1 bit state, 32 bits endpoint"
unfoldable pub bits_of_entry : Entry → List ℕ
bits_of_entry e = bits_of place_bits e.place ++ bits_of state_bits (state_of e.keyed) ++ bits_of endpoint_bits e.endpoint

unfoldable pub bits_of_entries : List Entry → List ℕ
bits_of_entries [] = []
bits_of_entries (e ∷ es) = bits_of_entry e ++ bits_of_entries es

-- ---- what a table can give: "places rise, endpoints differ"

-- the places rise from the least on, and are those of a table
unfoldable pub rising : (least : ℕ) → List Entry → Bool
rising least [] = true
rising least (e ∷ es) = leb least e.place && ltb e.place places && rising (e.place + 1) es

abbrev pub endpoint_of : Entry → ℕ
endpoint_of e = e.endpoint

-- an entry has this endpoint
unfoldable pub mentions : (endpoint : ℕ) → List Entry → Bool
mentions endpoint [] = false
mentions endpoint (e ∷ es) = eqb e.endpoint endpoint || mentions endpoint es

unfoldable pub distinct : List Entry → Bool
distinct [] = true
distinct (e ∷ es) = not (mentions e.endpoint es) && distinct es

-- every endpoint is a number of its bits
unfoldable pub narrow : List Entry → Bool
narrow [] = true
narrow (e ∷ es) = ltb e.endpoint (2 ^ endpoint_bits) && narrow es

unfoldable pub good : List Entry → Bool
good es = rising 0 es && distinct es && narrow es

-- ---- read back

-- the entry that bits stand for from bit `from` on
unfoldable pub entry_at : (f : ℕ → ℕ) (from : ℕ) → Entry
entry_at f from = record {
  place = value_of f from place_bits;
  keyed = eqb (value_of f (from + place_bits) state_bits) 1;
  endpoint = value_of f (from + place_bits + state_bits) endpoint_bits;
}

-- so many entries, one behind the other
unfoldable pub entries_at : (f : ℕ → ℕ) (from count : ℕ) → List Entry
entries_at f from zero = []
entries_at f from (suc count) = entry_at f from ∷ entries_at f (from + entry_bits) count
