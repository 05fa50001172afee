-- The limits and widths of the status page by name: document 02, order 1.
use Rattle.std.specs.Prelude.{ℕ, ◌+◌, ◌*◌}

-- live associations at most: the request
abbrev pub places : ℕ
places = 32

-- "6 bits for the number of live associations"
abbrev pub count_bits : ℕ
count_bits = 6

-- "5 bits place, 1 bit state (1 is keyed), 32 bits endpoint"
abbrev pub place_bits : ℕ
place_bits = 5

abbrev pub state_bits : ℕ
state_bits = 1

abbrev pub endpoint_bits : ℕ
endpoint_bits = 32

abbrev pub entry_bits : ℕ
entry_bits = place_bits + state_bits + endpoint_bits

-- bits of a page with so many entries, its filling not counted
abbrev pub page_bits : (count : ℕ) → ℕ
page_bits count = count_bits + count * entry_bits

-- bits read at once: with up to 7 in front of them they stand in eight octets
abbrev pub field_bits : ℕ
field_bits = 56
