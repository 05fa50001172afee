-- Bits, the most significant first, as lists of 0 and 1; and how they stand in octets.
use Rattle.std.specs.Prelude.{ℕ, zero, suc, ◌+◌, ◌*◌, ◌/◌, ◌%◌, List, [], ◌∷◌, ◌++◌, length, get_or}
use Rattle.octets.specs.Number.{octet_at}

-- the lowest so many bits of a number, the highest of them first
unfoldable pub bits_of : (width number : ℕ) → List ℕ
bits_of zero n = []
bits_of (suc width) n = bits_of width (n / 2) ++ (n % 2 ∷ [])

-- bit k of a list of bits, 0 past the end
abbrev pub bit_in : (bits : List ℕ) (k : ℕ) → ℕ
bit_in bits k = get_or bits k 0

-- the number that so many bits of f stand for, from bit `from` on
unfoldable pub value_of : (f : ℕ → ℕ) (from width : ℕ) → ℕ
value_of f from zero = 0
value_of f from (suc width) = value_of f from width * 2 + f (from + width)

-- octets for so many bits
abbrev pub octets_for : (bits : ℕ) → ℕ
octets_for bits = (bits + 7) / 8

-- so many octets of the bits of f, from bit `from` on
unfoldable pub octets_of : (f : ℕ → ℕ) (from count : ℕ) → List ℕ
octets_of f from zero = []
octets_of f from (suc count) = value_of f from 8 ∷ octets_of f (from + 8) count

-- bits packed eight to an octet; zero bits fill the last
unfoldable pub pack : (bits : List ℕ) → List ℕ
pack bits = octets_of (bit_in bits) 0 (octets_for (length bits))

-- bit k of octets, 0 past the end
unfoldable pub bit_at : (octets : List ℕ) (k : ℕ) → ℕ
bit_at s k = bit_in (bits_of 8 (octet_at s (k / 8))) (k % 8)
