-- The State and its transformations: FIPS 197 (2001), 3.4, 5.1 and 5.3.
use Rattle.std.specs.Prelude.{ℕ, ◌+◌, ◌*◌, ◌-◌, ◌%◌, List, [], ◌∷◌}
use Rattle.octets.specs.Number.{octet_at}
use Rattle.aes.specs.Field.{xor, mul, sub_byte, inv_sub_byte}

-- A state is 16 octets, column behind column: s[r, c] is in[r + 4c], 3.4.
unfoldable pub at : (s : List ℕ) (r c : ℕ) → ℕ
at s r c = octet_at s (r + 4 * c)

unfoldable pub column : (ℕ → ℕ → ℕ) → (c : ℕ) → List ℕ → List ℕ
column f c rest = f 0 c ∷ f 1 c ∷ f 2 c ∷ f 3 c ∷ rest

-- the state that has f r c in row r and column c
unfoldable pub state_by : (ℕ → ℕ → ℕ) → List ℕ
state_by f = column f 0 (column f 1 (column f 2 (column f 3 [])))

-- SubBytes, 5.1.1, and InvSubBytes, 5.3.2
unfoldable pub sub_bytes : List ℕ → List ℕ
sub_bytes s = state_by (λ r c. sub_byte (at s r c))

unfoldable pub inv_sub_bytes : List ℕ → List ℕ
inv_sub_bytes s = state_by (λ r c. inv_sub_byte (at s r c))

-- ShiftRows, 5.1.2: row r moves r columns to the left. InvShiftRows, 5.3.1: to the right.
unfoldable pub shift_rows : List ℕ → List ℕ
shift_rows s = state_by (λ r c. at s r ((c + r) % 4))

unfoldable pub inv_shift_rows : List ℕ → List ℕ
inv_shift_rows s = state_by (λ r c. at s r ((c + 4 - r) % 4))

-- a row of a matrix times a column
unfoldable pub row_times : (j k l m a b c d : ℕ) → ℕ
row_times j k l m a b c d = xor (xor (mul j a) (mul k b)) (xor (mul l c) (mul m d))

-- each column times the matrix with the top row j k l m, in which each row is the one above it moved one place to the right
unfoldable pub mixed : (j k l m : ℕ) (s : List ℕ) → List ℕ
mixed j k l m s =
    state_by (λ r c. row_times j k l m (at s r c) (at s ((r + 1) % 4) c) (at s ((r + 2) % 4) c) (at s ((r + 3) % 4) c))

-- MixColumns, (5.6) of 5.1.3, and InvMixColumns, (5.10) of 5.3.3
unfoldable pub mix_columns : List ℕ → List ℕ
mix_columns s = mixed 0x02 0x03 0x01 0x01 s

unfoldable pub inv_mix_columns : List ℕ → List ℕ
inv_mix_columns s = mixed 0x0e 0x0b 0x0d 0x09 s

-- AddRoundKey, 5.1.4: its own inverse, 5.3.4
unfoldable pub add_round_key : (s key : List ℕ) → List ℕ
add_round_key s key = state_by (λ r c. xor (at s r c) (at key r c))
