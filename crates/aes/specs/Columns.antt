-- The steps in which the code does InvSubBytes, MixColumns and InvMixColumns: no part of FIPS 197. That they come to the same are
-- `inverse_circuits` (proofs/CircuitLaws.antt), `mixed_whole` (proofs/Entries.antt).
use Rattle.std.specs.Prelude.{◌<◌, ℕ, ◌+◌, ◌%◌, List}
use Rattle.octets.specs.Number.{octet_at}
use Rattle.aes.specs.Field.{inv_affine}
use Rattle.aes.specs.State.{at, state_by}

-- the inverse affine transformation of each octet
unfoldable pub inv_affines : List ℕ → List ℕ
inv_affines s = state_by (λ r c. inv_affine (at s r c))

-- each column turned by one row
unfoldable pub next_rows : List ℕ → List ℕ
next_rows s = state_by (λ r c. at s ((r + 1) % 4) c)

-- each octet of r is one that a rule gives of the octets of its column, from its row on
abbrev pub MixedBy : (row : (a b c d r : ℕ) → Type 0) (s r : List ℕ) → Type 0
MixedBy row s r =
    (i : ℕ) → i < 16
    → row (octet_at s i) (octet_at (next_rows s) i) (octet_at (next_rows (next_rows s)) i) (octet_at (next_rows (next_rows (next_rows s))) i) (octet_at r i)
