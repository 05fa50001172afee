-- AES Key Wrap with Padding: RFC 5649, sections 3 and 4, with AES-128. The registers are as in RFC 3394 (KeyWrap.antt).
use Rattle.std.specs.Prelude.{ℕ, ◌+◌, ◌*◌, ◌-◌, ◌%◌, Bool, true, cond, ◌&&◌, List, [], ◌∷◌, ◌++◌, eqb, leb, ltb, length, take, drop, replicate}
use Rattle.octets.specs.Number.{octet_at, octets_of_32, number32_at}
use Rattle.octets.specs.Range as Range
use Rattle.aes.specs.KeyExpansion.{key_expansion}
use Rattle.aes.specs.Cipher.{cipher, inv_cipher}
use Rattle.keywrap.specs.KeyWrap.{register_count, wrap_steps, unwrap_steps}
use Rattle.keywrap.specs.Limits.{ciphertext_most}

-- section 3: the alternative initial value, a constant and the message length indicator, for a plaintext of m octets
unfoldable pub aiv : (m : ℕ) → List ℕ
aiv m = 0xa6 ∷ 0x59 ∷ 0x59 ∷ 0xa6 ∷ octets_of_32 m

-- ---- 4.1, wrapping

-- step 1: so many octets 0 behind m octets make a multiple of 8; none where m is one
unfoldable pub padding : (m : ℕ) → ℕ
padding m = (8 - m % 8) % 8

-- the AIV in A, the padded plaintext in R[1] to R[n]
unfoldable pub initial_registers : (p : List ℕ) → List ℕ
initial_registers p = aiv (length p) ++ (p ++ replicate (padding (length p)) 0)

-- step 2: one block where n is 1, else the key wrap process
unfoldable pub wrap_registers : (w x : List ℕ) → List ℕ
wrap_registers w x = cond (eqb (register_count x) 1) (cipher w x) (wrap_steps w (6 * register_count x) x)

unfoldable pub wrap : (key p : List ℕ) → List ℕ
wrap key p = wrap_registers (key_expansion key) (initial_registers p)

-- ---- 4.2, unwrapping

-- step 1
unfoldable pub unwrap_registers : (w c : List ℕ) → List ℕ
unwrap_registers w c = cond (eqb (register_count c) 1) (inv_cipher w c) (unwrap_steps w (6 * register_count c) c)

-- step 2: the three checks of section 3

-- MSB(32, A) = A65959A6
unfoldable pub constant_right : (x : List ℕ) → Bool
constant_right x = eqb (octet_at x 0) 0xa6 && eqb (octet_at x 1) 0x59 && eqb (octet_at x 2) 0x59 && eqb (octet_at x 3) 0xa6

-- the message length indicator, LSB(32, A)
unfoldable pub mli : (x : List ℕ) → ℕ
mli x = number32_at x 4

-- 8 (n - 1) < m ≤ 8 n
unfoldable pub mli_fits : (n m : ℕ) → Bool
mli_fits n m = ltb (8 * (n - 1)) m && leb m (8 * n)

unfoldable pub zeros : List ℕ → Bool
zeros [] = true
zeros (a ∷ l) = eqb a 0 && zeros l

-- all three: the octets of the padded plaintext behind the first MLI are 0
unfoldable pub verified : (x : List ℕ) → Bool
verified x = constant_right x && mli_fits (register_count x) (mli x) && zeros (drop (8 + mli x) x)

-- step 3: without its padding
unfoldable pub plaintext_in : (x : List ℕ) → List ℕ
plaintext_in x = take (mli x) (drop 8 x)

-- a whole number of registers: A, at least one R, and no more than the longest plaintext has
unfoldable pub length_fits : (n : ℕ) → Bool
length_fits n = Range.within 16 ciphertext_most n && eqb (n % 8) 0

unfoldable pub accepted : (key c : List ℕ) → Bool
accepted key c = length_fits (length c) && verified (unwrap_registers (key_expansion key) c)

unfoldable pub unwrap : (key c : List ℕ) → List ℕ
unwrap key c = plaintext_in (unwrap_registers (key_expansion key) c)
