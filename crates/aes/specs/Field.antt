-- Octets as elements of the finite field GF(2^8): FIPS 197 (2001), section 4. Bit i of an octet is the coefficient of x^i. Of numbers
-- that are no octets nothing is meant.
use Rattle.std.specs.Prelude.{ℕ, zero, suc, ◌+◌, ◌*◌, ◌/◌, ◌%◌, ◌^◌}
use Rattle.std.specs.Int.Bits.{bit_xor}

-- addition, 4.1: the exclusive or of the bits
unfoldable pub xor : ℕ → ℕ → ℕ
xor a b = bit_xor a b

-- multiplication by x, 4.2.1: a shift to the left, and {1b} added where a bit was shifted out
unfoldable pub xtime : ℕ → ℕ
xtime b = xor (b * 2 % 256) (b / 128 * 0x1b)

-- the sum, over the n low bits of a, of bit i times x^i · b
unfoldable pub multiples : (n a b : ℕ) → ℕ
multiples zero a b = 0
multiples (suc n) a b = xor (a % 2 * b) (multiples n (a / 2) (xtime b))

-- multiplication, 4.2
unfoldable pub mul : ℕ → ℕ → ℕ
mul a b = multiples 8 a b

-- b^2 · b^4 · .. · b^(2^n)
unfoldable pub squares : (n b : ℕ) → ℕ
squares zero b = 1
squares (suc n) b = mul (mul b b) (squares n (mul b b))

-- the multiplicative inverse, 4.2, with 0 for 0 (5.1.1): b^254. That its product with b is 1 is `inverse_rule` (proofs/SBox.antt).
unfoldable pub inverse : ℕ → ℕ
inverse b = squares 7 b

unfoldable pub bit : (b i : ℕ) → ℕ
bit b i = b / 2 ^ i % 2

-- the octet whose bit i is f i
unfoldable pub from_bits : (ℕ → ℕ) → ℕ
from_bits f = f 0 + 2 * (f 1 + 2 * (f 2 + 2 * (f 3 + 2 * (f 4 + 2 * (f 5 + 2 * (f 6 + 2 * f 7))))))

-- the affine transformation (5.1) of 5.1.1, with c = {63}
unfoldable pub affine : ℕ → ℕ
affine b =
    from_bits (λ i. (bit b i + bit b ((i + 4) % 8) + bit b ((i + 5) % 8) + bit b ((i + 6) % 8) + bit b ((i + 7) % 8) + bit 0x63 i) % 2)

-- the S-box, 5.1.1: first the multiplicative inverse, then the affine transformation
unfoldable pub sub_byte : ℕ → ℕ
sub_byte b = affine (inverse b)

-- the inverse of the affine transformation, which 5.3.2 gives in words alone; that it undoes it is `inv_affine_rule` (proofs/SBox.antt)
unfoldable pub inv_affine : ℕ → ℕ
inv_affine b = from_bits (λ i. (bit b ((i + 2) % 8) + bit b ((i + 5) % 8) + bit b ((i + 7) % 8) + bit 0x05 i) % 2)

-- the inverse S-box, 5.3.2: the inverse of the affine transformation, then the multiplicative inverse
unfoldable pub inv_sub_byte : ℕ → ℕ
inv_sub_byte b = inverse (inv_affine b)
