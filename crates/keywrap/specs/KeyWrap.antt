-- The key wrap process and its inverse: RFC 3394, 2.2.1 and 2.2.2, by indices, with AES-128. The register A and the registers R[1] to
-- R[n], 8 octets each, stand one behind the other in a list x; what A holds at the start is the initial value, whatever it is. The
-- steps of both loops are counted by t = n j + i, from 1 to 6 n. w is the key schedule of K.
use Rattle.std.specs.Prelude.{ℕ, zero, suc, ◌+◌, ◌*◌, ◌-◌, ◌/◌, ◌%◌, ◌^◌, List, [], ◌∷◌, ◌++◌, length, take, drop}
use Rattle.aes.specs.Field.{xor}
use Rattle.aes.specs.Cipher.{cipher, inv_cipher}

-- n: how many registers R stand behind A
unfoldable pub register_count : List ℕ → ℕ
register_count x = length x / 8 - 1

-- the i of step t
unfoldable pub register_at : (n t : ℕ) → ℕ
register_at n t = (t - 1) % n + 1

-- A | R[i]
unfoldable pub block : (i : ℕ) (x : List ℕ) → List ℕ
block i x = take 8 x ++ take 8 (drop (8 * i) x)

-- the halves of b in A and R[i], the other registers as they were
unfoldable pub replaced : (i : ℕ) (b x : List ℕ) → List ℕ
replaced i b x = take 8 b ++ (take (8 * (i - 1)) (drop 8 x) ++ (drop 8 b ++ drop (8 * i + 8) x))

-- the exclusive or of the octets of a with those of b, as far as b goes
unfoldable pub xor_lists : (a b : List ℕ) → List ℕ
xor_lists [] b = []
xor_lists (x ∷ a) [] = x ∷ a
xor_lists (x ∷ a) (y ∷ b) = xor x y ∷ xor_lists a b

-- a number of 64 bits, big-endian
unfoldable pub octets64 : ℕ → List ℕ
octets64 t =
    t / 2 ^ 56 % 256 ∷ t / 2 ^ 48 % 256 ∷ t / 2 ^ 40 % 256 ∷ t / 2 ^ 32 % 256
    ∷ t / 2 ^ 24 % 256 ∷ t / 2 ^ 16 % 256 ∷ t / 2 ^ 8 % 256 ∷ t % 256 ∷ []

-- (MSB(64, b) ^ t) | LSB(64, b)
unfoldable pub xor_count : (t : ℕ) (b : List ℕ) → List ℕ
xor_count t b = xor_lists b (octets64 t)

-- A | R[i] of step t goes through f
unfoldable pub step : (t : ℕ) (f : List ℕ → List ℕ) (x : List ℕ) → List ℕ
step t f x = replaced (register_at (register_count x) t) (f (block (register_at (register_count x) t) x)) x

-- 2.2.1, step 2: B = AES(K, A | R[i]), A = MSB(64, B) ^ t, R[i] = LSB(64, B)
unfoldable pub wrap_step : (w : List ℕ) (t : ℕ) (x : List ℕ) → List ℕ
wrap_step w t x = step t (λ b. xor_count t (cipher w b)) x

-- steps 1 to t
unfoldable pub wrap_steps : (w : List ℕ) (t : ℕ) (x : List ℕ) → List ℕ
wrap_steps w zero x = x
wrap_steps w (suc t) x = wrap_step w (suc t) (wrap_steps w t x)

-- 2.2.2, step 2: B = AES-1(K, (A ^ t) | R[i]), A = MSB(64, B), R[i] = LSB(64, B)
unfoldable pub unwrap_step : (w : List ℕ) (t : ℕ) (x : List ℕ) → List ℕ
unwrap_step w t x = step t (λ b. inv_cipher w (xor_count t b)) x

-- steps t to 1
unfoldable pub unwrap_steps : (w : List ℕ) (t : ℕ) (x : List ℕ) → List ℕ
unwrap_steps w zero x = x
unwrap_steps w (suc t) x = unwrap_steps w t (unwrap_step w (suc t) x)
