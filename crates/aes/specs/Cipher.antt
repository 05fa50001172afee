-- The cipher and the inverse cipher with 10 rounds: FIPS 197 (2001), 5.1 and figure 5, 5.3 and figure 12. w is a key schedule.
use Rattle.std.specs.Prelude.{ℕ, zero, suc, List}
use Rattle.aes.specs.State.{sub_bytes, shift_rows, mix_columns, add_round_key, inv_sub_bytes, inv_shift_rows, inv_mix_columns}
use Rattle.aes.specs.KeyExpansion.{key_expansion, round_key}

-- ---- Cipher, 5.1

unfoldable pub round : (w : List ℕ) (n : ℕ) (s : List ℕ) → List ℕ
round w n s = add_round_key (mix_columns (shift_rows (sub_bytes s))) (round_key w n)

-- rounds 1 to n
unfoldable pub rounds : (w : List ℕ) (n : ℕ) (s : List ℕ) → List ℕ
rounds w zero s = s
rounds w (suc n) s = round w (suc n) (rounds w n s)

-- the last round has no MixColumns
unfoldable pub cipher : (w block : List ℕ) → List ℕ
cipher w block = add_round_key (shift_rows (sub_bytes (rounds w 9 (add_round_key block (round_key w 0))))) (round_key w 10)

-- ---- InvCipher, 5.3

unfoldable pub inv_round : (w : List ℕ) (n : ℕ) (s : List ℕ) → List ℕ
inv_round w n s = inv_mix_columns (add_round_key (inv_sub_bytes (inv_shift_rows s)) (round_key w n))

-- rounds n to 1
unfoldable pub inv_rounds : (w : List ℕ) (n : ℕ) (s : List ℕ) → List ℕ
inv_rounds w zero s = s
inv_rounds w (suc n) s = inv_rounds w n (inv_round w (suc n) s)

unfoldable pub inv_cipher : (w block : List ℕ) → List ℕ
inv_cipher w block = add_round_key (inv_sub_bytes (inv_shift_rows (inv_rounds w 9 (add_round_key block (round_key w 10))))) (round_key w 0)

-- ---- AES-128

unfoldable pub encrypt : (key block : List ℕ) → List ℕ
encrypt key block = cipher (key_expansion key) block

unfoldable pub decrypt : (key block : List ℕ) → List ℕ
decrypt key block = inv_cipher (key_expansion key) block
