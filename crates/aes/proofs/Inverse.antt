-- The cipher and its inverse undo each other, for every key schedule of octets and every block.
use Prim.Native.Nat.{ℕ, zero, suc}
use mathlib.Core.Path.{◌≡◌, refl, ap, ◌∙◌}
use mathlib.Core.List.{List}
use Rattle.aes.specs.State.{sub_bytes, inv_sub_bytes, shift_rows, inv_shift_rows, mix_columns, inv_mix_columns, add_round_key}
use Rattle.aes.specs.KeyExpansion.{round_key, key_expansion}
use Rattle.aes.specs.Cipher.{round, rounds, cipher, inv_round, inv_rounds, inv_cipher, encrypt, decrypt}
use Rattle.octets.specs.Number.{Octets}
use Rattle.aes.proofs.StateLaws.{Block}
use Rattle.aes.proofs.ScheduleLaws.{key_octets, expansion_octets}
use Rattle.aes.proofs.Steps.{sub_block, inv_sub_block, inv_sub_bytes_lem, sub_inv_bytes, shift_block, inv_shift_block, inv_shift_rows_lem, shift_inv_rows, add_block, add_twice, mix_block, inv_mix_block, inv_mix_columns_lem, mix_inv_columns}

-- SubBytes with ShiftRows, and back
forward : List ℕ → List ℕ
forward s = shift_rows (sub_bytes s)

backward : List ℕ → List ℕ
backward s = inv_sub_bytes (inv_shift_rows s)

module _ {s : List ℕ} (b : Block s) where
  forward_block : Block (forward s)
  unfolding forward
  forward_block = shift_block (sub_block b)

  backward_block : Block (backward s)
  unfolding backward
  backward_block = inv_sub_block (inv_shift_block b)

  back : backward (forward s) ≡ s
  unfolding forward backward
  back = ap inv_sub_bytes (inv_shift_rows_lem (sub_block b)) ∙ inv_sub_bytes_lem b

  forth : forward (backward s) ≡ s
  unfolding forward backward
  forth = ap shift_rows (sub_inv_bytes (inv_shift_block b)) ∙ shift_inv_rows b

module _ (w : List ℕ) (o : Octets w) where
  round_block : (n : ℕ) {s : List ℕ} → Block s → Block (round w n s)
  unfolding round
  round_block n b = add_block (mix_block (shift_block (sub_block b))) (round_key w n) (key_octets w n o)

  rounds_block : (n : ℕ) {s : List ℕ} → Block s → Block (rounds w n s)
  unfolding rounds
  rounds_block zero b = b
  rounds_block (suc n) b = round_block (suc n) (rounds_block n b)

  inv_round_block : (n : ℕ) {s : List ℕ} → Block s → Block (inv_round w n s)
  unfolding inv_round
  inv_round_block n b = inv_mix_block (add_block (inv_sub_block (inv_shift_block b)) (round_key w n) (key_octets w n o))

  inv_rounds_block : (n : ℕ) {s : List ℕ} → Block s → Block (inv_rounds w n s)
  unfolding inv_rounds
  inv_rounds_block zero b = b
  inv_rounds_block (suc n) b = inv_rounds_block n (inv_round_block (suc n) b)

  -- one round
  round_back : (n : ℕ) {s : List ℕ} → Block s → inv_round w n (forward (round w n s)) ≡ forward s
  unfolding inv_round round forward backward
  round_back n {s} b =
      ap (λ (x : List ℕ). inv_mix_columns (add_round_key x (round_key w n))) (back (round_block n b))
      ∙ ap inv_mix_columns (add_twice (mix_block (forward_block b)) (round_key w n))
      ∙ inv_mix_columns_lem (forward_block b)

  round_forth : (n : ℕ) (s : List ℕ) {t : List ℕ} → Block t → forward s ≡ inv_round w n t → round w n s ≡ backward t
  unfolding inv_round round forward backward
  round_forth n s {t} b e =
      ap (λ (x : List ℕ). add_round_key (mix_columns x) (round_key w n)) e
      ∙ ap (λ (x : List ℕ). add_round_key x (round_key w n)) (mix_inv_columns (add_block (backward_block b) (round_key w n) (key_octets w n o)))
      ∙ add_twice (backward_block b) (round_key w n)

  -- all rounds
  rounds_back : (n : ℕ) {s : List ℕ} → Block s → inv_rounds w n (forward (rounds w n s)) ≡ forward s
  unfolding rounds inv_rounds
  rounds_back zero b = refl
  rounds_back (suc n) b = ap (inv_rounds w n) (round_back (suc n) (rounds_block n b)) ∙ rounds_back n b

  rounds_forth : (n : ℕ) {t : List ℕ} → Block t → forward (rounds w n (backward (inv_rounds w n t))) ≡ t
  unfolding rounds inv_rounds
  rounds_forth zero b = forth b
  rounds_forth (suc n) {t} b =
      ap forward (round_forth (suc n) (rounds w n (backward (inv_rounds w n (inv_round w (suc n) t)))) b (rounds_forth n (inv_round_block (suc n) b))) ∙ forth b

  -- the whole
  pub cipher_block : {s : List ℕ} → Block s → Block (cipher w s)
  unfolding cipher
  cipher_block b =
      add_block (shift_block (sub_block (rounds_block 9 (add_block b (round_key w 0) (key_octets w 0 o))))) (round_key w 10) (key_octets w 10 o)

  pub inv_cipher_block : {s : List ℕ} → Block s → Block (inv_cipher w s)
  unfolding inv_cipher
  inv_cipher_block b =
      add_block (inv_sub_block (inv_shift_block (inv_rounds_block 9 (add_block b (round_key w 10) (key_octets w 10 o))))) (round_key w 0) (key_octets w 0 o)

  pub inv_cipher_lem : {s : List ℕ} → Block s → inv_cipher w (cipher w s) ≡ s
  unfolding cipher inv_cipher forward backward
  inv_cipher_lem {s} b =
      let k = key_octets w 0 o in
      let c = add_block b (round_key w 0) k in
      ap (λ (x : List ℕ). add_round_key (backward (inv_rounds w 9 x)) (round_key w 0)) (add_twice (forward_block (rounds_block 9 c)) (round_key w 10))
      ∙ ap (λ (x : List ℕ). add_round_key (backward x) (round_key w 0)) (rounds_back 9 c)
      ∙ ap (λ (x : List ℕ). add_round_key x (round_key w 0)) (back c)
      ∙ add_twice b (round_key w 0)

  pub cipher_inv : {s : List ℕ} → Block s → cipher w (inv_cipher w s) ≡ s
  unfolding cipher inv_cipher forward backward
  cipher_inv {s} b =
      let c = add_block b (round_key w 10) (key_octets w 10 o) in
      ap (λ (x : List ℕ). add_round_key (forward (rounds w 9 x)) (round_key w 10)) (add_twice (backward_block (inv_rounds_block 9 c)) (round_key w 0))
      ∙ ap (λ (x : List ℕ). add_round_key x (round_key w 10)) (rounds_forth 9 c)
      ∙ add_twice b (round_key w 10)

-- ---- AES-128

module _ (key : List ℕ) (o : Octets key) {s : List ℕ} (b : Block s) where
  pub encrypt_block : Block (encrypt key s)
  unfolding encrypt
  encrypt_block = cipher_block (key_expansion key) (expansion_octets key o) b

  pub decrypt_block : Block (decrypt key s)
  unfolding decrypt
  decrypt_block = inv_cipher_block (key_expansion key) (expansion_octets key o) b

  pub decrypt_encrypt : decrypt key (encrypt key s) ≡ s
  unfolding encrypt decrypt
  decrypt_encrypt = inv_cipher_lem (key_expansion key) (expansion_octets key o) b

  pub encrypt_decrypt : encrypt key (decrypt key s) ≡ s
  unfolding encrypt decrypt
  encrypt_decrypt = cipher_inv (key_expansion key) (expansion_octets key o) b
