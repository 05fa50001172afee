-- Each transformation of the state gives a block of a block, and its inverse undoes it.
use Prim.Native.Nat.{ℕ, ◌+◌, ◌*◌, ◌-◌, ◌%◌, ◌<◌}
use mathlib.Core.Path.{◌≡◌, ap, ◌∙◌}
use mathlib.Core.List.{List}
use native.Mathlib.Omega.{arith}
use Rattle.aes.specs.Field.{xor, sub_byte, inv_sub_byte}
use Rattle.aes.specs.State.{at, state_by, sub_bytes, inv_sub_bytes, shift_rows, inv_shift_rows, row_times, mixed, mix_columns, inv_mix_columns, add_round_key}
use Rattle.aes.proofs.Xor.{sum_lt, sum_twice}
use Rattle.aes.proofs.SBox.{sub_lt, inv_sub_lt, inv_sub, sub_inv}
use Rattle.aes.proofs.Mix.{row_lt, top, Undone, undone, inv_mix, mix_inv}
use Rattle.octets.specs.Number.{Octets}
use Rattle.aes.proofs.StateLaws.{Block, by_four, at_state, state_same, state_at_lem, at_lt, state_block}

-- g after f is the identity, octet by octet
same_at : (s : List ℕ) → Block s → (f : ℕ → ℕ → ℕ) → ((r c : ℕ) → r < 4 → c < 4 → f r c ≡ at s r c) → state_by f ≡ s
same_at s b f e = state_same f (at s) e ∙ state_at_lem s b.long

module _ {s : List ℕ} (b : Block s) where
  -- ---- SubBytes

  pub sub_block : Block (sub_bytes s)
  unfolding sub_bytes
  sub_block = state_block (λ r c. sub_byte (at s r c)) (λ r c hr hc. sub_lt (at s r c) (at_lt b r c))

  pub inv_sub_block : Block (inv_sub_bytes s)
  unfolding inv_sub_bytes
  inv_sub_block = state_block (λ r c. inv_sub_byte (at s r c)) (λ r c hr hc. inv_sub_lt (at s r c) (at_lt b r c))

  pub inv_sub_bytes_lem : inv_sub_bytes (sub_bytes s) ≡ s
  unfolding sub_bytes inv_sub_bytes
  inv_sub_bytes_lem =
      same_at s b (λ r c. inv_sub_byte (at (state_by (λ r c. sub_byte (at s r c))) r c))
      (λ r c hr hc. ap inv_sub_byte (at_state (λ r c. sub_byte (at s r c)) r c hr hc) ∙ inv_sub (at s r c) (at_lt b r c))

  pub sub_inv_bytes : sub_bytes (inv_sub_bytes s) ≡ s
  unfolding sub_bytes inv_sub_bytes
  sub_inv_bytes =
      same_at s b (λ r c. sub_byte (at (state_by (λ r c. inv_sub_byte (at s r c))) r c))
      (λ r c hr hc. ap sub_byte (at_state (λ r c. inv_sub_byte (at s r c)) r c hr hc) ∙ sub_inv (at s r c) (at_lt b r c))

  -- ---- ShiftRows

  pub shift_block : Block (shift_rows s)
  unfolding shift_rows
  shift_block = state_block (λ r c. at s r ((c + r) % 4)) (λ r c hr hc. at_lt b r ((c + r) % 4))

  pub inv_shift_block : Block (inv_shift_rows s)
  unfolding inv_shift_rows
  inv_shift_block = state_block (λ r c. at s r ((c + 4 - r) % 4)) (λ r c hr hc. at_lt b r ((c + 4 - r) % 4))

  pub inv_shift_rows_lem : inv_shift_rows (shift_rows s) ≡ s
  unfolding shift_rows inv_shift_rows
  inv_shift_rows_lem =
      same_at s b (λ r c. at (state_by (λ r c. at s r ((c + r) % 4))) r ((c + 4 - r) % 4))
      (λ r c hr hc. at_state (λ r c. at s r ((c + r) % 4)) r ((c + 4 - r) % 4) hr (omega arith) ∙ ap (at s r) (omega arith))

  pub shift_inv_rows : shift_rows (inv_shift_rows s) ≡ s
  unfolding shift_rows inv_shift_rows
  shift_inv_rows =
      same_at s b (λ r c. at (state_by (λ r c. at s r ((c + 4 - r) % 4))) r ((c + r) % 4))
      (λ r c hr hc. at_state (λ r c. at s r ((c + 4 - r) % 4)) r ((c + r) % 4) hr (omega arith) ∙ ap (at s r) (omega arith))

  -- ---- AddRoundKey

  pub add_block : (k : List ℕ) → Octets k → Block (add_round_key s k)
  unfolding add_round_key at
  add_block k o = state_block (λ r c. xor (at s r c) (at k r c)) (λ r c hr hc. sum_lt (at s r c) (at k r c) (b.octets (r + 4 * c)) (o (r + 4 * c)))

  pub add_twice : (k : List ℕ) → add_round_key (add_round_key s k) k ≡ s
  unfolding add_round_key
  add_twice k =
      same_at s b (λ r c. xor (at (state_by (λ r c. xor (at s r c) (at k r c))) r c) (at k r c))
      (λ r c hr hc. ap (λ (x : ℕ). xor x (at k r c)) (at_state (λ r c. xor (at s r c) (at k r c)) r c hr hc) ∙ sum_twice (at s r c) (at k r c))

-- ---- MixColumns

module _ (j k l m : ℕ) (s : List ℕ) where
  unfoldable entry : ℕ → ℕ → ℕ
  entry r c = row_times j k l m (at s r c) (at s ((r + 1) % 4) c) (at s ((r + 2) % 4) c) (at s ((r + 3) % 4) c)

  mixed_block : Block s → Block (mixed j k l m s)
  unfolding mixed
  mixed_block b =
      state_block (λ r c. row_times j k l m (at s r c) (at s ((r + 1) % 4) c) (at s ((r + 2) % 4) c) (at s ((r + 3) % 4) c))
      (λ r c hr hc. row_lt j k l m (at s r c) (at s ((r + 1) % 4) c) (at s ((r + 2) % 4) c) (at s ((r + 3) % 4) c)
      (at_lt b r c) (at_lt b ((r + 1) % 4) c) (at_lt b ((r + 2) % 4) c) (at_lt b ((r + 3) % 4) c))

  at_mixed : (r c : ℕ) → r < 4 → c < 4 → at (mixed j k l m s) r c ≡ entry r c
  unfolding mixed entry
  at_mixed r c hr hc =
      at_state (λ r c. row_times j k l m (at s r c) (at s ((r + 1) % 4) c) (at s ((r + 2) % 4) c) (at s ((r + 3) % 4) c)) r c hr hc

module _ (j k l m n o p q : ℕ) (s : List ℕ) (b : Block s) (u : Undone j k l m n o p q) where
  col : (r c : ℕ) → r < 4 → c < 4
      → row_times n o p q (at (mixed j k l m s) r c) (at (mixed j k l m s) ((r + 1) % 4) c) (at (mixed j k l m s) ((r + 2) % 4) c) (at (mixed j k l m s) ((r + 3) % 4) c) ≡ at s r c
  unfolding entry top
  col r c hr hc =
      rw (at_mixed j k l m s r c hr hc, at_mixed j k l m s ((r + 1) % 4) c (omega arith) hc, at_mixed j k l m s ((r + 2) % 4) c (omega arith) hc, at_mixed j k l m s ((r + 3) % 4) c (omega arith) hc)
      (by_four (λ (x : ℕ). row_times n o p q (entry j k l m s x c) (entry j k l m s ((x + 1) % 4) c) (entry j k l m s ((x + 2) % 4) c) (entry j k l m s ((x + 3) % 4) c) ≡ at s x c)
      (undone j k l m n o p q u (at s 0 c) (at s 1 c) (at s 2 c) (at s 3 c) (at_lt b 0 c) (at_lt b 1 c) (at_lt b 2 c) (at_lt b 3 c))
      (undone j k l m n o p q u (at s 1 c) (at s 2 c) (at s 3 c) (at s 0 c) (at_lt b 1 c) (at_lt b 2 c) (at_lt b 3 c) (at_lt b 0 c))
      (undone j k l m n o p q u (at s 2 c) (at s 3 c) (at s 0 c) (at s 1 c) (at_lt b 2 c) (at_lt b 3 c) (at_lt b 0 c) (at_lt b 1 c))
      (undone j k l m n o p q u (at s 3 c) (at s 0 c) (at s 1 c) (at s 2 c) (at_lt b 3 c) (at_lt b 0 c) (at_lt b 1 c) (at_lt b 2 c))
      r hr)

  mixed_undone : mixed n o p q (mixed j k l m s) ≡ s
  unfolding mixed
  mixed_undone =
      same_at s b
      (λ r c. row_times n o p q (at (mixed j k l m s) r c) (at (mixed j k l m s) ((r + 1) % 4) c) (at (mixed j k l m s) ((r + 2) % 4) c) (at (mixed j k l m s) ((r + 3) % 4) c))
      col

module _ {s : List ℕ} (b : Block s) where
  pub mix_block : Block (mix_columns s)
  unfolding mix_columns
  mix_block = mixed_block 2 3 1 1 s b

  pub inv_mix_block : Block (inv_mix_columns s)
  unfolding inv_mix_columns
  inv_mix_block = mixed_block 14 11 13 9 s b

  pub inv_mix_columns_lem : inv_mix_columns (mix_columns s) ≡ s
  unfolding mix_columns inv_mix_columns
  inv_mix_columns_lem = mixed_undone 2 3 1 1 14 11 13 9 s b inv_mix

  pub mix_inv_columns : mix_columns (inv_mix_columns s) ≡ s
  unfolding mix_columns inv_mix_columns
  mix_inv_columns = mixed_undone 14 11 13 9 2 3 1 1 s b mix_inv
