-- The circuit is the S-box, at every octet, and the inverse S-box is the S-box between two affine transformations.
use Prim.Native.Nat.{ℕ, ◌+◌, ◌*◌, ◌/◌, ◌%◌, ◌<◌}
use mathlib.Core.Path.{◌≡◌, sym, ap, ◌∙◌}
use mathlib.Core.List.{List}
use mir.Syntax.{w8}
use mir.Val.{Fits}
use lib.Bits.{bit_xor}
use lib.ListN.{get_or}
use lib.Dec.{ltb, ltb→lt}
use Rattle.aes.specs.Field.{bit, from_bits, sub_byte, inv_affine, inv_sub_byte}
use Rattle.aes.specs.Circuit.{split, tops, middle, inverted, bottom, joined, finished, circuit}
use Rattle.aes.specs.Columns.{inv_affines}
use Rattle.aes.specs.State.{at, state_by, sub_bytes, inv_sub_bytes}
use Rattle.aes.proofs.StateLaws.{at_state, state_same}
use Rattle.aes.proofs.Below.{below, agree}
use Rattle.aes.proofs.SBox.{sbox, sbox_rule, inv_sbox, inv_sbox_rule}

computed : (b : ℕ) → b < 256 → circuit b ≡ get_or sbox b 0
unfolding circuit finished joined bottom inverted middle tops split
computed = agree circuit (λ b. get_or sbox b 0) 256 tt

pub circuit_rule : (b : ℕ) → b < 256 → circuit b ≡ sub_byte b
circuit_rule b h = computed b h ∙ sbox_rule b h

-- the affine transformation of 5.3.2, by rotations
pub turns_rule : (b : ℕ) → b < 256
    → bit_xor (bit_xor (bit_xor (b % 128 * 2 + b / 128) (b % 32 * 8 + b / 32)) (b % 4 * 64 + b / 4)) 5 ≡ inv_affine b
unfolding inv_affine from_bits bit
turns_rule = agree (λ b. bit_xor (bit_xor (bit_xor (b % 128 * 2 + b / 128) (b % 32 * 8 + b / 32)) (b % 4 * 64 + b / 4)) 5) inv_affine 256 tt

inv_affine_lt : (b : ℕ) → b < 256 → inv_affine b < 256
unfolding inv_affine from_bits bit
inv_affine_lt b h = ltb→lt (inv_affine b) 256 (below (λ b. ltb (inv_affine b) 256) 256 tt b h)

between : (b : ℕ) → b < 256 → inv_affine (get_or sbox (inv_affine b) 0) ≡ get_or inv_sbox b 0
unfolding inv_affine from_bits bit
between = agree (λ b. inv_affine (get_or sbox (inv_affine b) 0)) (λ b. get_or inv_sbox b 0) 256 tt

inverse_circuit : (b : ℕ) → b < 256 → inv_affine (sub_byte (inv_affine b)) ≡ inv_sub_byte b
inverse_circuit b h = ap inv_affine (sym (sbox_rule (inv_affine b) (inv_affine_lt b h))) ∙ between b h ∙ inv_sbox_rule b h

pub inverse_circuits : (s : List ℕ) → ((i : ℕ) → Fits w8 (get_or s i 0)) → inv_affines (sub_bytes (inv_affines s)) ≡ inv_sub_bytes s
unfolding inv_affines sub_bytes inv_sub_bytes at
inverse_circuits s o =
    state_same (λ r c. inv_affine (at (state_by (λ r c. sub_byte (at (state_by (λ r c. inv_affine (at s r c))) r c))) r c)) (λ r c. inv_sub_byte (at s r c))
    (λ r c hr hc.
    ap inv_affine (at_state (λ r c. sub_byte (at (state_by (λ r c. inv_affine (at s r c))) r c)) r c hr hc
    ∙ ap sub_byte (at_state (λ r c. inv_affine (at s r c)) r c hr hc))
    ∙ inverse_circuit (at s r c) (o (r + 4 * c)).fits)
