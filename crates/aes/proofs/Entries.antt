-- Each octet of a transformed state, by its place in the list.
use Prim.Native.Nat.{ℕ, ◌+◌, ◌*◌, ◌-◌, ◌/◌, ◌%◌, ◌<◌}
use mathlib.Core.Path.{◌≡◌, refl, sym, ap, ap₂, ◌∙◌}
use mathlib.Core.List.{List}
use native.Mathlib.Omega.{arith}
use lib.ListN.{length, get_or, take, drop}
use lib.Seq.{get_or-take, get_or-drop, ext_get_or}
use Rattle.aes.specs.Field.{xor, sub_byte, inv_affine}
use Rattle.aes.specs.State.{at, state_by, sub_bytes, shift_rows, inv_shift_rows, row_times, mixed, add_round_key}
use Rattle.aes.specs.KeyExpansion.{round_key}
use Rattle.aes.specs.Columns.{inv_affines, next_rows}
use Rattle.aes.proofs.StateLaws.{at_state, state_long}

-- the place of an octet is its row and its column

place : (s : List ℕ) (i : ℕ) → get_or s i 0 ≡ at s (i % 4) (i / 4)
unfolding at
place s i = ap (λ (k : ℕ). get_or s k 0) (omega arith)

octet_of : (f : ℕ → ℕ → ℕ) (i : ℕ) → i < 16 → get_or (state_by f) i 0 ≡ f (i % 4) (i / 4)
octet_of f i h = place (state_by f) i ∙ at_state f (i % 4) (i / 4) (omega arith) (omega arith)

at_place : (s : List ℕ) (r c i : ℕ) → r + 4 * c ≡ i → at s r c ≡ get_or s i 0
unfolding at
at_place s r c i e = ap (λ (k : ℕ). get_or s k 0) e

-- the turns of the columns

at_next : (s : List ℕ) (r c : ℕ) → r < 4 → c < 4 → at (next_rows s) r c ≡ at s ((r + 1) % 4) c
unfolding next_rows
at_next s r c hr hc = at_state (λ r c. at s ((r + 1) % 4) c) r c hr hc

second : (s : List ℕ) (r c : ℕ) → r < 4 → c < 4 → at (next_rows (next_rows s)) r c ≡ at s ((r + 2) % 4) c
second s r c hr hc =
    at_next (next_rows s) r c hr hc ∙ at_next s ((r + 1) % 4) c (omega arith) hc
    ∙ ap (λ (k : ℕ). at s k c) (omega arith)

third : (s : List ℕ) (r c : ℕ) → r < 4 → c < 4 → at (next_rows (next_rows (next_rows s))) r c ≡ at s ((r + 3) % 4) c
third s r c hr hc =
    at_next (next_rows (next_rows s)) r c hr hc ∙ second s ((r + 1) % 4) c (omega arith) hc
    ∙ ap (λ (k : ℕ). at s k c) (omega arith)

module _ (s : List ℕ) (i : ℕ) (h : i < 16) where
  pub sub_at : get_or (sub_bytes s) i 0 ≡ sub_byte (get_or s i 0)
  unfolding sub_bytes
  sub_at = octet_of (λ r c. sub_byte (at s r c)) i h ∙ ap sub_byte (sym (place s i))

  pub inv_affine_at : get_or (inv_affines s) i 0 ≡ inv_affine (get_or s i 0)
  unfolding inv_affines
  inv_affine_at = octet_of (λ r c. inv_affine (at s r c)) i h ∙ ap inv_affine (sym (place s i))

  pub shift_at : get_or (shift_rows s) i 0 ≡ get_or s (5 * i % 16) 0
  unfolding shift_rows
  shift_at = octet_of (λ r c. at s r ((c + r) % 4)) i h ∙ at_place s (i % 4) ((i / 4 + i % 4) % 4) (5 * i % 16) (omega arith)

  pub inv_shift_at : get_or (inv_shift_rows s) i 0 ≡ get_or s (13 * i % 16) 0
  unfolding inv_shift_rows
  inv_shift_at = octet_of (λ r c. at s r ((c + 4 - r) % 4)) i h ∙ at_place s (i % 4) ((i / 4 + 4 - i % 4) % 4) (13 * i % 16) (omega arith)

  pub add_at : (w : List ℕ) (n : ℕ) → get_or (add_round_key s (round_key w n)) i 0 ≡ xor (get_or s i 0) (get_or w (16 * n + i) 0)
  unfolding add_round_key round_key
  add_at w n =
      octet_of (λ r c. xor (at s r c) (at (take 16 (drop (16 * n) w)) r c)) i h
      ∙ ap₂ xor (sym (place s i)) (sym (place (take 16 (drop (16 * n) w)) i) ∙ get_or-take 16 (drop (16 * n) w) i 0 h ∙ get_or-drop (16 * n) w i 0)

  pub next_at : get_or (next_rows s) i 0 ≡ get_or s (i / 4 * 4 + (i + 1) % 4) 0
  unfolding next_rows
  next_at = octet_of (λ r c. at s ((r + 1) % 4) c) i h ∙ at_place s ((i % 4 + 1) % 4) (i / 4) (i / 4 * 4 + (i + 1) % 4) (omega arith)

  -- from the octets of the state's own column, each of which the next rows bring to place i
  mixed_at : (j k l m : ℕ)
      → get_or (mixed j k l m s) i 0
      ≡ row_times j k l m (get_or s i 0) (get_or (next_rows s) i 0) (get_or (next_rows (next_rows s)) i 0) (get_or (next_rows (next_rows (next_rows s))) i 0)
  unfolding mixed
  mixed_at j k l m =
      octet_of (λ r c. row_times j k l m (at s r c) (at s ((r + 1) % 4) c) (at s ((r + 2) % 4) c) (at s ((r + 3) % 4) c)) i h
      ∙ rw (
        place (next_rows (next_rows (next_rows s))) i,
        place (next_rows (next_rows s)) i,
        place (next_rows s) i,
        place s i,
        third s (i % 4) (i / 4) (omega arith) (omega arith),
        second s (i % 4) (i / 4) (omega arith) (omega arith),
        at_next s (i % 4) (i / 4) (omega arith) (omega arith),
      ) refl

-- every transformed state has 16 octets

pub shift_long : (s : List ℕ) → length (shift_rows s) ≡ 16
unfolding shift_rows
shift_long s = state_long (λ r c. at s r ((c + r) % 4))

pub inv_shift_long : (s : List ℕ) → length (inv_shift_rows s) ≡ 16
unfolding inv_shift_rows
inv_shift_long s = state_long (λ r c. at s r ((c + 4 - r) % 4))

pub sub_long : (s : List ℕ) → length (sub_bytes s) ≡ 16
unfolding sub_bytes
sub_long s = state_long (λ r c. sub_byte (at s r c))

pub inv_affine_long : (s : List ℕ) → length (inv_affines s) ≡ 16
unfolding inv_affines
inv_affine_long s = state_long (λ r c. inv_affine (at s r c))

pub next_long : (s : List ℕ) → length (next_rows s) ≡ 16
unfolding next_rows
next_long s = state_long (λ r c. at s ((r + 1) % 4) c)

mixed_long : (j k l m : ℕ) (s : List ℕ) → length (mixed j k l m s) ≡ 16
unfolding mixed
mixed_long j k l m s =
    state_long (λ r c. row_times j k l m (at s r c) (at s ((r + 1) % 4) c) (at s ((r + 2) % 4) c) (at s ((r + 3) % 4) c))

-- what a matrix makes of a state, octet by octet
pub mixed_whole : (j k l m : ℕ) (s r : List ℕ) → length r ≡ 16
    → ((i : ℕ) → i < 16 → get_or r i 0 ≡ row_times j k l m (get_or s i 0) (get_or (next_rows s) i 0) (get_or (next_rows (next_rows s)) i 0) (get_or (next_rows (next_rows (next_rows s))) i 0))
    → r ≡ mixed j k l m s
mixed_whole j k l m s r long e =
    ext_get_or 0 r (mixed j k l m s) (long ∙ sym (mixed_long j k l m s))
    (λ i h. let b : i < 16 = omega (arith, long) in e i b ∙ sym (mixed_at s i b j k l m))

pub add_long : (s k : List ℕ) → length (add_round_key s k) ≡ 16
unfolding add_round_key
add_long s k = state_long (λ r c. xor (at s r c) (at k r c))
