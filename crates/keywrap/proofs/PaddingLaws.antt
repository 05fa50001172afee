-- The registers of a plaintext, and the plaintext read out of them.
use Prim.Native.Nat.{ℕ, zero, suc, ◌+◌, ◌*◌, ◌-◌, ◌/◌, ◌%◌, ◌<◌, ◌≤◌}
use mathlib.Core.Path.{◌≡◌, refl, sym, ap, ap₂, ◌∙◌}
use mathlib.Core.Bool.{true, ◌&&◌}
use mathlib.Core.List.{List, [], ◌∷◌, ◌++◌}
use native.Mathlib.Omega.{arith}
use borrow.Author.Tests.{eqb-true, ltb-true, leb-true, lt-ltb, le-leb, eq-eqb}
use lib.Dec.{eqb, leb, ltb}
use lib.ListN.{length, get_or, take, drop, replicate, length-append, length-drop, length-replicate, take-append-drop}
use lib.Seq.{take_at, drop_at, length-take-le, drop-drop}
use Rattle.octets.specs.Number.{octets_of_32, number16_at, number32_at, Octets}
use Rattle.octets.specs.Range.{within}
use Rattle.octets.proofs.Tests.{both}
use Rattle.octets.proofs.RangeLaws as Range
use Rattle.octets.proofs.OctetLaws.{four_octets, append_octets, take_octets, drop_octets, zeros_octets}
use Rattle.keywrap.specs.Limits.{plaintext_most, ciphertext_most}
use Rattle.keywrap.specs.Padding.{aiv, padding, initial_registers, zeros, constant_right, mli, mli_fits, verified, length_fits, plaintext_in}
use Rattle.keywrap.specs.KeyWrap.{register_count}
use Rattle.keywrap.proofs.WholeLaws.{Whole, whole_of}

-- ---- zeros

pub zeros_of : (n : ℕ) → zeros (replicate n 0) ≡ true
unfolding zeros
zeros_of zero = refl
zeros_of (suc n) = zeros_of n

pub zeros_are : (l : List ℕ) → zeros l ≡ true → l ≡ replicate (length l) 0
unfolding zeros
zeros_are [] e = refl
zeros_are (x ∷ l) e = let b = both (eqb x 0) (zeros l) e in ap₂ ◌∷◌ (eqb-true x 0 b.0) (zeros_are l b.1)

aiv_octets : (m : ℕ) → m ≤ plaintext_most → Octets (aiv m)
unfolding aiv
aiv_octets m h =
    append_octets (0xa6 ∷ 0x59 ∷ 0x59 ∷ 0xa6 ∷ []) (octets_of_32 m)
    (four_octets 0xa6 0x59 0x59 0xa6 (omega arith) (omega arith) (omega arith) (omega arith))
    (four_octets (m / 16777216) (m / 65536 % 256) (m / 256 % 256) (m % 256) (omega arith) (omega arith) (omega arith) (omega arith))

-- ---- the registers of a plaintext are verified and hold it

module _ (p : List ℕ) (least : 1 ≤ length p) (fits : length p ≤ plaintext_most) where
  padded_long : length (p ++ replicate (padding (length p)) 0) ≡ length p + padding (length p)
  padded_long =
      length-append p (replicate (padding (length p)) 0) ∙ ap (λ (n : ℕ). length p + n) (length-replicate (padding (length p)) 0)

  pub initial_long : length (initial_registers p) ≡ 8 + (length p + padding (length p))
  unfolding initial_registers aiv
  initial_long = let l : length (p ++ replicate (padding (length p)) 0) ≡ length p + padding (length p) = padded_long in omega arith

  pub mli_length : mli (initial_registers p) ≡ length p
  unfolding initial_registers aiv mli number32_at number16_at
  mli_length = omega arith

  body : drop 8 (initial_registers p) ≡ p ++ replicate (padding (length p)) 0
  unfolding initial_registers aiv
  body = refl

  mark : constant_right (initial_registers p) ≡ true
  unfolding initial_registers aiv constant_right
  mark = refl

  inside : mli_fits (register_count (initial_registers p)) (length p) ≡ true
  unfolding mli_fits register_count padding
  inside =
      let l : length (initial_registers p) ≡ 8 + (length p + (8 - length p % 8) % 8) = initial_long in
      rw (lt-ltb (8 * (length (initial_registers p) / 8 - 1 - 1)) (length p) (omega arith), le-leb (length p) (8 * (length (initial_registers p) / 8 - 1)) (omega arith))

  behind : zeros (drop (8 + length p) (initial_registers p)) ≡ true
  behind =
      ap zeros (sym (drop-drop (length p) 8 (initial_registers p)) ∙ ap (drop (length p)) body ∙ drop_at p (replicate (padding (length p)) 0) (length p) refl)
      ∙ zeros_of (padding (length p))

  pub initial_verified : verified (initial_registers p) ≡ true
  unfolding verified
  initial_verified = rw (mli_length, mark, inside, behind) refl

  pub initial_plaintext : plaintext_in (initial_registers p) ≡ p
  unfolding plaintext_in
  initial_plaintext = ap₂ take mli_length body ∙ take_at p (replicate (padding (length p)) 0) (length p) refl

  pub initial_whole : Octets p → Whole (initial_registers p)
  unfolding initial_registers padding
  initial_whole o =
      let l : length (initial_registers p) ≡ 8 + (length p + (8 - length p % 8) % 8) = initial_long in
      record {
        multiple = omega arith;
        held = record {
          least = omega arith;
          octets =
              append_octets (aiv (length p)) (p ++ replicate (padding (length p)) 0) (aiv_octets (length p) fits)
              (append_octets p (replicate (padding (length p)) 0) o (zeros_octets (padding (length p))));
        };
      }

  pub initial_fitting : length_fits (length (initial_registers p)) ≡ true
  unfolding length_fits padding
  initial_fitting =
      let n = length (initial_registers p) in
      let l : n ≡ 8 + (length p + (8 - length p % 8) % 8) = initial_long in
      rw (Range.inside 16 ciphertext_most n (omega arith) (omega arith), eq-eqb (n % 8) 0 (omega arith)) refl

-- ---- registers that are verified are those of the plaintext in them

pub eight : (x : List ℕ) → 8 ≤ length x → take 8 x ≡ get_or x 0 0 ∷ get_or x 1 0 ∷ get_or x 2 0 ∷ get_or x 3 0 ∷ get_or x 4 0 ∷ get_or x 5 0 ∷ get_or x 6 0 ∷ get_or x 7 0 ∷ []
eight [] h = absurd (omega arith)
eight (a ∷ []) h = absurd (omega arith)
eight (a ∷ b ∷ []) h = absurd (omega arith)
eight (a ∷ b ∷ c ∷ []) h = absurd (omega arith)
eight (a ∷ b ∷ c ∷ d ∷ []) h = absurd (omega arith)
eight (a ∷ b ∷ c ∷ d ∷ e ∷ []) h = absurd (omega arith)
eight (a ∷ b ∷ c ∷ d ∷ e ∷ f ∷ []) h = absurd (omega arith)
eight (a ∷ b ∷ c ∷ d ∷ e ∷ f ∷ g ∷ []) h = absurd (omega arith)
eight (a ∷ b ∷ c ∷ d ∷ e ∷ f ∷ g ∷ k ∷ l) h = refl

module _ (x : List ℕ) (w : Whole x) (fits : length x ≤ ciphertext_most) (g : verified x ≡ true) where
  checks : ((constant_right x ≡ true) × (mli_fits (register_count x) (mli x) ≡ true)) × (zeros (drop (8 + mli x) x) ≡ true)
  unfolding verified
  checks =
      let g = both (constant_right x && mli_fits (register_count x) (mli x)) (zeros (drop (8 + mli x) x)) g in
      (both (constant_right x) (mli_fits (register_count x) (mli x)) g.0, g.1)

  class : (8 * (register_count x - 1) < mli x) × (mli x ≤ 8 * register_count x)
  unfolding mli_fits
  class =
      let f = both (ltb (8 * (register_count x - 1)) (mli x)) (leb (mli x) (8 * register_count x)) checks.0.1 in
      (ltb-true (8 * (register_count x - 1)) (mli x) f.0, leb-true (mli x) (8 * register_count x) f.1)

  -- the same, without the count of registers
  pub bounds : (length x ≤ mli x + 15) × (mli x + 8 ≤ length x)
  unfolding register_count
  bounds =
      let a : 8 * (length x / 8 - 1 - 1) < mli x = class.0 in
      let b : mli x ≤ 8 * (length x / 8 - 1) = class.1 in
      let m : length x % 8 ≡ 0 = w.multiple in
      let l : 16 ≤ length x = w.held.least in
      (omega arith, omega arith)

  pub plaintext_long : length (plaintext_in x) ≡ mli x
  unfolding plaintext_in
  plaintext_long =
      let b = bounds.1 in
      length-take-le (mli x) (drop 8 x) (let d : length (drop 8 x) ≡ length x - 8 = length-drop 8 x in omega arith)

  pub plaintext_octets : Octets (plaintext_in x)
  unfolding plaintext_in
  plaintext_octets = take_octets (mli x) (drop 8 x) (drop_octets 8 x w.held.octets)

  first_four : (get_or x 0 0 ≡ 0xa6) × (get_or x 1 0 ≡ 0x59) × (get_or x 2 0 ≡ 0x59) × (get_or x 3 0 ≡ 0xa6)
  unfolding constant_right
  first_four =
      let a = eqb (get_or x 0 0) 0xa6 in
      let b = eqb (get_or x 1 0) 0x59 in
      let c = eqb (get_or x 2 0) 0x59 in
      let d = eqb (get_or x 3 0) 0xa6 in
      let abc = both (a && b && c) d checks.0.0 in
      let ab = both (a && b) c abc.0 in
      let each = both a b ab.0 in
      (eqb-true (get_or x 0 0) 0xa6 each.0, eqb-true (get_or x 1 0) 0x59 each.1, eqb-true (get_or x 2 0) 0x59 ab.1, eqb-true (get_or x 3 0) 0xa6 abc.1)

  aiv_x : aiv (mli x) ≡ take 8 x
  unfolding aiv mli number32_at number16_at
  aiv_x =
      let e = w.held.octets 4 in
      let f = w.held.octets 5 in
      let g = w.held.octets 6 in
      let h = w.held.octets 7 in
      let l : 16 ≤ length x = w.held.least in
      let m = first_four in
      sym (eight x (omega arith)
      ∙ ap₂ ◌∷◌ m.0 (ap₂ ◌∷◌ m.1 (ap₂ ◌∷◌ m.2 (ap₂ ◌∷◌ m.3
      (ap₂ ◌∷◌ (omega arith) (ap₂ ◌∷◌ (omega arith) (ap₂ ◌∷◌ (omega arith) (ap₂ ◌∷◌ (omega arith) refl))))))))

  padding_x : drop (8 + mli x) x ≡ replicate (padding (mli x)) 0
  unfolding padding
  padding_x =
      let a = bounds.0 in
      let b = bounds.1 in
      let m : length x % 8 ≡ 0 = w.multiple in
      let d : length (drop (8 + mli x) x) ≡ length x - (8 + mli x) = length-drop (8 + mli x) x in
      let n : length (drop (8 + mli x) x) ≡ (8 - mli x % 8) % 8 = omega arith in
      zeros_are (drop (8 + mli x) x) checks.1 ∙ ap (λ (k : ℕ). replicate k 0) n

  rejoined : plaintext_in x ++ drop (mli x) (drop 8 x) ≡ drop 8 x
  unfolding plaintext_in
  rejoined = take-append-drop (mli x) (drop 8 x)

  pub initial_again : initial_registers (plaintext_in x) ≡ x
  unfolding initial_registers
  initial_again =
      rw (plaintext_long)
      (ap₂ (λ (y z : List ℕ). y ++ (plaintext_in x ++ z)) aiv_x (sym padding_x)
      ∙ ap (λ (y : List ℕ). take 8 x ++ (plaintext_in x ++ y)) (sym (drop-drop (mli x) 8 x))
      ∙ ap (λ (y : List ℕ). take 8 x ++ y) rejoined
      ∙ take-append-drop 8 x)

-- ---- the length of a ciphertext

module _ (n : ℕ) (f : length_fits n ≡ true) where
  pub fitting_multiple : n % 8 ≡ 0
  unfolding length_fits
  fitting_multiple = eqb-true (n % 8) 0 (both (within 16 ciphertext_most n) (eqb (n % 8) 0) f).1

  fitting_range : (16 ≤ n) × (n ≤ ciphertext_most)
  unfolding length_fits
  fitting_range = Range.within_true 16 ciphertext_most n (both (within 16 ciphertext_most n) (eqb (n % 8) 0) f).0

  pub fitting_least : 16 ≤ n
  fitting_least = fitting_range.0

  pub fitting_most : n ≤ ciphertext_most
  fitting_most = fitting_range.1

pub fitting_whole : (c : List ℕ) → Octets c → length_fits (length c) ≡ true → Whole c
fitting_whole c o f = whole_of c (fitting_multiple (length c) f) (fitting_least (length c) f) o
