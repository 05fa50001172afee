-- Bits read eight octets at a time.
use Prim.Native.Nat.{ℕ, ◌+◌, ◌-◌, ◌*◌, ◌/◌, ◌%◌, ◌^◌, ◌≤◌, ◌<◌}
use mathlib.Core.Path.{◌≡◌, sym, ap, ap₂, ◌∙◌}
use mathlib.Core.List.{List}
use native.Mathlib.Omega.{arith}
use native.Mathlib.Nat.{one-mul}
use lib.ListN.{get_or}
use lib.Pow.{shl_exact, low}
use Rattle.std.specs.Int.{w64, from_be_bytes}
use Rattle.octets.specs.Number.{octet_at, Octets}
use Rattle.status.specs.Limits.{field_bits}
use Rattle.status.specs.Bits.{value_of, bit_at}
use Rattle.status.proofs.BitLaws.{binary_at, value_below, value_add, value_field}
use Rattle.status.proofs.PackLaws.{octet_bits}

-- two numbers of n octets, one behind the other
pub joined : (f : ℕ → ℕ) (at n : ℕ) {x y : ℕ} → x ≡ value_of f (at * 8) (n * 8) → y ≡ value_of f ((at + n) * 8) (n * 8)
    → x * 2 ^ (n * 8) + y ≡ value_of f (at * 8) (n * 8 + n * 8)
joined f at n d e =
    let k : (at + n) * 8 ≡ at * 8 + n * 8 = omega arith in
    ap₂ (λ (u v : ℕ). u * 2 ^ (n * 8) + v) d (e ∙ ap (λ (a : ℕ). value_of f a (n * 8)) k) ∙ sym (value_add f (at * 8) (n * 8) (n * 8))

module _ (s : List ℕ) (o : Octets s) where
  pub pair_value : (at : ℕ) → octet_at s at * 256 + octet_at s (at + 1) ≡ value_of (bit_at s) (at * 8) 16
  pair_value at = joined (bit_at s) at 1 (sym (octet_bits s at (o at))) (sym (octet_bits s (at + 1) (o (at + 1))))

  -- eight octets as one number
  module _ (at : ℕ) (octets : List ℕ) (h : (i : ℕ) → i < 8 → get_or octets i 0 ≡ octet_at s (at + i)) where
    there : (i j : ℕ) → i < 8 → at + i ≡ j → get_or octets i 0 ≡ octet_at s j
    there i j k e = h i k ∙ ap (octet_at s) e

    pair_there : (i j : ℕ) → i + 1 < 8 → at + i ≡ j → get_or octets i 0 * 256 + get_or octets (i + 1) 0 ≡ value_of (bit_at s) (j * 8) 16
    pair_there i j k e = ap₂ (λ (x y : ℕ). x * 256 + y) (there i j (omega arith) e) (there (i + 1) (j + 1) k (omega arith)) ∙ pair_value j

    pub word_value : {n : ℕ} → n ≡ from_be_bytes w64 octets → n ≡ value_of (bit_at s) (at * 8) 64
    word_value {n} e =
        let first = joined (bit_at s) at 2 (pair_there 0 at (omega arith) (omega arith)) (pair_there 2 (at + 2) (omega arith) (omega arith)) in
        let last = joined (bit_at s) (at + 4) 2 (pair_there 4 (at + 4) (omega arith) (omega arith)) (pair_there 6 (at + 4 + 2) (omega arith) (omega arith)) in
        let sum : n ≡ get_or octets 0 0 * 256 ^ 7 + get_or octets 1 0 * 256 ^ 6 + get_or octets 2 0 * 256 ^ 5 + get_or octets 3 0 * 256 ^ 4
        + get_or octets 4 0 * 256 ^ 3 + get_or octets 5 0 * 256 ^ 2 + get_or octets 6 0 * 256 + get_or octets 7 0 = e in
        omega (arith, sum, joined (bit_at s) at 4 first last)

-- the numbers of so many bits
pub field_count : (width : ℕ) → width ≤ field_bits → 1 * 2 ^ width % 2 ^ 64 ≡ 2 ^ width
field_count width h = shl_exact 1 width 64 (omega arith) (omega arith) ∙ one-mul (2 ^ width)

-- the bits from bit `at` on, of those of the octets that they stand in; b stand behind them there
pub read_field : (s : List ℕ) (at width bits b : ℕ) {v : ℕ} → width ≤ field_bits → bits ≡ at % 8 + width + b → v ≡ value_of (bit_at s) (at / 8 * 8) bits
    → v / 2 ^ b % (1 * 2 ^ width % 2 ^ 64) ≡ value_of (bit_at s) at width
read_field s at width bits b {v} h n e =
    let k : at / 8 * 8 + at % 8 ≡ at = omega arith in
    ap₂ (λ (x y : ℕ). x / 2 ^ b % y) (e ∙ ap (value_of (bit_at s) (at / 8 * 8)) n) (field_count width h)
    ∙ value_field (bit_at s) (binary_at s) (at / 8 * 8) (at % 8) width b
    ∙ ap (λ (x : ℕ). value_of (bit_at s) x width) k

-- the last bits of an octet
pub last_bits : (s : List ℕ) (i b at : ℕ) → octet_at s i < 256 → at + b ≡ i * 8 + 8 → b ≤ 8 → octet_at s i % (1 * 2 ^ b % 2 ^ 64) ≡ value_of (bit_at s) at b
last_bits s i b at h e k =
    let n : 8 ≡ (8 - b) + b = omega arith in
    let m : i * 8 + (8 - b) ≡ at = omega arith in
    ap₂ (λ (x y : ℕ). x % y) (sym (octet_bits s i h) ∙ ap (value_of (bit_at s) (i * 8)) n ∙ value_add (bit_at s) (i * 8) (8 - b) b) (field_count b (omega arith))
    ∙ low (value_of (bit_at s) (i * 8) (8 - b)) b (value_below (bit_at s) (binary_at s) (i * 8 + (8 - b)) b)
    ∙ ap (λ (x : ℕ). value_of (bit_at s) x b) m
