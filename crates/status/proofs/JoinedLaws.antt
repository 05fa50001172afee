-- Octets as one number: one more octet, and octets that are as many and the same number.
use Prim.Native.Nat.{ℕ, suc, ◌+◌, ◌*◌, ◌^◌, ◌<◌}
use mathlib.Core.Path.{◌≡◌, refl, sym, ap, ap₂, ◌∙◌}
use mathlib.Core.List.{List, [], ◌∷◌, ◌++◌}
use native.Mathlib.Omega.{arith}
use native.Mathlib.Nat.{add-zero}
use lib.ListN.{length, get_or-eq_default}
use Rattle.octets.specs.Number.{Octets}
use Rattle.status.specs.Bits.{bits_of, bit_in, value_of, octets_for, pack}
use Rattle.status.specs.Claims.{joined}
use Rattle.status.proofs.BitLaws.{Binary, value_zero, value_add, value_bits, binary_bits}
use Rattle.status.proofs.PackLaws.{pack_length}
use Rattle.status.proofs.NumberLaws.{pack_octets, pack_joined}

pub joined_next : (front : ℕ) (s : List ℕ) (octet : ℕ) → joined front (s ++ (octet ∷ [])) ≡ joined front s * 256 + octet
unfolding joined
joined_next front [] octet = refl
joined_next front (x ∷ s) octet = joined_next (front * 256 + x) s octet

-- as many octets that are the same number
same_number : (a b : ℕ) (x y : List ℕ) → Octets x → Octets y → length x ≡ length y → joined a x ≡ joined b y → (a ≡ b) × (x ≡ y)
unfolding joined
same_number a b [] [] o p l e = (e, refl)
same_number a b [] (d ∷ y) o p l e = absurd (omega arith)
same_number a b (c ∷ x) [] o p l e = absurd (omega arith)
same_number a b (c ∷ x) (d ∷ y) o p l e =
    let r = same_number (a * 256 + c) (b * 256 + d) x y (λ i. o (suc i)) (λ i. p (suc i)) (omega arith) e in
    let m : c < 256 = o 0 in
    let n : d < 256 = p 0 in
    let q : a * 256 + c ≡ b * 256 + d = r.0 in
    let f : a ≡ b = omega arith in
    let g : c ≡ d = omega arith in
    (f, ap₂ (λ (u : ℕ) (v : List ℕ). u ∷ v) g r.1)

-- octets that are the number of some bits, with fewer than eight zero bits behind them
pub packed : (p : List ℕ) (number filling : ℕ) → bits_of (length p) number ≡ p → number < 2 ^ length p → filling < 8
    → (s : List ℕ) → Octets s → length s * 8 ≡ length p + filling → joined 0 s ≡ number * 2 ^ filling → s ≡ pack p
packed p n f b h few s o l e =
    let w = length p in
    let i : Binary (bit_in p) = rw (sym b) (binary_bits w n) in
    let v : value_of (bit_in p) 0 w ≡ n = ap (λ (q : List ℕ). value_of (bit_in q) 0 w) (sym b) ∙ value_bits w n h in
    let z : value_of (bit_in p) (0 + w) f ≡ 0 = value_zero (bit_in p) (0 + w) f (λ j k. get_or-eq_default p 0 (omega arith)) in
    let m : octets_for (length p) * 8 ≡ length p + f = omega arith in
    let j : joined 0 (pack p) ≡ n * 2 ^ f =
    pack_joined p ∙ ap (value_of (bit_in p) 0) m ∙ value_add (bit_in p) 0 w f ∙ ap₂ (λ (x y : ℕ). x * 2 ^ f + y) v z ∙ add-zero (n * 2 ^ f) in
    (same_number 0 0 s (pack p) o (pack_octets p i) (omega (arith, pack_length p)) (e ∙ sym j)).1
