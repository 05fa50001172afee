-- A near index is the nearest one with its sequence number, and the only near one; what its ties are.
use Rattle.std.proofs.Common.{◌≡◌, ℕ, ◌+◌, ◌/◌, ◌%◌, ◌<◌, ◌≤◌, Bool, true, false, ltb, ◌↔◌, sym, refl, ◌∙◌, arith, ltb-false, ltb-true}
use Rattle.packetindex.specs.Nearest.{distance, highest_index, Fits, Near, lower_half, upper_half, Nearest, AsNear, OtherEnd}
use Rattle.packetindex.specs.declared.stream.Stream.{Stream}

-- two numbers as far from a third lie on its two sides
mirrored : (i j p : ℕ) → (j ≡ i → ⊥) → distance j p ≡ distance i p → i + j ≡ p + p
mirrored i j p n e = omega arith

mirrored_below : (i j p : ℕ) → (j ≡ i → ⊥) → i % 65536 ≡ j % 65536 → i + j ≡ p + p → p < i + 32768 → i ≤ p + 32768 → j + 65536 ≡ i
mirrored_below i j p n e m a b = omega arith

mirrored_above : (i j p : ℕ) → (j ≡ i → ⊥) → i % 65536 ≡ j % 65536 → i + j ≡ p + p → p ≤ i + 32768 → i < p + 32768 → j ≡ i + 65536
mirrored_above i j p n e m a b = omega arith

-- by the half in which the highest number is
pub near : (s : Stream) (i : ℕ) → (s.highest < 32768 → (highest_index s < i + 32768) × (i ≤ highest_index s + 32768))
    → (32768 ≤ s.highest → (highest_index s ≤ i + 32768) × (i < highest_index s + 32768)) → Near s i
near s i l u = go (ltb s.highest 32768) refl
  where
    go : (b : Bool) → ltb s.highest 32768 ≡ b → Near s i
    go true e = let k = ltb-true _ _ e in lower_half k (l k).0 (l k).1
    go false e = let k = ltb-false _ _ e in upper_half k (u k).0 (u k).1

-- less than half-way away
pub near_inside : (s : Stream) (i : ℕ) → distance i (highest_index s) < 32768 → Near s i
near_inside s i d = near s i (λ k. (omega arith, omega arith)) (λ k. (omega arith, omega arith))

module _ (s : Stream) (sequence i : ℕ) (f : Fits s sequence) (number : i % 65536 ≡ sequence) where
  pub near_only : (j : ℕ) → Near s i → j % 65536 ≡ sequence → Near s j → j ≡ i
  near_only j (lower_half h a b) e (lower_half k c d) = omega arith
  near_only j (lower_half h a b) e (upper_half k c d) = omega arith
  near_only j (upper_half h a b) e (lower_half k c d) = omega arith
  near_only j (upper_half h a b) e (upper_half k c d) = omega arith

  pub near_nearest : Near s i → Nearest s sequence i
  near_nearest (lower_half h a b) j e = omega arith
  near_nearest (upper_half h a b) j e = omega arith

  -- an end is half-way from the highest index exactly where the numbers are half-way apart
  end_apart : Near s i → distance i (highest_index s) ≡ 32768 → distance sequence s.highest ≡ 32768
  end_apart (lower_half h a b) k = omega arith
  end_apart (upper_half h a b) k = omega arith

  tie_other_end : (j : ℕ) → Near s i → AsNear s sequence i j → OtherEnd s sequence i j
  tie_other_end j (lower_half h a b) t =
      let m : i + j ≡ highest_index s + highest_index s = mirrored i j (highest_index s) t.other t.equal in
      let e : j + 65536 ≡ i = mirrored_below i j (highest_index s) t.other (number ∙ sym t.sequence_of) m a b in
      record { apart = end_apart (lower_half h a b) (omega arith); bits = t.bits; before = λ k. e; after = λ k. absurd (omega (arith, h)) }
  tie_other_end j (upper_half h a b) t =
      let m : i + j ≡ highest_index s + highest_index s = mirrored i j (highest_index s) t.other t.equal in
      let e : j ≡ i + 65536 = mirrored_above i j (highest_index s) t.other (number ∙ sym t.sequence_of) m a b in
      record { apart = end_apart (upper_half h a b) (omega arith); bits = t.bits; before = λ k. absurd (omega (arith, h)); after = λ k. e }

  other_end_tie : (j : ℕ) → Near s i → OtherEnd s sequence i j → AsNear s sequence i j
  other_end_tie j (lower_half h a b) t =
      let e : j + 65536 ≡ i = t.before h in
      let d : distance sequence s.highest ≡ 32768 = t.apart in
      record { sequence_of = omega arith; bits = t.bits; other = λ k. omega arith; equal = omega arith }
  other_end_tie j (upper_half h a b) t =
      let e : j ≡ i + 65536 = t.after h in
      let d : distance sequence s.highest ≡ 32768 = t.apart in
      record { sequence_of = omega arith; bits = t.bits; other = λ k. omega arith; equal = omega arith }

  pub near_ties : Near s i → (j : ℕ) → AsNear s sequence i j ↔ OtherEnd s sequence i j
  near_ties w j = (tie_other_end j w, other_end_tie j w)

  pub near_settled : Near s i → distance sequence s.highest ≡ 32768 → i / 65536 ≡ s.roc
  near_settled (lower_half h a b) k = omega arith
  near_settled (upper_half h a b) k = omega arith
