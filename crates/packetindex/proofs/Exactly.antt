-- Which answer is given when: an index exactly where it is near, 31 and 32 exactly where the nearest would be below 0 or
-- have more than 48 bits.
use Rattle.std.proofs.Common.{◌≡◌, ℕ, ◌+◌, ◌*◌, ◌/◌, ◌%◌, ◌^◌, ◌<◌, ◌↔◌, sym, refl, ap, ◌∙◌, arith}
use Rattle.packetindex.specs.Estimating.{Answer, refused, found, estimating}
use Rattle.packetindex.specs.Nearest.{distance, highest_index, StreamFits, Fits, BeforeFirst, AfterLast, NearerBelow, NearerAbove, Near, lower_half, upper_half, NearIndex, Estimate, no_such_index, key_spent, Says}
use Rattle.packetindex.specs.declared.stream.Stream.{Stream}
use Rattle.packetindex.proofs.NearLaws.{near_inside, near_only}
use Rattle.packetindex.proofs.NearestIndex.{estimate_says}

module _ (s : Stream) (sequence : ℕ) (f : Fits s sequence) where
  -- ---- three cases that shut each other out

  first_or_last : BeforeFirst s sequence → AfterLast s sequence → ⊥
  first_or_last a b = omega (arith, a.first, b.last)

  first_or_near : (v i : ℕ) → NearIndex s sequence v i → BeforeFirst s sequence → ⊥
  first_or_near v i p n = go p.near p.sequence_of n.first n.one_less
    where
      go : Near s i → i % 65536 ≡ sequence → s.roc ≡ 0 → s.highest + 32768 < sequence → ⊥
      go (lower_half h a b) e z k = omega arith
      go (upper_half h a b) e z k = omega arith

  last_or_near : (v i : ℕ) → NearIndex s sequence v i → AfterLast s sequence → ⊥
  last_or_near v i p n = go p.near p.sequence_of p.bits n.last n.one_more
    where
      go : Near s i → i % 65536 ≡ sequence → i < 2 ^ 48 → s.roc ≡ 4294967295 → sequence + 32768 < s.highest → ⊥
      go (lower_half h a b) e r z k = omega arith
      go (upper_half h a b) e r z k = omega arith

  -- ---- from what an answer says to which it is, and back

  to_31 : (a : Answer) → Says s sequence a → BeforeFirst s sequence → a ≡ refused 31
  to_31 (refused number) (no_such_index e n) k = ap refused e
  to_31 (refused number) (key_spent e n) k = absurd (first_or_last k n)
  to_31 (found v i) t k = absurd (first_or_near v i t.index k)

  to_32 : (a : Answer) → Says s sequence a → AfterLast s sequence → a ≡ refused 32
  to_32 (refused number) (no_such_index e n) k = absurd (first_or_last n k)
  to_32 (refused number) (key_spent e n) k = ap refused e
  to_32 (found v i) t k = absurd (last_or_near v i t.index k)

  to_found : (v i : ℕ) (a : Answer) → Says s sequence a → NearIndex s sequence v i → a ≡ found v i
  to_found v i (refused number) (no_such_index e n) p = absurd (first_or_near v i p n)
  to_found v i (refused number) (key_spent e n) p = absurd (last_or_near v i p n)
  to_found v i (found w j) t p =
      let q = t.index in
      let e : j ≡ i = near_only s sequence i f p.sequence_of j p.near q.sequence_of q.near in
      let d : w ≡ v = sym q.roc_of ∙ ap (λ (x : ℕ). x / 65536) e ∙ p.roc_of in
      cc

  from_31 : (a : Answer) → Says s sequence a → a ≡ refused 31 → BeforeFirst s sequence
  from_31 (refused number) (no_such_index e n) k = n
  from_31 (refused number) (key_spent e n) k = let z : ◌≡◌ {A = ℕ} 31 32 = cc in absurd (omega arith)
  from_31 (found v i) t k = absurd (cc)

  from_32 : (a : Answer) → Says s sequence a → a ≡ refused 32 → AfterLast s sequence
  from_32 (refused number) (no_such_index e n) k = let z : ◌≡◌ {A = ℕ} 31 32 = cc in absurd (omega arith)
  from_32 (refused number) (key_spent e n) k = n
  from_32 (found v i) t k = absurd (cc)

  from_found : (v i : ℕ) (a : Answer) → Says s sequence a → a ≡ found v i → Estimate s sequence v i
  from_found v i (refused number) t k = absurd (cc)
  from_found v i (found w j) t k =
      let d : w ≡ v = cc in
      let e : j ≡ i = cc in
      rw (d, e) at t

  -- ---- the theorems

  -- 31: at ROC 0, one less
  pub first_exactly : (estimating s sequence ≡ refused 31) ↔ BeforeFirst s sequence
  first_exactly =
      (from_31 (estimating s sequence) (estimate_says s sequence f), to_31 (estimating s sequence) (estimate_says s sequence f))

  -- 32: at the last ROC, one more
  pub last_exactly : (estimating s sequence ≡ refused 32) ↔ AfterLast s sequence
  last_exactly =
      (from_32 (estimating s sequence) (estimate_says s sequence f), to_32 (estimating s sequence) (estimate_says s sequence f))

  -- an index: the near one with this sequence number, where it has 48 bits
  pub found_exactly : (v i : ℕ) → (estimating s sequence ≡ found v i) ↔ NearIndex s sequence v i
  found_exactly v i = (
    λ e. (from_found v i (estimating s sequence) (estimate_says s sequence f) e).index,
    to_found v i (estimating s sequence) (estimate_says s sequence f),
  )

  -- it is the nearest, with its ties
  pub found_nearest : (v i : ℕ) → estimating s sequence ≡ found v i → Estimate s sequence v i
  found_nearest v i = from_found v i (estimating s sequence) (estimate_says s sequence f)

  first_below : BeforeFirst s sequence → NearerBelow s sequence
  first_below n j e = omega (arith, f, n.first, n.one_less)

  below_first : NearerBelow s sequence → BeforeFirst s sequence
  below_first b =
      let e : (65536 * s.roc + sequence) % 65536 ≡ sequence = omega (arith, f) in
      let d = b (65536 * s.roc + sequence) e in
      record { first = omega (arith, f); one_less = omega (arith, f) }

  -- 31: the nearest would be below 0
  pub first_nearest : (estimating s sequence ≡ refused 31) ↔ NearerBelow s sequence
  first_nearest = (λ e. first_below (first_exactly.0 e), λ b. first_exactly.1 (below_first b))

  last_above : AfterLast s sequence → NearerAbove s sequence
  last_above n j e h = omega (arith, f, n.last, n.one_more)

  above_last : NearerAbove s sequence → AfterLast s sequence
  above_last b =
      let e : (65536 * s.roc + sequence) % 65536 ≡ sequence = omega (arith, f) in
      let d = b (65536 * s.roc + sequence) e (omega (arith, f)) in
      record { last = omega (arith, f); one_more = omega (arith, f) }

  -- 32: the nearest would have more than 48 bits
  pub last_nearest : (estimating s sequence ≡ refused 32) ↔ NearerAbove s sequence
  last_nearest = (λ e. last_above (last_exactly.0 e), λ b. last_exactly.1 (above_last b))

  -- an index less than half-way from the highest one is found again from its sequence number
  pub sent_found : (i : ℕ) → i % 65536 ≡ sequence → i < 2 ^ 48 → distance i (highest_index s) < 32768
      → estimating s sequence ≡ found (i / 65536) i
  sent_found i e h d = (found_exactly (i / 65536) i).1 (record { sequence_of = e; roc_of = refl; bits = h; near = near_inside s i d })

-- a stream begins with the numbers of a packet, and its index is that packet's
pub begins : (s : Stream) → StreamFits s → estimating s s.highest ≡ found s.roc (highest_index s)
begins s f =
    (found_exactly s s.highest (record { stream_fits = f; sequence_fits = f.highest_fits }) s.roc (highest_index s)).1
    (record { sequence_of = omega (arith, f); roc_of = omega (arith, f); bits = omega (arith, f); near = near_inside s (highest_index s) (omega arith) })
