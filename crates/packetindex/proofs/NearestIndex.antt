-- What the estimate says of every stream and sequence number: the nearest index with its ties, or refusal 31 or 32.
use Rattle.std.proofs.Common.{◌≡◌, ℕ, ◌+◌, ◌-◌, ◌/◌, ◌%◌, ◌<◌, eqb, sym, refl, ◌∙◌, arith, eqb-true}
use borrow.Author.Tests.{eqb-false}
use Rattle.octets.proofs.Tests.{by_choice}
use Rattle.packetindex.specs.Limits.{roc_count}
use Rattle.packetindex.specs.Estimating.{neighbour_of, roc_tried, index_of, answer, estimating}
use Rattle.packetindex.specs.Nearest.{Fits, HalfWay, Near, Estimate, no_such_index, key_spent, Says}
use Rattle.packetindex.specs.declared.stream.Stream.{Stream}
use Rattle.packetindex.specs.declared.estimating.Neighbour.{Neighbour}
use Rattle.packetindex.specs.declared.estimating.Neighbour.TheVariants.{OneLess, Same, OneMore}
use Rattle.packetindex.proofs.NearLaws.{near, near_nearest, near_ties, near_settled}
use Rattle.packetindex.proofs.HalfWay.{half_way_lem}

module _ (s : Stream) (sequence : ℕ) (f : Fits s sequence) where
  -- a near index is all that an estimate is
  estimate_near : (v : ℕ) → v < roc_count → Near s (index_of v sequence) → Estimate s sequence v (index_of v sequence)
  estimate_near v h w =
      let e : index_of v sequence % 65536 ≡ sequence = omega (arith, f) in
      let u : index_of v sequence / 65536 ≡ v = omega (arith, f) in
      record {
        index = record { sequence_of = e; roc_of = u; bits = omega (arith, f); near = w };
        nearest = near_nearest s sequence (index_of v sequence) f e w;
        ties = near_ties s sequence (index_of v sequence) f e w;
        settled = λ k. sym u ∙ near_settled s sequence (index_of v sequence) f e w k;
      }

  by_answer : (n : Neighbour) → HalfWay s.highest sequence n → Says s sequence (answer s.roc sequence n)
  by_answer OneLess h =
      by_choice (Says s sequence) (eqb s.roc 0) _ _
      (λ e. no_such_index refl (record { first = eqb-true s.roc 0 e; one_less = h }))
      (λ e.
      let z : s.roc ≡ 0 → ⊥ = eqb-false s.roc 0 e in
      let v : roc_tried s.roc OneLess + 1 ≡ s.roc = omega (arith, f) in
      estimate_near (roc_tried s.roc OneLess) (omega arith)
      (near s _ (λ k. (omega (arith, f), omega (arith, f))) (λ k. (omega (arith, f), omega (arith, f)))))
  by_answer Same h =
      estimate_near s.roc f.stream_fits.roc_fits
      (near s _ (λ k. (omega (arith, f), omega (arith, f))) (λ k. (omega (arith, f), omega (arith, f))))
  by_answer OneMore h =
      by_choice (Says s sequence) (eqb s.roc (roc_count - 1)) _ _
      (λ e. key_spent refl (record { last = eqb-true s.roc (roc_count - 1) e; one_more = h }))
      (λ e.
      let z : s.roc ≡ roc_count - 1 → ⊥ = eqb-false s.roc (roc_count - 1) e in
      let v : roc_tried s.roc OneMore ≡ s.roc + 1 = omega (arith, f) in
      estimate_near (roc_tried s.roc OneMore) (omega (arith, f))
      (near s _ (λ k. (omega (arith, f), omega (arith, f))) (λ k. (omega (arith, f), omega (arith, f)))))

  -- the theorem
  pub estimate_says : Says s sequence (estimating s sequence)
  unfolding estimating
  estimate_says =
      by_answer (neighbour_of s.highest sequence)
      (half_way_lem s.highest sequence f.stream_fits.highest_fits f.sequence_fits)
