-- What an update keeps, by indices and by the three cases of RFC 3711, section 3.3.1.
use Rattle.std.proofs.Common.{◌≡◌, ℕ, ◌+◌, ◌-◌, ◌*◌, ◌<◌, ◌≤◌, max, Bool, true, false, eqb, ltb, ◌↔◌, sym, refl, ap, ◌∙◌, subst, arith, ltb-false, ltb-true, le-ltb, lt-ltb}
use native.Mathlib.Nat.{max-eq_left, max-eq_right}
use Rattle.octets.proofs.Tests.{by_choice}
use Rattle.packetindex.specs.Limits.{roc_count}
use Rattle.packetindex.specs.Estimating as Estimating
use Rattle.packetindex.specs.Estimating.{neighbour_of, roc_tried, index_of, answer, estimating}
use Rattle.packetindex.specs.Updating.{refused, keep, later, after, updating, kept, next}
use Rattle.packetindex.specs.Nearest.{highest_index, Fits}
use Rattle.packetindex.specs.Following.{Update, UpdateByRoc}
use Rattle.packetindex.specs.declared.stream.Stream.{Stream}
use Rattle.packetindex.specs.declared.estimating.Neighbour.{Neighbour}
use Rattle.packetindex.specs.declared.estimating.Neighbour.TheVariants.{OneLess, Same, OneMore}
use Rattle.packetindex.proofs.TriedRoc.{tried_exactly}
use Rattle.packetindex.proofs.HalfWay.{half_way_lem}

-- ---- an index that is found is that of the ROC tried and the sequence number

abbrev IsTried : (roc sequence : ℕ) → Neighbour → Estimating.Answer → Type 0
IsTried roc sequence n (Estimating.refused number) = Unit {0}
IsTried roc sequence n (Estimating.found v i) = (v ≡ roc_tried roc n) × (i ≡ index_of v sequence)

answer_tried : (roc sequence : ℕ) (n : Neighbour) → IsTried roc sequence n (answer roc sequence n)
answer_tried roc sequence OneLess = by_choice (IsTried roc sequence OneLess) (eqb roc 0) _ _ (λ _. tt) (λ _. (refl, refl))
answer_tried roc sequence Same = (refl, refl)
answer_tried roc sequence OneMore = by_choice (IsTried roc sequence OneMore) (eqb roc (roc_count - 1)) _ _ (λ _. tt) (λ _. (refl, refl))

is_tried : (s : Stream) (sequence : ℕ) → IsTried s.roc sequence (neighbour_of s.highest sequence) (estimating s sequence)
unfolding estimating
is_tried s sequence = answer_tried s.roc sequence (neighbour_of s.highest sequence)

found_tried : (s : Stream) (sequence v i : ℕ) → estimating s sequence ≡ Estimating.found v i
    → (v ≡ roc_tried s.roc (neighbour_of s.highest sequence)) × (i ≡ index_of v sequence)
found_tried s sequence v i e = subst (IsTried s.roc sequence (neighbour_of s.highest sequence)) e (is_tried s sequence)

-- ---- the later of two

module _ (s : Stream) (sequence v i : ℕ) where
  later_moves : highest_index s < i → later s sequence v i ≡ record { roc = v; highest = sequence }
  unfolding later
  later_moves h = rw (lt-ltb (index_of s.roc s.highest) i (omega arith))

  later_stays : i ≤ highest_index s → later s sequence v i ≡ s
  unfolding later
  later_stays h = rw (le-ltb (index_of s.roc s.highest) i (omega arith))

  later_greater : i ≡ index_of v sequence → highest_index (later s sequence v i) ≡ max (highest_index s) i
  later_greater e = go (ltb (highest_index s) i) refl
    where
      go : (b : Bool) → ltb (highest_index s) i ≡ b → highest_index (later s sequence v i) ≡ max (highest_index s) i
      go true k =
          let h = ltb-true (highest_index s) i k in
          let p : 65536 * v + sequence ≡ i = omega arith in
          ap highest_index (later_moves h) ∙ p ∙ sym (max-eq_right (omega (arith, h)))
      go false k =
          let h = ltb-false (highest_index s) i k in
          ap highest_index (later_stays h) ∙ sym (max-eq_left h)

  -- under the same ROC it is the greater of the numbers
  later_same : i ≡ index_of v sequence → v ≡ s.roc → later s sequence v i ≡ record { roc = s.roc; highest = max s.highest sequence }
  later_same x e = go (ltb s.highest sequence) refl
    where
      go : (b : Bool) → ltb s.highest sequence ≡ b → later s sequence v i ≡ record { roc = s.roc; highest = max s.highest sequence }
      go true k =
          let h = ltb-true s.highest sequence k in
          let m : max s.highest sequence ≡ sequence = max-eq_right (omega (arith, h)) in
          let l = later_moves (omega (arith, h)) in
          rw (l, e, m)
      go false k =
          let h = ltb-false s.highest sequence k in
          let m : max s.highest sequence ≡ s.highest = max-eq_left h in
          let l = later_stays (omega (arith, h)) in
          rw (l, m)

-- ---- the update

-- it refuses as the estimate does
pub refuses : (s : Stream) (sequence number : ℕ) → estimating s sequence ≡ Estimating.refused number → updating s sequence ≡ refused number
unfolding updating
refuses s sequence number e = ap (after s sequence) e

pub accepts_later : (s : Stream) (sequence v i : ℕ) → estimating s sequence ≡ Estimating.found v i → updating s sequence ≡ keep (later s sequence v i)
unfolding updating
accepts_later s sequence v i e = ap (after s sequence) e

-- what is kept is another stream exactly where the index is higher
changes_exactly : (s k : Stream) (i : ℕ) → highest_index k ≡ max (highest_index s) i → (i ≤ highest_index s → k ≡ s) → (k ≡ s → ⊥) ↔ (highest_index s < i)
changes_exactly s k i greater stays = (λ n. go n (ltb (highest_index s) i) refl, λ h e. omega (arith, greater, ap highest_index e, h))
  where
    go : (k ≡ s → ⊥) → (b : Bool) → ltb (highest_index s) i ≡ b → highest_index s < i
    go n true e = ltb-true (highest_index s) i e
    go n false e = absurd (n (stays (ltb-false (highest_index s) i e)))

-- the theorem, by indices
pub updates : (s : Stream) (sequence v i : ℕ) → estimating s sequence ≡ Estimating.found v i → Update s sequence v i
updates s sequence v i e =
    let u = accepts_later s sequence v i e in
    let k : next s sequence ≡ later s sequence v i = ap (kept s) u in
    let g : highest_index (next s sequence) ≡ max (highest_index s) i = ap highest_index k ∙ later_greater s sequence v i (found_tried s sequence v i e).1 in
    let t : i ≤ highest_index s → next s sequence ≡ s = λ h. k ∙ later_stays s sequence v i h in
    record {
      answer = u ∙ ap keep (sym k);
      moves = λ h. k ∙ later_moves s sequence v i h;
      stays = t;
      changes = changes_exactly s (next s sequence) i g t;
      greater = g;
    }

-- and by the ROC that was tried
pub updates_by_roc : (s : Stream) (sequence v i : ℕ) → Fits s sequence → estimating s sequence ≡ Estimating.found v i → UpdateByRoc s sequence v
updates_by_roc s sequence v i f e =
    let k : next s sequence ≡ later s sequence v i = ap (kept s) (accepts_later s sequence v i e) in
    let x : i ≡ index_of v sequence = (found_tried s sequence v i e).1 in
    let n = neighbour_of s.highest sequence in
    record {
      tried = (
        n,
        (
          half_way_lem s.highest sequence f.stream_fits.highest_fits f.sequence_fits,
          (tried_exactly s.roc f.stream_fits.roc_fits n v).1 (found_tried s sequence v i e).0,
        ),
      );
      one_less = λ r. k ∙ later_stays s sequence v i (omega (arith, f));
      same = λ r. k ∙ later_same s sequence v i x r;
      one_more = λ r. k ∙ later_moves s sequence v i (omega (arith, f));
    }
