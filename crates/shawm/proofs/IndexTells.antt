-- The numbers of the C interface tell what the estimate answered and what is kept.
use Prim.Native.Nat.{ℕ, ◌+◌}
use mathlib.Core.Path.{◌≡◌, refl, sym, ap, ◌∙◌, subst}
use mathlib.Core.Logic.{◌↔◌, ◌⊎◌, inl, inr}
use native.Mathlib.Omega.{arith}
use Rattle.packetindex.specs.Estimating.{Answer, refused, found, estimating}
use Rattle.packetindex.specs.Nearest.{Fits, BeforeFirst, AfterLast, no_such_index, key_spent, Says}
use Rattle.packetindex.specs.declared.stream.Stream.{Stream}
use Rattle.packetindex.proofs.NearestIndex.{estimate_says}
use Rattle.packetindex.proofs.Exactly.{first_exactly, last_exactly, found_exactly}
use Rattle.packetindex.proofs.Updates.{updates}
use Rattle.packetindex.proofs.Followed.{refused_keeps}
use Rattle.shawm.specs.Refusal.{top_bit, refusal}
use Rattle.shawm.specs.Index.{estimate_number}
use Rattle.shawm.specs.Claims.{IndexTells}

number_refused : (a : Answer) (number : ℕ) → estimate_number a ≡ top_bit + number → a ≡ refused number
number_refused (refused n) number e = let k : n ≡ number = omega arith in ap refused k
number_refused (found v i) number e = absurd (omega arith)

module _ (s : Stream) (sequence : ℕ) where
  said_answers : (a : Answer) → Says s sequence a
      → (estimate_number a ≡ 0) ⊎ ((estimate_number a ≡ top_bit + 31) ⊎ (estimate_number a ≡ top_bit + 32))
  said_answers (refused number) (no_such_index e b) = inr (inl (ap refusal e))
  said_answers (refused number) (key_spent e b) = inr (inr (ap refusal e))
  said_answers (found v i) t = inl refl

module _ (s : Stream) (sequence : ℕ) (f : Fits s sequence) where
  -- of an answer that is the estimate's
  module _ (a : Answer) (e : estimating s sequence ≡ a) where
    answers : (estimate_number a ≡ 0) ⊎ ((estimate_number a ≡ top_bit + 31) ⊎ (estimate_number a ≡ top_bit + 32))
    answers = said_answers s sequence a (subst (Says s sequence) e (estimate_says s sequence f))

    first_tells : (estimate_number a ≡ top_bit + 31) ↔ BeforeFirst s sequence
    first_tells = (λ k. (first_exactly s sequence f).0 (e ∙ number_refused a 31 k), λ b. ap estimate_number (sym e ∙ (first_exactly s sequence f).1 b))

    last_tells : (estimate_number a ≡ top_bit + 32) ↔ AfterLast s sequence
    last_tells = (λ k. (last_exactly s sequence f).0 (e ∙ number_refused a 32 k), λ b. ap estimate_number (sym e ∙ (last_exactly s sequence f).1 b))

  answer_tells : (a : Answer) → estimating s sequence ≡ a → IndexTells s sequence a
  answer_tells (refused number) e = record {
    answers = answers (refused number) e;
    no_such_index = first_tells (refused number) e;
    key_spent = last_tells (refused number) e;
    index = λ k. absurd (omega arith);
    update = λ k. absurd (omega arith);
    no_index = λ n. refl;
    keeps = λ n. refused_keeps s sequence number e;
  }
  answer_tells (found v i) e =
      let p = (found_exactly s sequence f v i).0 e in
      record {
        answers = answers (found v i) e;
        no_such_index = first_tells (found v i) e;
        key_spent = last_tells (found v i) e;
        index = λ k. record { sequence_of = p.sequence_of; roc_of = refl; bits = p.bits; near = p.near };
        update = λ k. rw p.roc_of (updates s sequence v i e);
        no_index = λ n. absurd (n refl);
        keeps = λ n. absurd (n refl);
      }

  -- the theorem
  pub index_tells : IndexTells s sequence (estimating s sequence)
  index_tells = answer_tells (estimating s sequence) refl
