-- Sorting has the ranges that document 02 names.
use Prim.Native.Nat.{ℕ}
use mathlib.Core.Path.{◌≡◌, refl, sym, subst}
use mathlib.Core.Logic.{◌⊎◌, inl, inr, ⊎_elim}
use native.Mathlib.Omega.{arith}
use Rattle.octets.specs.Range.{within}
use Rattle.octets.proofs.Tests.{by_choice}
use Rattle.octets.proofs.RangeLaws.{within_true, within_false, limits}
use Rattle.demux.specs.Sorting.{kind_of, sorting}
use Rattle.demux.specs.Ranges.{InRange, Covered, Ranges}
use Rattle.demux.specs.declared.sorting.Kind.{Kind}
use Rattle.demux.specs.declared.sorting.Kind.TheVariants.{Stun, Zrtp, Dtls, TurnChannel, Rtp, Other}

-- by computing the definition on each
runs : Covered
unfolding kind_of within
runs = refl

-- by cases on a sum, which stands first, so that the types of the cases are known
by_sum : {A B P : Type 0} → A ⊎ B → (A → P) → (B → P) → P
by_sum s f g = ⊎_elim f g s

-- an octet is in the range of its kind; what is in none of the five is Other's
own : (x : ℕ) → InRange (kind_of x) x
unfolding kind_of
own x =
    let P : Kind → Type 0 = λ k. InRange k x in
    by_choice P (within 0 3 x) _ _ (λ e. (within_true _ _ x e).1) (λ stun.
    by_choice P (within 16 19 x) _ _ (within_true _ _ x) (λ zrtp.
    by_choice P (within 20 63 x) _ _ (within_true _ _ x) (λ dtls.
    by_choice P (within 64 79 x) _ _ (within_true _ _ x) (λ turn.
    by_choice P (within 128 191 x) _ _ (within_true _ _ x) (λ rtp.
    by_sum (within_false _ _ x stun) (λ a. absurd (omega arith)) (λ a.
    by_sum (within_false _ _ x zrtp) (λ b. inl (omega arith, omega arith)) (λ b.
    by_sum (within_false _ _ x dtls) (λ c. absurd (omega arith)) (λ c.
    by_sum (within_false _ _ x turn) (λ d. absurd (omega arith)) (λ d.
    inr (by_sum (within_false _ _ x rtp) (λ e. inl (omega arith, omega arith)) inr))))))))))

-- and a kind is that of every octet in its range
only : (k : Kind) (x : ℕ) → InRange k x → k ≡ kind_of x
unfolding kind_of
only Stun x h = search limits depth 8
only Zrtp x h = search limits depth 8
only Dtls x h = search limits depth 8
only TurnChannel x h = search limits depth 8
only Rtp x h = search limits depth 8
only Other x (inl h) = search limits depth 8
only Other x (inr (inl h)) = search limits depth 8
only Other x (inr (inr h)) = search limits depth 8

pub ranges : Ranges
unfolding sorting
ranges = record {
  exactly = λ k x. (λ e. subst (λ (j : Kind). InRange j x) e (own x), λ h. sym (only k x h));
  covered = runs;
  sorted = λ first rest. refl;
  empty = refl;
}
