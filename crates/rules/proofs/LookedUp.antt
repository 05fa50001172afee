-- The search through the index after every list of calls, and the numbers that a search by halving compares.
use Prim.Native.Nat.{ℕ, zero, suc, ◌+◌, ◌-◌, ◌/◌}
use mathlib.Core.Path.{◌≡◌, refl, ap, ap₂, ◌∙◌}
use mathlib.Core.Bool.{cond}
use mathlib.Core.List.{List, [], ◌∷◌}
use lib.Dec.{eqb}
use lib.ListN.{length, drop}
use lib.Seq.{drop_at}
use Rattle.rules.specs.Call.{Call}
use Rattle.rules.specs.Answer.{Answer}
use Rattle.rules.specs.Layout.{live, endpoint_of, serving, index_at, down_block, rows}
use Rattle.rules.specs.Halving.{missing, nearer, halved, settled, halving, halved_by, compared}
use Rattle.rules.specs.Table.{run, step, answers}
use Rattle.rules.specs.View.{View, view}
use Rattle.rules.specs.ViewSteps.{view_run, view_answers}
use Rattle.rules.specs.Lookup.{Agree, LooksUp}
use Rattle.rules.proofs.IndexTable as Index
use Rattle.rules.proofs.Legal.{Legal, place_first}
use Rattle.rules.proofs.ViewLaws.{legal_down, view_down, legal_step, view_step_lem, view_answer_lem}

-- ---- a search in so many rounds compares no more numbers, and no other number decides

halved_count : (k : ℕ) (f : ℕ → ℕ) (x lo n : ℕ) → length (halved_by k f x lo n) ≡ k
unfolding halved_by
halved_count zero f x lo n = refl
halved_count (suc k) f x lo n = ap suc (halved_count k f x (nearer (f (lo + n / 2)) x lo (lo + n / 2)) (n - n / 2))

pub compares_few : (k : ℕ) (f : ℕ → ℕ) (x n : ℕ) → length (compared k f x n) ≡ k
unfolding compared
compares_few zero f x n = refl
compares_few (suc k) f x n = ap suc (halved_count k f x 0 n)

module _ (f g : ℕ → ℕ) (x : ℕ) where
  halved_decides : (k lo n : ℕ) → Agree f g (halved_by k f x lo n) → halved k f x lo n ≡ halved k g x lo n
  unfolding halved_by halved
  halved_decides zero lo n a = refl
  halved_decides (suc k) lo n a =
      halved_decides k (nearer (f (lo + n / 2)) x lo (lo + n / 2)) (n - n / 2) a.1
      ∙ ap (λ (y : ℕ). halved k g x (nearer y x lo (lo + n / 2)) (n - n / 2)) a.0

  pub compares_all : (k n : ℕ) → Agree f g (compared k f x n) → halving k f x n ≡ halving k g x n
  unfolding compared halving
  compares_all zero n a = refl
  compares_all (suc k) n a =
      let h = halved_decides k 0 n a.1 in
      ap (cond (eqb n 0) (missing 0))
      (ap (λ (y : ℕ). settled y x (halved k f x 0 n)) a.0 ∙ ap (λ (at : ℕ). settled (g at) x at) h)

-- ---- after every list of calls

legal_run : (calls : List Call) (s : List ℕ) → Legal s → Legal (run s calls)
unfolding run
legal_run [] s l = l
legal_run (c ∷ cs) s l = legal_run cs (step s c) (legal_step s l c)

seen_run : (calls : List Call) (s : List ℕ) → Legal s → view (run s calls) ≡ view_run (view s) calls
unfolding run view_run
seen_run [] s l = refl
seen_run (c ∷ cs) s l = seen_run cs (step s c) (legal_step s l c) ∙ ap (λ (v : View). view_run v cs) (view_step_lem s l c)

answered_run : (calls : List Call) (s : List ℕ) → Legal s → answers s calls ≡ view_answers (view s) calls
unfolding answers view_answers
answered_run [] s l = refl
answered_run (c ∷ cs) s l =
    ap₂ (λ (a : Answer) (b : List Answer). a ∷ b) (view_answer_lem s l c)
    (answered_run cs (step s c) (legal_step s l c) ∙ ap (λ (v : View). view_answers v cs) (view_step_lem s l c))

pub looks_up : (calls : List Call) → LooksUp calls
unfolding serving
looks_up calls =
    let s = run down_block calls in
    let l = legal_run calls down_block legal_down in
    record {
      found = place_first s l;
      in_rounds = λ k endpoint h. Index.place_found_in live endpoint_of l.front s (rows s) l.table k h endpoint;
      follows = ap (drop index_at) l.table.index.index ∙ drop_at l.front _ index_at l.table.index.size;
      answered = answered_run calls down_block legal_down ∙ ap (λ (v : View). view_answers v calls) view_down;
      seen = seen_run calls down_block legal_down ∙ ap (λ (v : View). view_run v calls) view_down;
    }
