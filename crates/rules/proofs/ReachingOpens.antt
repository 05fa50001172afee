-- The openings of calls_for, one by one, fill the places from the first on.
use Prim.Native.Nat.{ℕ, suc}
use mathlib.Core.Path.{◌≡◌, refl, sym, ap, ◌∙◌}
use mathlib.Core.Bool.{Bool, false, not}
use mathlib.Core.List.Memᴰ
use mathlib.Core.List.{List, [], ◌∷◌, ◌++◌, Memᴰ}
use mathlib.Core.Option.{some, none}
use native.Mathlib.Omega.{arith}
use borrow.Author.Tests.{eq-eqb, ne_eqb}
use lib.ListN.{length, replicate}
use lib.Seq.{append_snoc}
use Rattle.rules.specs.Search.{some_of, Distinct}
use Rattle.rules.specs.Verdict.{Verdict, allowed, after}
use Rattle.rules.specs.Orders.{open_order}
use Rattle.rules.specs.Call.{opening}
use Rattle.rules.specs.Answer.{opened}
use Rattle.rules.specs.Refusals.{wrong_width}
use Rattle.rules.specs.View.{AtPlace, View, is_for}
use Rattle.rules.specs.ViewSteps.{is_vacant, is_serving, has, set_first, open_verdict, view_step, view_run}
use Rattle.rules.specs.Reaching.{identifier_for, opens}
use Rattle.rules.proofs.ReachingPlaces.{some_behind, none_more, none_equal, view_of, has_here, set_here, identifier_wide, Unknown, unknown_live}

-- a place that was opened, and such places from one on
abbrev pub opened_at : (place endpoint : ℕ) → AtPlace
opened_at place endpoint = some (opened (identifier_for place) endpoint)

unfoldable pub opened_from : (place : ℕ) (endpoints : List ℕ) → List AtPlace
opened_from place [] = []
opened_from place (e ∷ es) = opened_at place e ∷ opened_from (suc place) es

-- the places before one: all taken, none by an identifier or an endpoint that is still to come
record Ready (place : ℕ) (es : List ℕ) (before : List AtPlace) : Type 0 where
  taken : some_of is_vacant before ≡ false
  unknown : Unknown place before
  unserved : (e : ℕ) → Memᴰ e es → some_of (is_serving e) before ≡ false

-- ---- one opening

open_passes : (down wrong known served full : Bool) → down ≡ false → wrong ≡ false → known ≡ false → served ≡ false → full ≡ false
    → open_order down wrong known served full ≡ allowed
open_passes down wrong known served full d w k s f = rw (d, w, k, s, f)

module _ (place e : ℕ) (es : List ℕ) (before : List AtPlace) (r : Ready place (e ∷ es) before) where
  abbrev view : (vacant : ℕ) → View
  view n = view_of (before ++ replicate (suc n) none)

  -- a test that neither the places before nor a vacant one passes
  fails : (p : AtPlace → Bool) → some_of p before ≡ false → p none ≡ false → (n : ℕ) → has p (view n) ≡ false
  fails p h q n = some_behind p before (replicate (suc n) none) h ∙ none_equal p (suc n) none q

  open_allowed : (n : ℕ) → open_verdict (view n) (identifier_for place) e ≡ allowed
  unfolding open_verdict
  open_allowed n =
      open_passes false (wrong_width (identifier_for place)) (has (is_for (identifier_for place)) (view n)) (has (is_serving e) (view n)) (not (has is_vacant (view n)))
      refl
      (ap not (eq-eqb _ _ (identifier_wide place)))
      (fails (is_for (identifier_for place)) (r.unknown place (omega arith)) refl n)
      (fails (is_serving e) (r.unserved e (Memᴰ.head refl)) refl n)
      (ap not (has_here is_vacant before none (replicate n none) r.taken refl))

  open_next_lem : (n : ℕ) → view_step (view n) (opening (identifier_for place) e) ≡ view_of (before ++ opened_at place e ∷ replicate n none)
  unfolding view_step
  open_next_lem n =
      ap (λ (w : Verdict). after w (set_first is_vacant (opened_at place e) (view n)) (view n)) (open_allowed n)
      ∙ set_here is_vacant before none (replicate n none) r.taken refl (opened_at place e)

  ready_next : Distinct (e ∷ es) → Ready (suc place) es (before ++ (opened_at place e ∷ []))
  ready_next d = record {
    taken = none_more is_vacant before (opened_at place e) r.taken refl;
    unknown = unknown_live place before r.unknown (opened (identifier_for place) e) refl;
    unserved = λ y m. none_more (is_serving y) before (opened_at place e) (r.unserved y (Memᴰ.tail m)) (ne_eqb e y (λ q. d.0 (Memᴰ.cast q m)));
  }

-- ---- all of them

opens_run : (es : List ℕ) (place : ℕ) (before : List AtPlace) → Ready place es before → Distinct es
    → view_run (view_of (before ++ replicate (length es) none)) (opens place es) ≡ view_of (before ++ opened_from place es)
unfolding view_run opens opened_from
opens_run [] place before r d = refl
opens_run (e ∷ es) place before r d =
    ap (λ (v : View). view_run v (opens (suc place) es))
    (open_next_lem place e es before r (length es) ∙ ap view_of (sym (append_snoc before (opened_at place e) (replicate (length es) none))))
    ∙ opens_run es (suc place) (before ++ (opened_at place e ∷ [])) (ready_next place e es before r d) d.1
    ∙ ap view_of (append_snoc before (opened_at place e) (opened_from (suc place) es))

pub all_opened : (es : List ℕ) → Distinct es → view_run (view_of (replicate (length es) none)) (opens 0 es) ≡ view_of (opened_from 0 es)
unfolding some_of
all_opened es d = opens_run es 0 [] (record { taken = refl; unknown = λ place h. refl; unserved = λ e m. refl }) d
