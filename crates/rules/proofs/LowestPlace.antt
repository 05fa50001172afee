-- Each opening in a list of calls that is answered with a place takes the lowest free one.
use Prim.Native.Nat.{ℕ, zero, suc, ◌<◌}
use mathlib.Core.Path.{◌≡◌, refl, sym, ap, subst, ◌∙◌}
use mathlib.Core.Bool.{Bool, true, false, cond, not}
use mathlib.Core.List.{List, [], ◌∷◌}
use mathlib.Core.Option.{some, none}
use native.Mathlib.Nat.{not-suc-le-zero, le_of_suc-le-suc}
use native.Mathlib.Omega.{arith}
use borrow.Author.Tests.{not-false}
use lib.ListN.{length, get_or, set}
use lib.Seq.{get_or-set_same, get_or-set_other}
use Rattle.octets.proofs.Tests.{false_true}
use Rattle.rules.specs.Search.{first}
use Rattle.rules.specs.Call.{Call, opening}
use Rattle.rules.specs.Verdict.{Verdict, allowed, refusal}
use Rattle.rules.specs.Answer.{Association, opened, placed, answered}
use Rattle.rules.specs.Refusals.{wrong_width}
use Rattle.rules.specs.Table.{step}
use Rattle.rules.specs.View.{AtPlace, View, view, is_for}
use Rattle.rules.specs.ViewSteps.{is_vacant, is_serving, has, is_down, open_verdict, view_answer, view_step}
use Rattle.rules.specs.Placed.{Placed, Opening, Openings}
use Rattle.rules.proofs.Choices.{no_both, by_test}
use Rattle.rules.proofs.SearchLaws.{first_passes}
use Rattle.rules.proofs.KeepLaws.{first_lt}
use Rattle.rules.proofs.VerdictLaws.{passed}
use Rattle.rules.proofs.Legal.{Legal}
use Rattle.rules.proofs.ViewLaws.{legal_step, view_step_lem, view_answer_lem}

-- no element before the first that passes does
before_first : {A : Type 0} (p : A → Bool) (d : A) (l : List A) (n : ℕ) → n < first p l → p (get_or l n d) ≡ false
unfolding first
before_first p d [] n h = absurd (not-suc-le-zero h)
before_first p d (x ∷ l) zero h = by_test (λ b. zero < cond b zero (suc (first p l)) → b ≡ false) (p x) (λ e k. absurd (not-suc-le-zero k)) (λ e k. refl) h
before_first p d (x ∷ l) (suc n) h =
    before_first p d l n
    (by_test (λ b. suc n < cond b zero (suc (first p l)) → n < first p l) (p x) (λ e k. absurd (not-suc-le-zero k)) (λ e k. le_of_suc-le-suc k) h)

-- what stands at a place, by the test of it
free : (x : AtPlace) → is_vacant x ≡ true → x ≡ none
free none h = refl
free (some a) h = absurd (false_true h)

taken : (x : AtPlace) → is_vacant x ≡ false → (a : Association) × (x ≡ some a)
taken none h = no_both refl h
taken (some a) h = (a, refl)

-- ---- an opening on a view

open_room : (v : View) (i : List ℕ) (e : ℕ) → open_verdict v i e ≡ allowed → has is_vacant v ≡ true
unfolding open_verdict
open_room v i e h =
    let p20 = passed (wrong_width i) _ _ (passed (is_down v) _ _ h).1 in
    let p12 = passed (has (is_serving e) v) _ _ (passed (has (is_for i) v) _ _ p20.1).1 in
    not-false _ (passed (not (has is_vacant v)) _ _ p12.1).0

-- an association stored at the first place that is vacant
stored : (table : List AtPlace) (i : List ℕ) (e : ℕ) → first is_vacant table < length table
    → Placed table (set table (first is_vacant table) (some (opened i e))) (first is_vacant table) i e
stored table i e h = record {
  within = h;
  free = free _ (first_passes is_vacant table none h);
  lowest = λ lower k. taken _ (before_first is_vacant none table lower k);
  new = get_or-set_same table (first is_vacant table) (some (opened i e)) none h;
  others = λ other k. get_or-set_other table (first is_vacant table) other (some (opened i e)) none k;
}

-- a call that is answered with a place was allowed, and this is the place
given : (w : Verdict) (n place : ℕ) → answered w 0 (placed n) ≡ placed place → (w ≡ allowed) × (n ≡ place)
given allowed n place h = (refl, cc)
given (refusal number) n place h = absurd (let z : ◌≡◌ {A = ℕ} 0 1 = cc in omega arith)

open_placed : (v : View) (i : List ℕ) (e place : ℕ) → view_answer v (opening i e) ≡ placed place → Placed v.table (view_step v (opening i e)).table place i e
unfolding view_answer view_step
open_placed v i e place h =
    let g = given (open_verdict v i e) _ place h in
    let at : first is_vacant v.table ≡ place = g.1 in
    let room = first_lt is_vacant v.table (open_room v i e g.0) in
    rw g.0 (subst (λ (n : ℕ). Placed v.table (set v.table (first is_vacant v.table) (some (opened i e))) n i e) at (stored v.table i e room))

-- ---- along a list

legal_opening : (s : List ℕ) → Legal s → (c : Call) → Opening s c
legal_opening s l c i e place q h =
    subst (λ (v : View). Placed (view s).table v.table place i e) (sym (view_step_lem s l c ∙ ap (view_step (view s)) q))
    (open_placed (view s) i e place (ap (view_answer (view s)) (sym q) ∙ sym (view_answer_lem s l c) ∙ h))

pub legal_openings : (calls : List Call) (s : List ℕ) → Legal s → Openings s calls
legal_openings [] s l = tt
legal_openings (c ∷ cs) s l = (legal_opening s l c, legal_openings cs (step s c) (legal_step s l c))
