-- After the calls of calls_for l the view shows l.
use Prim.Native.Nat.{ℕ}
use mathlib.Core.Path.{◌≡◌, refl, sym, ap, ◌∙◌}
use mathlib.Core.Bool.{Bool, false}
use mathlib.Core.List.{List, [], ◌∷◌, ◌++◌}
use mathlib.Core.Option.{none}
use native.Mathlib.Omega.{arith}
use borrow.Author.Tests.{le-ltb}
use lib.ListN.{length, replicate}
use Rattle.status.specs.Places.{Shown}
use Rattle.status.specs.Claims.{Table}
use Rattle.message.specs.Message.{encode}
use Rattle.message.specs.Profiles.{is_profile, entries, good_list}
use Rattle.rules.specs.Verdict.{after}
use Rattle.rules.specs.Orders.{start_order}
use Rattle.rules.specs.Call.{Call, start}
use Rattle.rules.specs.Refusals.{start_message}
use Rattle.rules.specs.View.{View}
use Rattle.rules.specs.ViewSteps.{shown_of, down_view, up_view, start_verdict, view_step, view_run}
use Rattle.rules.specs.Reaching.{endpoints_in, endpoints_for, profiles, opens, settles, calls_for}
use Rattle.rules.proofs.ReachingEndpoints.{as_many, endpoints_distinct}
use Rattle.rules.proofs.ReachingPlaces.{view_of}
use Rattle.rules.proofs.ReachingOpens.{opened_from, all_opened}
use Rattle.rules.proofs.ReachingSettles.{all_settled}

-- ---- the view after the calls

abbrev start_room : ℕ
start_room = length (encode (start_message profiles))

started : view_step down_view (start profiles start_room) ≡ up_view profiles
unfolding view_step start_verdict good_list entries is_profile
started = ap (λ (b : Bool). after (start_order false false b) (up_view profiles) down_view) (le-ltb start_room start_room (omega arith))

run_append : (a b : List Call) (v : View) → view_run v (a ++ b) ≡ view_run (view_run v a) b
unfolding view_run
run_append [] b v = refl
run_append (c ∷ a) b v = run_append a b (view_step v c)

module _ (l : List Shown) (t : Table l) where
  abbrev endpoints : List ℕ
  endpoints = endpoints_for (endpoints_in l) l

  opened : view_run (up_view profiles) (opens 0 endpoints) ≡ view_of (opened_from 0 endpoints)
  opened =
      ap (λ (n : ℕ). view_run (view_of (replicate n none)) (opens 0 endpoints)) (sym (as_many l (endpoints_in l) ∙ t.size))
      ∙ all_opened endpoints (endpoints_distinct l t)

  pub shown_after : shown_of (view_run down_view (calls_for l)) ≡ l
  unfolding calls_for view_run
  shown_after =
      ap (λ (v : View). shown_of (view_run v (opens 0 endpoints ++ settles 0 l))) started
      ∙ ap shown_of (run_append (opens 0 endpoints) (settles 0 l) (up_view profiles))
      ∙ ap (λ (v : View). shown_of (view_run v (settles 0 l))) opened
      ∙ all_settled l (endpoints_in l)
