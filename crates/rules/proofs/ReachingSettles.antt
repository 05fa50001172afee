-- The calls of calls_for behind the openings: place by place, keys for one that is shown keyed, a close for one that is shown vacant.
use Prim.Native.Nat.{ℕ, suc}
use mathlib.Core.Path.{◌≡◌, refl, sym, ap, ◌∙◌}
use mathlib.Core.Bool.{Bool, true, false, not}
use mathlib.Core.List.{List, [], ◌∷◌, ◌++◌, map, map-append}
use mathlib.Core.Option.{some, none}
use native.Mathlib.Omega.{arith}
use borrow.Author.Tests.{eq-eqb, le-ltb}
use lib.ListN.{length}
use lib.Seq.{append_snoc}
use Rattle.octets.proofs.SameLaws.{same_refl}
use Rattle.status.specs.Places.{Shown, vacant, live}
use Rattle.message.specs.Message.{encode, endpoint_disconnect}
use Rattle.message.specs.Profiles.{key_length, entries, in_list, keys_fit, mki_and_salts_fit}
use Rattle.message.specs.declared.bodies.Fields.TheVariants.{MediaKeys}
use Rattle.rules.specs.Search.{some_of}
use Rattle.rules.specs.Keys.{Keys, keys_in}
use Rattle.rules.specs.Verdict.{Verdict, allowed, after}
use Rattle.rules.specs.Orders.{close_order, keys_order}
use Rattle.rules.specs.Call.{Call, close, tunnel_octets}
use Rattle.rules.specs.Answer.{Association, opened, keyed}
use Rattle.rules.specs.Refusals.{wrong_width, no_room}
use Rattle.rules.specs.View.{AtPlace, View, is_for}
use Rattle.rules.specs.ViewSteps.{has, first_with, set_first, shown_at, shown_of, rekey, close_verdict, keys_verdict, fields_next, read_next, view_step, view_run}
use Rattle.rules.specs.Reaching.{spare, identifier_for, endpoints_for, keys_for, settles}
use Rattle.rules.proofs.ReachingKeys.{lengths, keys_received, keys_name}
use Rattle.rules.proofs.ReachingPlaces.{view_of, has_here, with_here, set_here, identifier_wide, Unknown, unknown_vacant, unknown_live}
use Rattle.rules.proofs.ReachingOpens.{opened_at, opened_from}

-- ---- one call

close_passes : (down wrong unknown short : Bool) → down ≡ false → wrong ≡ false → unknown ≡ false → short ≡ false → close_order down wrong unknown short ≡ allowed
close_passes down wrong unknown short d w u s = rw (d, w, u, s)

module _ (place e : ℕ) (before behind : List AtPlace) (u : Unknown place before) where
  abbrev i : List ℕ
  i = identifier_for place

  abbrev v : View
  v = view_of (before ++ opened_at place e ∷ behind)

  -- the place is found by its identifier
  none_before : some_of (is_for i) before ≡ false
  none_before = u place (omega arith)

  known : has (is_for i) v ≡ true
  known = has_here (is_for i) before (opened_at place e) behind none_before (same_refl i)

  changed : (new : AtPlace) → set_first (is_for i) new v ≡ view_of (before ++ new ∷ behind)
  changed = set_here (is_for i) before (opened_at place e) behind none_before (same_refl i)

  close_next_lem : view_step v (close i (length (encode (endpoint_disconnect i)))) ≡ view_of (before ++ none ∷ behind)
  unfolding view_step close_verdict
  close_next_lem =
      let room = length (encode (endpoint_disconnect i)) in
      ap (λ (w : Verdict). after w (set_first (is_for i) none v) v)
      (close_passes false (wrong_width i) (not (has (is_for i) v)) (no_room (endpoint_disconnect i) room)
      refl (ap not (eq-eqb _ _ (identifier_wide place))) (ap not known) (le-ltb room room (omega arith)))
      ∙ changed none

  abbrev keys : Keys
  keys = keys_in (keys_for place) 9 lengths

  keys_allowed : keys_verdict v i 9 lengths ≡ allowed
  unfolding keys_verdict in_list entries keys_fit key_length mki_and_salts_fit
  keys_allowed = ap (λ (b : Bool). keys_order (not b) false false false) known

  keys_stored_lem : fields_next v (keys_for place) (MediaKeys 9 lengths) ≡ view_of (before ++ some (keyed i e keys) ∷ behind)
  unfolding fields_next
  keys_stored_lem =
      ap (λ (j : List ℕ). after (keys_verdict v j 9 lengths) (set_first (is_for j) (some (rekey keys (first_with (is_for j) v))) v) v) (keys_name place)
      ∙ ap (λ (w : Verdict). after w (set_first (is_for i) (some (rekey keys (first_with (is_for i) v))) v) v) keys_allowed
      ∙ changed _
      ∙ ap (λ (a : Association). view_of (before ++ some (rekey keys a) ∷ behind)) (with_here (is_for i) before (opened_at place e) behind none_before (same_refl i))

  keys_next : view_step v (tunnel_octets (keys_for place)) ≡ view_of (before ++ some (keyed i e keys) ∷ behind)
  unfolding view_step
  keys_next = ap (read_next v (keys_for place)) (keys_received place) ∙ keys_stored_lem

-- ---- all of them, by what a page shows of the view

-- a place that is settled counts to those before
settled : (x : AtPlace) (before behind : List AtPlace) (calls : List Call) (l : List Shown)
    → shown_of (view_run (view_of (before ++ (x ∷ []) ++ behind)) calls) ≡ map shown_at (before ++ (x ∷ [])) ++ l
    → shown_of (view_run (view_of (before ++ x ∷ behind)) calls) ≡ map shown_at before ++ shown_at x ∷ l
settled x before behind calls l h =
    ap (λ (table : List AtPlace). shown_of (view_run (view_of table) calls)) (sym (append_snoc before x behind))
    ∙ h
    ∙ ap (λ (s : List Shown). s ++ l) (map-append shown_at before (x ∷ []))
    ∙ append_snoc (map shown_at before) (shown_at x) l

settles_run : (l : List Shown) (place : ℕ) (used : List ℕ) (before : List AtPlace) → Unknown place before
    → shown_of (view_run (view_of (before ++ opened_from place (endpoints_for used l))) (settles place l)) ≡ map shown_at before ++ l
unfolding view_run settles opened_from endpoints_for
settles_run [] place used before u = map-append shown_at before []
settles_run (vacant ∷ l) place used before u =
    let behind = opened_from (suc place) (endpoints_for (spare used ∷ used) l) in
    ap (λ (v : View). shown_of (view_run v (settles (suc place) l))) (close_next_lem place (spare used) before behind u)
    ∙ settled none before behind (settles (suc place) l) l
    (settles_run l (suc place) (spare used ∷ used) (before ++ (none ∷ [])) (unknown_vacant place before u))
settles_run (live false e ∷ l) place used before u =
    let behind = opened_from (suc place) (endpoints_for used l) in
    settled (opened_at place e) before behind (settles (suc place) l) l
    (settles_run l (suc place) used (before ++ (opened_at place e ∷ [])) (unknown_live place before u (opened (identifier_for place) e) refl))
settles_run (live true e ∷ l) place used before u =
    let behind = opened_from (suc place) (endpoints_for used l) in
    let a = keyed (identifier_for place) e (keys_in (keys_for place) 9 lengths) in
    ap (λ (v : View). shown_of (view_run v (settles (suc place) l))) (keys_next place e before behind u)
    ∙ settled (some a) before behind (settles (suc place) l) l
    (settles_run l (suc place) used (before ++ (some a ∷ [])) (unknown_live place before u a refl))

pub all_settled : (l : List Shown) (used : List ℕ) → shown_of (view_run (view_of (opened_from 0 (endpoints_for used l))) (settles 0 l)) ≡ l
unfolding some_of
all_settled l used = settles_run l 0 used [] (λ place h. refl)
