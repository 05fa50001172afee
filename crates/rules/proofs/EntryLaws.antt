-- Laws of lists of entries: what is inserted, removed and found.
use Prim.Native.Nat.{ℕ, suc, ◌≤◌, ◌<◌}
use mathlib.Core.Path.{◌≡◌, refl, sym, ap, ◌∙◌}
use mathlib.Core.Bool.{Bool, false, cond, ◌||◌}
use mathlib.Core.List.{List, [], ◌∷◌}
use native.Mathlib.Omega.{arith}
use borrow.Author.Tests.{lt-ltb, le-ltb, le-leb, lt-leb, eq-eqb, ne_eqb, eqb-false}
use lib.Dec.{eqb}
use lib.ListN.{length}
use Rattle.octets.proofs.Tests.{by_size}
use Rattle.rules.specs.Search.{some_of}
use Rattle.rules.specs.Halving.{Spot, here, missing}
use Rattle.rules.specs.Order.{Entry, insert}
use Rattle.rules.proofs.Entries.{further, where_is, endpoints, remove, insert_at, remove_at, inserting, removing, place_of, place_with}
use Rattle.rules.proofs.Cases.{by_order, either_false, or_turn}
use Rattle.rules.proofs.HalvingLaws.{Over, Rising, over_less}

-- some entry has the endpoint
abbrev pub has : ℕ → List Entry → Bool
has endpoint m = some_of (λ (y : Entry). eqb y.endpoint endpoint) m

-- ---- insertion

one : (z : Entry) → insert z [] ≡ z ∷ []
unfolding insert
one z = refl

module _ (x y : Entry) (m : List Entry) where
  low : x.endpoint ≤ y.endpoint → insert x (y ∷ m) ≡ x ∷ y ∷ m
  unfolding insert
  low h = rw (le-leb x.endpoint y.endpoint h) refl

  high : y.endpoint < x.endpoint → insert x (y ∷ m) ≡ y ∷ insert x m
  unfolding insert
  high h = rw (lt-leb x.endpoint y.endpoint h) refl

  turn : x.endpoint < y.endpoint → insert x (y ∷ m) ≡ x ∷ y ∷ m
  turn h = low (omega arith)

pub insert_insert : (x y : Entry) → (x.endpoint ≡ y.endpoint → ⊥) → (m : List Entry) → insert x (insert y m) ≡ insert y (insert x m)
insert_insert x y n [] = by_order x.endpoint y.endpoint
    (λ u. rw (one x, one y, turn x y [] u, high y x [] u, one y) refl)
    (λ e. absurd (n e))
    (λ u. rw (one x, one y, turn y x [] u, high x y [] u, one x) refl)
insert_insert x y n (z ∷ m) = by_size z.endpoint x.endpoint
    (λ a. by_size z.endpoint y.endpoint
    (λ b. rw (high x z m a, high y z m b, high x z (insert y m) a, high y z (insert x m) b) (ap (λ (l : List Entry). z ∷ l) (insert_insert x y n m)))
    (λ b. rw (high x z m a, low y z m b, high x y (z ∷ m) (omega arith), high x z m a, low y z (insert x m) b) refl))
    (λ a. by_size z.endpoint y.endpoint
    (λ b. rw (low x z m a, high y z m b, low x z (insert y m) a, high y x (z ∷ m) (omega arith), high y z m b) refl)
    (λ b. by_order x.endpoint y.endpoint
    (λ u. rw (low x z m a, low y z m b, turn x y (z ∷ m) u, high y x (z ∷ m) u, low y z m b) refl)
    (λ e. absurd (n e))
    (λ u. rw (low x z m a, low y z m b, turn y x (z ∷ m) u, high x y (z ∷ m) u, low x z m a) refl)))

module _ (x : Entry) (endpoint : ℕ) where
  pub has_insert : (m : List Entry) → has endpoint (insert x m) ≡ (eqb x.endpoint endpoint || has endpoint m)
  unfolding insert some_of
  has_insert [] = refl
  has_insert (y ∷ m) = by_size y.endpoint x.endpoint
      (λ u. rw (lt-leb x.endpoint y.endpoint u, has_insert m) (or_turn (eqb y.endpoint endpoint) (eqb x.endpoint endpoint) (has endpoint m)))
      (λ u. rw (le-leb x.endpoint y.endpoint u) refl)

  pub place_insert : (none : ℕ) (m : List Entry) → place_with endpoint none (insert x m) ≡ cond (eqb x.endpoint endpoint) x.place (place_with endpoint none m)
  unfolding insert place_with
  place_insert none [] = refl
  place_insert none (y ∷ m) = by_size y.endpoint x.endpoint
      (λ u. rw (lt-leb x.endpoint y.endpoint u) (by_order y.endpoint endpoint
      (λ v. rw (ne_eqb y.endpoint endpoint (λ e. omega arith)) (place_insert none m))
      (λ v. rw (eq-eqb y.endpoint endpoint v, ne_eqb x.endpoint endpoint (λ e. omega arith)) refl)
      (λ v. rw (ne_eqb y.endpoint endpoint (λ e. omega arith)) (place_insert none m))))
      (λ u. rw (le-leb x.endpoint y.endpoint u) refl)

module _ (x : Entry) where
  over_insert : (a : ℕ) → a < x.endpoint → (m : List Entry) → Over a (endpoints m) → Over a (endpoints (insert x m))
  unfolding insert
  over_insert a h [] o = (h, tt)
  over_insert a h (y ∷ m) o = by_size y.endpoint x.endpoint
      (λ u. rw (lt-leb x.endpoint y.endpoint u) (o.0, over_insert a h m o.1))
      (λ u. rw (le-leb x.endpoint y.endpoint u) (h, o))

  pub rising_insert : (m : List Entry) → Rising (endpoints m) → has x.endpoint m ≡ false → Rising (endpoints (insert x m))
  unfolding insert some_of
  rising_insert [] r f = (tt, tt)
  rising_insert (y ∷ m) r f =
      let g = either_false (eqb y.endpoint x.endpoint) (has x.endpoint m) f in
      by_order y.endpoint x.endpoint
      (λ u. rw (lt-leb x.endpoint y.endpoint u) (over_insert y.endpoint u m r.0, rising_insert m r.1 g.1))
      (λ e. absurd (eqb-false y.endpoint x.endpoint g.0 e))
      (λ u. let v : x.endpoint ≤ y.endpoint = omega arith in rw (le-leb x.endpoint y.endpoint v) ((u, over_less x.endpoint y.endpoint u (endpoints m) r.0), r))

  -- what was inserted is removed again
  pub remove_insert : (m : List Entry) → has x.endpoint m ≡ false → remove x.endpoint (insert x m) ≡ m
  unfolding insert remove some_of
  remove_insert [] f = rw (eq-eqb x.endpoint x.endpoint refl) refl
  remove_insert (y ∷ m) f =
      let g = either_false (eqb y.endpoint x.endpoint) (has x.endpoint m) f in
      by_size y.endpoint x.endpoint
      (λ u. rw (lt-leb x.endpoint y.endpoint u, g.0) (ap (λ (l : List Entry). y ∷ l) (remove_insert m g.1)))
      (λ u. rw (le-leb x.endpoint y.endpoint u, eq-eqb x.endpoint x.endpoint refl) refl)

-- ---- at the spot of an endpoint

inserting_further : (s : Spot) (x y : Entry) (m : List Entry) → inserting (further s) x (y ∷ m) ≡ y ∷ inserting s x m
unfolding insert_at
inserting_further (here at) x y m = refl
inserting_further (missing at) x y m = refl

removing_further : (s : Spot) (y : Entry) (m : List Entry) → removing (further s) (y ∷ m) ≡ y ∷ removing s m
unfolding remove_at
removing_further (here at) y m = refl
removing_further (missing at) y m = refl

place_further : (s : Spot) (none : ℕ) (y : Entry) (m : List Entry) → place_of (further s) none (y ∷ m) ≡ place_of s none m
place_further (here at) none y m = refl
place_further (missing at) none y m = refl

pub inserting_there : (x : Entry) (m : List Entry) → has x.endpoint m ≡ false → inserting (where_is x.endpoint (endpoints m)) x m ≡ insert x m
unfolding where_is insert insert_at some_of
inserting_there x [] f = refl
inserting_there x (y ∷ m) f =
    let g = either_false (eqb y.endpoint x.endpoint) (has x.endpoint m) f in
    by_order y.endpoint x.endpoint
    (λ u.
    let v : y.endpoint ≤ x.endpoint = omega arith in
    rw (g.0, le-ltb x.endpoint y.endpoint v, lt-leb x.endpoint y.endpoint u)
    (inserting_further (where_is x.endpoint (endpoints m)) x y m ∙ ap (λ (l : List Entry). y ∷ l) (inserting_there x m g.1)))
    (λ e. absurd (eqb-false y.endpoint x.endpoint g.0 e))
    (λ u. let v : x.endpoint ≤ y.endpoint = omega arith in rw (g.0, lt-ltb x.endpoint y.endpoint u, le-leb x.endpoint y.endpoint v) refl)

module _ (endpoint : ℕ) where
  remove_over : (m : List Entry) → Over endpoint (endpoints m) → remove endpoint m ≡ m
  unfolding remove
  remove_over [] o = refl
  remove_over (y ∷ m) o = rw (ne_eqb y.endpoint endpoint (λ e. omega (arith, e, o.0))) (ap (λ (l : List Entry). y ∷ l) (remove_over m o.1))

  place_over : (none : ℕ) (m : List Entry) → Over endpoint (endpoints m) → place_with endpoint none m ≡ none
  unfolding place_with
  place_over none [] o = refl
  place_over none (y ∷ m) o = rw (ne_eqb y.endpoint endpoint (λ e. omega (arith, e, o.0))) (place_over none m o.1)

  pub removing_there : (m : List Entry) → Rising (endpoints m) → removing (where_is endpoint (endpoints m)) m ≡ remove endpoint m
  unfolding where_is remove remove_at
  removing_there [] r = refl
  removing_there (y ∷ m) r = by_order y.endpoint endpoint
      (λ u.
      let v : y.endpoint ≤ endpoint = omega arith in
      rw (ne_eqb y.endpoint endpoint (λ e. omega arith), le-ltb endpoint y.endpoint v)
      (removing_further (where_is endpoint (endpoints m)) y m ∙ ap (λ (l : List Entry). y ∷ l) (removing_there m r.1)))
      (λ e. rw (eq-eqb y.endpoint endpoint e) refl)
      (λ u. rw (ne_eqb y.endpoint endpoint (λ e. omega arith), lt-ltb endpoint y.endpoint u)
      (ap (λ (l : List Entry). y ∷ l) (sym (remove_over m (over_less endpoint y.endpoint u (endpoints m) r.0)))))

  pub place_there : (none : ℕ) (m : List Entry) → Rising (endpoints m) → place_of (where_is endpoint (endpoints m)) none m ≡ place_with endpoint none m
  unfolding where_is place_with
  place_there none [] r = refl
  place_there none (y ∷ m) r = by_order y.endpoint endpoint
      (λ u.
      let v : y.endpoint ≤ endpoint = omega arith in
      rw (ne_eqb y.endpoint endpoint (λ e. omega arith), le-ltb endpoint y.endpoint v)
      (place_further (where_is endpoint (endpoints m)) none y m ∙ place_there none m r.1))
      (λ e. rw (eq-eqb y.endpoint endpoint e) refl)
      (λ u. rw (ne_eqb y.endpoint endpoint (λ e. omega arith), lt-ltb endpoint y.endpoint u) (sym (place_over none m (over_less endpoint y.endpoint u (endpoints m) r.0))))

-- ---- lengths

pub length_endpoints : (m : List Entry) → length (endpoints m) ≡ length m
length_endpoints [] = refl
length_endpoints (x ∷ m) = ap suc (length_endpoints m)

pub length_insert : (x : Entry) (m : List Entry) → length (insert x m) ≡ suc (length m)
unfolding insert
length_insert x [] = refl
length_insert x (y ∷ m) = by_size y.endpoint x.endpoint
    (λ u. rw (lt-leb x.endpoint y.endpoint u) (ap suc (length_insert x m)))
    (λ u. rw (le-leb x.endpoint y.endpoint u) refl)
