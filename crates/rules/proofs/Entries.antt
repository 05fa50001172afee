-- Entries of an index by number, and what is meant by a search among them: what the laws of the index go by.
use Prim.Native.Nat.{ℕ, zero, suc}
use mathlib.Core.Path.{◌≡◌}
use mathlib.Core.Bool.{Bool, true, false, cond, ◌&&◌}
use mathlib.Core.List.{List, [], ◌∷◌, map}
use lib.Dec.{eqb, ltb}
use lib.ListN.{get_or}
use Rattle.rules.specs.Search.{some_of}
use Rattle.rules.specs.Halving.{Spot, here, missing}
use Rattle.rules.specs.Order.{Entry}

-- ---- where a number stands: one after the other

abbrev pub further : Spot → Spot
further (here at) = here (suc at)
further (missing at) = missing (suc at)

unfoldable pub where_is : (sought : ℕ) → List ℕ → Spot
where_is sought [] = missing zero
where_is sought (x ∷ l) = cond (eqb x sought) (here zero) (cond (ltb sought x) (missing zero) (further (where_is sought l)))

-- ---- entries

abbrev pub endpoints : List Entry → List ℕ
endpoints m = map (λ (x : Entry). x.endpoint) m

abbrev pub places_in : List Entry → List ℕ
places_in m = map (λ (x : Entry). x.place) m

-- without the first entry of an endpoint
unfoldable pub remove : ℕ → List Entry → List Entry
remove endpoint [] = []
remove endpoint (y ∷ m) = cond (eqb y.endpoint endpoint) m (y ∷ remove endpoint m)

unfoldable pub insert_at : ℕ → Entry → List Entry → List Entry
insert_at zero x m = x ∷ m
insert_at (suc at) x [] = x ∷ []
insert_at (suc at) x (y ∷ m) = y ∷ insert_at at x m

unfoldable pub remove_at : ℕ → List Entry → List Entry
remove_at at [] = []
remove_at zero (y ∷ m) = m
remove_at (suc at) (y ∷ m) = y ∷ remove_at at m

-- ---- at a spot

abbrev pub inserting : Spot → Entry → List Entry → List Entry
inserting (here at) x m = m
inserting (missing at) x m = insert_at at x m

abbrev pub removing : Spot → List Entry → List Entry
removing (here at) m = remove_at at m
removing (missing at) m = m

-- the place that stands there; another number where the endpoint is missing
abbrev pub place_of : Spot → (none : ℕ) → List Entry → ℕ
place_of (here at) none m = get_or (places_in m) at 0
place_of (missing at) none m = none

-- the place that stands with an endpoint; another number where it is missing
unfoldable pub place_with : (endpoint none : ℕ) → List Entry → ℕ
place_with endpoint none [] = none
place_with endpoint none (y ∷ m) = cond (eqb y.endpoint endpoint) y.place (place_with endpoint none m)

-- ---- rows

module _ {A : Type 0} (live : A → Bool) (endpoint_of : A → ℕ) where
  abbrev pub serving : ℕ → A → Bool
  serving endpoint r = live r && eqb (endpoint_of r) endpoint

  -- no two live rows have the same endpoint
  abbrev pub EndpointsDiffer : List A → Type 0
  EndpointsDiffer [] = Unit {0}
  EndpointsDiffer (r ∷ l) = (live r ≡ true → some_of (serving (endpoint_of r)) l ≡ false) × EndpointsDiffer l
