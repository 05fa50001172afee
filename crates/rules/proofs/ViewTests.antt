-- The tests and searches of a block are those of its view.
use Prim.Native.Nat.{ℕ, ◌<◌}
use mathlib.Core.Path.{◌≡◌, refl, sym, ap, ap₂, ◌∙◌}
use mathlib.Core.Bool.{Bool, true, false, cond, not, ◌&&◌}
use mathlib.Core.List.{List, [], map}
use mathlib.Core.Option.{some, none}
use borrow.Author.Tests.{ltb-true}
use lib.Dec.{eqb, ltb}
use lib.ListN.{get_or, length-map, get_or-map}
use Rattle.octets.specs.Number.{octet_at}
use Rattle.octets.specs.Part.{same}
use Rattle.octets.proofs.Tests.{both}
use Rattle.rules.specs.Limits.{places}
use Rattle.rules.specs.Search as Search
use Rattle.rules.specs.Layout.{up, rows, row_of, live, identifier_of, endpoint_of, keys_of, named, serving, vacant, state_at}
use Rattle.rules.specs.Answer.{opened, keyed}
use Rattle.rules.specs.Table.{association_of, place_of_identifier, place_of_endpoint, vacant_place, knows, serves, has_room}
use Rattle.rules.specs.Tunnel.{is_up}
use Rattle.rules.specs.View.{AtPlace, in_row, view, identifier_in, endpoint_in, is_for}
use Rattle.rules.specs.ViewSteps.{is_vacant, is_serving, has, first_with}
use Rattle.rules.proofs.SearchLaws.{some_first, first_passes, first_along}
use Rattle.rules.proofs.RowsLaws.{rows_length}
use Rattle.rules.proofs.Legal.{Legal, place_first}
use Rattle.rules.proofs.TunnelLaws.{tunnel_up}

pub view_up : (s : List ℕ) → is_up (view s).tunnel ≡ up s
unfolding view
view_up s = tunnel_up s

-- ---- a row and what stands at its place

module _ (r : List ℕ) where
  pub association_identifier : identifier_in (association_of r) ≡ identifier_of r
  unfolding association_of
  association_identifier = go (eqb (octet_at r state_at) 1)
    where
      go : (b : Bool) → identifier_in (cond b (opened (identifier_of r) (endpoint_of r)) (keyed (identifier_of r) (endpoint_of r) (keys_of r))) ≡ identifier_of r
      go true = refl
      go false = refl

  pub association_endpoint : endpoint_in (association_of r) ≡ endpoint_of r
  unfolding association_of
  association_endpoint = go (eqb (octet_at r state_at) 1)
    where
      go : (b : Bool) → endpoint_in (cond b (opened (identifier_of r) (endpoint_of r)) (keyed (identifier_of r) (endpoint_of r) (keys_of r))) ≡ endpoint_of r
      go true = refl
      go false = refl

  -- a live row holds its association
  pub row_live : live r ≡ true → in_row r ≡ some (association_of r)
  unfolding in_row
  row_live h = rw h

  pub row_for : (i : List ℕ) → is_for i (in_row r) ≡ named i r
  unfolding in_row named
  row_for i = go (live r) ∙ ap (λ (x : List ℕ). live r && same x i) association_identifier
    where
      go : (b : Bool) → is_for i (cond b (some (association_of r)) none) ≡ (b && same (identifier_in (association_of r)) i)
      go true = refl
      go false = refl

  pub row_serving : (e : ℕ) → is_serving e (in_row r) ≡ serving e r
  unfolding in_row serving
  row_serving e = go (live r) ∙ ap (λ (x : ℕ). live r && eqb x e) association_endpoint
    where
      go : (b : Bool) → is_serving e (cond b (some (association_of r)) none) ≡ (b && eqb (endpoint_in (association_of r)) e)
      go true = refl
      go false = refl

  pub row_vacant : is_vacant (in_row r) ≡ vacant r
  unfolding in_row vacant
  row_vacant = go (live r)
    where
      go : (b : Bool) → is_vacant (cond b (some (association_of r)) none) ≡ not b
      go true = refl
      go false = refl

  named_live : (i : List ℕ) → named i r ≡ true → live r ≡ true
  unfolding named
  named_live i h = (both (live r) (same (identifier_of r) i) h).0

  serving_live : (e : ℕ) → serving e r ≡ true → live r ≡ true
  unfolding serving
  serving_live e h = (both (live r) (eqb (endpoint_of r) e) h).0

-- ---- a search in the table is one in the rows

module _ (p : AtPlace → Bool) (q : List ℕ → Bool) (h : (r : List ℕ) → p (in_row r) ≡ q r) (s : List ℕ) where
  seen_first : Search.first p (view s).table ≡ Search.first q (rows s)
  unfolding view
  seen_first = first_along in_row p q h (rows s)

  seen_has : has p (view s) ≡ ltb (Search.first q (rows s)) places
  unfolding view
  seen_has = some_first p (map in_row (rows s)) ∙ ap₂ ltb seen_first (length-map (rows s) in_row ∙ rows_length s)

module _ (s : List ℕ) where
  pub view_identifier : (i : List ℕ) → Search.first (is_for i) (view s).table ≡ place_of_identifier s i
  unfolding place_of_identifier
  view_identifier i = seen_first (is_for i) (named i) (λ r. row_for r i) s

  pub view_endpoint : Legal s → (e : ℕ) → Search.first (is_serving e) (view s).table ≡ place_of_endpoint s e
  view_endpoint l e = seen_first (is_serving e) (serving e) (λ r. row_serving r e) s ∙ sym (place_first s l e)

  pub view_vacant : Search.first is_vacant (view s).table ≡ vacant_place s
  unfolding vacant_place
  view_vacant = seen_first is_vacant vacant row_vacant s

  pub view_knows : (i : List ℕ) → has (is_for i) (view s) ≡ knows s i
  unfolding place_of_identifier
  view_knows i = seen_has (is_for i) (named i) (λ r. row_for r i) s

  pub view_serves : Legal s → (e : ℕ) → has (is_serving e) (view s) ≡ serves s e
  view_serves l e = seen_has (is_serving e) (serving e) (λ r. row_serving r e) s ∙ ap (λ (n : ℕ). ltb n places) (sym (place_first s l e))

  pub view_room : has is_vacant (view s) ≡ has_room s
  unfolding vacant_place
  view_room = seen_has is_vacant vacant row_vacant s

-- ---- what is found

-- what stands at a place of the table
pub view_at : (s : List ℕ) (at : ℕ) → get_or (view s).table at none ≡ in_row (row_of s at)
unfolding view row_of in_row live
view_at s at = get_or-map in_row (rows s) at []

module _ (s : List ℕ) where
  found_passes : (q : List ℕ → Bool) → Search.first q (rows s) < places → q (row_of s (Search.first q (rows s))) ≡ true
  unfolding row_of
  found_passes q h = first_passes q (rows s) [] (rw rows_length h)

  -- a row that a search by identifier or endpoint finds is live
  pub known_live : (i : List ℕ) → knows s i ≡ true → live (row_of s (place_of_identifier s i)) ≡ true
  unfolding place_of_identifier
  known_live i h = named_live _ i (found_passes (named i) (ltb-true _ _ h))

  pub served_live : Legal s → (e : ℕ) → serves s e ≡ true → live (row_of s (place_of_endpoint s e)) ≡ true
  served_live l e h = rw (place_first s l e) (serving_live _ e (found_passes (serving e) (ltb-true _ _ (ap (λ (n : ℕ). ltb n places) (sym (place_first s l e)) ∙ h))))

  -- and its association is the one that the view finds
  first_with_lem : (p : AtPlace → Bool) (at : ℕ) → Search.first p (view s).table ≡ at → live (row_of s at) ≡ true
      → first_with p (view s) ≡ association_of (row_of s at)
  first_with_lem p at e h = rw (e, view_at s at, row_live (row_of s at) h)

  pub view_known : (i : List ℕ) → knows s i ≡ true → first_with (is_for i) (view s) ≡ association_of (row_of s (place_of_identifier s i))
  view_known i h = first_with_lem (is_for i) (place_of_identifier s i) (view_identifier s i) (known_live i h)

  pub view_served : Legal s → (e : ℕ) → serves s e ≡ true → first_with (is_serving e) (view s) ≡ association_of (row_of s (place_of_endpoint s e))
  view_served l e h = first_with_lem (is_serving e) (place_of_endpoint s e) (view_endpoint s l e) (served_live l e h)
