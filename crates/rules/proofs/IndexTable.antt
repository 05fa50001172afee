-- The theorems of a table with an index: a block whose index is the order of the table's rows answers what a search row by
-- row answers, and stays such a block.
use Prim.Native.Nat.{ℕ, zero, suc, ◌+◌, ◌-◌, ◌≤◌, ◌<◌}
use mathlib.Core.Path.{◌≡◌, refl, sym, ap, subst, ◌∙◌}
use mathlib.Core.Bool.{Bool, true, false}
use mathlib.Core.List.{List, [], ◌∷◌}
use native.Mathlib.Omega.{arith}
use native.Mathlib.Nat.{le_of_suc-le-suc, not-suc-le-zero}
use borrow.Author.Tests.{lt-ltb}
use lib.ListN.{length, get_or, set, length-set}
use Rattle.octets.proofs.Tests.{by_test}
use Rattle.rules.specs.Search.{first, some_of}
use Rattle.rules.specs.Halving.{Spot, here, missing, halving, two_to}
use Rattle.rules.specs.Order.{Entry, entry, insert, order_from}
use Rattle.rules.specs.Limits.{places, rounds}
use Rattle.rules.specs.Index.{count_of, index_endpoint, spot, place_at_spot, entering, leaving, with_entry, without_entry}
use Rattle.rules.specs.Table.{place_of_endpoint}
use Rattle.rules.proofs.Entries.{where_is, endpoints, inserting, removing, place_of, place_with, serving, EndpointsDiffer}
use Rattle.rules.proofs.RoundsEnough.{enough}
use Rattle.rules.proofs.HalvingLaws.{Tells, Rising, where_tells, halving_finds}
use Rattle.rules.proofs.EntryLaws.{length_insert, length_endpoints, inserting_there, removing_there, place_there}
use Rattle.rules.proofs.OrderLaws.{order_has, order_rising, order_place, order_same, order_open, order_close, differ_same, differ_open, differ_close}
use Rattle.rules.proofs.IndexLaws.{Indexed, reads, inserted_indexed, removed_indexed}

-- ---- an index of rising endpoints

module _ (f s : List ℕ) (m : List Entry) (x : Indexed f s m) (r : Rising (endpoints m)) where
  -- k halvings and one round more find where an endpoint stands
  pub spot_in : (k : ℕ) → length m ≤ two_to k → (endpoint : ℕ) → halving (suc k) (index_endpoint s) endpoint (count_of s) ≡ where_is endpoint (endpoints m)
  spot_in k h endpoint =
      let c : count_of s ≡ length (endpoints m) = (reads f s m x).count ∙ sym (length_endpoints m) in
      ap (λ (n : ℕ). halving (suc k) (index_endpoint s) endpoint n) c
      ∙ halving_finds k (endpoints m) r (omega (arith, length_endpoints m)) (index_endpoint s) (λ i g. (reads f s m x).endpoint i (omega (arith, length_endpoints m))) endpoint

  -- the rounds that there are, are enough
  pub spot_is : (endpoint : ℕ) → spot s endpoint ≡ where_is endpoint (endpoints m)
  unfolding spot
  spot_is endpoint = spot_in (rounds - 1) (omega (arith, x.few, enough)) endpoint

  pub tells : (endpoint : ℕ) → Tells (λ (i : ℕ). get_or (endpoints m) i 0) endpoint 0 (length m) (where_is endpoint (endpoints m))
  tells endpoint = subst (λ (n : ℕ). Tells (λ (i : ℕ). get_or (endpoints m) i 0) endpoint 0 n (where_is endpoint (endpoints m))) (length_endpoints m) (where_tells endpoint (endpoints m) r)

  place_at : (endpoint : ℕ) (p : Spot) → Tells (λ (i : ℕ). get_or (endpoints m) i 0) endpoint 0 (length m) p → place_at_spot s p ≡ place_of p places m
  place_at endpoint (here at) t = (reads f s m x).place at t.to
  place_at endpoint (missing at) t = refl

  pub place_in : (k : ℕ) → length m ≤ two_to k → (endpoint : ℕ) → place_at_spot s (halving (suc k) (index_endpoint s) endpoint (count_of s)) ≡ place_with endpoint places m
  place_in k h endpoint = ap (place_at_spot s) (spot_in k h endpoint) ∙ place_at endpoint (where_is endpoint (endpoints m)) (tells endpoint) ∙ place_there endpoint places m r

  entering_is : (endpoint p : ℕ) → length m < places → (a : Spot) → Tells (λ (i : ℕ). get_or (endpoints m) i 0) endpoint 0 (length m) a
      → Indexed f (entering s endpoint p a) (inserting a (entry endpoint p) m)
  entering_is endpoint p h (here at) t = x
  entering_is endpoint p h (missing at) t =
      let c : count_of s < places = rw (reads f s m x).count h in
      rw (lt-ltb (count_of s) places c) (inserted_indexed f s m at x (entry endpoint p) t.to h)

  leaving_is : (endpoint : ℕ) (a : Spot) → Tells (λ (i : ℕ). get_or (endpoints m) i 0) endpoint 0 (length m) a → Indexed f (leaving s a) (removing a m)
  leaving_is endpoint (here at) t = removed_indexed f s m at x t.to
  leaving_is endpoint (missing at) t = x

-- ---- a table

module _ {A : Type 0} (live : A → Bool) (endpoint_of : A → ℕ) where
  abbrev from : ℕ → List A → List Entry
  from = order_from live endpoint_of

  pub record Legal (front s : List ℕ) (l : List A) : Type 0 where
    pub index : Indexed front s (from 0 l)
    pub differ : EndpointsDiffer live endpoint_of l
    pub size : length l ≡ places

  -- the place of an endpoint
  pub place_found_in : (f s : List ℕ) (l : List A) → Legal f s l → (k : ℕ) → length (from 0 l) ≤ two_to k → (endpoint : ℕ)
      → place_at_spot s (halving (suc k) (index_endpoint s) endpoint (count_of s)) ≡ first (serving live endpoint_of endpoint) l
  place_found_in f s l g k h e =
      let z : 0 + length l ≡ places = omega (arith, g.size) in
      let y : 0 + first (serving live endpoint_of e) l ≡ first (serving live endpoint_of e) l = omega arith in
      place_in f s (from 0 l) g.index (order_rising live endpoint_of 0 l g.differ) k h e
      ∙ ap (λ (n : ℕ). place_with e n (from 0 l)) (sym z)
      ∙ order_place live endpoint_of e 0 l ∙ y

  pub place_found : (f s : List ℕ) (l : List A) → Legal f s l → (endpoint : ℕ) → place_of_endpoint s endpoint ≡ first (serving live endpoint_of endpoint) l
  unfolding place_of_endpoint spot
  place_found f s l g e = place_found_in f s l g (rounds - 1) (omega (arith, g.index.few, enough)) e

  -- ---- where a place is vacant, the index has room

  at_most : (j : ℕ) (l : List A) → length (from j l) ≤ length l
  unfolding order_from
  at_most j [] = omega arith
  at_most j (x ∷ l) = by_test (live x)
      (λ e. rw e (omega (arith, length_insert (entry (endpoint_of x) j) (from (suc j) l), at_most (suc j) l)))
      (λ e. rw e (omega (arith, at_most (suc j) l)))

  room : (d : A) (j : ℕ) (l : List A) (i : ℕ) → i < length l → live (get_or l i d) ≡ false → length (from j l) < length l
  unfolding order_from
  room d j [] i h v = absurd (not-suc-le-zero h)
  room d j (x ∷ l) zero h v = rw v (omega (arith, at_most (suc j) l))
  room d j (x ∷ l) (suc i) h v =
      let k = room d (suc j) l i (le_of_suc-le-suc h) v in
      by_test (live x)
      (λ e. rw e (omega (arith, length_insert (entry (endpoint_of x) j) (from (suc j) l), k)))
      (λ e. rw e (omega (arith, k)))

  -- ---- what calls make of it

  module _ (d : A) (f s : List ℕ) (l : List A) (g : Legal f s l) (i : ℕ) (h : i < places) (r : A) where
    abbrev m : List Entry
    m = from 0 l

    within : i < length l
    within = rw g.size h

    longer : (x : A) → length (set l i x) ≡ places
    longer x = length-set l i x ∙ g.size

    rising : Rising (endpoints m)
    rising = order_rising live endpoint_of 0 l g.differ

    -- Open: a row at a vacant place, with an endpoint that no live row has
    pub legal_open : live (get_or l i d) ≡ false → live r ≡ true → some_of (serving live endpoint_of (endpoint_of r)) l ≡ false
        → Legal f (with_entry s (endpoint_of r) i) (set l i r)
    unfolding with_entry
    legal_open v u n0 =
        let e = endpoint_of r in
        let n : length m < places = omega (arith, room d 0 l i within v, g.size) in
        let k : 0 + i ≡ i = omega arith in
        let q : inserting (where_is e (endpoints m)) (entry e i) m ≡ from 0 (set l i r) =
        inserting_there (entry e i) m (order_has live endpoint_of e 0 l ∙ n0)
        ∙ sym (order_open live endpoint_of d r u 0 l i within v n0 ∙ ap (λ (j : ℕ). insert (entry e j) m) k) in
        record {
          index =
              rw (spot_is f s m g.index rising e)
              (subst (λ (y : List Entry). Indexed f (entering s e i (where_is e (endpoints m))) y) q
              (entering_is f s m g.index rising e i n (where_is e (endpoints m)) (tells f s m g.index rising e)));
          differ = differ_open live endpoint_of d r u l i n0 g.differ;
          size = longer r;
        }

    -- Close and EndpointDisconnect: a vacant row at the place of a live one
    pub legal_close : live (get_or l i d) ≡ true → live r ≡ false → Legal f (without_entry s (endpoint_of (get_or l i d))) (set l i r)
    unfolding without_entry
    legal_close v u =
        let e = endpoint_of (get_or l i d) in
        let q : removing (where_is e (endpoints m)) m ≡ from 0 (set l i r) =
        removing_there e m rising ∙ sym (order_close live endpoint_of d r u 0 l i within v g.differ) in
        record {
          index =
              rw (spot_is f s m g.index rising e)
              (subst (λ (y : List Entry). Indexed f (leaving s (where_is e (endpoints m))) y) q
              (leaving_is f s m g.index rising e (where_is e (endpoints m)) (tells f s m g.index rising e)));
          differ = differ_close live endpoint_of d r u l i g.differ;
          size = longer r;
        }

    -- MediaKeys: other keys in a row; its state and endpoint stay
    pub legal_rekey : live r ≡ live (get_or l i d) → endpoint_of r ≡ endpoint_of (get_or l i d) → Legal f s (set l i r)
    legal_rekey u e = record {
      index = subst (Indexed f s) (sym (order_same live endpoint_of d r 0 l i (u, e))) g.index;
      differ = differ_same live endpoint_of d r l i (u, e) g.differ;
      size = longer r;
    }
