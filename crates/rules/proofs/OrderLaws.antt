-- Laws of the order of rows: what an opening, a closing and other keys make of it.
use Prim.Native.Nat.{ℕ, zero, suc, ◌+◌, ◌<◌}
use mathlib.Core.Path.{◌≡◌, refl, sym, ap, ◌∙◌}
use mathlib.Core.Bool.{Bool, true, false, cond, ◌||◌, true≢false}
use mathlib.Core.List.{List, [], ◌∷◌}
use native.Mathlib.Omega.{arith}
use native.Mathlib.Nat.{le_of_suc-le-suc, not-suc-le-zero}
use borrow.Author.Tests.{eq-eqb, ne_eqb, eqb-true, eqb-false}
use lib.Dec.{eqb}
use lib.ListN.{length, get_or, set, length-set}
use lib.Seq.{get_or-set_same}
use Rattle.octets.proofs.Tests.{both, by_test}
use Rattle.rules.specs.Search.{first, some_of}
use Rattle.rules.specs.Order.{Entry, entry, insert, order_from}
use Rattle.rules.proofs.Entries.{endpoints, remove, place_with, serving, EndpointsDiffer}
use Rattle.rules.proofs.Cases.{either_false}
use Rattle.rules.proofs.HalvingLaws.{Rising}
use Rattle.rules.proofs.EntryLaws.{has, insert_insert, has_insert, place_insert, rising_insert, remove_insert}

module _ {A : Type 0} (live : A → Bool) (endpoint_of : A → ℕ) where
  abbrev from : ℕ → List A → List Entry
  from = order_from live endpoint_of

  abbrev serves : ℕ → A → Bool
  serves = serving live endpoint_of

  -- ---- one row

  live_row : (j : ℕ) (r : A) (l : List A) → live r ≡ true → from j (r ∷ l) ≡ insert (entry (endpoint_of r) j) (from (suc j) l)
  unfolding order_from
  live_row j r l e = rw e refl

  vacant_row_lem : (j : ℕ) (r : A) (l : List A) → live r ≡ false → from j (r ∷ l) ≡ from (suc j) l
  unfolding order_from
  vacant_row_lem j r l e = rw e refl

  -- ---- what stands in it

  pub order_has : (endpoint j : ℕ) (l : List A) → has endpoint (from j l) ≡ some_of (serves endpoint) l
  unfolding some_of order_from
  order_has endpoint j [] = refl
  order_has endpoint j (r ∷ l) = by_test (live r)
      (λ e. rw (live_row j r l e, e) (has_insert (entry (endpoint_of r) j) endpoint (from (suc j) l) ∙ ap (λ (b : Bool). eqb (endpoint_of r) endpoint || b) (order_has endpoint (suc j) l)))
      (λ e. rw (vacant_row_lem j r l e, e) (order_has endpoint (suc j) l))

  pub order_rising : (j : ℕ) (l : List A) → EndpointsDiffer live endpoint_of l → Rising (endpoints (from j l))
  unfolding order_from
  order_rising j [] a = tt
  order_rising j (r ∷ l) a = by_test (live r)
      (λ e. rw e (rising_insert (entry (endpoint_of r) j) (from (suc j) l) (order_rising (suc j) l a.1) (order_has (endpoint_of r) (suc j) l ∙ a.0 e)))
      (λ e. rw e (order_rising (suc j) l a.1))

  pub order_place : (endpoint j : ℕ) (l : List A) → place_with endpoint (j + length l) (from j l) ≡ j + first (serves endpoint) l
  unfolding place_with first order_from
  order_place endpoint j [] = refl
  order_place endpoint j (r ∷ l) =
      let n : j + suc (length l) ≡ suc j + length l = omega arith in
      let k : suc j + first (serves endpoint) l ≡ j + suc (first (serves endpoint) l) = omega arith in
      let h : place_with endpoint (j + suc (length l)) (from (suc j) l) ≡ j + suc (first (serves endpoint) l) =
      ap (λ (i : ℕ). place_with endpoint i (from (suc j) l)) n ∙ order_place endpoint (suc j) l ∙ k in
      by_test (live r)
      (λ e. rw (live_row j r l e, e) (place_insert (entry (endpoint_of r) j) endpoint (j + suc (length l)) (from (suc j) l) ∙ go (eqb (endpoint_of r) endpoint) h))
      (λ e. rw (vacant_row_lem j r l e, e) h)
    where
      go : (b : Bool) → place_with endpoint (j + suc (length l)) (from (suc j) l) ≡ j + suc (first (serves endpoint) l)
          → cond b j (place_with endpoint (j + suc (length l)) (from (suc j) l)) ≡ j + cond b zero (suc (first (serves endpoint) l))
      go true h = omega arith
      go false h = h

  -- ---- other keys in a row: endpoint and state stay

  module _ (d r : A) where
    abbrev Same : List A → ℕ → Type 0
    Same l i = (live r ≡ live (get_or l i d)) × (endpoint_of r ≡ endpoint_of (get_or l i d))

    pub order_same : (j : ℕ) (l : List A) (i : ℕ) → Same l i → from j (set l i r) ≡ from j l
    unfolding order_from
    order_same j [] i e = refl
    order_same j (x ∷ l) zero e = rw (e.0, e.1) refl
    order_same j (x ∷ l) (suc i) e = rw (order_same (suc j) l i e) refl

    pub some_same : (endpoint : ℕ) (l : List A) (i : ℕ) → Same l i → some_of (serves endpoint) (set l i r) ≡ some_of (serves endpoint) l
    unfolding some_of
    some_same endpoint [] i e = refl
    some_same endpoint (x ∷ l) zero e = rw (e.0, e.1) refl
    some_same endpoint (x ∷ l) (suc i) e = rw (some_same endpoint l i e) refl

    pub differ_same : (l : List A) (i : ℕ) → Same l i → EndpointsDiffer live endpoint_of l → EndpointsDiffer live endpoint_of (set l i r)
    differ_same [] i e a = tt
    differ_same (x ∷ l) zero e a = ((λ h. rw e.1 (a.0 (sym e.0 ∙ h))), a.1)
    differ_same (x ∷ l) (suc i) e a = ((λ h. some_same (endpoint_of x) l i e ∙ a.0 h), differ_same l i e a.1)

  -- ---- a row at a vacant place, with an endpoint that no live row has

  module _ (d r : A) (up : live r ≡ true) where
    pub order_open : (j : ℕ) (l : List A) (i : ℕ) → i < length l → live (get_or l i d) ≡ false → some_of (serves (endpoint_of r)) l ≡ false
        → from j (set l i r) ≡ insert (entry (endpoint_of r) (j + i)) (from j l)
    unfolding some_of
    order_open j [] i h v f = absurd (not-suc-le-zero h)
    order_open j (x ∷ l) zero h v f =
        let n : j + 0 ≡ j = omega arith in
        rw (live_row j r l up, vacant_row_lem j x l v, n) refl
    order_open j (x ∷ l) (suc i) h v f =
        let g = either_false (serves (endpoint_of r) x) (some_of (serves (endpoint_of r)) l) f in
        let n : suc j + i ≡ j + suc i = omega arith in
        let q : from (suc j) (set l i r) ≡ insert (entry (endpoint_of r) (j + suc i)) (from (suc j) l) =
        order_open (suc j) l i (le_of_suc-le-suc h) v g.1 ∙ ap (λ (k : ℕ). insert (entry (endpoint_of r) k) (from (suc j) l)) n in
        by_test (live x)
        (λ e.
        let t : endpoint_of x ≡ endpoint_of r → ⊥ = λ p. eqb-false (endpoint_of x) (endpoint_of r) (rw e at g.0) p in
        rw (live_row j x (set l i r) e, live_row j x l e, q) (insert_insert (entry (endpoint_of x) j) (entry (endpoint_of r) (j + suc i)) t (from (suc j) l)))
        (λ e. rw (vacant_row_lem j x (set l i r) e, vacant_row_lem j x l e) q)

    some_open : (endpoint : ℕ) (l : List A) (i : ℕ) → (endpoint_of r ≡ endpoint → ⊥) → some_of (serves endpoint) l ≡ false → some_of (serves endpoint) (set l i r) ≡ false
    unfolding some_of
    some_open endpoint [] i n f = f
    some_open endpoint (x ∷ l) zero n f = rw (up, ne_eqb (endpoint_of r) endpoint n) (either_false (serves endpoint x) (some_of (serves endpoint) l) f).1
    some_open endpoint (x ∷ l) (suc i) n f =
        let g = either_false (serves endpoint x) (some_of (serves endpoint) l) f in
        rw g.0 (some_open endpoint l i n g.1)

    pub differ_open : (l : List A) (i : ℕ) → some_of (serves (endpoint_of r)) l ≡ false → EndpointsDiffer live endpoint_of l → EndpointsDiffer live endpoint_of (set l i r)
    unfolding some_of
    differ_open [] i f a = tt
    differ_open (x ∷ l) zero f a = ((λ h. (either_false (serves (endpoint_of r) x) (some_of (serves (endpoint_of r)) l) f).1), a.1)
    differ_open (x ∷ l) (suc i) f a =
        let g = either_false (serves (endpoint_of r) x) (some_of (serves (endpoint_of r)) l) f in (
          (λ h.
              some_open (endpoint_of x) l i (λ p. eqb-false (endpoint_of x) (endpoint_of r) (rw h at g.0) (sym p)) (a.0 h)),
          differ_open l i g.1 a.1,
        )

  -- ---- a vacant row at the place of a live one

  module _ (d v : A) (down : live v ≡ false) where
    some_close : (endpoint : ℕ) (l : List A) (i : ℕ) → some_of (serves endpoint) l ≡ false → some_of (serves endpoint) (set l i v) ≡ false
    unfolding some_of
    some_close endpoint [] i f = f
    some_close endpoint (x ∷ l) zero f = rw down (either_false (serves endpoint x) (some_of (serves endpoint) l) f).1
    some_close endpoint (x ∷ l) (suc i) f =
        let g = either_false (serves endpoint x) (some_of (serves endpoint) l) f in
        rw g.0 (some_close endpoint l i g.1)

    pub differ_close : (l : List A) (i : ℕ) → EndpointsDiffer live endpoint_of l → EndpointsDiffer live endpoint_of (set l i v)
    differ_close [] i a = tt
    differ_close (x ∷ l) zero a = ((λ h. absurd (true≢false (sym h ∙ down))), a.1)
    differ_close (x ∷ l) (suc i) a = ((λ h. some_close (endpoint_of x) l i (a.0 h)), differ_close l i a.1)

    -- where row i serves the endpoint, some row does
    some_at : (endpoint : ℕ) (l : List A) (i : ℕ) → i < length l → serves endpoint (get_or l i d) ≡ true → some_of (serves endpoint) l ≡ false → ⊥
    unfolding some_of
    some_at endpoint [] i h s f = absurd (not-suc-le-zero h)
    some_at endpoint (x ∷ l) zero h s f = true≢false (sym s ∙ (either_false (serves endpoint x) (some_of (serves endpoint) l) f).0)
    some_at endpoint (x ∷ l) (suc i) h s f = some_at endpoint l i (le_of_suc-le-suc h) s (either_false (serves endpoint x) (some_of (serves endpoint) l) f).1

    -- no other row has its endpoint
    pub none_left : (l : List A) (i : ℕ) → i < length l → live (get_or l i d) ≡ true → EndpointsDiffer live endpoint_of l
        → some_of (serves (endpoint_of (get_or l i d))) (set l i v) ≡ false
    unfolding some_of
    none_left [] i h e a = refl
    none_left (x ∷ l) zero h e a = rw down (a.0 e)
    none_left (x ∷ l) (suc i) h e a =
        let endpoint = endpoint_of (get_or l i d) in
        by_test (serves endpoint x)
        (λ s.
        let b = both (live x) (eqb (endpoint_of x) endpoint) s in
        let q : endpoint_of x ≡ endpoint = eqb-true (endpoint_of x) endpoint b.1 in
        absurd (some_at (endpoint_of x) l i (le_of_suc-le-suc h) (rw (e, eq-eqb endpoint (endpoint_of x) (sym q)) refl) (a.0 b.0)))
        (λ s. rw s (none_left l i (le_of_suc-le-suc h) e a.1))

    set_back : (l : List A) (i : ℕ) → i < length l → set (set l i v) i (get_or l i d) ≡ l
    set_back [] i h = refl
    set_back (x ∷ l) zero h = refl
    set_back (x ∷ l) (suc i) h = ap (λ (m : List A). x ∷ m) (set_back l i (le_of_suc-le-suc h))

    pub order_close : (j : ℕ) (l : List A) (i : ℕ) → i < length l → live (get_or l i d) ≡ true → EndpointsDiffer live endpoint_of l
        → from j (set l i v) ≡ remove (endpoint_of (get_or l i d)) (from j l)
    order_close j l i h e a =
        let r = get_or l i d in
        let f = none_left l i h e a in
        let w : i < length (set l i v) = rw (length-set l i v) h in
        let x : live (get_or (set l i v) i d) ≡ false = ap live (get_or-set_same l i v d h) ∙ down in
        let q : from j l ≡ insert (entry (endpoint_of r) (j + i)) (from j (set l i v)) =
        ap (from j) (sym (set_back l i h)) ∙ order_open d r e j (set l i v) i w x f in
        sym (ap (remove (endpoint_of r)) q ∙ remove_insert (entry (endpoint_of r) (j + i)) (from j (set l i v)) (order_has (endpoint_of r) j (set l i v) ∙ f))
