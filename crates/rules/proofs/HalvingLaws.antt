-- Halving finds where a number stands.
use Prim.Native.Nat.{ℕ, zero, suc, ◌+◌, ◌-◌, ◌/◌, ◌≤◌, ◌<◌, zero-le}
use mathlib.Core.Path.{◌≡◌, refl, ap, subst, ◌∙◌}
use mathlib.Core.List.{List, [], ◌∷◌}
use native.Mathlib.Omega.{arith}
use native.Mathlib.Nat.{le_of_suc-le-suc, not-suc-le-zero}
use borrow.Author.Tests.{lt-ltb, le-ltb, le-leb, lt-leb, eq-eqb, ne_eqb}
use lib.ListN.{length, get_or}
use Rattle.octets.proofs.Tests.{by_size}
use Rattle.rules.specs.Halving.{Spot, here, missing, nearer, halved, settled, halving, two_to}
use Rattle.rules.proofs.Entries.{further, where_is}
use Rattle.rules.proofs.Cases.{by_order}

-- ---- round by round

module _ (number_at : ℕ → ℕ) (sought lo n : ℕ) where
  pub halved_none : halved 0 number_at sought lo n ≡ lo
  unfolding halved
  halved_none = refl

  pub halved_more : (k : ℕ) → halved (suc k) number_at sought lo n ≡ halved k number_at sought (nearer (number_at (lo + n / 2)) sought lo (lo + n / 2)) (n - n / 2)
  unfolding halved
  halved_more k = refl

pub nearer_within : (seen sought lo middle : ℕ) → lo ≤ middle → nearer seen sought lo middle ≤ middle
unfolding nearer
nearer_within seen sought lo middle h = by_size sought seen (λ u. rw (lt-leb seen sought u) h) (λ u. rw (le-leb seen sought u) (omega arith))

nearer_same : (seen sought lo middle : ℕ) → middle ≡ lo → nearer seen sought lo middle ≡ lo
unfolding nearer
nearer_same seen sought lo middle e = by_size sought seen (λ u. rw (lt-leb seen sought u) refl) (λ u. rw (le-leb seen sought u) e)

module _ (number_at : ℕ → ℕ) (sought : ℕ) where
  -- one number needs no halving
  pub halved_one : (k lo n : ℕ) → n ≤ 1 → halved k number_at sought lo n ≡ lo
  unfolding halved
  halved_one zero lo n h = refl
  halved_one (suc k) lo n h =
      let m : n - n / 2 ≤ 1 = omega arith in
      halved_one k _ (n - n / 2) m ∙ nearer_same (number_at (lo + n / 2)) sought lo (lo + n / 2) (omega arith)

  -- the position that is left is among the numbers, whatever they are
  pub halved_within : (k lo n : ℕ) → 0 < n → halved k number_at sought lo n < lo + n
  unfolding halved
  halved_within zero lo n h = omega arith
  halved_within (suc k) lo n h =
      let next = nearer (number_at (lo + n / 2)) sought lo (lo + n / 2) in
      let b = nearer_within (number_at (lo + n / 2)) sought lo (lo + n / 2) (omega arith) in
      let m : 0 < n - n / 2 = omega arith in
      let c = halved_within k next (n - n / 2) m in
      omega (arith, b, c)

-- a spot among n numbers
abbrev pub Within : (n : ℕ) → Spot → Type 0
Within n (here at) = at < n
Within n (missing at) = at ≤ n

settled_within : (seen sought at n : ℕ) → at < n → Within n (settled seen sought at)
unfolding settled
settled_within seen sought at n h = by_order seen sought
    (λ u. rw (ne_eqb seen sought (λ z. omega arith), lt-ltb seen sought u) (omega arith))
    (λ e. rw (eq-eqb seen sought e) h)
    (λ u. let w : sought ≤ seen = omega arith in rw (ne_eqb seen sought (λ z. omega arith), le-ltb seen sought w) (omega arith))

module _ (number_at : ℕ → ℕ) (sought n : ℕ) where
  pub halving_none : (k : ℕ) → n ≡ 0 → halving (suc k) number_at sought n ≡ missing 0
  unfolding halving
  halving_none k e = rw (eq-eqb n 0 e) refl

  pub halving_some : (k : ℕ) → 0 < n → halving (suc k) number_at sought n ≡ settled (number_at (halved k number_at sought 0 n)) sought (halved k number_at sought 0 n)
  unfolding halving
  halving_some k h = rw (ne_eqb n 0 (λ z. omega arith)) refl

  pub halving_within : (k : ℕ) → Within n (halving k number_at sought n)
  unfolding halving
  halving_within zero = zero-le
  halving_within (suc k) = by_size 0 n
      (λ u.
      let w = halved_within number_at sought k 0 n u in
      rw (ne_eqb n 0 (λ z. omega arith)) (settled_within _ sought (halved k number_at sought 0 n) n (omega (arith, w))))
      (λ u. rw (eq-eqb n 0 (omega arith)) zero-le)

-- ---- what a spot tells of the numbers from lo up to hi

module _ (number_at : ℕ → ℕ) (sought : ℕ) where
  pub record Here (lo hi at : ℕ) : Type 0 where
    pub from : lo ≤ at
    pub to : at < hi
    pub is : number_at at ≡ sought
    pub below : (i : ℕ) → lo ≤ i → i < at → number_at i < sought
    pub above : (i : ℕ) → at < i → i < hi → sought < number_at i

  pub record Missing (lo hi at : ℕ) : Type 0 where
    pub from : lo ≤ at
    pub to : at ≤ hi
    pub below : (i : ℕ) → lo ≤ i → i < at → number_at i < sought
    pub above : (i : ℕ) → at ≤ i → i < hi → sought < number_at i

  abbrev pub Tells : (lo hi : ℕ) → Spot → Type 0
  Tells lo hi (here at) = Here lo hi at
  Tells lo hi (missing at) = Missing lo hi at

  -- ---- the last round

  settled_tells : (lo n : ℕ) → n ≡ 1 → (s : Spot) → Tells lo (lo + n) s → settled (number_at lo) sought lo ≡ s
  unfolding settled
  settled_tells lo n h (here at) t =
      let e : at ≡ lo = omega (arith, t.from, t.to) in
      let q : number_at lo ≡ sought = rw (← e) t.is in
      rw (eq-eqb (number_at lo) sought q, e) refl
  settled_tells lo n h (missing at) t = by_order at lo
      (λ u. absurd (omega (arith, t.from)))
      (λ e.
      let v : sought < number_at lo = t.above lo (omega (arith, e)) (omega arith) in
      let w : sought ≤ number_at lo = omega arith in
      rw (ne_eqb (number_at lo) sought (λ z. omega arith), le-ltb (number_at lo) sought w, e) refl)
      (λ u.
      let e : at ≡ lo + 1 = omega (arith, t.to) in
      let v : number_at lo < sought = t.below lo (omega arith) (omega arith) in
      rw (ne_eqb (number_at lo) sought (λ z. omega arith), lt-ltb (number_at lo) sought v, e) refl)

  -- ---- a round more: the half below the number seen, or the half from it on

  module _ (lo n d : ℕ) (h : d + d ≤ n) where
    lower : sought < number_at (lo + d) → 0 < d → (s : Spot) → Tells lo (lo + n) s → Tells lo (lo + (n - d)) s
    lower u p (here at) t =
        let v : at < lo + d =
        by_order at (lo + d) (λ x. x) (λ e. absurd (omega (arith, t.is, ap number_at e))) (λ x. absurd (omega (arith, t.below (lo + d) (omega arith) x))) in
        record { from = t.from; to = omega arith; is = t.is; below = t.below; above = λ i a b. t.above i a (omega arith) }
    lower u p (missing at) t =
        let v : at ≤ lo + d = by_size (lo + d) at (λ x. absurd (omega (arith, t.below (lo + d) (omega arith) x))) (λ x. x) in
        record { from = t.from; to = omega arith; below = t.below; above = λ i a b. t.above i a (omega arith) }

    upper : number_at (lo + d) ≤ sought → 0 < d → (s : Spot) → Tells lo (lo + n) s → Tells (lo + d) (lo + d + (n - d)) s
    upper u p (here at) t =
        let v : lo + d ≤ at = by_size at (lo + d) (λ x. absurd (omega (arith, t.above (lo + d) x (omega arith)))) (λ x. x) in
        record { from = v; to = omega (arith, t.to); is = t.is; below = λ i a b. t.below i (omega arith) b; above = λ i a b. t.above i a (omega arith) }
    upper u p (missing at) t =
        let v : lo + d ≤ at = by_size at (lo + d) (λ x. absurd (omega (arith, t.above (lo + d) (omega arith) (omega arith)))) (λ x. x) in
        record { from = v; to = omega (arith, t.to); below = λ i a b. t.below i (omega arith) b; above = λ i a b. t.above i a (omega arith) }

  -- ---- in k rounds and one more, of as many numbers as can be halved k times

  abbrev left : (k lo n : ℕ) → ℕ
  left k lo n = halved k number_at sought lo n

  halved_tells : (k lo n : ℕ) → 0 < n → n ≤ two_to k → (s : Spot) → Tells lo (lo + n) s → settled (number_at (left k lo n)) sought (left k lo n) ≡ s
  unfolding halved nearer
  halved_tells zero lo n p h s t = settled_tells lo n (omega arith) s t
  halved_tells (suc k) lo n p h s t = by_size 1 n
      (λ u.
      let a : n / 2 + n / 2 ≤ n = omega arith in
      let b : 0 < n / 2 = omega arith in
      let c : n - n / 2 ≤ two_to k = omega arith in
      let d : 0 < n - n / 2 = omega arith in
      by_size sought (number_at (lo + n / 2))
      (λ v. rw (lt-leb (number_at (lo + n / 2)) sought v) (halved_tells k lo (n - n / 2) d c s (lower lo n (n / 2) a v b s t)))
      (λ v. rw (le-leb (number_at (lo + n / 2)) sought v) (halved_tells k (lo + n / 2) (n - n / 2) d c s (upper lo n (n / 2) a v b s t))))
      (λ u.
      let e = halved_one number_at sought (suc k) lo n u in
      rw e (settled_tells lo n (omega arith) s t))

  pub halving_tells : (k n : ℕ) → n ≤ two_to k → (s : Spot) → Tells 0 n s → halving (suc k) number_at sought n ≡ s
  halving_tells k n h s t = by_size 0 n
      (λ u.
      let z : n ≡ 0 + n = omega arith in
      halving_some number_at sought n k u ∙ halved_tells k 0 n u h s (subst (λ (m : ℕ). Tells 0 m s) z t))
      (λ u. halving_none number_at sought n k (omega arith) ∙ none s t u)
    where
      none : (s : Spot) → Tells 0 n s → n ≤ 0 → missing 0 ≡ s
      none (here at) t u = absurd (omega (arith, t.to))
      none (missing at) t u = let e : 0 ≡ at = omega (arith, t.to) in ap missing e

-- ---- numbers that rise

-- every number of a list is above a
abbrev pub Over : ℕ → List ℕ → Type 0
Over a [] = Unit {0}
Over a (x ∷ l) = (a < x) × Over a l

abbrev pub Rising : List ℕ → Type 0
Rising [] = Unit {0}
Rising (x ∷ l) = Over x l × Rising l

over_at : (a : ℕ) (l : List ℕ) → Over a l → (i : ℕ) → i < length l → a < get_or l i 0
over_at a [] o i h = absurd (not-suc-le-zero h)
over_at a (x ∷ l) o zero h = o.0
over_at a (x ∷ l) o (suc i) h = over_at a l o.1 i (le_of_suc-le-suc h)

pub over_less : (a b : ℕ) → a < b → (l : List ℕ) → Over b l → Over a l
over_less a b h [] o = tt
over_less a b h (x ∷ l) o = (omega (arith, o.0), over_less a b h l o.1)

abbrev At : List ℕ → ℕ → ℕ
At l i = get_or l i 0

module _ (sought : ℕ) where
  further_tells : (x : ℕ) (l : List ℕ) → x < sought → (s : Spot) → Tells (At l) sought 0 (length l) s → Tells (At (x ∷ l)) sought 0 (suc (length l)) (further s)
  further_tells x l h (here at) t = record {
    from = zero-le;
    to = omega (arith, t.to);
    is = t.is;
    below = λ i a b. below i b;
    above = λ i a b. above i a b;
  }
    where
      below : (i : ℕ) → i < suc at → At (x ∷ l) i < sought
      below zero b = h
      below (suc i) b = t.below i zero-le (le_of_suc-le-suc b)

      above : (i : ℕ) → suc at < i → i < suc (length l) → sought < At (x ∷ l) i
      above zero a b = absurd (not-suc-le-zero a)
      above (suc i) a b = t.above i (le_of_suc-le-suc a) (le_of_suc-le-suc b)
  further_tells x l h (missing at) t = record {
    from = zero-le;
    to = omega (arith, t.to);
    below = λ i a b. below i b;
    above = λ i a b. above i a b;
  }
    where
      below : (i : ℕ) → i < suc at → At (x ∷ l) i < sought
      below zero b = h
      below (suc i) b = t.below i zero-le (le_of_suc-le-suc b)

      above : (i : ℕ) → suc at ≤ i → i < suc (length l) → sought < At (x ∷ l) i
      above zero a b = absurd (not-suc-le-zero a)
      above (suc i) a b = t.above i (le_of_suc-le-suc a) (le_of_suc-le-suc b)

  pub where_tells : (l : List ℕ) → Rising l → Tells (At l) sought 0 (length l) (where_is sought l)
  unfolding where_is
  where_tells [] r = record { from = zero-le; to = zero-le; below = λ i a b. absurd (not-suc-le-zero b); above = λ i a b. absurd (not-suc-le-zero b) }
  where_tells (x ∷ l) r = by_order x sought
      (λ u.
      let n : x ≤ sought = omega arith in
      rw (ne_eqb x sought (λ e. omega arith), le-ltb sought x n) (further_tells x l u (where_is sought l) (where_tells l r.1)))
      (λ e. rw (eq-eqb x sought e) (record {
        from = zero-le;
        to = omega arith;
        is = e;
        below = λ i a b. absurd (not-suc-le-zero b);
        above = λ i a b. all i a b e;
      }))
      (λ u. rw (ne_eqb x sought (λ e. omega arith), lt-ltb sought x u) (record {
        from = zero-le;
        to = zero-le;
        below = λ i a b. absurd (not-suc-le-zero b);
        above = λ i a b. each i b u;
      }))
    where
      all : (i : ℕ) → 0 < i → i < suc (length l) → x ≡ sought → sought < At (x ∷ l) i
      all zero a b e = absurd (not-suc-le-zero a)
      all (suc i) a b e = rw (← e) (over_at x l r.0 i (le_of_suc-le-suc b))

      each : (i : ℕ) → i < suc (length l) → sought < x → sought < At (x ∷ l) i
      each zero b u = u
      each (suc i) b u = over_at sought l (over_less sought x u l r.0) i (le_of_suc-le-suc b)

-- where a function says the same of each position below
tells_same : (f g : ℕ → ℕ) (sought n : ℕ) → ((i : ℕ) → i < n → f i ≡ g i) → (s : Spot) → Tells g sought 0 n s → Tells f sought 0 n s
tells_same f g sought n e (here at) t = record {
  from = t.from;
  to = t.to;
  is = e at t.to ∙ t.is;
  below = λ i a b. rw (e i (omega (arith, b, t.to))) (t.below i a b);
  above = λ i a b. rw (e i b) (t.above i a b);
}
tells_same f g sought n e (missing at) t = record {
  from = t.from;
  to = t.to;
  below = λ i a b. rw (e i (omega (arith, b, t.to))) (t.below i a b);
  above = λ i a b. rw (e i b) (t.above i a b);
}

-- the theorem of the search: what k rounds of halving and one more find among numbers that rise, 2 to the power of k at most, is where the number stands
pub halving_finds : (k : ℕ) (l : List ℕ) → Rising l → length l ≤ two_to k → (number_at : ℕ → ℕ) → ((i : ℕ) → i < length l → number_at i ≡ get_or l i 0)
    → (sought : ℕ) → halving (suc k) number_at sought (length l) ≡ where_is sought l
halving_finds k l r h f e sought =
    halving_tells f sought k (length l) h (where_is sought l) (tells_same f (At l) sought (length l) e (where_is sought l) (where_tells sought l r))
