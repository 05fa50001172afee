-- What the spot of an endpoint says of a block, whatever the block holds.
use Prim.Native.Nat.{ℕ, ◌+◌, ◌-◌, ◌≤◌, ◌<◌}
use mathlib.Core.Path.{◌≡◌, refl, sym, ap, subst, ◌∙◌}
use mathlib.Core.Bool.{Bool, true, false, cond}
use mathlib.Core.List.{List}
use native.Mathlib.Omega.{arith}
use borrow.Author.Tests.{lt-ltb, le-ltb, eq-eqb, ne_eqb}
use lib.Dec.{eqb, leb}
use Rattle.rules.specs.Halving.{Spot, here, missing, halved, settled, rounds_for}
use Rattle.rules.specs.Limits.{places, rounds}
use Rattle.rules.specs.Index.{count_of, index_endpoint, index_place, spot, place_at_spot, inserted_at, removed_at, entering, leaving, with_entry, without_entry}
use Rattle.rules.specs.Table.{place_of_endpoint}
use Rattle.rules.proofs.HalvingLaws.{Within, halved_within, halving_none, halving_some, halving_within}
use Rattle.rules.proofs.IndexLaws.{count_within}

module _ (s : List ℕ) (e : ℕ) where
  -- ---- where the search ends

  abbrev pub left : (n : ℕ) → ℕ
  left n = halved (rounds - 1) (index_endpoint s) e 0 n

  pub spot_none : (n : ℕ) → n ≡ count_of s → n ≡ 0 → missing 0 ≡ spot s e
  unfolding spot
  spot_none n c z = sym (halving_none (index_endpoint s) e (count_of s) (rounds - 1) (sym c ∙ z))

  module _ (n at : ℕ) (c : n ≡ count_of s) (h : 0 < n) (a : at ≡ left n) where
    pub spot_some : settled (index_endpoint s at) e at ≡ spot s e
    unfolding spot
    spot_some =
        let r : at ≡ left (count_of s) = a ∙ ap left c in
        rw r (sym (halving_some (index_endpoint s) e (count_of s) (rounds - 1) (rw (← c) h)))

    pub left_below : at < count_of s
    left_below = let w = halved_within (index_endpoint s) e (rounds - 1) 0 n h in omega (arith, w)

    pub left_room : at < places
    left_room = omega (arith, left_below, count_within s)

    pub spot_here : (seen : ℕ) → seen ≡ index_endpoint s at → seen ≡ e → here at ≡ spot s e
    unfolding settled
    spot_here seen i q = let g : settled (index_endpoint s at) e at ≡ here at = rw (eq-eqb (index_endpoint s at) e (sym i ∙ q)) refl in sym g ∙ spot_some

    pub spot_missing : {A : Type 0} (seen : ℕ) → seen ≡ index_endpoint s at → (seen ≡ e → ⊥) → (f : Spot → A) (x : A) → ((i : ℕ) → f (missing i) ≡ x) → x ≡ f (spot s e)
    unfolding settled
    spot_missing seen i q f x k =
        let g : f (settled (index_endpoint s at) e at) ≡ x = rw (ne_eqb (index_endpoint s at) e (λ z. q (i ∙ z))) (k _) in
        sym g ∙ ap f spot_some

  -- ---- the rounds that it takes

  pub rounds_none : (n : ℕ) → n ≡ count_of s → n ≡ 0 → 0 ≡ rounds_for rounds (count_of s)
  rounds_none n c z = rw (eq-eqb (count_of s) 0 (sym c ∙ z)) refl

  pub rounds_some : (n looked : ℕ) → n ≡ count_of s → 0 < n → looked ≡ cond (leb n 1) 0 (rounds - 1) → looked + 1 ≡ rounds_for rounds (count_of s)
  rounds_some n looked c h e = rw (← c, ne_eqb n 0 (λ z. omega arith)) (go (leb n 1) e)
    where
      go : (b : Bool) → looked ≡ cond b 0 (rounds - 1) → looked + 1 ≡ cond b 1 rounds
      go true e = omega arith
      go false e = omega arith

  -- ---- what calls make of it

  within : Within (count_of s) (spot s e)
  unfolding spot
  within = halving_within (index_endpoint s) e (count_of s) rounds

  module _ (at : ℕ) (h : here at ≡ spot s e) where
    pub here_below : at < count_of s
    here_below = subst (Within (count_of s)) (sym h) within

    pub here_place : index_place s at ≡ place_of_endpoint s e
    unfolding place_of_endpoint
    here_place = ap (place_at_spot s) h

    pub here_stays : (place : ℕ) → s ≡ with_entry s e place
    unfolding with_entry
    here_stays place = ap (entering s e place) h

    pub here_out : removed_at s at ≡ without_entry s e
    unfolding without_entry
    here_out = ap (leaving s) h

  module _ (at : ℕ) (h : missing at ≡ spot s e) where
    pub missing_below : at ≤ count_of s
    missing_below = subst (Within (count_of s)) (sym h) within

    pub missing_place : places ≡ place_of_endpoint s e
    unfolding place_of_endpoint
    missing_place = ap (place_at_spot s) h

    pub missing_in : (place : ℕ) → count_of s < places → inserted_at s at e place ≡ with_entry s e place
    unfolding with_entry
    missing_in place g = rw (← h, lt-ltb (count_of s) places g) refl

    pub missing_full : (place : ℕ) → places ≤ count_of s → s ≡ with_entry s e place
    unfolding with_entry
    missing_full place g = rw (← h, le-ltb (count_of s) places g) refl

    pub missing_stays : s ≡ without_entry s e
    unfolding without_entry
    missing_stays = ap (leaving s) h

pub rounds_few : (s : List ℕ) (r : ℕ) → r ≡ rounds_for rounds (count_of s) → r ≤ rounds
rounds_few s r e = go (eqb (count_of s) 0) (leb (count_of s) 1) e
  where
    go : (a b : Bool) → r ≡ cond a 0 (cond b 1 rounds) → r ≤ rounds
    go true b e = omega arith
    go false true e = omega arith
    go false false e = omega arith
