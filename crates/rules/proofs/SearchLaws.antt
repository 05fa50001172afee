-- Laws of searching a list, and of lists that are mapped.
use Prim.Native.Nat.{ℕ, zero, suc, ◌<◌}
use mathlib.Core.Path.{◌≡◌, refl, sym, ap, ◌∙◌}
use mathlib.Core.Bool.{Bool, true, false, cond, ◌&&◌, ◌||◌}
use mathlib.Core.List.{List, [], ◌∷◌, map}
use native.Mathlib.Nat.{le_of_suc-le-suc, not-suc-le-zero}
use lib.Dec.{ltb, leb-suc-suc, leb-zero, leb-suc-zero}
use lib.ListN.{length, get_or, set, replicate}
use Rattle.rules.specs.Search.{first, some_of}

module _ {A : Type 0} (p : A → Bool) where
  -- some element passes where the first that does stands within the list
  pub some_first : (l : List A) → some_of p l ≡ ltb (first p l) (length l)
  unfolding first some_of
  some_first [] = sym (leb-suc-zero 0)
  some_first (x ∷ l) = go (p x) (some_first l)
    where
      go : (b : Bool) → some_of p l ≡ ltb (first p l) (length l) → (b || some_of p l) ≡ ltb (cond b zero (suc (first p l))) (suc (length l))
      go true h = sym (leb-suc-suc 0 (length l) ∙ leb-zero (length l))
      go false h = h ∙ sym (leb-suc-suc (suc (first p l)) (length l))

  -- the first element that passes does so
  pub first_passes : (l : List A) (d : A) → first p l < length l → p (get_or l (first p l) d) ≡ true
  unfolding first
  first_passes [] d h = absurd (not-suc-le-zero h)
  first_passes (x ∷ l) d h = go (p x) refl h (first_passes l d)
    where
      go : (b : Bool) → p x ≡ b → cond b zero (suc (first p l)) < suc (length l) → (first p l < length l → p (get_or l (first p l) d) ≡ true)
          → p (get_or (x ∷ l) (cond b zero (suc (first p l))) d) ≡ true
      go true e k r = e
      go false e k r = r (le_of_suc-le-suc k)

-- ---- along a map

module _ {A B : Type 0} (f : A → B) where
  pub first_along : (p : B → Bool) (q : A → Bool) → ((x : A) → p (f x) ≡ q x) → (l : List A) → first p (map f l) ≡ first q l
  unfolding first
  first_along p q h [] = refl
  first_along p q h (x ∷ l) = rw (h x, first_along p q h l)

  pub some_along : (p : B → Bool) (q : A → Bool) → ((x : A) → p (f x) ≡ q x) → (l : List A) → some_of p (map f l) ≡ some_of q l
  unfolding some_of
  some_along p q h [] = refl
  some_along p q h (x ∷ l) = rw (h x, some_along p q h l)

  pub map_set : (l : List A) (i : ℕ) (x : A) → map f (set l i x) ≡ set (map f l) i (f x)
  map_set [] i x = refl
  map_set (y ∷ l) zero x = refl
  map_set (y ∷ l) (suc i) x = ap (λ (r : List B). f y ∷ r) (map_set l i x)

  pub map_replicate : (k : ℕ) (x : A) → map f (replicate k x) ≡ replicate k (f x)
  map_replicate zero x = refl
  map_replicate (suc k) x = ap (λ (l : List B). f x ∷ l) (map_replicate k x)

-- ---- two tests of a row, the second made first

pub second_holds : (a : Bool) {b : Bool} → b ≡ true → a ≡ (a && b)
second_holds true e = sym e
second_holds false e = refl

pub second_fails : (a : Bool) {b : Bool} → b ≡ false → false ≡ (a && b)
second_fails true e = sym e
second_fails false e = refl
