-- Laws of the elements that pass a test: `keep`, `some`, and `first` with what stands there, before and after a store.
use Prim.Native.Nat.{ℕ, zero, suc, ◌<◌, suc-le-suc}
use mathlib.Core.Path.{◌≡◌, refl, sym, ap, ◌∙◌}
use mathlib.Core.Logic.{◌⊎◌, inl, inr}
use mathlib.Core.Bool.{Bool, true, false, cond, ◌||◌}
use mathlib.Core.List.Memᴰ
use mathlib.Core.List.{List, [], ◌∷◌, Memᴰ, cons≢nil, tail-eq_of_cons-eq}
use native.Mathlib.Nat.{not-suc-le-zero, le_of_suc-le-suc}
use native.Mathlib.Omega.{arith}
use lib.ListN.{length, get_or, set}
use Rattle.octets.proofs.Tests.{by_choice}
use Rattle.rules.specs.Search.{first, some_of, keep}
use Rattle.rules.proofs.Choices.{no_both, by_test}

abbrev pub non_empty : {A : Type 0} → List A → Bool
non_empty [] = false
non_empty (x ∷ l) = true

module _ {A : Type 0} (p : A → Bool) where
  -- ---- the elements that pass

  pub kept : {y : A} (l : List A) → Memᴰ y (keep p l) → Memᴰ y l × (p y ≡ true)
  unfolding keep
  kept [] m = absurd (Memᴰ.not-nil m)
  kept {y} (x ∷ l) m =
      by_choice (λ (k : List A). Memᴰ y k → Passes) (p x) _ _
      (λ e n. here e (λ r. deeper (kept l r)) (Memᴰ.cases_cons n)) (λ e n. deeper (kept l n)) m
    where
      Passes : Type 0
      Passes = Memᴰ y (x ∷ l) × (p y ≡ true)

      deeper : Memᴰ y l × (p y ≡ true) → Passes
      deeper r = (Memᴰ.tail r.0, r.1)

      here : p x ≡ true → (Memᴰ y (keep p l) → Passes) → (y ≡ x) ⊎ Memᴰ y (keep p l) → Passes
      here e f (inl q) = (Memᴰ.head q, ap p q ∙ e)
      here e f (inr n) = f n

  pub keeps : {y : A} {l : List A} → Memᴰ y l → p y ≡ true → Memᴰ y (keep p l)
  unfolding keep
  keeps {y} (Memᴰ.head {x} {xs = l} q) h = rw (sym (ap p q) ∙ h) (Memᴰ.head q)
  keeps {y} (Memᴰ.tail {x} {xs = l} m) h = by_choice (λ (k : List A). Memᴰ y k) (p x) _ _ (λ e. Memᴰ.tail (keeps m h)) (λ e. keeps m h)

  pub found_some : {y : A} {l : List A} → Memᴰ y l → p y ≡ true → some_of p l ≡ true
  unfolding some_of
  found_some (Memᴰ.head {x} {xs = l} q) h = rw (sym (ap p q) ∙ h)
  found_some (Memᴰ.tail {x} {xs = l} m) h = by_test (λ b. (b || some_of p l) ≡ true) (p x) (λ e. refl) (λ e. found_some m h)

  pub some_keep : (l : List A) → some_of p l ≡ non_empty (keep p l)
  unfolding some_of keep
  some_keep [] = refl
  some_keep (x ∷ l) = by_test (λ b. (b || some_of p l) ≡ non_empty (cond b (x ∷ keep p l) (keep p l))) (p x) (λ e. refl) (λ e. some_keep l)

  -- ---- the first that passes

  pub first_lt : (l : List A) → some_of p l ≡ true → first p l < length l
  unfolding some_of first
  first_lt [] h = no_both h refl
  first_lt (x ∷ l) h =
      by_test (λ b. (b || some_of p l) ≡ true → cond b zero (suc (first p l)) < suc (length l)) (p x)
      (λ e k. omega arith) (λ e k. suc-le-suc (first_lt l k)) h

  module _ (d : A) where
    pub first_found : (l : List A) → some_of p l ≡ true → Memᴰ (get_or l (first p l) d) l × (p (get_or l (first p l) d) ≡ true)
    unfolding some_of first
    first_found [] h = no_both h refl
    first_found (x ∷ l) h = by_test (λ b. (b || some_of p l) ≡ true → Found (cond b zero (suc (first p l)))) (p x)
        (λ e k. (Memᴰ.head refl, e)) (λ e k. let r = first_found l k in (Memᴰ.tail r.0, r.1)) h
      where
        Found : ℕ → Type 0
        Found n = Memᴰ (get_or (x ∷ l) n d) (x ∷ l) × (p (get_or (x ∷ l) n d) ≡ true)

    pub first_none : (l : List A) → some_of p l ≡ false → get_or l (first p l) d ≡ d
    unfolding some_of first
    first_none [] h = refl
    first_none (x ∷ l) h =
        by_test (λ b. (b || some_of p l) ≡ false → get_or (x ∷ l) (cond b zero (suc (first p l))) d ≡ d) (p x)
        (λ e k. no_both refl k) (λ e k. first_none l k) h

    pub first_kept : (l : List A) → get_or l (first p l) d ≡ get_or (keep p l) 0 d
    unfolding first keep
    first_kept [] = refl
    first_kept (x ∷ l) =
        by_test (λ b. get_or (x ∷ l) (cond b zero (suc (first p l))) d ≡ get_or (cond b (x ∷ keep p l) (keep p l)) 0 d) (p x)
        (λ e. refl) (λ e. first_kept l)

    pub first_is : (l : List A) {a : A} {r : List A} → keep p l ≡ a ∷ r → get_or l (first p l) d ≡ a
    first_is l h = first_kept l ∙ ap (λ (k : List A). get_or k 0 d) h

  -- ---- after a store

  -- neither the old element nor the new one passes
  pub keep_set_neither : (l : List A) (i : ℕ) (y d : A) → p (get_or l i d) ≡ false → p y ≡ false → keep p (set l i y) ≡ keep p l
  unfolding keep
  keep_set_neither [] i y d h g = refl
  keep_set_neither (x ∷ l) zero y d h g = rw (h, g)
  keep_set_neither (x ∷ l) (suc i) y d h g = rw (keep_set_neither l i y d h g)

  -- none passed, and the new one does
  none_kept : (x : A) (l : List A) → keep p (x ∷ l) ≡ [] → (p x ≡ false) × (keep p l ≡ [])
  unfolding keep
  none_kept x l = by_choice (λ (k : List A). k ≡ [] → (p x ≡ false) × (keep p l ≡ [])) (p x) _ _ (λ e q. absurd (cons≢nil q)) (λ e q. (e, q))

  pub keep_set_new : (l : List A) (i : ℕ) (y : A) → keep p l ≡ [] → i < length l → p y ≡ true → keep p (set l i y) ≡ y ∷ []
  unfolding keep
  keep_set_new [] i y h lt g = absurd (not-suc-le-zero lt)
  keep_set_new (x ∷ l) zero y h lt g = rw (g, (none_kept x l h).1)
  keep_set_new (x ∷ l) (suc i) y h lt g = let n = none_kept x l h in rw n.0 (keep_set_new l i y n.1 (le_of_suc-le-suc lt) g)

  -- the first that passed is replaced
  pub keep_set_first : (l : List A) (y : A) {a : A} {r : List A} → keep p l ≡ a ∷ r → keep p (set l (first p l) y) ≡ cond (p y) (y ∷ r) r
  unfolding keep first
  keep_set_first [] y h = absurd (cons≢nil (sym h))
  keep_set_first (x ∷ l) y {a} {r} h =
      by_test (λ b. cond b (x ∷ keep p l) (keep p l) ≡ a ∷ r → keep p (set (x ∷ l) (cond b zero (suc (first p l))) y) ≡ cond (p y) (y ∷ r) r) (p x)
      (λ e q. rw (tail-eq_of_cons-eq q)) (λ e q. rw e (keep_set_first l y q)) h
