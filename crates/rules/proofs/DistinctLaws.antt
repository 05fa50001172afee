-- Laws of lists in which no element stands twice.
use Prim.Native.Nat.{suc, ◌≤◌, zero-le}
use mathlib.Core.Path.{◌≡◌, refl, sym, ap, ◌∙◌}
use mathlib.Core.Logic.{◌⊎◌, inl, inr}
use mathlib.Core.Bool.{Bool}
use mathlib.Core.List.Memᴰ
use mathlib.Core.List.{List, [], ◌∷◌, map, Memᴰ}
use native.Mathlib.Omega.{arith}
use lib.ListN.{length}
use Rattle.octets.proofs.Tests.{by_choice}
use Rattle.rules.specs.Search.{keep, Distinct}
use Rattle.rules.proofs.KeepLaws.{kept}

module _ {A : Type 0} where
  -- a list without one of its elements
  pub record Without (x : A) (l : List A) : Type 0 where
    pub rest : List A
    pub shorter : length l ≡ suc (length rest)
    pub others : (y : A) → Memᴰ y l → (y ≡ x → ⊥) → Memᴰ y rest

  without : {x : A} {l : List A} → Memᴰ x l → Without x l
  without {x} (Memᴰ.head {x = z} {xs = l} e) = record { rest = l; shorter = refl; others = λ y m n. at (Memᴰ.cases_cons m) n }
    where
      at : {y : A} → (y ≡ z) ⊎ Memᴰ y l → (y ≡ x → ⊥) → Memᴰ y l
      at (inl q) n = absurd (n (q ∙ sym e))
      at (inr m) n = m
  without {x} (Memᴰ.tail {x = z} {xs = l} m) = go (without m)
    where
      go : Without x l → Without x (z ∷ l)
      go w = record { rest = z ∷ w.rest; shorter = ap suc w.shorter; others = λ y n ne. at (Memᴰ.cases_cons n) ne }
        where
          at : {y : A} → (y ≡ z) ⊎ Memᴰ y l → (y ≡ x → ⊥) → Memᴰ y (z ∷ w.rest)
          at (inl q) ne = Memᴰ.head q
          at {y} (inr n) ne = Memᴰ.tail (w.others y n ne)

  -- such a list is no longer than one that has all its elements
  pub distinct_le : (l m : List A) → Distinct l → ((y : A) → Memᴰ y l → Memᴰ y m) → length l ≤ length m
  distinct_le [] m d f = zero-le
  distinct_le (x ∷ l) m d f =
      let w : Without x m = without (f x (Memᴰ.head refl)) in
      let h : length l ≤ length w.rest = distinct_le l w.rest d.1 (λ y n. w.others y (f y (Memᴰ.tail n)) (λ q. d.0 (Memᴰ.cast (sym q) n))) in
      omega (arith, w.shorter)

  pub distinct_keep : (p : A → Bool) (l : List A) → Distinct l → Distinct (keep p l)
  unfolding keep
  distinct_keep p [] d = tt
  distinct_keep p (x ∷ l) d = by_choice Distinct (p x) _ _ (λ e. ((λ m. d.0 (kept p l m).0), distinct_keep p l d.1)) (λ e. distinct_keep p l d.1)

-- where f tells apart what g does
pub distinct_map : {A B C : Type 0} (f : A → B) (g : A → C) (l : List A) → ((x y : A) → Memᴰ x l → Memᴰ y l → g x ≡ g y → f x ≡ f y) → Distinct (map f l) → Distinct (map g l)
distinct_map f g [] h d = tt
distinct_map {A} f g (x ∷ l) h d = (out, distinct_map f g l (λ a b m n. h a b (Memᴰ.tail m) (Memᴰ.tail n)) d.1)
  where
    out : Memᴰ (g x) (map g l) → ⊥
    out m =
        let r : (y : A) × Memᴰ y l × (g y ≡ g x) = Memᴰ.of_map g l m in
        d.0 (Memᴰ.cast (h x r.0 (Memᴰ.head refl) (Memᴰ.tail r.1) (sym r.2)) (Memᴰ.map f r.1))
