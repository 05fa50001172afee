-- Four profile lists are good, and no other.
use Prim.Native.Nat.{ℕ, ◌+◌, ◌*◌, ◌<◌}
use mathlib.Core.Path.{◌≡◌, refl, sym, ap, ◌∙◌}
use mathlib.Core.Logic.{◌↔◌, ◌⊎◌, inl, inr, ⊎_elim}
use mathlib.Core.Bool.{true, false, not, ◌&&◌}
use mathlib.Core.List.{List, [], ◌∷◌}
use native.Mathlib.Omega.{arith}
use lib.Dec.{eqb}
use borrow.Author.Tests.{eqb-true, eqb-false, not-true}
use Rattle.octets.proofs.Tests.{both, false_true, by_test}
use Rattle.message.specs.Profiles.{is_profile, entries, member, sound, good_list}
use Rattle.rules.specs.SingleTests.{GoodList}
use Rattle.rules.proofs.Cases.{either_false}
use Rattle.rules.proofs.ListRoom.{good_list_room}

-- a profile is one of two
profile_is : (p : ℕ) → is_profile p ≡ true → (p ≡ 0x0009) ⊎ (p ≡ 0x000A)
unfolding is_profile
profile_is p h =
    by_test (eqb p 0x0009) (λ a. inl (eqb-true _ _ a)) (λ a.
    by_test (eqb p 0x000A) (λ b. inr (eqb-true _ _ b)) (λ b. absurd (false_true (rw (a, b) at h))))

-- the two octets of a small number
octets_of_lem : (x y n : ℕ) {l m : List ℕ} → n < 256 → x * 256 + y ≡ n → l ≡ m → (x ∷ y ∷ l) ≡ (0 ∷ n ∷ m)
octets_of_lem x y n h e q =
    let high : x ≡ 0 = omega arith in
    let low : y ≡ n = omega arith in
    rw (high, low, q)

-- ---- a good list, by the profiles that its octets tell

one : (x y : ℕ) → sound ((x * 256 + y) ∷ []) ≡ true → GoodList (x ∷ y ∷ [])
one x y h =
    let p = (both (is_profile (x * 256 + y)) true (both _ true h).0).0 in
    ⊎_elim (λ e. inl (inl (octets_of_lem x y 0x09 (omega arith) e refl))) (λ e. inl (inr (octets_of_lem x y 0x0A (omega arith) e refl)))
    (profile_is (x * 256 + y) p)

two : (x y z w : ℕ) → sound ((x * 256 + y) ∷ (z * 256 + w) ∷ []) ≡ true → GoodList (x ∷ y ∷ z ∷ w ∷ [])
two x y z w h =
    let p = x * 256 + y in
    let q = z * 256 + w in
    let a = both (is_profile p && not (member p (q ∷ []))) (sound (q ∷ [])) h in
    let b = both (is_profile p) (not (member p (q ∷ []))) a.0 in
    let other = eqb-false q p (either_false (eqb q p) false (not-true _ b.1)).0 in
    let c = (both (is_profile q) true (both _ true a.1).0).0 in
    ⊎_elim
    (λ e. ⊎_elim (λ f. absurd (other (f ∙ sym e))) (λ f. inr (inl (octets_of_lem x y 0x09 (omega arith) e (octets_of_lem z w 0x0A (omega arith) f refl)))) (profile_is q c))
    (λ e. ⊎_elim (λ f. inr (inr (octets_of_lem x y 0x0A (omega arith) e (octets_of_lem z w 0x09 (omega arith) f refl)))) (λ f. absurd (other (f ∙ sym e))) (profile_is q c))
    (profile_is p b.0)

good_is : (list : List ℕ) → good_list list ≡ true → GoodList list
unfolding good_list entries
good_is [] h = absurd (false_true h)
good_is (x ∷ []) h = absurd (false_true h)
good_is (x ∷ y ∷ []) h = one x y h
good_is (x ∷ y ∷ z ∷ []) h = absurd (false_true h)
good_is (x ∷ y ∷ z ∷ w ∷ []) h = two x y z w h
good_is (x ∷ y ∷ z ∷ w ∷ v ∷ l) h = absurd (omega (arith, good_list_room (x ∷ y ∷ z ∷ w ∷ v ∷ l) h))

is_good : (list : List ℕ) → GoodList list → good_list list ≡ true
unfolding good_list entries is_profile
is_good list (inl (inl e)) = ap good_list e
is_good list (inl (inr e)) = ap good_list e
is_good list (inr (inl e)) = ap good_list e
is_good list (inr (inr e)) = ap good_list e

pub good_list_means : (list : List ℕ) → (good_list list ≡ true) ↔ GoodList list
good_list_means list = (good_is list, is_good list)
