-- A good profile list has room in a block: there are no more profiles.
use Prim.Native.Nat.{ℕ, ◌+◌, ◌*◌, ◌%◌, ◌≤◌}
use mathlib.Core.Path.{◌≡◌, refl}
use mathlib.Core.Bool.{Bool, true, false, not, ◌&&◌, ◌||◌}
use mathlib.Core.List.{List, [], ◌∷◌}
use native.Mathlib.Omega.{arith}
use borrow.Author.Tests.{eqb-true, eqb-false, not-true}
use lib.Dec.{eqb}
use lib.ListN.{length}
use Rattle.octets.proofs.Tests.{both, by_choice, false_true}
use Rattle.message.proofs.ProfileLaws.{has_length}
use Rattle.message.specs.Profiles.{key_length, is_profile, entries, member, sound, good_list}
use Rattle.rules.specs.Limits.{list_limit}

-- a number between those of the profiles, where the test holds
abbrev Between : ℕ → ℕ → Type 0
Between p n = not (eqb n 0) ≡ true → (9 ≤ p) × (p ≤ 10)

by_length : (p : ℕ) → Between p (key_length p)
unfolding key_length
by_length p =
    by_choice (Between p) (eqb p 9) _ _ (λ a _. (omega (arith, eqb-true p 9 a), omega (arith, eqb-true p 9 a))) (λ _.
    by_choice (Between p) (eqb p 10) _ _ (λ b _. (omega (arith, eqb-true p 10 b), omega (arith, eqb-true p 10 b))) (λ _ h. absurd (false_true h)))

profile_between : (p : ℕ) → is_profile p ≡ true → (9 ≤ p) × (p ≤ 10)
profile_between p h = by_length p (rw (has_length p) at h)

neither : (a b : Bool) → (a || b) ≡ false → (a ≡ false) × (b ≡ false)
neither true b h = absurd (false_true (cc))
neither false b h = (refl, h)

-- three profiles are not different
three : (x y z : ℕ) (l : List ℕ) → sound (x ∷ y ∷ z ∷ l) ≡ true → ⊥
three x y z l h =
    let a = both (is_profile x && not (member x (y ∷ z ∷ l))) (sound (y ∷ z ∷ l)) h in
    let b = both (is_profile x) (not (member x (y ∷ z ∷ l))) a.0 in
    let c = both (is_profile y && not (member y (z ∷ l))) (sound (z ∷ l)) a.1 in
    let d = both (is_profile y) (not (member y (z ∷ l))) c.0 in
    let e = both (is_profile z && not (member z l)) (sound l) c.1 in
    let f = both (is_profile z) (not (member z l)) e.0 in
    let u = neither (eqb y x) (eqb z x || member x l) (not-true _ b.1) in
    let v = neither (eqb z x) (member x l) u.1 in
    let w = neither (eqb z y) (member y l) (not-true _ d.1) in
    omega (arith, profile_between x b.0, profile_between y d.0, profile_between z f.0, eqb-false y x u.0, eqb-false z x v.0, eqb-false z y w.0)

good_list_sound : (list : List ℕ) → good_list list ≡ true → sound (entries list) ≡ true
unfolding good_list
good_list_sound list h = (both (not (eqb (length list) 0) && eqb (length list % 2) 0) (sound (entries list)) h).1

pub good_list_room : (list : List ℕ) → good_list list ≡ true → length list ≤ list_limit
unfolding good_list entries
good_list_room [] h = omega arith
good_list_room (x ∷ []) h = omega arith
good_list_room (x ∷ y ∷ []) h = omega arith
good_list_room (x ∷ y ∷ z ∷ []) h = omega arith
good_list_room (x ∷ y ∷ z ∷ w ∷ []) h = omega arith
good_list_room (x ∷ y ∷ z ∷ w ∷ v ∷ []) h = absurd (false_true h)
good_list_room (x ∷ y ∷ z ∷ w ∷ v ∷ u ∷ l) h = absurd (three (x * 256 + y) (z * 256 + w) (v * 256 + u) (entries l) (good_list_sound (x ∷ y ∷ z ∷ w ∷ v ∷ u ∷ l) h))
