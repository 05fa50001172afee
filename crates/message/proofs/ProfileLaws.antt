-- Laws of profiles and their lists, of which an entry is two octets.
use Prim.Native.Nat.{ℕ, zero, suc, ◌+◌, ◌-◌, ◌*◌, ◌/◌, ◌≤◌, ◌<◌}
use mathlib.Core.Path.{◌≡◌, refl}
use mathlib.Core.Bool.{Bool, true, false, cond, not, ◌&&◌, ◌||◌}
use mathlib.Core.List.{List, [], ◌∷◌}
use native.Mathlib.Omega.{arith}
use Rattle.std.specs.Prelude.{Some, None, is_some, unwrap_or, nat_eq}
use Rattle.std.specs.Int.{w16, from_be_bytes}
use Rattle.std.specs.List.{list_any}
use Rattle.std.specs.Simd.{first_chunks}
use lib.Dec.{eqb}
use lib.ListN.{length, take, drop, length-drop}
use Rattle.message.specs.Profiles.{entries, member, in_list, sound, is_profile, key_length, found_key_length}

-- a profile is a number whose keys have a length
table_says : (a b : Bool) → (a || (b || false)) ≡ not (eqb (cond a 16 (cond b 32 0)) 0)
table_says true b = refl
table_says false true = refl
table_says false false = refl

length_says : (a b : Bool) (m n : ℕ) → unwrap_or (cond (a || (b || false)) (Some (cond a m (cond b n 0))) None) 0 ≡ cond a m (cond b n 0)
length_says true b m n = refl
length_says false true m n = refl
length_says false false m n = refl

some_says : (a : Bool) (n : ℕ) → is_some (cond a (Some n) None) ≡ a
some_says true n = refl
some_says false n = refl

pub has_length : (p : ℕ) → is_profile p ≡ not (eqb (key_length p) 0)
unfolding is_profile key_length
has_length p = table_says (eqb p 0x0009) (eqb p 0x000A)

-- the length that is found, or none
pub found_or_none : (p : ℕ) → unwrap_or (found_key_length p) 0 ≡ key_length p
unfolding found_key_length is_profile key_length
found_or_none p = length_says (eqb p 0x0009) (eqb p 0x000A) 16 32

pub is_found : (p : ℕ) → is_some (found_key_length p) ≡ is_profile p
unfolding found_key_length
is_found p = some_says (is_profile p) (key_length p)

-- ---- a list by its entries

pair_number : (x y : ℕ) → from_be_bytes w16 (x ∷ y ∷ []) ≡ x * 256 + y
pair_number x y = omega arith

-- fewer than two octets, and the first two
none_left : (l : List ℕ) → length l < 2 → entries l ≡ []
unfolding entries
none_left [] k = refl
none_left (x ∷ []) k = refl
none_left (x ∷ y ∷ l) k = absurd (omega arith)

first_entry : (l : List ℕ) → 2 ≤ length l → entries l ≡ from_be_bytes w16 (take 2 l) ∷ entries (drop 2 l)
unfolding entries
first_entry [] h = absurd (omega arith)
first_entry (x ∷ []) h = absurd (omega arith)
first_entry (x ∷ y ∷ l) h = rw (pair_number x y) refl

-- a search over the pairs
search_pairs : (p k : ℕ) (l : List ℕ) → k ≡ length l / 2 → list_any (λ e. nat_eq (from_be_bytes w16 e) p) (first_chunks 2 k l) ≡ member p (entries l)
search_pairs p zero l h = rw (none_left l (omega arith)) refl
search_pairs p (suc k) l h =
    let n : 2 ≤ length l = omega arith in
    let d : length (drop 2 l) ≡ length l - 2 = length-drop 2 l in
    rw (first_entry l n, search_pairs p k (drop 2 l) (omega arith)) refl

pub found_in_pairs : (p : ℕ) (l : List ℕ) → list_any (λ e. nat_eq (from_be_bytes w16 e) p) (first_chunks 2 (length l / 2) l) ≡ in_list p l
unfolding in_list
found_in_pairs p l = search_pairs p (length l / 2) l refl

-- whether every entry is sound, from the first one on
pub sound_first : (l : List ℕ) → 2 ≤ length l
    → sound (entries l) ≡ (is_profile (from_be_bytes w16 (take 2 l)) && not (in_list (from_be_bytes w16 (take 2 l)) (drop 2 l)) && sound (entries (drop 2 l)))
unfolding in_list
sound_first l h = rw (first_entry l h) refl

pub sound_end : (l : List ℕ) → length l < 2 → sound (entries l) ≡ true
sound_end l h = rw (none_left l h) refl
