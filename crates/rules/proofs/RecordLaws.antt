-- Laws of a table's live records, and of the places that a card stands for.
use Prim.Native.Nat.{ℕ, suc, ◌≤◌}
use native.Mathlib.Nat.{le_trans}
use native.Mathlib.Omega.{arith}
use mathlib.Core.Path.{◌≡◌, refl, sym, ap, ◌∙◌}
use mathlib.Core.Bool.{Bool, not}
use mathlib.Core.List.Memᴰ
use mathlib.Core.List.{List, [], ◌∷◌, map, Memᴰ}
use mathlib.Core.Option.{some, none, some-injective, some-ne-none}
use borrow.Author.Tests.{ne_eqb}
use lib.Dec.{eqb, eqb-suc-suc}
use lib.ListN.{length}
use Rattle.octets.proofs.SameLaws.{same_refl}
use Rattle.octets.proofs.Tests.{by_choice}
use Rattle.rules.specs.Search as Search
use Rattle.rules.specs.Search.{keep, Distinct}
use Rattle.rules.specs.Answer.{Association}
use Rattle.rules.specs.View.{AtPlace, identifier_in, is_for}
use Rattle.rules.specs.Cards.{Held, blank, opened, keyed, filled}
use Rattle.rules.specs.Claim.{held_in, held_on, records}
use Rattle.rules.specs.ViewSteps.{is_vacant}
use Rattle.rules.proofs.KeepLaws.{non_empty, keeps}
use Rattle.rules.proofs.Agrees.{places_on}

pub recorded : {a : Association} (l : List AtPlace) → Memᴰ a (records l) → Memᴰ (some a) l
unfolding records
recorded [] m = absurd (Memᴰ.not-nil m)
recorded (none ∷ l) m = Memᴰ.tail (recorded l m)
recorded (some b ∷ l) (Memᴰ.head q) = Memᴰ.head (ap some q)
recorded (some b ∷ l) (Memᴰ.tail m) = Memᴰ.tail (recorded l m)

pub records_all : {a : Association} (l : List AtPlace) → Memᴰ (some a) l → Memᴰ a (records l)
unfolding records
records_all {a = a} [] x' = elim x' [ ]
records_all (none ∷ l) (Memᴰ.head q) = absurd (some-ne-none _ q)
records_all (none ∷ l) (Memᴰ.tail m) = records_all l m
records_all (some b ∷ l) (Memᴰ.head q) = Memᴰ.head (some-injective _ _ q)
records_all (some b ∷ l) (Memᴰ.tail m) = Memᴰ.tail (records_all l m)

pub records_le : (l : List AtPlace) → length (records l) ≤ length l
unfolding records
records_le [] = omega arith
records_le (none ∷ l) = omega (arith, records_le l)
records_le (some a ∷ l) = omega (arith, records_le l)

-- no place is vacant exactly where there are as many records as places
pub all_taken : (l : List AtPlace) → not (Search.some_of is_vacant l) ≡ eqb (length (records l)) (length l)
unfolding records Search.some_of
all_taken [] = refl
all_taken (none ∷ l) = sym (ne_eqb (length (records l)) (suc (length l)) (λ q. omega (arith, records_le l)))
all_taken (some a ∷ l) = all_taken l ∙ sym (eqb-suc-suc (length (records l)) (length l))

mem_length : {A : Type 0} {a : A} {l : List A} → Memᴰ a l → 1 ≤ length l
mem_length (Memᴰ.head q) = omega arith
mem_length (Memᴰ.tail m) = omega arith

keep_tail : (p : AtPlace → Bool) (s : AtPlace) (l : List AtPlace) → length (keep p l) ≤ length (keep p (s ∷ l))
unfolding keep
keep_tail p s l = by_choice (λ (k : List AtPlace). length (keep p l) ≤ length k) (p s) _ _ (λ e. omega arith) (λ e. omega arith)

-- records differ in identifier where no two are for one
pub distinct_identifiers : (l : List AtPlace) → ((i : List ℕ) → length (keep (is_for i) l) ≤ 1) → Distinct (map identifier_in (records l))
unfolding records keep
distinct_identifiers [] f = tt
distinct_identifiers (none ∷ l) f = distinct_identifiers l f
distinct_identifiers (some a ∷ l) f = (out, distinct_identifiers l (λ i. le_trans (keep_tail (is_for i) (some a) l) (f i)))
  where
    i : List ℕ
    i = identifier_in a

    out : Memᴰ i (map identifier_in (records l)) → ⊥
    out m =
        let r : (b : Association) × Memᴰ b (records l) × (identifier_in b ≡ i) = Memᴰ.of_map identifier_in (records l) m in
        let n : 1 ≤ length (keep (is_for i) l) = mem_length (keeps (is_for i) (recorded l r.1) (rw r.2 (same_refl i))) in
        let t : suc (length (keep (is_for i) l)) ≤ 1 = rw (same_refl i) at (f i) in
        omega arith

-- ---- the places of a card

pub few_on : (i : List ℕ) (h : Held) → length (places_on i h) ≤ 1
few_on i blank = omega arith
few_on i (opened e) = omega arith
few_on i (keyed e k) = omega arith

pub held_on_lem : (i : List ℕ) (h : Held) → map held_in (records (places_on i h)) ≡ held_on h
unfolding records
held_on_lem i blank = refl
held_on_lem i (opened e) = refl
held_on_lem i (keyed e k) = refl

pub filled_on : (i : List ℕ) (h : Held) → non_empty (places_on i h) ≡ filled h
filled_on i blank = refl
filled_on i (opened e) = refl
filled_on i (keyed e k) = refl
