-- What a table has at its places, and the lists of entries that can be read back, are the same.
use Prim.Native.Nat.{ℕ, zero, suc, ◌+◌, ◌^◌, ◌≤◌, ◌<◌}
use mathlib.Core.Path.{◌≡◌, refl, sym, ap, ap₂, ◌∙◌}
use mathlib.Core.Bool.{Bool, true, false, cond, not, or-true}
use mathlib.Core.List.{List, [], ◌∷◌}
use native.Mathlib.Omega.{arith}
use lib.Dec.{ltb, eqb}
use lib.ListN.{length, get_or}
use borrow.Author.Tests.{eqb-true, eqb-false, eq-eqb, ne_eqb, le-leb, lt-ltb, ltb-true, not-true}
use Rattle.octets.proofs.Tests.{both, false_true}
use Rattle.status.specs.Limits.{places, endpoint_bits}
use Rattle.status.specs.Entries.{rising, mentions, distinct, narrow, good}
use Rattle.status.specs.Places.{Shown, vacant, live, entries_from, entries_of}
use Rattle.status.specs.Claims.{Listable, Table, TableOf}
use Rattle.status.specs.declared.entry.Entry.{Entry}
use Rattle.status.proofs.EntryLaws.{rising_head}
use Rattle.status.proofs.PageLaws.{good_true}
use Rattle.status.proofs.ListLaws.{good_listable, listable_good}

-- ---- the entries of a table's places

pub from_rising : (least place : ℕ) (l : List Shown) → least ≤ place → place + length l ≤ places → rising least (entries_from place l) ≡ true
unfolding entries_from rising
from_rising least place [] h k = refl
from_rising least place (vacant ∷ l) h k = from_rising least (suc place) l (omega arith) (omega arith)
from_rising least place (live keyed endpoint ∷ l) h k =
    rw (le-leb least place h, lt-ltb place places (omega arith)) (from_rising (place + 1) (suc place) l (omega arith) (omega arith))

pub from_narrow : (place : ℕ) (l : List Shown) → ((i : ℕ) (keyed : Bool) (endpoint : ℕ) → get_or l i vacant ≡ live keyed endpoint → endpoint < 2 ^ endpoint_bits)
    → narrow (entries_from place l) ≡ true
unfolding entries_from narrow
from_narrow place [] f = refl
from_narrow place (vacant ∷ l) f = from_narrow (suc place) l (λ i. f (suc i))
from_narrow place (live keyed endpoint ∷ l) f =
    rw (lt-ltb endpoint (2 ^ endpoint_bits) (f 0 keyed endpoint refl)) (from_narrow (suc place) l (λ i. f (suc i)))

pub from_unmentioned : (x place : ℕ) (l : List Shown) → ((i : ℕ) (keyed : Bool) → get_or l i vacant ≡ live keyed x → ⊥) → mentions x (entries_from place l) ≡ false
unfolding entries_from mentions
from_unmentioned x place [] f = refl
from_unmentioned x place (vacant ∷ l) f = from_unmentioned x (suc place) l (λ i. f (suc i))
from_unmentioned x place (live keyed endpoint ∷ l) f =
    rw (ne_eqb endpoint x (λ q. f 0 keyed (ap (live keyed) q))) (from_unmentioned x (suc place) l (λ i. f (suc i)))

abbrev Differ : List Shown → Type 0
Differ l = (i j : ℕ) (k m : Bool) (endpoint : ℕ) → get_or l i vacant ≡ live k endpoint → get_or l j vacant ≡ live m endpoint → i ≡ j

differ_tail : (s : Shown) (l : List Shown) → Differ (s ∷ l) → Differ l
differ_tail s l f i j k m endpoint p q = let e = f (suc i) (suc j) k m endpoint p q in omega arith

pub from_distinct : (place : ℕ) (l : List Shown) → Differ l → distinct (entries_from place l) ≡ true
unfolding entries_from distinct
from_distinct place [] f = refl
from_distinct place (vacant ∷ l) f = from_distinct (suc place) l (differ_tail vacant l f)
from_distinct place (live keyed endpoint ∷ l) f =
    rw (from_unmentioned endpoint (suc place) l (λ i m q. let e = f 0 (suc i) keyed m endpoint refl q in omega arith))
    (from_distinct (suc place) l (differ_tail (live keyed endpoint) l f))

pub listable_of : (l : List Shown) → Table l → Listable (entries_of l)
unfolding good
listable_of l t =
    good_listable (entries_of l)
    (rw (from_rising 0 0 l (omega arith) (omega (arith, t.size)), from_distinct 0 l t.differ, from_narrow 0 l t.below))

-- ---- and back: a table for a list of entries

-- n places from one on, with these entries
unfoldable filled : (n place : ℕ) → List Entry → List Shown
filled zero place es = []
filled (suc n) place [] = vacant ∷ filled n (suc place) []
filled (suc n) place (e ∷ es) = cond (eqb e.place place) (live e.keyed e.endpoint ∷ filled n (suc place) es) (vacant ∷ filled n (suc place) (e ∷ es))

filled_length : (n place : ℕ) (es : List Entry) → length (filled n place es) ≡ n
unfolding filled
filled_length zero place es = refl
filled_length (suc n) place [] = ap suc (filled_length n (suc place) [])
filled_length (suc n) place (e ∷ es) = go (eqb e.place place) (filled_length n (suc place) es) (filled_length n (suc place) (e ∷ es))
  where
    go : (b : Bool) → length (filled n (suc place) es) ≡ n → length (filled n (suc place) (e ∷ es)) ≡ n
        → length (cond b (live e.keyed e.endpoint ∷ filled n (suc place) es) (vacant ∷ filled n (suc place) (e ∷ es))) ≡ suc n
    go true p q = ap suc p
    go false p q = ap suc q

rising_later : (least next : ℕ) (e : Entry) (es : List Entry) → rising least (e ∷ es) ≡ true → next ≤ e.place → rising next (e ∷ es) ≡ true
unfolding rising
rising_later least next e es r h =
    let a = rising_head least e es r in
    rw (le-leb next e.place h, lt-ltb e.place places a.1) a.2

rising_nil : (least : ℕ) → rising least [] ≡ true
unfolding rising
rising_nil least = refl

rebuilt : (n place : ℕ) (es : List Entry) → place + n ≡ places → rising place es ≡ true → entries_from place (filled n place es) ≡ es
unfolding entries_from filled
rebuilt zero place [] k r = refl
rebuilt zero place (e ∷ es) k r = let a = rising_head place e es r in absurd (omega arith)
rebuilt (suc n) place [] k r = rebuilt n (suc place) [] (omega arith) (rising_nil (suc place))
rebuilt (suc n) place (e ∷ es) k r = go (eqb e.place place) refl (λ d. rebuilt n (suc place) es (omega arith) d) (λ d. rebuilt n (suc place) (e ∷ es) (omega arith) d)
  where
    a : (place ≤ e.place) × (e.place < places) × (rising (e.place + 1) es ≡ true)
    a = rising_head place e es r

    go : (b : Bool) → eqb e.place place ≡ b
        → (rising (suc place) es ≡ true → entries_from (suc place) (filled n (suc place) es) ≡ es)
        → (rising (suc place) (e ∷ es) ≡ true → entries_from (suc place) (filled n (suc place) (e ∷ es)) ≡ e ∷ es)
        → entries_from place (cond b (live e.keyed e.endpoint ∷ filled n (suc place) es) (vacant ∷ filled n (suc place) (e ∷ es))) ≡ e ∷ es
    go true q f g =
        let d = eqb-true e.place place q in
        let t : e.place + 1 ≡ suc place = omega arith in
        ap₂ (λ (p : ℕ) (z : List Entry). record { place = p; keyed = e.keyed; endpoint = e.endpoint } ∷ z) (sym d) (f (rw t at a.2))
    go false q f g =
        let d = eqb-false e.place place q in
        let h = a.0 in
        g (rising_later place (suc place) e es r (omega arith))

-- what the tests say of the places again

pub from_mentioned : (x place : ℕ) (l : List Shown) (i : ℕ) (keyed : Bool) → get_or l i vacant ≡ live keyed x → mentions x (entries_from place l) ≡ true
unfolding entries_from mentions
from_mentioned x place [] i keyed h = absurd (let z : ◌≡◌ {A = ℕ} 0 1 = cc in omega arith)
from_mentioned x place (vacant ∷ l) zero keyed h = absurd (let z : ◌≡◌ {A = ℕ} 0 1 = cc in omega arith)
from_mentioned x place (vacant ∷ l) (suc i) keyed h = from_mentioned x (suc place) l i keyed h
from_mentioned x place (live k y ∷ l) zero keyed h = let e : y ≡ x = cc in rw (eq-eqb y x e)
from_mentioned x place (live k y ∷ l) (suc i) keyed h = rw (from_mentioned x (suc place) l i keyed h, or-true)

pub narrow_from : (place : ℕ) (l : List Shown) → narrow (entries_from place l) ≡ true
    → (i : ℕ) (keyed : Bool) (endpoint : ℕ) → get_or l i vacant ≡ live keyed endpoint → endpoint < 2 ^ endpoint_bits
unfolding entries_from narrow
narrow_from place [] n i keyed endpoint h = absurd (let z : ◌≡◌ {A = ℕ} 0 1 = cc in omega arith)
narrow_from place (vacant ∷ l) n zero keyed endpoint h = absurd (let z : ◌≡◌ {A = ℕ} 0 1 = cc in omega arith)
narrow_from place (vacant ∷ l) n (suc i) keyed endpoint h = narrow_from (suc place) l n i keyed endpoint h
narrow_from place (live k y ∷ l) n zero keyed endpoint h =
    let e : y ≡ endpoint = cc in
    rw e at (ltb-true y (2 ^ endpoint_bits) (both (ltb y (2 ^ endpoint_bits)) (narrow (entries_from (suc place) l)) n).0)
narrow_from place (live k y ∷ l) n (suc i) keyed endpoint h =
    narrow_from (suc place) l (both (ltb y (2 ^ endpoint_bits)) (narrow (entries_from (suc place) l)) n).1 i keyed endpoint h

pub distinct_from : (place : ℕ) (l : List Shown) → distinct (entries_from place l) ≡ true → Differ l
unfolding entries_from distinct
distinct_from place [] d i j k m x p q = absurd (let z : ◌≡◌ {A = ℕ} 0 1 = cc in omega arith)
distinct_from place (vacant ∷ l) d zero j k m x p q = absurd (let z : ◌≡◌ {A = ℕ} 0 1 = cc in omega arith)
distinct_from place (vacant ∷ l) d (suc i) zero k m x p q = absurd (let z : ◌≡◌ {A = ℕ} 0 1 = cc in omega arith)
distinct_from place (vacant ∷ l) d (suc i) (suc j) k m x p q = ap suc (distinct_from (suc place) l d i j k m x p q)
distinct_from place (live a y ∷ l) d zero zero k m x p q = refl
distinct_from place (live a y ∷ l) d zero (suc j) k m x p q =
    let e : y ≡ x = cc in
    let u = not-true _ (both (not (mentions y (entries_from (suc place) l))) (distinct (entries_from (suc place) l)) d).0 in
    absurd (false_true (sym u ∙ ap (λ (z : ℕ). mentions z (entries_from (suc place) l)) e ∙ from_mentioned x (suc place) l j m q))
distinct_from place (live a y ∷ l) d (suc i) zero k m x p q =
    let e : y ≡ x = cc in
    let u = not-true _ (both (not (mentions y (entries_from (suc place) l))) (distinct (entries_from (suc place) l)) d).0 in
    absurd (false_true (sym u ∙ ap (λ (z : ℕ). mentions z (entries_from (suc place) l)) e ∙ from_mentioned x (suc place) l i k p))
distinct_from place (live a y ∷ l) d (suc i) (suc j) k m x p q =
    ap suc (distinct_from (suc place) l (both (not (mentions y (entries_from (suc place) l))) (distinct (entries_from (suc place) l)) d).1 i j k m x p q)

pub table_for : (es : List Entry) → Listable es → TableOf es
table_for es h =
    let g = good_true es (listable_good es h) in
    let r : entries_of (filled places 0 es) ≡ es = rebuilt places 0 es (omega arith) g.rises in
    record {
      shown = filled places 0 es;
      table = record {
        size = filled_length places 0 es;
        below = narrow_from 0 (filled places 0 es) (ap narrow r ∙ g.short);
        differ = distinct_from 0 (filled places 0 es) (ap distinct r ∙ g.differ);
      };
      gives = r;
    }
