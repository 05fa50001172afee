-- Laws of lists of numbers, and of the endpoints of a page's entries.
use Prim.Native.Nat.{ℕ, zero, suc, ◌+◌, ◌*◌, ◌≤◌, ◌<◌}
use mathlib.Core.Path.{◌≡◌, refl, sym, ap, ap₂, subst, ◌∙◌}
use mathlib.Core.Bool.{Bool, true, false, not, ◌&&◌, ◌||◌}
use mathlib.Core.List.{List, [], ◌∷◌, ◌++◌, map}
use native.Mathlib.Omega.{arith}
use native.Mathlib.Numerals.{add-one}
use Rattle.std.specs.List.{list_any}
use lib.Dec.{eqb}
use lib.ListN.{length, get_or, take, drop, set, drop_of_length-le}
use lib.Seq.{take-suc-set, drop-cons}
use Rattle.status.specs.Limits.{count_bits, entry_bits, page_bits}
use Rattle.status.specs.Numbers.{has, apart}
use Rattle.status.specs.Page.{entries_in}
use Rattle.status.specs.Entries.{rising, mentions, distinct, endpoint_of, entry_at, entries_at}
use Rattle.status.specs.declared.entry.Entry.{Entry}

-- ---- a number among others

-- as the library's search says it
pub has_any : (n : ℕ) (l : List ℕ) → list_any (λ x. eqb x n) l ≡ has n l
unfolding has
has_any n [] = refl
has_any n (x ∷ l) = ap (λ (b : Bool). eqb x n || b) (has_any n l)

-- ---- numbers that differ

module _ (l : List ℕ) (i : ℕ) (h : i < length l) where
  apart_here : apart (drop i l) ≡ (not (has (get_or l i 0) (drop (i + 1) l)) && apart (drop (i + 1) l))
  unfolding apart
  apart_here = rw (add-one, drop-cons l i 0 h)

  -- a number that comes again, and one that does not
  pub apart_not : list_any (λ x. eqb x (get_or l i 0)) (drop (i + 1) l) ≡ true → apart (drop i l) ≡ false
  apart_not e = apart_here ∙ rw (sym (has_any (get_or l i 0) (drop (i + 1) l)) ∙ e)

  pub apart_next : list_any (λ x. eqb x (get_or l i 0)) (drop (i + 1) l) ≡ false → apart (drop i l) ≡ apart (drop (i + 1) l)
  apart_next e = apart_here ∙ rw (sym (has_any (get_or l i 0) (drop (i + 1) l)) ∙ e)

pub apart_none : (l : List ℕ) (i : ℕ) → length l ≤ i → apart (drop i l) ≡ true
unfolding apart
apart_none l i h = rw (drop_of_length-le l h)

-- ---- of entries

mentions_has : (x : ℕ) (es : List Entry) → mentions x es ≡ has x (map endpoint_of es)
unfolding mentions has
mentions_has x [] = refl
mentions_has x (e ∷ es) = ap (λ (b : Bool). eqb e.endpoint x || b) (mentions_has x es)

pub distinct_apart : (es : List Entry) → distinct es ≡ apart (map endpoint_of es)
unfolding distinct apart
distinct_apart [] = refl
distinct_apart (e ∷ es) = ap₂ (λ (a b : Bool). not a && b) (mentions_has e.endpoint es) (distinct_apart es)

-- of entries whose places rise it is enough to compare the endpoints
pub rising_apart : (s : List ℕ) (n : ℕ) {m : ℕ} {list : List ℕ} {rises differ : Bool} → rises ≡ rising 0 (entries_in s m)
    → (rises ≡ true → list ≡ map endpoint_of (entries_in s m)) → rises ≡ true → differ ≡ apart list → m ≡ n
    → differ ≡ (rising 0 (entries_in s n) && distinct (entries_in s n))
rising_apart s n {m} {list} {rises} {differ} e stored t d k =
    subst (λ (i : ℕ). differ ≡ (rising 0 (entries_in s i) && distinct (entries_in s i))) k
    (rw (sym e ∙ t) (d ∙ ap apart (stored t) ∙ sym (distinct_apart (entries_in s m))))

-- the last of so many entries
entries_last : (f : ℕ → ℕ) (at n : ℕ) → map endpoint_of (entries_at f at (suc n)) ≡ map endpoint_of (entries_at f at n) ++ ((entry_at f (at + n * entry_bits)).endpoint ∷ [])
unfolding entries_at
entries_last f at zero =
    let e : at ≡ at + zero * entry_bits = omega arith in
    ap (λ (a : ℕ). (entry_at f a).endpoint ∷ []) e
entries_last f at (suc n) =
    let e : at + entry_bits + n * entry_bits ≡ at + suc n * entry_bits = omega arith in
    ap (λ (z : List ℕ). (entry_at f at).endpoint ∷ z)
    (entries_last f (at + entry_bits) n ∙ ap (λ (a : ℕ). map endpoint_of (entries_at f (at + entry_bits) n) ++ ((entry_at f a).endpoint ∷ [])) e)

pub endpoints_none : (l : List ℕ) (f : ℕ → ℕ) → take 0 l ≡ map endpoint_of (entries_at f count_bits 0)
unfolding entries_at
endpoints_none l f = refl

-- one endpoint more is stored
pub endpoints_next : (l : List ℕ) (f : ℕ → ℕ) (i : ℕ) (e : Entry) → i < length l → take i l ≡ map endpoint_of (entries_at f count_bits i) → e ≡ entry_at f (page_bits i)
    → take (i + 1) (set l i e.endpoint) ≡ map endpoint_of (entries_at f count_bits (i + 1))
endpoints_next l f i e h p k =
    rw add-one (take-suc-set l i e.endpoint h ∙ ap₂ (λ (z : List ℕ) (x : Entry). z ++ (x.endpoint ∷ [])) p k ∙ sym (entries_last f count_bits i))
