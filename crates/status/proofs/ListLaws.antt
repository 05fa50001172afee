-- A list passes the tests exactly if it is what the claim says in words.
use Prim.Native.Nat.{ℕ, zero, suc, ◌+◌, ◌^◌, ◌≤◌, ◌<◌}
use mathlib.Core.Path.{◌≡◌, refl, sym, ◌∙◌}
use mathlib.Core.Bool.{Bool, true, false, not, ◌||◌}
use mathlib.Core.List.{List, [], ◌∷◌}
use native.Mathlib.Omega.{arith}
use lib.Dec.{ltb, eqb}
use lib.ListN.{length, get_or}
use borrow.Author.Tests.{ltb-true, le-leb, lt-ltb, eq-eqb, ne_eqb, not-true}
use Rattle.octets.proofs.Tests.{both, false_true}
use Rattle.status.specs.Limits.{places, endpoint_bits}
use Rattle.status.specs.Entries.{rising, mentions, distinct, narrow, good}
use Rattle.status.specs.Page.{no_entry}
use Rattle.status.specs.Claims.{Listable}
use Rattle.status.specs.declared.entry.Entry.{Entry}
use Rattle.status.proofs.EntryLaws.{rising_head}
use Rattle.status.proofs.PageLaws.{good_true}

abbrev at : List Entry → ℕ → Entry
at es i = get_or es i no_entry

-- ---- what the tests say

rising_says : (least : ℕ) (es : List Entry) → rising least es ≡ true → (i : ℕ) → i < length es → (least ≤ (at es i).place) × ((at es i).place < places)
rising_says least [] r i h = absurd (omega arith)
rising_says least (e ∷ es) r zero h = let a = rising_head least e es r in (a.0, a.1)
rising_says least (e ∷ es) r (suc i) h =
    let a = rising_head least e es r in
    let b = rising_says (e.place + 1) es a.2 i (omega arith) in
    (omega arith, b.1)

rising_pairs : (least : ℕ) (es : List Entry) → rising least es ≡ true → (i j : ℕ) → i < j → j < length es → (at es i).place < (at es j).place
rising_pairs least [] r i j h k = absurd (omega arith)
rising_pairs least (e ∷ es) r i zero h k = absurd (omega arith)
rising_pairs least (e ∷ es) r zero (suc j) h k =
    let a = rising_head least e es r in
    omega (arith, (rising_says (e.place + 1) es a.2 j (omega arith)).0)
rising_pairs least (e ∷ es) r (suc i) (suc j) h k = rising_pairs (e.place + 1) es (rising_head least e es r).2 i j (omega arith) (omega arith)

narrow_says : (es : List Entry) → narrow es ≡ true → (i : ℕ) → i < length es → (at es i).endpoint < 2 ^ endpoint_bits
unfolding narrow
narrow_says [] r i h = absurd (omega arith)
narrow_says (e ∷ es) r zero h = ltb-true _ _ (both (ltb e.endpoint (2 ^ endpoint_bits)) (narrow es) r).0
narrow_says (e ∷ es) r (suc i) h = narrow_says es (both (ltb e.endpoint (2 ^ endpoint_bits)) (narrow es) r).1 i (omega arith)

neither : (a b : Bool) → (a || b) ≡ false → (a ≡ false) × (b ≡ false)
neither true b h = absurd (false_true (sym h))
neither false b h = (refl, h)

unmentioned : (x : ℕ) (es : List Entry) → mentions x es ≡ false → (i : ℕ) → i < length es → x ≡ (at es i).endpoint → ⊥
unfolding mentions
unmentioned x [] m i h q = omega arith
unmentioned x (e ∷ es) m zero h q = false_true (sym (neither (eqb e.endpoint x) (mentions x es) m).0 ∙ eq-eqb e.endpoint x (sym q))
unmentioned x (e ∷ es) m (suc i) h q = unmentioned x es (neither (eqb e.endpoint x) (mentions x es) m).1 i (omega arith) q

distinct_says : (es : List Entry) → distinct es ≡ true → (i j : ℕ) → i < j → j < length es → (at es i).endpoint ≡ (at es j).endpoint → ⊥
unfolding distinct
distinct_says [] d i j h k q = omega arith
distinct_says (e ∷ es) d i zero h k q = omega arith
distinct_says (e ∷ es) d zero (suc j) h k q =
    unmentioned e.endpoint es (not-true _ (both (not (mentions e.endpoint es)) (distinct es) d).0) j (omega arith) q
distinct_says (e ∷ es) d (suc i) (suc j) h k q =
    distinct_says es (both (not (mentions e.endpoint es)) (distinct es) d).1 i j (omega arith) (omega arith) q

-- ---- the way back

listable_tail : (e : Entry) (es : List Entry) → Listable (e ∷ es) → Listable es
listable_tail e es l = record {
  place_below = λ i h. l.place_below (suc i) (omega arith);
  endpoint_below = λ i h. l.endpoint_below (suc i) (omega arith);
  places_rise = λ i j h k. l.places_rise (suc i) (suc j) (omega arith) (omega arith);
  endpoints_differ = λ i j h k. l.endpoints_differ (suc i) (suc j) (omega arith) (omega arith);
}

rising_back : (least : ℕ) (es : List Entry) → Listable es → (0 < length es → least ≤ (at es 0).place) → rising least es ≡ true
unfolding rising
rising_back least [] l h = refl
rising_back least (e ∷ es) l h =
    rw (le-leb least e.place (h (omega arith)), lt-ltb e.place places (l.place_below 0 (omega arith)))
    (rising_back (e.place + 1) es (listable_tail e es l) (λ k. omega (arith, l.places_rise 0 1 (omega arith) (omega arith))))

narrow_back : (es : List Entry) → Listable es → narrow es ≡ true
unfolding narrow
narrow_back [] l = refl
narrow_back (e ∷ es) l = rw (lt-ltb e.endpoint (2 ^ endpoint_bits) (l.endpoint_below 0 (omega arith))) (narrow_back es (listable_tail e es l))

mentions_back : (x : ℕ) (es : List Entry) → ((i : ℕ) → i < length es → x ≡ (at es i).endpoint → ⊥) → mentions x es ≡ false
unfolding mentions
mentions_back x [] h = refl
mentions_back x (e ∷ es) h =
    rw (ne_eqb e.endpoint x (λ q. h 0 (omega arith) (sym q))) (mentions_back x es (λ i k. h (suc i) (omega arith)))

distinct_back : (es : List Entry) → Listable es → distinct es ≡ true
unfolding distinct
distinct_back [] l = refl
distinct_back (e ∷ es) l =
    rw (mentions_back e.endpoint es (λ i k. l.endpoints_differ 0 (suc i) (omega arith) (omega arith))) (distinct_back es (listable_tail e es l))

-- ---- both

pub good_listable : (es : List Entry) → good es ≡ true → Listable es
good_listable es h =
    let g = good_true es h in
    record {
      place_below = λ i k. (rising_says 0 es g.rises i k).1;
      endpoint_below = narrow_says es g.short;
      places_rise = rising_pairs 0 es g.rises;
      endpoints_differ = distinct_says es g.differ;
    }

pub listable_good : (es : List Entry) → Listable es → good es ≡ true
unfolding good
listable_good es l = rw (rising_back 0 es l (λ k. omega arith), distinct_back es l, narrow_back es l)
