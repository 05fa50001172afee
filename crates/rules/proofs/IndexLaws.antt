-- Laws of the index in a block: what it reads as, and what an entry more or less makes of it.
use Prim.Native.Nat.{ℕ, zero, suc, ◌+◌, ◌*◌, ◌-◌, ◌≤◌, ◌<◌, zero-le}
use mathlib.Core.Path.{◌≡◌, refl, sym, ap, ap₂, subst, ◌∙◌}
use mathlib.Core.List.{List, [], ◌∷◌, ◌++◌, append_assoc, append-nil}
use native.Mathlib.Omega.{arith}
use native.Mathlib.Nat.{le_of_suc-le-suc, not-suc-le-zero}
use borrow.Author.Tests.{lt-ltb, le-ltb}
use lib.ListN.{length, get_or, take, replicate, length-append, length-replicate}
use lib.Seq.{take_at}
use Rattle.octets.specs.Number.{octet_at, number16_at, octets_of_16}
use Rattle.octets.specs.Write.{over}
use Rattle.octets.proofs.HoldLaws.{Holds, holds_all, holds_two, holds_octet}
use Rattle.octets.proofs.Tests.{by_size}
use Rattle.rules.specs.Order.{Entry, entry}
use Rattle.rules.specs.Limits.{places}
use Rattle.rules.specs.Layout.{index_at, index_places_at, index_endpoints_at, block_length, padded}
use Rattle.rules.specs.Index.{count_of, index_endpoint, index_place, column, endpoint_octets, place_octets, index_octets, entered, withdrawn, inserted_at, removed_at}
use Rattle.rules.proofs.Entries.{endpoints, places_in, insert_at, remove_at}
use Rattle.rules.proofs.ChunkLaws.{replicate_add}
use Rattle.rules.proofs.FieldLaws.{padded_length, holds_number16, holds_quad}
use Rattle.rules.proofs.ShiftLaws.{over_at, entered_at, withdrawn_at}

pub count_within : (s : List ℕ) → count_of s ≤ places
unfolding count_of
count_within s = by_size (number16_at s index_at) places (λ u. rw (lt-ltb _ _ u) (omega arith)) (λ u. rw (le-ltb _ _ u) (omega arith))

-- ---- zeros, and lists in another grouping

abbrev zeros : ℕ → List ℕ
zeros n = replicate n 0

-- zeros behind, up to a size
unfoldable filled : (size : ℕ) → List ℕ → List ℕ
filled size x = x ++ zeros (size - length x)

filled_length : (size : ℕ) (x : List ℕ) → length x ≤ size → length (filled size x) ≡ size
unfolding filled
filled_length size x h = length-append x (zeros (size - length x)) ∙ ap (λ (n : ℕ). length x + n) (length-replicate {A = ℕ} (size - length x) 0) ∙ omega arith

padded_filled : (size : ℕ) (x : List ℕ) → length x ≤ size → padded size x ≡ filled size x
unfolding padded filled
padded_filled size x h =
    let n : size ≡ size - length x + length x = omega arith in
    ap (λ (l : List ℕ). take size (x ++ l)) (ap (λ (i : ℕ). zeros i) n ∙ replicate_add (size - length x) (length x) 0)
    ∙ ap (take size) (sym (append_assoc x (zeros (size - length x)) (zeros (length x))))
    ∙ take_at (x ++ zeros (size - length x)) (zeros (length x)) size (filled_length size x h)

rest : (size n k w : ℕ) → n ≡ k → k + w ≤ size → size - n ≡ w + (size - (k + w))
rest size n k w e h = omega arith

gap : (size a b k w : ℕ) → a + (w + b) ≡ k → k ≤ size → w + (size - k) ≡ size - (a + b)
gap size a b k w e h = omega arith

module _ (u a b z r v : List ℕ) where
  around : u ++ (((a ++ b) ++ (z ++ r)) ++ v) ≡ (u ++ a) ++ (b ++ (z ++ (r ++ v)))
  around = simp append_assoc

  back : (u ++ a) ++ (b ++ (z ++ (r ++ v))) ≡ u ++ (((a ++ (b ++ z)) ++ r) ++ v)
  back = simp append_assoc

-- ---- a column of entries, w octets each

module _ (octets : Entry → List ℕ) (w : ℕ) (wide : (x : Entry) → length (octets x) ≡ w) where
  column_length : (m : List Entry) → length (column octets m) ≡ w * length m
  unfolding column
  column_length [] = omega arith
  column_length (x ∷ m) =
      let n : w * suc (length m) ≡ w + w * length m = omega arith in
      length-append (octets x) (column octets m) ∙ ap₂ ◌+◌ (wide x) (column_length m) ∙ sym n

  both_hold : {s : List ℕ} {at : ℕ} (r : List ℕ) (x : Entry) (m : List Entry) → Holds s (column octets (x ∷ m) ++ r) at → Holds s (octets x) at × Holds s (column octets m ++ r) (at + w)
  unfolding column
  both_hold {s} {at} r x m k =
      let a : Holds s (octets x ++ (column octets m ++ r)) at = subst (λ (l : List ℕ). Holds s l at) (append_assoc (octets x) (column octets m) r) k in
      holds_two (octets x) (column octets m ++ r) a (at + w) (ap (λ (n : ℕ). at + n) (wide x))

  column_holds : {s : List ℕ} {at : ℕ} (r : List ℕ) (m : List Entry) (i : ℕ) → i < length m → Holds s (column octets m ++ r) at
      → Holds s (octets (get_or m i (entry 0 0))) (at + w * i)
  unfolding column
  column_holds r [] i h k = absurd (not-suc-le-zero h)
  column_holds {s} {at} r (x ∷ m) zero h k =
      let n : at ≡ at + w * 0 = omega arith in
      subst (λ (i : ℕ). Holds s (octets x) i) n (both_hold r x m k).0
  column_holds {s} {at} r (x ∷ m) (suc i) h k =
      let n : at + w + w * i ≡ at + w * suc i = omega arith in
      subst (λ (j : ℕ). Holds s (octets (get_or m i (entry 0 0))) j) n (column_holds {at = at + w} r m i (le_of_suc-le-suc h) (both_hold r x m k).1)

  -- ---- an entry more

  record Parts (m : List Entry) (at : ℕ) : Type 0 where
    low : List ℕ
    high : List ℕ
    whole : column octets m ≡ low ++ high
    lows : length low ≡ w * at
    more : (x : Entry) → column octets (insert_at at x m) ≡ low ++ (octets x ++ high)

  parts : (m : List Entry) (at : ℕ) → at ≤ length m → Parts m at
  unfolding column insert_at
  parts m zero h = record { low = []; high = column octets m; whole = refl; lows = omega arith; more = λ x. refl }
  parts [] (suc at) h = absurd (not-suc-le-zero h)
  parts (y ∷ m) (suc at) h =
      let p = parts m at (le_of_suc-le-suc h) in
      let n : w + w * at ≡ w * suc at = omega arith in
      record {
        low = octets y ++ p.low;
        high = p.high;
        whole = ap (λ (l : List ℕ). octets y ++ l) p.whole ∙ sym (append_assoc (octets y) p.low p.high);
        lows = length-append (octets y) p.low ∙ ap₂ ◌+◌ (wide y) p.lows ∙ n;
        more = λ x. ap (λ (l : List ℕ). octets y ++ l) (p.more x) ∙ sym (append_assoc (octets y) p.low (octets x ++ p.high));
      }

  -- ---- an entry less

  record Pieces (m : List Entry) (at : ℕ) : Type 0 where
    low : List ℕ
    out : List ℕ
    high : List ℕ
    whole : column octets m ≡ low ++ (out ++ high)
    lows : length low ≡ w * at
    outs : length out ≡ w
    less : column octets (remove_at at m) ≡ low ++ high

  pieces : (m : List Entry) (at : ℕ) → at < length m → Pieces m at
  unfolding column remove_at
  pieces [] at h = absurd (not-suc-le-zero h)
  pieces (y ∷ m) zero h = record { low = []; out = octets y; high = column octets m; whole = refl; lows = omega arith; outs = wide y; less = refl }
  pieces (y ∷ m) (suc at) h =
      let p = pieces m at (le_of_suc-le-suc h) in
      let n : w + w * at ≡ w * suc at = omega arith in
      record {
        low = octets y ++ p.low;
        out = p.out;
        high = p.high;
        whole = ap (λ (l : List ℕ). octets y ++ l) p.whole ∙ sym (append_assoc (octets y) p.low (p.out ++ p.high));
        lows = length-append (octets y) p.low ∙ ap₂ ◌+◌ (wide y) p.lows ∙ n;
        outs = p.outs;
        less = ap (λ (l : List ℕ). octets y ++ l) p.less ∙ sym (append_assoc (octets y) p.low p.high);
      }

  -- ---- a column within a block, zeros behind it

  module _ (u v : List ℕ) (base : ℕ) (e : length u ≡ base) (size : ℕ) (m : List Entry) (at : ℕ) where
    column_entered : (x : Entry) → at ≤ length m → w * length m + w ≤ size
        → entered (u ++ (filled size (column octets m) ++ v)) (base + w * at) (base + w * length m) (octets x)
        ≡ u ++ (filled size (column octets (insert_at at x m)) ++ v)
    unfolding filled
    column_entered x h k =
        let p = parts m at h in
        let r = zeros (size - (w * length m + w)) in
        let n = column_length m in
        let a : length (p.low ++ p.high) ≡ w * length m = ap length (sym p.whole) ∙ n in
        let b : length p.low + length p.high ≡ w * length m = sym (length-append p.low p.high) ∙ a in
        let c : length (u ++ p.low) ≡ base + w * at = length-append u p.low ∙ ap₂ ◌+◌ e p.lows in
        let z : zeros (size - length (column octets m)) ≡ zeros w ++ r =
        ap (λ (i : ℕ). zeros i) (rest size (length (column octets m)) (w * length m) w n k) ∙ replicate_add w (size - (w * length m + w)) 0 in
        let l : length (p.low ++ (octets x ++ p.high)) ≡ w * length m + w =
        length-append p.low (octets x ++ p.high) ∙ ap (λ (i : ℕ). length p.low + i) (length-append (octets x) p.high) ∙ omega (arith, wide x) in
        let y : zeros (size - length (column octets (insert_at at x m))) ≡ r = ap (λ (i : ℕ). zeros (size - i)) (ap length (p.more x) ∙ l) in
        ap (λ (s : List ℕ). entered s (base + w * at) (base + w * length m) (octets x))
        (ap₂ (λ (i j : List ℕ). u ++ ((i ++ j) ++ v)) p.whole z ∙ around u p.low p.high (zeros w) r v)
        ∙ entered_at (u ++ p.low) (r ++ v) (octets x) (base + w * at) (base + w * length m) c p.high (zeros w)
        (omega (arith, p.lows)) (length-replicate {A = ℕ} w 0 ∙ sym (wide x))
        ∙ back u p.low (octets x) p.high r v
        ∙ sym (ap₂ (λ (i j : List ℕ). u ++ ((i ++ j) ++ v)) (p.more x) y)

    column_withdrawn : at < length m → w * length m ≤ size
        → withdrawn (u ++ (filled size (column octets m) ++ v)) (base + w * at) (base + w * length m) (zeros w)
        ≡ u ++ (filled size (column octets (remove_at at m)) ++ v)
    unfolding filled
    column_withdrawn h k =
        let p = pieces m at h in
        let r = zeros (size - w * length m) in
        let n = column_length m in
        let a : length p.low + (length p.out + length p.high) ≡ w * length m =
        sym (length-append p.low (p.out ++ p.high) ∙ ap (λ (i : ℕ). length p.low + i) (length-append p.out p.high)) ∙ ap length (sym p.whole) ∙ n in
        let c : length (u ++ p.low) ≡ base + w * at = length-append u p.low ∙ ap₂ ◌+◌ e p.lows in
        let q : length (zeros w) ≡ w = length-replicate {A = ℕ} w 0 in
        let d : base + w * at + length (zeros w) + length p.high ≡ base + w * length m = omega (arith, p.lows, p.outs) in
        let y : zeros w ++ r ≡ zeros (size - length (column octets (remove_at at m))) =
        sym (replicate_add w (size - w * length m) 0)
        ∙ ap (λ (i : ℕ). zeros i) (gap size (length p.low) (length p.high) (w * length m) w (omega (arith, p.outs)) k
        ∙ ap (λ (i : ℕ). size - i) (sym (ap length p.less ∙ length-append p.low p.high))) in
        ap (λ (s : List ℕ). withdrawn s (base + w * at) (base + w * length m) (zeros w))
        (ap₂ (λ (i j : List ℕ). u ++ ((i ++ j) ++ v)) p.whole (ap (λ (i : ℕ). zeros (size - i)) n) ∙ sym (back u p.low p.out p.high r v))
        ∙ withdrawn_at (u ++ p.low) (r ++ v) (zeros w) (base + w * at) (base + w * length m) c p.high p.out d (p.outs ∙ sym q)
        ∙ sym (around u p.low p.high (zeros w) r v)
        ∙ ap₂ (λ (i j : List ℕ). u ++ ((i ++ j) ++ v)) (sym p.less) y

-- ---- the index in a block

endpoint_of_lem : (m : List Entry) (i : ℕ) → get_or (endpoints m) i 0 ≡ (get_or m i (entry 0 0)).endpoint
endpoint_of_lem [] i = refl
endpoint_of_lem (x ∷ m) zero = refl
endpoint_of_lem (x ∷ m) (suc i) = endpoint_of_lem m i

place_of : (m : List Entry) (i : ℕ) → get_or (places_in m) i 0 ≡ (get_or m i (entry 0 0)).place
place_of [] i = refl
place_of (x ∷ m) zero = refl
place_of (x ∷ m) (suc i) = place_of m i

pub length_insert_at : (at : ℕ) (x : Entry) (m : List Entry) → length (insert_at at x m) ≡ suc (length m)
unfolding insert_at
length_insert_at zero x m = refl
length_insert_at (suc at) x [] = refl
length_insert_at (suc at) x (y ∷ m) = ap suc (length_insert_at at x m)

pub length_remove_at : (at : ℕ) (m : List Entry) → at < length m → suc (length (remove_at at m)) ≡ length m
unfolding remove_at
length_remove_at at [] h = absurd (not-suc-le-zero h)
length_remove_at zero (y ∷ m) h = refl
length_remove_at (suc at) (y ∷ m) h = ap suc (length_remove_at at m (le_of_suc-le-suc h))

wide4 : (x : Entry) → length (endpoint_octets x) ≡ 4
wide4 x = refl

wide1 : (x : Entry) → length (place_octets x) ≡ 1
wide1 x = refl

-- the places, of one octet each
module _ (u v : List ℕ) (base : ℕ) (e : length u ≡ base) (m : List Entry) (at : ℕ) where
  abbrev whole : List ℕ
  whole = u ++ (filled places (column place_octets m) ++ v)

  once : (n : ℕ) → n ≡ 1 * n
  once n = omega arith

  place_entered : (x : Entry) → at ≤ length m → length m < places
      → entered whole (base + at) (base + length m) (place_octets x) ≡ u ++ (filled places (column place_octets (insert_at at x m)) ++ v)
  place_entered x h g =
      ap₂ (λ (i j : ℕ). entered whole (base + i) (base + j) (place_octets x)) (once at) (once (length m))
      ∙ column_entered place_octets 1 wide1 u v base e places m at x h (omega arith)

  place_withdrawn : at < length m → length m ≤ places
      → withdrawn whole (base + at) (base + length m) (zeros 1) ≡ u ++ (filled places (column place_octets (remove_at at m)) ++ v)
  place_withdrawn h g =
      ap₂ (λ (i j : ℕ). withdrawn whole (base + i) (base + j) (zeros 1)) (once at) (once (length m))
      ∙ column_withdrawn place_octets 1 wide1 u v base e places m at h (omega arith)

-- a block: what stands before the index, and the octets of these entries
pub record Indexed (front s : List ℕ) (m : List Entry) : Type 0 where
  pub size : length front ≡ index_at
  pub index : s ≡ front ++ index_octets m
  pub few : length m ≤ places

pub record Reads (s : List ℕ) (m : List Entry) : Type 0 where
  pub count : count_of s ≡ length m
  pub endpoint : (i : ℕ) → i < length m → index_endpoint s i ≡ get_or (endpoints m) i 0
  pub place : (i : ℕ) → i < length m → index_place s i ≡ get_or (places_in m) i 0

abbrev places_of : List Entry → List ℕ
places_of m = filled places (column place_octets m)

abbrev endpoints_of : List Entry → List ℕ
endpoints_of m = filled (4 * places) (column endpoint_octets m)

places_length : (m : List Entry) → length m ≤ places → length (places_of m) ≡ places
places_length m h = filled_length places (column place_octets m) (omega (arith, column_length place_octets 1 wide1 m))

endpoints_length : (m : List Entry) → length m ≤ places → length (endpoints_of m) ≡ 4 * places
endpoints_length m h = filled_length (4 * places) (column endpoint_octets m) (omega (arith, column_length endpoint_octets 4 wide4 m))

-- where there is room for all entries
octets_are : (m : List Entry) → length m ≤ places → index_octets m ≡ octets_of_16 (length m) ++ (places_of m ++ endpoints_of m)
unfolding index_octets
octets_are m h =
    ap₂ (λ (p e : List ℕ). octets_of_16 (length m) ++ (p ++ e))
    (padded_filled places (column place_octets m) (omega (arith, column_length place_octets 1 wide1 m)))
    (padded_filled (4 * places) (column endpoint_octets m) (omega (arith, column_length endpoint_octets 4 wide4 m)))

count_read : (s : List ℕ) (n : ℕ) → n ≤ places → number16_at s index_at ≡ n → count_of s ≡ n
unfolding count_of
count_read s n h e = by_size n places
    (λ u. rw (e, lt-ltb n places u) refl)
    (λ u. rw (e, le-ltb n places u) (omega arith))

pub reads : (front s : List ℕ) (m : List Entry) → Indexed front s m → Reads s m
unfolding filled index_endpoint index_place
reads front s m x =
    let z : 0 + length front ≡ index_at = omega (arith, x.size) in
    let o = x.index ∙ ap (λ (l : List ℕ). front ++ l) (octets_are m x.few) in
    let h = (holds_two front (octets_of_16 (length m) ++ (places_of m ++ endpoints_of m)) (holds_all s o) index_at z).1 in
    let c = holds_two (octets_of_16 (length m)) (places_of m ++ endpoints_of m) h index_places_at refl in
    let p = holds_two (places_of m) (endpoints_of m) c.1 index_endpoints_at (ap (λ (n : ℕ). index_places_at + n) (places_length m x.few)) in
    record {
      count = count_read s (length m) x.few (holds_number16 (length m) c.0);
      endpoint = λ i g.
          holds_quad (get_or m i (entry 0 0)).endpoint (column_holds endpoint_octets 4 wide4 (zeros (4 * places - length (column endpoint_octets m))) m i g p.1)
          ∙ sym (endpoint_of_lem m i);
      place = λ i g.
          let o : 1 * i ≡ i = omega arith in
          ap (λ (j : ℕ). octet_at s (index_places_at + j)) (sym o)
          ∙ holds_octet (column_holds place_octets 1 wide1 (zeros (places - length (column place_octets m))) m i g p.0) ∙ sym (place_of m i);
    }

-- ---- an entry more or less in a block

module _ (front c p e : List ℕ) where
  first_two : front ++ (c ++ (p ++ e)) ≡ (front ++ c) ++ (p ++ e)
  first_two = simp append_assoc

  first_three : (front ++ c) ++ (p ++ e) ≡ ((front ++ c) ++ p) ++ (e ++ [])
  first_three = simp (append_assoc, append-nil)

  none_behind : ((front ++ c) ++ p) ++ (e ++ []) ≡ front ++ (c ++ (p ++ e))
  none_behind = simp (append_assoc, append-nil)

module _ (front p e : List ℕ) (f : length front ≡ index_at) (h : length p ≡ places) (n : ℕ) where
  abbrev c : List ℕ
  c = octets_of_16 n

  two : length (front ++ c) ≡ index_places_at
  two = length-append front c ∙ omega arith

  three : length ((front ++ c) ++ p) ≡ index_endpoints_at
  three = length-append (front ++ c) p ∙ omega (arith, two)

  -- the count last
  counted : (l : ℕ) → over (((front ++ c) ++ p) ++ (e ++ [])) index_at (octets_of_16 l) ≡ front ++ (octets_of_16 l ++ (p ++ e))
  counted l =
      ap (λ (s : List ℕ). over s index_at (octets_of_16 l)) (none_behind front c p e)
      ∙ over_at front c (p ++ e) (octets_of_16 l) index_at f refl

module _ (f s : List ℕ) (m : List Entry) (at : ℕ) (i : Indexed f s m) where
  abbrev count : List ℕ
  count = octets_of_16 (length m)

  pub inserted_indexed : (x : Entry) → at ≤ length m → length m < places → Indexed f (inserted_at s at x.endpoint x.place) (insert_at at x m)
  unfolding inserted_at
  inserted_indexed x h g =
      let n = length_insert_at at x m in
      let l : length (insert_at at x m) ≤ places = omega arith in
      let n1 : length m + 1 ≡ length (insert_at at x m) = omega arith in
      let p = places_of (insert_at at x m) in
      let pl = places_length (insert_at at x m) l in
      record {
        size = i.size;
        index =
            rw ((reads f s m i).count, i.index, octets_are m i.few)
            (ap (λ (t : List ℕ). over (entered (entered t (index_places_at + at) (index_places_at + length m) (place_octets x)) (index_endpoints_at + 4 * at) (index_endpoints_at + 4 * length m) (endpoint_octets x)) index_at (octets_of_16 (length m + 1)))
            (first_two f count (places_of m) (endpoints_of m))
            ∙ ap (λ (t : List ℕ). over (entered t (index_endpoints_at + 4 * at) (index_endpoints_at + 4 * length m) (endpoint_octets x)) index_at (octets_of_16 (length m + 1)))
            (place_entered (f ++ count) (endpoints_of m) index_places_at (two f p (endpoints_of m) i.size pl (length m)) m at x h g
            ∙ first_three f count p (endpoints_of m))
            ∙ ap (λ (t : List ℕ). over t index_at (octets_of_16 (length m + 1)))
            (column_entered endpoint_octets 4 wide4 ((f ++ count) ++ p) [] index_endpoints_at (three f p (endpoints_of m) i.size pl (length m)) (4 * places) m at x h (omega arith))
            ∙ counted f p (endpoints_of (insert_at at x m)) i.size pl (length m) (length m + 1)
            ∙ ap (λ (j : ℕ). f ++ (octets_of_16 j ++ (p ++ endpoints_of (insert_at at x m)))) n1
            ∙ ap (λ (o : List ℕ). f ++ o) (sym (octets_are (insert_at at x m) l)));
        few = l;
      }

  pub removed_indexed : at < length m → Indexed f (removed_at s at) (remove_at at m)
  unfolding removed_at
  removed_indexed h =
      let n = length_remove_at at m h in
      let l : length (remove_at at m) ≤ places = omega (arith, i.few) in
      let n1 : length m - 1 ≡ length (remove_at at m) = omega arith in
      let p = places_of (remove_at at m) in
      let pl = places_length (remove_at at m) l in
      record {
        size = i.size;
        index =
            rw ((reads f s m i).count, i.index, octets_are m i.few)
            (ap (λ (t : List ℕ). over (withdrawn (withdrawn t (index_places_at + at) (index_places_at + length m) (zeros 1)) (index_endpoints_at + 4 * at) (index_endpoints_at + 4 * length m) (zeros 4)) index_at (octets_of_16 (length m - 1)))
            (first_two f count (places_of m) (endpoints_of m))
            ∙ ap (λ (t : List ℕ). over (withdrawn t (index_endpoints_at + 4 * at) (index_endpoints_at + 4 * length m) (zeros 4)) index_at (octets_of_16 (length m - 1)))
            (place_withdrawn (f ++ count) (endpoints_of m) index_places_at (two f p (endpoints_of m) i.size pl (length m)) m at h i.few
            ∙ first_three f count p (endpoints_of m))
            ∙ ap (λ (t : List ℕ). over t index_at (octets_of_16 (length m - 1)))
            (column_withdrawn endpoint_octets 4 wide4 ((f ++ count) ++ p) [] index_endpoints_at (three f p (endpoints_of m) i.size pl (length m)) (4 * places) m at h (omega (arith, i.few)))
            ∙ counted f p (endpoints_of (remove_at at m)) i.size pl (length m) (length m - 1)
            ∙ ap (λ (j : ℕ). f ++ (octets_of_16 j ++ (p ++ endpoints_of (remove_at at m)))) n1
            ∙ ap (λ (o : List ℕ). f ++ o) (sym (octets_are (remove_at at m) l)));
        few = l;
      }

pub index_length : (m : List Entry) → length (index_octets m) ≡ block_length - index_at
unfolding index_octets
index_length m =
    let p = padded places (column place_octets m) in
    let e = padded (4 * places) (column endpoint_octets m) in
    length-append (octets_of_16 (length m)) (p ++ e)
    ∙ ap (λ (n : ℕ). 2 + n) (length-append p e ∙ ap₂ ◌+◌ (padded_length places (column place_octets m)) (padded_length (4 * places) (column endpoint_octets m)))

-- ---- an empty index

pub index_empty : index_octets [] ≡ zeros (block_length - index_at)
unfolding column filled
index_empty =
    octets_are [] zero-le
    ∙ ap (λ (l : List ℕ). 0 ∷ 0 ∷ l) (sym (replicate_add places (4 * places) 0))
