-- The reader accepts exactly the pages that some table can give, and gives back what was laid out.
use Prim.Native.Nat.{ℕ, ◌+◌, ◌*◌, ◌<◌}
use mathlib.Core.Path.{◌≡◌, refl, sym, ap, subst, ◌∙◌}
use mathlib.Core.Bool.{Bool, true, false}
use mathlib.Core.List.{List, [], ◌∷◌, ◌++◌, append-nil}
use native.Mathlib.Omega.{arith}
use lib.ListN.{length, get_or, replicate, get_or-replicate, length-replicate}
use lib.Seq.{ext_get_or}
use borrow.Author.Tests.{lt-ltb}
use Rattle.octets.specs.Part.{same}
use Rattle.octets.proofs.Tests.{both}
use Rattle.octets.proofs.SameLaws.{same_refl, same_true}
use Rattle.status.specs.Limits.{count_bits}
use Rattle.status.specs.Bits.{bits_of, bit_in, octets_for}
use Rattle.status.specs.Entries.{bits_of_entries, good}
use Rattle.status.specs.Places.{Shown, entries_of}
use Rattle.status.specs.Page.{bits_of_page, layout, count_of, decoded, is_page, no_entry, counting, picking}
use Rattle.status.specs.Page as Page
use Rattle.status.specs.Claims.{nth, Listable, ReadOut, Accepts, LaidOut, Table, TableOf}
use Rattle.status.specs.declared.entry.Entry.{Entry}
use Rattle.status.proofs.LimitFacts.{count_octets}
use Rattle.status.proofs.BitLaws.{value_zero, zero_bits, length_bits}
use Rattle.status.proofs.PackLaws.{pack_length, pack_octet}
use Rattle.status.proofs.PageLaws.{good_true, layout_count, layout_decoded, decoded_length}
use Rattle.status.proofs.ReadLaws.{count_read, not_a_page, nothing_there, not_there}
use Rattle.status.proofs.NumberLaws.{laid_number}
use Rattle.status.proofs.ListLaws.{good_listable, listable_good}
use Rattle.status.proofs.TableLaws.{listable_of, table_for}

module _ (es : List Entry) (l : Listable es) where
  page_good : good es ≡ true
  page_good = listable_good es l

  is_page_lem : is_page (layout es) ≡ true
  unfolding is_page
  is_page_lem = rw (layout_decoded es (good_true es page_good), page_good) (same_refl (layout es))

  laid_count : counting (layout es) ≡ Page.entries (length es)
  unfolding counting
  laid_count = rw is_page_lem (ap Page.entries (layout_count es (good_true es page_good)))

  laid_entry : (n : ℕ) → n < length es → picking (layout es) n ≡ Page.entry (nth es n)
  unfolding picking
  laid_entry n h =
      let g = good_true es page_good in
      let k : n < count_of (layout es) = omega (arith, layout_count es g) in
      rw (is_page_lem, lt-ltb n (count_of (layout es)) k, layout_decoded es g)

  -- what was laid out is read back
  pub reads_back : ReadOut (layout es) es
  reads_back = record {
    counted = laid_count;
    each = laid_entry;
    behind = λ n h. sym (not_there (layout es) (length es) n (sym laid_count) h);
  }

  -- as one number it is its fields in their order
  pub laid_out : LaidOut es
  laid_out = laid_number es (good_true es page_good)

-- what is read of octets that are accepted

page_read : (s : List ℕ) → is_page s ≡ true → Listable (decoded s) × (layout (decoded s) ≡ s)
unfolding is_page
page_read s h =
    let g = both (good (decoded s)) (same (layout (decoded s)) s) h in
    (good_listable (decoded s) g.0, same_true (layout (decoded s)) s g.1)

read_decoded : (s : List ℕ) (es : List Entry) → ReadOut s es → es ≡ decoded s
unfolding picking
read_decoded s es r =
    let k = count_read s (length es) (sym r.counted) in
    ext_get_or no_entry es (decoded s) (k.0 ∙ sym (decoded_length s))
    (λ n h.
    let l : n < count_of s = omega (arith, k.0) in
    let e : Page.entry (get_or (decoded s) n no_entry) ≡ picking s n = sym (rw (k.1, lt-ltb n (count_of s) l)) in
    let d : Page.entry (get_or (decoded s) n no_entry) ≡ Page.entry (nth es n) = e ∙ r.each n h in
    cc)

read_accepted : (s : List ℕ) (es : List Entry) → ReadOut s es → Listable es × (layout es ≡ s)
read_accepted s es r =
    let k = count_read s (length es) (sym r.counted) in
    subst (λ (z : List Entry). Listable z × (layout z ≡ s)) (sym (read_decoded s es r)) (page_read s k.1)

page_accepted : (s : List ℕ) (es : List Entry) → Listable es × (layout es ≡ s) → ReadOut s es
page_accepted s es p = subst (λ (z : List ℕ). ReadOut z es) p.1 (reads_back es p.0)

refused_otherwise : (s : List ℕ) → ((es : List Entry) → Listable es → layout es ≡ s → ⊥) → (counting s ≡ Page.refused 29) × ((n : ℕ) → picking s n ≡ Page.refused 29)
refused_otherwise s h = go (is_page s) refl
  where
    go : (b : Bool) → is_page s ≡ b → (counting s ≡ Page.refused 29) × ((n : ℕ) → picking s n ≡ Page.refused 29)
    go true e = let p = page_read s e in absurd (h (decoded s) p.0 p.1)
    go false e = (sym (not_a_page s e), λ n. sym (nothing_there s n (not_a_page s e)))

-- "a reader that accepts exactly the pages some table can give"
pub accepts : (s : List ℕ) → Accepts s
accepts s = record {
  exactly = λ es. (read_accepted s es, page_accepted s es);
  otherwise = refused_otherwise s;
}

-- octets that are counted are the page of entries that a table can give
pub counted_list : (s : List ℕ) (count : ℕ) → counting s ≡ Page.entries count → (es : List Entry) × Listable es × (layout es ≡ s)
counted_list s count e = let p = page_read s (count_read s count (sym e)).1 in (decoded s, p.0, p.1)

-- two lists with one page are one list
pub one_list : (es fs : List Entry) → Listable es → Listable fs → layout es ≡ layout fs → es ≡ fs
one_list es fs k l e =
    sym (layout_decoded es (good_true es (listable_good es k))) ∙ ap decoded e ∙ layout_decoded fs (good_true fs (listable_good fs l))

-- ---- of tables

pub table_listable : (l : List Shown) → Table l → Listable (entries_of l)
table_listable l t = listable_of l t

pub table_of : (es : List Entry) → Listable es → TableOf es
table_of es h = table_for es h

pub none_listable : Listable []
none_listable = record {
  place_below = λ n h. absurd (omega arith);
  endpoint_below = λ n h. absurd (omega arith);
  places_rise = λ m n h k. absurd (omega arith);
  endpoints_differ = λ m n h k q. omega arith;
}

-- with nothing live every bit is zero
pub layout_zero : layout [] ≡ replicate (octets_for count_bits) 0
unfolding layout bits_of_page bits_of_entries
layout_zero =
    let n : length (bits_of count_bits 0 ++ []) ≡ count_bits = ap length (append-nil (bits_of count_bits 0)) ∙ length_bits count_bits 0 in
    let m = pack_length (bits_of count_bits 0 ++ []) ∙ ap octets_for n in
    ext_get_or 0 (layout []) (replicate (octets_for count_bits) 0) (m ∙ sym (length-replicate {A = ℕ} (octets_for count_bits) 0))
    (λ i h.
    pack_octet (bits_of count_bits 0 ++ []) i (rw (pack_length (bits_of count_bits 0 ++ [])) at h)
    ∙ value_zero (bit_in (bits_of count_bits 0 ++ [])) (i * 8) 8 (λ j _. ap (λ (q : List ℕ). bit_in q (i * 8 + j)) (append-nil (bits_of count_bits 0)) ∙ zero_bits count_bits (i * 8 + j))
    ∙ sym (get_or-replicate {A = ℕ} (octets_for count_bits) i 0 0 (rw m at h)))

-- "a down tunnel shows zero": one octet
pub layout_none : layout [] ≡ 0 ∷ []
layout_none = layout_zero ∙ ap (λ (n : ℕ). replicate {A = ℕ} n 0) count_octets
