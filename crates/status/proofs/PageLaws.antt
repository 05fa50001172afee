-- The page: laid out and read back, and read and laid out again.
use Prim.Native.Nat.{ℕ, ◌+◌, ◌-◌, ◌*◌, ◌%◌, ◌^◌, ◌≤◌}
use mathlib.Core.Path.{◌≡◌, refl, sym, ap, ap₂, subst, ◌∙◌}
use mathlib.Core.Bool.{Bool, true, false, ◌&&◌}
use mathlib.Core.List.{List, ◌++◌}
use native.Mathlib.Omega.{arith}
use native.Mathlib.Nat.{zero-add}
use lib.Dec.{eqb}
use lib.ListN.{length, length-append, get_or-eq_default}
use borrow.Author.Tests.{eqb-true, eqb-false}
use Rattle.octets.specs.Number.{octet_at, Octets}
use Rattle.octets.specs.Part.{same}
use Rattle.octets.proofs.Tests.{both, by_size}
use Rattle.octets.proofs.SameLaws.{same_refl, same_apart}
use Rattle.status.specs.Limits.{places, count_bits, page_bits}
use Rattle.status.specs.Bits.{bits_of, bit_in, value_of, octets_for, bit_at}
use Rattle.status.specs.Entries.{bits_of_entries, rising, distinct, narrow, good, entries_at}
use Rattle.status.specs.Page.{bits_of_page, layout, count_of, decoded}
use Rattle.status.specs.declared.entry.Entry.{Entry}
use Rattle.status.proofs.LimitFacts.{count_fits}
use Rattle.status.proofs.BitLaws.{Binary, Stands, binary_at, length_bits, binary_append, binary_bits, stands_first, stands_second, stands_both, stands_value, value_stands, value_zero, zero_value}
use Rattle.status.proofs.PackLaws.{pack_length, pack_bit, pack_back, bit_past}
use Rattle.status.proofs.WordLaws.{last_bits}
use Rattle.status.proofs.EntryLaws.{length_entries, binary_entries, length_entries_at, stands_entries, entries_stand, rising_length}

-- ---- what a good list is

pub record Good (es : List Entry) : Type 0 where
  pub rises : rising 0 es ≡ true
  pub differ : distinct es ≡ true
  pub short : narrow es ≡ true

pub good_true : (es : List Entry) → good es ≡ true → Good es
unfolding good
good_true es h =
    let a = both (rising 0 es && distinct es) (narrow es) h in
    let b = both (rising 0 es) (distinct es) a.0 in
    record { rises = b.0; differ = b.1; short = a.1 }

pub good_few : (es : List Entry) → Good es → length es ≤ places
good_few es g = omega (arith, rising_length 0 es (omega arith) g.rises)

-- ---- a page that was laid out

module _ (es : List Entry) where
  pub page_bits_lem : length (bits_of_page es) ≡ page_bits (length es)
  unfolding bits_of_page
  page_bits_lem = length-append (bits_of count_bits (length es)) (bits_of_entries es) ∙ ap₂ (λ (x y : ℕ). x + y) (length_bits count_bits (length es)) (length_entries es)

  -- octets of a page
  pub layout_length : length (layout es) ≡ octets_for (page_bits (length es))
  unfolding layout
  layout_length = pack_length (bits_of_page es) ∙ ap octets_for page_bits_lem

  pub binary_page : Binary (bit_in (bits_of_page es))
  unfolding bits_of_page
  binary_page = binary_append (bits_of count_bits (length es)) (bits_of_entries es) (binary_bits count_bits (length es)) (binary_entries es)

  pub layout_bit : (k : ℕ) → bit_at (layout es) k ≡ bit_in (bits_of_page es) k
  unfolding layout
  layout_bit k = pack_bit (bits_of_page es) binary_page k

  -- the filling is zero
  pub layout_filling : (k : ℕ) → page_bits (length es) ≤ k → bit_at (layout es) k ≡ 0
  layout_filling k h = layout_bit k ∙ get_or-eq_default (bits_of_page es) 0 (rw page_bits_lem h)

  layout_stands : Stands (bit_at (layout es)) 0 (bits_of count_bits (length es) ++ bits_of_entries es)
  unfolding bits_of_page
  layout_stands j h = rw zero-add (layout_bit j)

  module _ (g : Good es) where
    pub layout_count : count_of (layout es) ≡ length es
    unfolding count_of
    layout_count =
        stands_value (bit_at (layout es)) 0 count_bits (length es) (count_fits (length es) (good_few es g))
        (stands_first (bit_at (layout es)) 0 (bits_of count_bits (length es)) (bits_of_entries es) layout_stands)

    pub layout_decoded : decoded (layout es) ≡ es
    unfolding decoded
    layout_decoded =
        let e : 0 + length (bits_of count_bits (length es)) ≡ count_bits = zero-add (length (bits_of count_bits (length es))) ∙ length_bits count_bits (length es) in
        ap (entries_at (bit_at (layout es)) count_bits) layout_count
        ∙ stands_entries (bit_at (layout es)) count_bits es 0 g.rises g.short
        (stands_second (bit_at (layout es)) 0 (bits_of count_bits (length es)) (bits_of_entries es) count_bits e layout_stands)

-- ---- octets that are read

-- what stands behind so many bits in the last octet
abbrev pub filling : List ℕ → (bits : ℕ) → ℕ
filling s bits = value_of (bit_at s) bits (octets_for bits * 8 - bits)

module _ (s : List ℕ) where
  pub decoded_length : length (decoded s) ≡ count_of s
  unfolding decoded
  decoded_length = length_entries_at (bit_at s) count_bits (count_of s)

  count_stands : Stands (bit_at s) 0 (bits_of count_bits (length (decoded s)))
  unfolding count_of
  count_stands =
      subst (λ (n : ℕ). Stands (bit_at s) 0 (bits_of count_bits n)) (sym decoded_length) (value_stands (bit_at s) (binary_at s) 0 count_bits)

  rest_stands : Stands (bit_at s) count_bits (bits_of_entries (decoded s))
  unfolding decoded
  rest_stands = entries_stand (bit_at s) (binary_at s) count_bits (count_of s)

  page_stands : Stands (bit_at s) 0 (bits_of_page (decoded s))
  unfolding bits_of_page
  page_stands =
      let n = length (decoded s) in
      let e : 0 + length (bits_of count_bits n) ≡ count_bits = zero-add (length (bits_of count_bits n)) ∙ length_bits count_bits n in
      stands_both (bit_at s) 0 (bits_of count_bits n) (bits_of_entries (decoded s)) count_bits e count_stands rest_stands

  decoded_width : length (bits_of_page (decoded s)) ≡ page_bits (count_of s)
  decoded_width = page_bits_lem (decoded s) ∙ ap page_bits decoded_length

  -- octets of the right number whose filling is zero are laid out again
  pub relaid : Octets s → length s ≡ octets_for (page_bits (count_of s)) → filling s (page_bits (count_of s)) ≡ 0 → layout (decoded s) ≡ s
  unfolding layout
  relaid o l z =
      pack_back (bits_of_page (decoded s)) s o (l ∙ ap octets_for (sym decoded_width)) bit
    where
      width : ℕ
      width = page_bits (count_of s)

      behind : (k : ℕ) → width ≤ k → bit_at s k ≡ 0
      behind k h =
          by_size k (octets_for width * 8)
          (λ i.
          let e : width + (k - width) ≡ k = omega arith in
          sym (ap (bit_at s) e) ∙ zero_value (bit_at s) width (octets_for width * 8 - width) z (k - width) (omega arith))
          (λ i. bit_past s k (rw l (omega arith)))

      bit : (k : ℕ) → bit_in (bits_of_page (decoded s)) k ≡ bit_at s k
      bit k =
          by_size k width
          (λ i. sym (page_stands k (rw decoded_width i)) ∙ ap (bit_at s) (zero-add k))
          (λ i. get_or-eq_default (bits_of_page (decoded s)) 0 (rw decoded_width i) ∙ sym (behind k i))

  laid_filling : filling (layout (decoded s)) (page_bits (count_of s)) ≡ 0
  laid_filling =
      value_zero (bit_at (layout (decoded s))) (page_bits (count_of s)) (octets_for (page_bits (count_of s)) * 8 - page_bits (count_of s))
      (λ j h. layout_filling (decoded s) (page_bits (count_of s) + j) (rw decoded_length (omega arith)))

  -- and no others
  same_laid : Octets s → (eqb (length s) (octets_for (page_bits (count_of s))) && eqb (filling s (page_bits (count_of s))) 0) ≡ same (layout (decoded s)) s
  same_laid o = go (eqb (length s) (octets_for (page_bits (count_of s)))) refl (eqb (filling s (page_bits (count_of s))) 0) refl
    where
      width : ℕ
      width = page_bits (count_of s)

      go : (a : Bool) → eqb (length s) (octets_for width) ≡ a → (b : Bool) → eqb (filling s width) 0 ≡ b → (a && b) ≡ same (layout (decoded s)) s
      go true e true d = sym (rw (relaid o (eqb-true _ _ e) (eqb-true _ _ d)) (same_refl s))
      go true e false d = sym (same_apart (λ (z : List ℕ). filling z width) (layout (decoded s)) s (λ f. eqb-false _ _ d (sym f ∙ laid_filling)))
      go false e b d = sym (same_apart length (layout (decoded s)) s (λ f. eqb-false _ _ e (sym f ∙ layout_length (decoded s) ∙ ap (λ (n : ℕ). octets_for (page_bits n)) decoded_length)))

  -- the code asks this of the last octet
  pub laid_tests : Octets s
      → (eqb (length s) (octets_for (page_bits (count_of s)))
      && eqb (octet_at s (octets_for (page_bits (count_of s)) - 1) % (1 * 2 ^ (octets_for (page_bits (count_of s)) * 8 - page_bits (count_of s)) % 2 ^ 64)) 0)
      ≡ same (layout (decoded s)) s
  laid_tests o =
      let n = page_bits (count_of s) in
      let q = octets_for (page_bits (count_of s)) in
      rw (last_bits s (q - 1) (q * 8 - n) n (o (q - 1)) (omega arith) (omega arith)) (same_laid o)
