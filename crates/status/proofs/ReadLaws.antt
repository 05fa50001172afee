-- Reading a page, test by test.
use Prim.Native.Nat.{ℕ, ◌≤◌, ◌<◌}
use mathlib.Core.Path.{◌≡◌, refl}
use mathlib.Core.Bool.{Bool, true, false, cond, ◌&&◌, and-true}
use mathlib.Core.List.{List}
use native.Mathlib.Omega.{arith}
use lib.ListN.{get_or}
use Rattle.octets.specs.Part.{same}
use Rattle.octets.proofs.Tests.{both}
use Rattle.status.specs.Limits.{places, count_bits, page_bits}
use Rattle.status.specs.Bits.{bit_at}
use Rattle.status.specs.Entries.{rising, distinct, narrow, good, entry_at}
use Rattle.status.specs.Page.{layout, count_of, entries_in, decoded, is_page, no_entry, counting, picking}
use Rattle.status.specs.Page as Page
use borrow.Author.Tests.{le-ltb}
use Rattle.status.proofs.BitLaws.{binary_at}
use Rattle.status.proofs.EntryLaws.{narrow_at, nth_entry}
use Rattle.status.proofs.PageLaws.{good_true, good_few, decoded_length}

module _ (s : List ℕ) where
  narrow_decoded : narrow (decoded s) ≡ true
  unfolding decoded
  narrow_decoded = narrow_at (bit_at s) (binary_at s) count_bits (count_of s)

  -- the tests of a page
  pub page_tests : is_page s ≡ (rising 0 (entries_in s (count_of s)) && distinct (entries_in s (count_of s)) && same (layout (decoded s)) s)
  unfolding is_page good decoded
  page_tests = rw (narrow_decoded, and-true)

  -- a page has no more entries than there are places
  pub page_few : is_page s ≡ true → count_of s ≤ places
  unfolding is_page
  page_few h =
      let g = both (good (decoded s)) (same (layout (decoded s)) s) h in
      omega (arith, good_few (decoded s) (good_true (decoded s) g.0), decoded_length s)

  pub not_a_page : is_page s ≡ false → Page.refused 29 ≡ counting s
  unfolding counting
  not_a_page e = rw e

  -- what a count that was read says
  pub count_read : (n : ℕ) → Page.entries n ≡ counting s → (n ≡ count_of s) × (is_page s ≡ true)
  unfolding counting
  count_read n e = go (is_page s) refl e
    where
      go : (b : Bool) → is_page s ≡ b → Page.entries n ≡ cond b (Page.entries (count_of s)) (Page.refused 29) → (n ≡ count_of s) × (b ≡ true)
      go true i h = (cc, refl)
      go false i h = cc

  pub refusal_read : Page.refused 29 ≡ counting s → is_page s ≡ false
  unfolding counting
  refusal_read e = go (is_page s) refl e
    where
      go : (b : Bool) → is_page s ≡ b → Page.refused 29 ≡ cond b (Page.entries (count_of s)) (Page.refused 29) → b ≡ false
      go true i h = cc
      go false i h = refl

  -- ---- the second call

  -- the nth entry, where the code reads it
  pub nth_read : (n : ℕ) → n < count_of s → get_or (decoded s) n no_entry ≡ entry_at (bit_at s) (page_bits n)
  unfolding decoded
  nth_read n h = nth_entry (bit_at s) count_bits (count_of s) n no_entry h

  pub nothing_there : (n : ℕ) → Page.refused 29 ≡ counting s → Page.refused 29 ≡ picking s n
  unfolding picking
  nothing_there n q = rw (refusal_read q)

  module _ (m n : ℕ) (q : Page.entries m ≡ counting s) where
    pub not_there : m ≤ n → Page.refused 29 ≡ picking s n
    unfolding picking
    not_there h =
        let r = count_read m q in
        let l : count_of s ≤ n = omega (arith, r.0) in
        rw (r.1, le-ltb n (count_of s) l)
