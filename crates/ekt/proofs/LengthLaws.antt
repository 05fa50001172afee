-- What a tag's length says where it fits, and when it does.
use Prim.Native.Nat.{ℕ, ◌+◌, ◌-◌, ◌≤◌}
use mathlib.Core.Path.{◌≡◌}
use mathlib.Core.Bool.{true}
use mathlib.Core.List.{List}
use lib.Dec.{leb}
use lib.ListN.{length}
use borrow.Author.Tests.{le-leb, leb-true, le-ltb}
use Rattle.octets.specs.Number.{number16_at}
use Rattle.octets.specs.Range.{within}
use Rattle.octets.proofs.Tests.{both}
use Rattle.octets.proofs.RangeLaws.{inside, within_true}
use Rattle.ekt.specs.Splitting.{tag_length, length_fits}

pub record LengthFits (p : List ℕ) (trailer most : ℕ) : Type 0 where
  pub least : trailer + 1 ≤ tag_length p
  pub longest : tag_length p ≤ trailer + most
  pub there : tag_length p ≤ length p

pub fits_says : (p : List ℕ) (trailer most : ℕ) → length_fits p trailer most ≡ true → LengthFits p trailer most
unfolding length_fits
fits_says p trailer most h =
    let b = both (within (trailer + 1) (trailer + most) (tag_length p)) (leb (tag_length p) (length p)) h in
    let w = within_true (trailer + 1) (trailer + most) (tag_length p) b.0 in
    record { least = w.0; longest = w.1; there = leb-true _ _ b.1 }

pub does_fit : (p : List ℕ) (trailer most : ℕ) → LengthFits p trailer most → length_fits p trailer most ≡ true
unfolding length_fits
does_fit p trailer most h =
    rw (inside (trailer + 1) (trailer + most) (tag_length p) h.least h.longest, le-leb _ _ h.there)

pub length_there : (p : List ℕ) → 3 ≤ length p → tag_length p ≡ number16_at p (length p - 3)
unfolding tag_length
length_there p h = rw (le-ltb _ _ h)
