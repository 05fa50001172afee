-- The parts of a packet with a tag stand in the packet, each at the bounds of its number.
use Prim.Native.Nat.{ℕ}
use mathlib.Core.Path.{◌≡◌, refl}
use mathlib.Core.List.{List}
use native.Mathlib.Omega.{arith}
use borrow.Author.Tests.{ne_eqb}
use Rattle.octets.specs.Bounds.{between}
use Rattle.ekt.specs.Splitting.{Split, refused, short, full, extension, splitting}
use Rattle.ekt.specs.Parts.{front, ciphertext, extension_data}
use Rattle.shawm.specs.Tag.{part_bounds}
use Rattle.shawm.specs.Claims.{BoundsMatch, parts_of}
use Rattle.shawm.proofs.FoundLaws.{found, more, either_way}
use Rattle.shawm.proofs.SplitLimits.{SplitLimits, splitting_limits}

module _ (p : List ℕ) where
  split_match : (a : Split) → splitting p ≡ a → SplitLimits p a → BoundsMatch p (part_bounds a) (parts_of p a)
  unfolding part_bounds front ciphertext extension_data
  split_match (refused number) e l = record { listed = tt; others = λ number _. simp either_way }
  split_match (short start) e l = record {
    listed = more (found p (between 0 start) (front p) (rw e) (omega arith) l) tt;
    others = λ number not. simp (ne_eqb number 1 not.0, either_way);
  }
  split_match (full spi epoch start end) e l = record {
    listed =
        more (found p (between 0 start) (front p) (rw e) (omega arith) (omega arith))
        (more (found p (between start end) (ciphertext p) (rw e) l.ordered l.inside) tt);
    others = λ number not. simp (ne_eqb number 1 not.0, ne_eqb number 2 not.1.0, either_way);
  }
  split_match (extension message_type start end) e l = record {
    listed =
        more (found p (between 0 start) (front p) (rw e) (omega arith) (omega arith))
        (more (found p (between start end) (extension_data p) (rw e) l.ordered l.inside) tt);
    others = λ number not. simp (ne_eqb number 1 not.0, ne_eqb number 3 not.1.0, either_way);
  }

  -- the theorem
  pub parts_match : BoundsMatch p (part_bounds (splitting p)) (parts_of p (splitting p))
  parts_match = split_match (splitting p) refl (splitting_limits p)
