-- Parts of a lent slice itself, by their octets and by where they begin in its memory.
use Rattle.std.specs.Prelude.{ℕ, ◌+◌, List, ◌≡◌}
use Rattle.std.specs.Borrow.{Bor}
use Rattle.octets.specs.Part.{part, part_start}
use Rattle.octets.specs.declared.parts.Bounds.{Bounds}

-- r begins in the block of memory that s lies in, at an offset of s
pub record BeginsAt (s : Bor (List ℕ)) (at : ℕ) (r : Bor (List ℕ)) : Type 0 where
  pub block : r.ref_ptr.0 ≡ s.ref_ptr.0
  pub start : r.ref_ptr.1 ≡ s.ref_ptr.1 + at

-- r is the part of s from one offset up to another, and no copy of it
pub record PartOf (s : Bor (List ℕ)) (from to : ℕ) (r : Bor (List ℕ)) : Type 0 where
  pub octets : r.now ≡ part s.now from to
  pub begins : BeginsAt s (part_start s.now from to) r

abbrev pub PartIn : (s : Bor (List ℕ)) → Bounds → (r : Bor (List ℕ)) → Type 0
PartIn s b r = PartOf s b.start b.end r
