-- The row of a place as a part of the lent block itself.
use Rattle.std.specs.Prelude.{ℕ, ◌*◌, ◌≡◌, cond, List, ltb}
use Rattle.std.specs.Borrow.{Bor}
use Rattle.octets.specs.Lent.{BeginsAt}
use Rattle.rules.specs.Limits.{places}
use Rattle.rules.specs.Layout.{row_length, row_of}

-- a number that is no place has no octets, at the block's front
pub record RowPart (block : Bor (List ℕ)) (place : ℕ) (r : Bor (List ℕ)) : Type 0 where
  pub octets : r.now ≡ row_of block.now place
  pub begins : BeginsAt block (cond (ltb place places) (place * row_length) 0) r
