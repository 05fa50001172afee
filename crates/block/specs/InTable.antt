-- The place that a search leads to, if it is one.
use Rattle.std.specs.Prelude.{ℕ, cond, List, ltb, Option, Some, None}
use Rattle.rules.specs.Limits.{places}
use Rattle.rules.specs.Halving.{Spot, here, missing}
use Rattle.rules.specs.Index.{index_place}

-- the rules answer the number of places where there is none
abbrev pub in_table : (place : ℕ) → Option ℕ
in_table place = cond (ltb place places) (Some place) None

-- the number that the index has at a spot, none where the endpoint is missing
abbrev pub found_at : (block : List ℕ) → Spot → Option ℕ
found_at s (here at) = Some (index_place s at)
found_at s (missing at) = None
