use Prim.Native.Nat.{◌-◌}
use mathlib.Core.Path.{◌≡◌}
use mathlib.Core.List.{map}
use lib.ListN.{take}
use Rattle.status.specs.Limits.{page_bits}
use Rattle.status.specs.Bits.{bit_at}
use Rattle.status.specs.Entries.{endpoint_of, entries_at, rising}
use Rattle.status.specs.Page.{entries_in}
use Rattle.status.proofs.entries.places_rise.Given as goal

-- the places looked at rise, and their endpoints stand in the list
pub record Scanned (l : goal.Live-loop-i) : Type 0 where
  pub rises : rising 0 (entries_in l.page (l.i-end)) ≡ rising l.least (entries_at (bit_at l.page) (page_bits l.i) (l.i-end - l.i))
  pub stored : take l.i l.list ≡ map endpoint_of (entries_in l.page l.i)

abbrev pub invariant-loop-i : goal.invariant-loop-i
invariant-loop-i l = Scanned l
