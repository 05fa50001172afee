use Prim.Native.Nat.{◌≤◌}
use mathlib.Core.Path.{◌≡◌}
use lib.ListN.{length}
use Rattle.status.proofs.PlaceLaws.{first_of}
use Rattle.distributor.specs.Packing.{shown_to}
use Rattle.distributor.proofs.paging.live_count.Given as goal

abbrev pub invariant-loop-place : goal.invariant-loop-place
invariant-loop-place l = (l.n ≤ l.place) × (l.n ≡ length (first_of (shown_to l.state l.shown) l.place))
