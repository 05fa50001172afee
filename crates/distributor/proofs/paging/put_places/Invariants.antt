use mathlib.Core.Path.{◌≡◌}
use lib.ListN.{length}
use Rattle.distributor.proofs.EntryLaws.{Put}
use Rattle.distributor.proofs.paging.put_places.Given as goal

abbrev pub invariant-loop-place : goal.invariant-loop-place
invariant-loop-place l = (length l.out ≡ length l.initial.out) × Put l.state l.shown l.initial.out l.initial.w l.out l.w l.place
