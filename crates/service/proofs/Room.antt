-- Write page is never refused in the relay: the room that it lends is more than the longest page has.
use Prim.Native.Nat.{ℕ, ◌≤◌}
use mathlib.Core.List.{List, map}
use native.Mathlib.Omega.{arith}
use borrow.Author.Tests.{le-ltb}
use lib.ListN.{length, replicate, length-map, length-replicate}
use Rattle.octets.proofs.Tests.{by_choice}
use Rattle.status.specs.Limits.{places}
use Rattle.status.specs.Page.{layout}
use Rattle.status.specs.Places.{vacant}
use Rattle.status.proofs.PageLaws.{layout_length}
use Rattle.status.proofs.PlaceLaws.{from_length}
use Rattle.rules.specs.Layout.{up, rows}
use Rattle.rules.specs.Table.{answer, shown_in, shown, page_entries, page_verdict, page_answer}
use Rattle.rules.proofs.RowsLaws.{rows_length}
use Rattle.service.specs.Limits.{room}
use Rattle.service.specs.Room.{PageAnswered}

shown_few : (s : List ℕ) → length (shown s) ≤ places
unfolding shown
shown_few s =
    by_choice (λ l. length l ≤ places) (up s) (map shown_in (rows s)) (replicate places vacant)
    (λ _. omega (arith, length-map (rows s) shown_in, rows_length s)) (λ _. omega (arith, length-replicate places vacant))

page_short : (s : List ℕ) → length (layout (page_entries s)) ≤ room
page_short s = omega (arith, layout_length (page_entries s), from_length 0 (shown s), shown_few s)

pub page_answered : (s : List ℕ) → PageAnswered s
unfolding answer page_answer page_verdict
page_answered s = rw (le-ltb _ _ (page_short s))
