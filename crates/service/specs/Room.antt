-- "Refusal 13 does not occur" (docs/RELAY.md): no page is longer than the room that the relay lends.
use Rattle.std.specs.Prelude.{ℕ, ◌≡◌, List}
use Rattle.rules.specs.Answer.{page}
use Rattle.rules.specs.Call as Call
use Rattle.rules.specs.Table.{answer, page_entries}
use Rattle.service.specs.Limits.{room}

-- Write page is answered with the page, whatever the block
abbrev pub PageAnswered : (block : List ℕ) → Type 0
PageAnswered s = answer s (Call.write_page room) ≡ page (page_entries s)
