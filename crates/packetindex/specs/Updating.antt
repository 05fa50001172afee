-- The update after an accepted packet: document 02, order 11. ROC and highest number become the packet's exactly when its index is higher.
use Rattle.std.specs.Prelude.{ℕ, cond, nat_lt, Result, Ok, Err}
use Rattle.octets.specs.Refusal.{number_of}
use Rattle.octets.specs.declared.refusal.Refusal.{Refusal}
use Rattle.packetindex.specs.Estimating as Estimating
use Rattle.packetindex.specs.Estimating.{estimating, index_of}
use Rattle.packetindex.specs.declared.stream.Stream.{Stream}

-- what an update answers: a refusal by its number, or what to keep
pub data Answer : Type 0 where
  refused : (number : ℕ) → Answer
  keep : Stream → Answer

-- the packet's numbers where its index is higher than that of the stream's
unfoldable pub later : Stream → (sequence roc index : ℕ) → Stream
later s sequence roc index = cond (nat_lt (index_of s.roc s.highest) index) (record { roc = roc; highest = sequence }) s

-- it refuses as the estimate does
abbrev pub after : Stream → (sequence : ℕ) → Estimating.Answer → Answer
after s sequence (Estimating.refused number) = refused number
after s sequence (Estimating.found roc index) = keep (later s sequence roc index)

unfoldable pub updating : Stream → (sequence : ℕ) → Answer
updating s sequence = after s sequence (estimating s sequence)

-- what a result stands for: a refusal by its number, or what to keep
abbrev pub answer_of : Result Stream Refusal → Answer
answer_of (Err refusal) = refused (number_of refusal)
answer_of (Ok s) = keep s

-- what is kept after an answer: a refusal changes nothing
abbrev pub kept : Stream → Answer → Stream
kept s (refused number) = s
kept s (keep t) = t

-- and so after a packet
abbrev pub next : Stream → (sequence : ℕ) → Stream
next s sequence = kept s (updating s sequence)
