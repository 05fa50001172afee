-- What estimate and update answer, as numbers: document 02, order 11.
use Rattle.std.specs.Prelude.{ℕ}
use Rattle.packetindex.specs.Estimating.{Answer, refused, found}
use Rattle.packetindex.specs.declared.stream.Stream.{Stream}
use Rattle.shawm.specs.Refusal.{refusal}

abbrev pub stream_of : (roc highest : ℕ) → Stream
stream_of roc highest = record { roc = roc; highest = highest }

-- 0 where there is an index, or the refusal
abbrev pub estimate_number : Answer → ℕ
estimate_number (refused number) = refusal number
estimate_number (found roc index) = 0

-- the index, 0 where there is none
abbrev pub index_number : Answer → ℕ
index_number (refused number) = 0
index_number (found roc index) = index
