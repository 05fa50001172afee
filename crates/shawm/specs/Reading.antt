-- What reading the front of lent octets answers, as numbers: document 01, "Reading the front of a lent stretch".
use Rattle.std.specs.Prelude.{ℕ, List}
use Rattle.message.specs.Message.{type_of}
use Rattle.message.specs.Read.{Answer, more_needed, refused, accepted}
use Rattle.message.specs.Parts.{meaning}
use Rattle.shawm.specs.Refusal.{refusal}

-- 0 where more is needed, else the type, 1 to 5, of the message that was read from s
abbrev pub read_number : (s : List ℕ) → Answer → ℕ
read_number s more_needed = 0
read_number s (refused number taken) = refusal number
read_number s (accepted fields taken) = type_of (meaning s fields)

-- the octets taken, refused or not
abbrev pub taken_by : Answer → ℕ
taken_by more_needed = 0
taken_by (refused number taken) = taken
taken_by (accepted fields taken) = taken
