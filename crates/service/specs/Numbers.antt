-- The numbers that an answer frame carries in two octets: places, and octets taken.
use Rattle.std.specs.Prelude.{ℕ, ◌<◌, List}
use Rattle.rules.specs.Answer.{Answer, by_answer}
use Rattle.rules.specs.Table.{answer}
use Rattle.service.specs.Request.{Request, call, no_call}

-- the number of an answer; 0 where it has none
abbrev pub number_in : Answer → ℕ
number_in a = by_answer (λ number taken. taken) 0 (λ place. place) (λ endpoint dtls taken. taken) (λ entries. 0) (λ taken. taken) a

-- what two octets can say
abbrev pub numbers16 : ℕ
numbers16 = 65536

-- the two octets say the number whole; the relay's own answers have none
abbrev pub NumbersWhole : List ℕ → Request → Type 0
NumbersWhole s (call c) = number_in (answer s c) < numbers16
NumbersWhole s (no_call kind) = Unit {0}
