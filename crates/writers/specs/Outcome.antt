-- What the outcome of a writer stands for.
use Rattle.std.specs.Prelude.{ℕ, Result, Ok, Err}
use Rattle.octets.specs.Refusal.{number_of}
use Rattle.octets.specs.declared.refusal.Refusal.{Refusal}
use Rattle.message.specs.Write.{Answer, refused, written}

-- the number and the values that each case of the result stands for
abbrev pub answer_of : Result ℕ Refusal → Answer
answer_of (Ok count) = written count
answer_of (Err r) = refused (number_of r)
