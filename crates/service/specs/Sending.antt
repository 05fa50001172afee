-- What is left to write of the answer to a call that writes: the message or the page that it wrote stands behind the head already.
use Rattle.std.specs.Prelude.{ℕ, ◌+◌, List, [], ◌∷◌, ◌++◌, Result, Ok, Err}
use Rattle.octets.specs.Number.{octets16}
use Rattle.octets.specs.Refusal.{number_of}
use Rattle.octets.specs.declared.refusal.Refusal.{Refusal}
use Rattle.rules.specs.Answer.{refused}
use Rattle.service.specs.Reply.{frame_of, answer_octets}

-- the octets behind the head
abbrev pub behind_head : Result ℕ Refusal → ℕ
behind_head (Err r) = 3
behind_head (Ok count) = count

-- by the kind of the answer that it is where the call wrote
abbrev pub front : (kind : ℕ) → Result ℕ Refusal → List ℕ
front kind (Err r) = frame_of (answer_octets [] (refused (number_of r) 0))
front kind (Ok count) = octets16 (1 + count) ++ kind ∷ []
