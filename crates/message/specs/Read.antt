-- What reading the front of lent octets answers: document 01, "Reading the front of a lent stretch".
use Rattle.std.specs.Prelude.{ℕ, ◌+◌, List, length, Option, Some, None, Result, Ok, Err}
use Rattle.octets.specs.Part.{part}
use Rattle.octets.specs.Refusal.{number_of}
use Rattle.message.specs.Limits.{header}
use Rattle.message.specs.Frame as Frame
use Rattle.message.specs.Body as Body
use Rattle.message.specs.declared.bodies.Fields.{Fields}
use Rattle.message.specs.declared.bodies.Fields.TheVariants.{UnsupportedVersion}
use Rattle.message.specs.declared.reading.Message.{Message}
use Rattle.message.specs.declared.reading.Refused.{Refused}

-- more needed, which takes nothing; a refusal by its number; or the fields; each with the octets taken
pub data Answer : Type 0 where
  more_needed : Answer
  refused : (number taken : ℕ) → Answer
  accepted : (fields : Fields) (taken : ℕ) → Answer

-- a whole message is taken, refused or not
abbrev pub body_answer : (taken : ℕ) → Body.Content → Answer
body_answer taken (Body.refused number) = refused number taken
body_answer taken (Body.fields f) = accepted f taken

abbrev pub frame_answer : List ℕ → Frame.Framing → Answer
frame_answer s Frame.more_needed = more_needed
frame_answer s (Frame.refused number taken) = refused number taken
frame_answer s (Frame.version number) = accepted (UnsupportedVersion number) (length s)
frame_answer s (Frame.whole kind n) = body_answer (header + n) (Body.content kind (part s header (header + n)))

unfoldable pub reading : List ℕ → Answer
reading s = frame_answer s (Frame.frame s)

-- the number and the values that each case of a result stands for
abbrev pub answer_of : Result (Option Message) Refused → Answer
answer_of (Ok None) = more_needed
answer_of (Ok (Some m)) = accepted m.fields m.taken
answer_of (Err r) = refused (number_of r.refusal) r.taken
