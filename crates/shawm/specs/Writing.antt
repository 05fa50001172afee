-- What writing a message answers, as a number, and what it leaves in the output: document 01, "Tunnel messages".
use Rattle.std.specs.Prelude.{ℕ, ◌≡◌, List, length}
use Rattle.message.specs.Message.{Message}
use Rattle.message.specs.Write.{Answer, refused, written, writing, output}
use Rattle.shawm.specs.Refusal.{refusal}

abbrev pub write_number : Answer → ℕ
write_number (refused number) = refusal number
write_number (written count) = count

-- an exported writer's promise: its answer, and the output before and after
abbrev pub Exports : Message → (before after : List ℕ) → (answer : ℕ) → Type 0
Exports m before after answer = (answer ≡ write_number (writing m (length before))) × (after ≡ output m before)
