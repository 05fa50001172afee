-- What wrapping and unwrapping answer, as a number, and what they leave in the output: document 02, order 4.
use Rattle.std.specs.Prelude.{ℕ, ◌≡◌, List}
use Rattle.keywrap.specs.Calls.{Answer, refused, written, output_after}
use Rattle.shawm.specs.Refusal.{refusal}

abbrev pub wrap_number : Answer → ℕ
wrap_number (refused number) = refusal number
wrap_number (written count) = count

-- both exports' promise: their answer, and the output before and after
abbrev pub ExportsOctets : (expected : Answer) (octets before after : List ℕ) (answer : ℕ) → Type 0
ExportsOctets expected octets before after answer = (answer ≡ wrap_number expected) × (after ≡ output_after expected octets before)
