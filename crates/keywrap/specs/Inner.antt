-- What inner functions of the code compute, and the two calls that are for `vectors` alone: no part of the RFCs or of document 02.
use Rattle.std.specs.Prelude.{ℕ, Bool, cond, not, List, length, ◌≤◌}
use Rattle.keywrap.specs.Limits.{ciphertext_most}
use Rattle.keywrap.specs.Padding.{length_fits, verified, plaintext_in}
use Rattle.keywrap.specs.Calls.{Answer, refused, fitting}

-- A and 1 to 30 registers R: what the steps ask of their registers
abbrev pub RegistersFit : List ℕ → Type 0
RegistersFit x = (16 ≤ length x) × (length x ≤ ciphertext_most)

-- the octet where it counts, else 0
unfoldable pub masked : (kept : Bool) (a : ℕ) → ℕ
masked kept a = cond kept a 0

-- unwrapping's answer, from the unwrapped registers
unfoldable pub taking : (x : List ℕ) (room : ℕ) → Answer
taking x room = cond (not (verified x)) (refused 22) (fitting (plaintext_in x) room)

-- registers through f where they have a ciphertext's length, else as they were
abbrev pub in_place : (f : List ℕ → List ℕ) (x : List ℕ) → List ℕ
in_place f x = cond (length_fits (length x)) (f x) x
