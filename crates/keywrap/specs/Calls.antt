-- What wrapping and unwrapping answer, and what they leave in the output: document 02, order 4.
use Rattle.std.specs.Prelude.{ℕ, ◌≡◌, cond, not, List, ◌++◌, eqb, ltb, length, drop, Result, Ok, Err}
use Rattle.octets.specs.declared.refusal.Refusal.{Refusal}
use Rattle.octets.specs.Refusal.{number_of}
use Rattle.octets.specs.Range.{within}
use Rattle.keywrap.specs.Limits.{key_length, plaintext_most}
use Rattle.keywrap.specs.Padding as Padding

-- a refusal by its number, or the number of octets written
pub data Answer : Type 0 where
  refused : (number : ℕ) → Answer
  written : (count : ℕ) → Answer

-- 13 where there is no room for the octets
abbrev pub fitting : (octets : List ℕ) (room : ℕ) → Answer
fitting octets room = cond (ltb room (length octets)) (refused 13) (written (length octets))

-- wrapping: 34, 33, 13
unfoldable pub wrapping : (key p : List ℕ) (room : ℕ) → Answer
wrapping key p room =
    cond (not (eqb (length key) key_length)) (refused 34)
    (cond (not (within 1 plaintext_most (length p))) (refused 33)
    (fitting (Padding.wrap key p) room))

-- unwrapping: 34, 22, 13
unfoldable pub unwrapping : (key c : List ℕ) (room : ℕ) → Answer
unwrapping key c room =
    cond (not (eqb (length key) key_length)) (refused 34)
    (cond (not (Padding.accepted key c)) (refused 22)
    (fitting (Padding.unwrap key c) room))

-- the output afterwards: the octets at its front, or every octet as it was
abbrev pub output_after : Answer → (octets before : List ℕ) → List ℕ
output_after (refused number) octets before = before
output_after (written count) octets before = octets ++ drop (length octets) before

-- what both calls promise: their answer, and the output before and after
abbrev pub Writes : (expected : Answer) (octets before after : List ℕ) (answer : Answer) → Type 0
Writes expected octets before after answer = (answer ≡ expected) × (after ≡ output_after expected octets before)

-- what a result stands for: a refusal by its number, or the number of octets written
abbrev pub answer_of : Result ℕ Refusal → Answer
answer_of (Err refusal) = refused (number_of refusal)
answer_of (Ok count) = written count
