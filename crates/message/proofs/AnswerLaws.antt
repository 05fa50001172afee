-- Laws of what writing a message answers.
use Prim.Native.Nat.{ℕ, ◌+◌, ◌≤◌}
use mathlib.Core.Path.{◌≡◌, refl, subst}
use mathlib.Core.Bool.{true, not}
use mathlib.Core.List.{List, ◌++◌}
use native.Mathlib.Omega.{arith}
use borrow.Author.Tests.{ltb-false, not-false}
use lib.Dec.{ltb}
use lib.ListN.{length, drop, length-append}
use Rattle.octets.proofs.Tests.{by_choice, false_true}
use Rattle.message.specs.Limits.{header, body_limit}
use Rattle.message.specs.Message.{Message, encode, encode_body}
use Rattle.message.specs.Write.{Answer, refused, written, identifier_fits, fields_fit, writing, accepts, front, output, output_after}

pub encode_length : (m : Message) → length (encode m) ≡ header + length (encode_body m)
unfolding encode
encode_length m = simp length-append (omega arith)

-- no refusal applies
pub record Fits (m : Message) (room : ℕ) : Type 0 where
  pub identifier : identifier_fits m ≡ true
  pub fields : fields_fit m ≡ true
  pub limit : length (encode_body m) ≤ body_limit
  pub there : length (encode m) ≤ room

-- a message that is written fits
module _ (m : Message) (room : ℕ) where
  abbrev Says : Answer → Type 0
  Says (refused number) = Unit {0}
  Says (written count) = (count ≡ length (encode m)) × Fits m room

  answer_says : Says (writing m room)
  unfolding writing
  answer_says =
      by_choice Says (not (identifier_fits m)) _ _ (λ _. tt) (λ a.
      by_choice Says (not (fields_fit m)) _ _ (λ _. tt) (λ b.
      by_choice Says (ltb body_limit (length (encode_body m))) _ _ (λ _. tt) (λ d.
      by_choice Says (ltb room (length (encode m))) _ _ (λ _. tt) (λ e.
      (refl, record { identifier = not-false _ a; fields = not-false _ b; limit = ltb-false _ _ d; there = ltb-false _ _ e })))))

  pub written_says : {count : ℕ} → writing m room ≡ written count → (count ≡ length (encode m)) × Fits m room
  written_says e = subst Says e answer_says

output_of : (v : Answer) (m : Message) (out : List ℕ) → accepts v ≡ true → front m out ≡ output_after v m out
output_of (refused number) m out h = absurd (false_true h)
output_of (written count) m out h = refl

module _ (m : Message) (out : List ℕ) where
  pub output_written : accepts (writing m (length out)) ≡ true → encode m ++ drop (length (encode m)) out ≡ output m out
  unfolding output
  output_written h = output_of (writing m (length out)) m out h
