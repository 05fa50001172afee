-- What stands in the output, by the count of octets written.
use Prim.Native.Nat.{ℕ}
use mathlib.Core.Path.{◌≡◌, refl, sym}
use mathlib.Core.Bool.{true, false}
use mathlib.Core.List.{List}
use lib.ListN.{length}
use Rattle.octets.proofs.Tests.{false_true}
use Rattle.message.specs.Message.{Message}
use Rattle.message.specs.Write.{Answer, refused, written, writing, accepts, front, output, output_after}
use Rattle.message.proofs.AnswerLaws.{output_written}

kept : (v : Answer) (m : Message) (out : List ℕ) → accepts v ≡ false → output_after v m out ≡ out
kept (refused number) m out e = refl
kept (written count) m out e = absurd (false_true (sym e))

module _ (m : Message) (out : List ℕ) where
  pub output_told : accepts (writing m (length out)) ≡ true → output m out ≡ front m out
  output_told e = sym (output_written m out e)

  pub output_refused : accepts (writing m (length out)) ≡ false → output m out ≡ out
  unfolding output
  output_refused e = kept (writing m (length out)) m out e
