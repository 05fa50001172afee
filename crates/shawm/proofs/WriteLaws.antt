-- What a writer answers fits in 32 bits, and what wrapping and unwrapping answer.
use Prim.Native.Nat.{ℕ, ◌^◌, ◌<◌}
use mathlib.Core.Path.{◌≡◌, sym, subst}
use native.Mathlib.Omega.{arith}
use Rattle.message.specs.Message.{Message}
use Rattle.message.specs.Write.{writing}
use Rattle.writers.specs.Outcome.{answer_of}
use Rattle.std.specs.Prelude.{Result, Ok, Err}
use Rattle.octets.specs.declared.refusal.Refusal.{Refusal}
use mathlib.Core.List.{List}
use Rattle.octets.specs.Number.{Octets}
use Rattle.keywrap.specs.Calls as KeyWrap
use Rattle.shawm.specs.Refusal.{count_or_refused}
use Rattle.shawm.specs.Claims.{WriteTopBit, WrapTopBit}
use Rattle.shawm.proofs.TopBit.{write_top_bit, wrap_top_bit, unwrap_top_bit}

number_fits : (a : Result ℕ Refusal) → WriteTopBit (answer_of a) → count_or_refused a < 2 ^ 32
number_fits (Err r) h = omega arith
number_fits (Ok count) h = omega arith

pub answer_fits : (a : Result ℕ Refusal) (m : Message) (room : ℕ) → answer_of a ≡ writing m room → count_or_refused a < 2 ^ 32
answer_fits a m room e = number_fits a (subst WriteTopBit (sym e) (write_top_bit m room))

wrap_number_fits : (a : Result ℕ Refusal) → WrapTopBit (KeyWrap.answer_of a) → count_or_refused a < 2 ^ 32
wrap_number_fits (Err r) h = omega arith
wrap_number_fits (Ok count) h = omega arith

module _ (a : Result ℕ Refusal) (key : List ℕ) (room : ℕ) (ok : Octets key) where
  pub wrapped_fits : (p : List ℕ) → Octets p → KeyWrap.answer_of a ≡ KeyWrap.wrapping key p room → count_or_refused a < 2 ^ 32
  wrapped_fits p op e = wrap_number_fits a (subst WrapTopBit (sym e) (wrap_top_bit key ok room p op))

  pub unwrapped_fits : (c : List ℕ) → Octets c → KeyWrap.answer_of a ≡ KeyWrap.unwrapping key c room → count_or_refused a < 2 ^ 32
  unwrapped_fits c oc e = wrap_number_fits a (subst WrapTopBit (sym e) (unwrap_top_bit key ok room c oc))
