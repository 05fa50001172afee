-- Pieces written one behind the other are the encoding.
use Prim.Native.Nat.{ℕ, ◌+◌, ◌-◌, ◌%◌, ◌≤◌}
use mathlib.Core.Path.{◌≡◌, sym, ap, subst, ◌∙◌}
use mathlib.Core.List.{List, ◌∷◌, ◌++◌}
use native.Mathlib.Omega.{arith}
use lib.Dec.{eqb}
use lib.ListN.{length, drop, length-append, length-drop}
use Rattle.octets.specs.Number.{octets16}
use Rattle.octets.specs.Write.{over}
use Rattle.octets.proofs.WriteLaws.{Wrote, wrote_none, wrote_over, wrote_more}
use Rattle.octets.specs.Range.{within}
use Rattle.octets.proofs.Tests.{both}
use Rattle.octets.proofs.RangeLaws.{within_true}
use Rattle.message.specs.Limits.{header, most16}
use Rattle.message.specs.Message.{Message, supported_profiles, tunneled_dtls, type_of, encode, encode_body}
use Rattle.message.specs.Write.{writing, written, front}
use Rattle.message.proofs.AnswerLaws.{encode_length, written_says}
use Rattle.writers.specs.Steps.{Puts}

-- the octets p stand at the front of the output l if it has room for them
abbrev pub Front : (l p x : List ℕ) (at : ℕ) → Type 0
Front l p x at = length p ≤ length l → Wrote l p x at

module _ {l p x y : List ℕ} {at r : ℕ} where
  -- one piece more
  pub piece : (q : List ℕ) → Front l p x at → Puts x at q r y → Front l (p ++ q) y r
  piece q f h room =
      let n : length (p ++ q) ≡ length p + length q = length-append p q in
      let w = f (omega arith) in
      let s : length x ≡ length l = ap length w.output ∙ simp (length-append, length-drop) (omega arith) in
      let e = h (omega (arith, w.offset)) in
      wrote_more q w (omega arith) e.0 e.1

module _ (m : Message) (out : List ℕ) {count : ℕ} (e : writing m (length out) ≡ written count) where
  pub header_fits : (header ≤ count) × (count ≤ most16) × (header ≤ length out)
  header_fits =
      let w = written_says m (length out) e in
      let n = encode_length m in
      (omega arith, omega arith, omega arith)

  pub first : {x : List ℕ} {r : ℕ} → (r ≡ header) × (x ≡ over out 0 (type_of m ∷ octets16 (count - header)))
      → Front out (type_of m ∷ octets16 (count - header)) x r
  first h room = wrote_over (type_of m ∷ octets16 (count - header)) (wrote_none out) h.0 h.1

  pub whole : {x : List ℕ} {at : ℕ} → Front out ((type_of m ∷ octets16 (count - header)) ++ encode_body m) x at → x ≡ front m out
  unfolding encode
  whole f =
      let w = written_says m (length out) e in
      let n : count - header ≡ length (encode_body m) = omega (arith, encode_length m) in
      let s : (type_of m ∷ octets16 (count - header)) ++ encode_body m ≡ encode m = rw n in
      (f (subst (λ (q : List ℕ). length q ≤ length out) (sym s) w.1.there)).output ∙ ap (λ (q : List ℕ). q ++ drop (length q) out) s

-- a list and DTLS octets that are written are told by two length octets
module _ (room : ℕ) {count : ℕ} where
  pub list_written : (version : ℕ) (l : List ℕ) → writing (supported_profiles version l) room ≡ written count → length l ≤ most16
  list_written version l e =
      (within_true 1 most16 (length l) (both (within 1 most16 (length l)) (eqb (length l % 2) 0) (written_says (supported_profiles version l) room e).1.fields).0).1

  pub dtls_written : (i d : List ℕ) → writing (tunneled_dtls i d) room ≡ written count → length d ≤ most16
  dtls_written i d e = (within_true 1 most16 (length d) (written_says (tunneled_dtls i d) room e).1.fields).1
