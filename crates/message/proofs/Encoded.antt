-- A message whose type and body stand at the front of octets is encoded as they are.
use Prim.Native.Nat.{ℕ, ◌+◌, ◌≤◌}
use mathlib.Core.Path.{◌≡◌, sym, ap, ◌∙◌}
use mathlib.Core.Bool.{true}
use mathlib.Core.List.{List, ◌∷◌, ◌++◌}
use native.Mathlib.Omega.{arith}
use lib.ListN.{length, take, drop}
use lib.Seq.{length-take-le}
use borrow.Author.Tests.{le-ltb}
use Rattle.octets.specs.Number.{octet_at, number16_at, octets16, Octets}
use Rattle.octets.specs.Part.{part}
use Rattle.octets.proofs.NumberLaws.{part_octet, part_number16}
use Rattle.octets.proofs.PartLaws.{part_join, part_length, part_front}
use Rattle.message.specs.Limits.{body_limit, header}
use Rattle.message.specs.Message.{Message, type_of, encode, encode_body}
use Rattle.message.specs.Write.{identifier_fits, fields_fit, writing, written, output}

abbrev pub body_of : List ℕ → (n : ℕ) → List ℕ
body_of s n = part s header (header + n)

module _ (s : List ℕ) (n : ℕ) (there : header + n ≤ length s) where
  pub body_length : length (body_of s n) ≡ n
  body_length = part_length s header (header + n) there ∙ omega arith

  module _ (o : Octets s) (told : number16_at s 1 ≡ n) where
    header_part : octet_at s 0 ∷ octets16 n ≡ part s 0 header
    header_part =
        ap (λ (x : List ℕ). octet_at s 0 ∷ x) (ap octets16 (sym told) ∙ part_number16 s 1 o (omega arith))
        ∙ ap (λ (x : List ℕ). x ++ part s 1 header) (part_octet s 0 (omega arith))
        ∙ part_join s 0 1 header (omega arith) (omega arith)

    module _ (m : Message) (type : octet_at s 0 ≡ type_of m) (same : encode_body m ≡ body_of s n) where
      body_told : length (encode_body m) ≡ n
      body_told = ap length same ∙ body_length

      pub encoded : encode m ≡ take (header + n) s
      unfolding encode
      encoded =
          rw (body_told, same, ← type)
          (ap (λ (x : List ℕ). x ++ body_of s n) header_part
          ∙ part_join s 0 header (header + n) (omega arith) (omega arith)
          ∙ part_front s (header + n))

      -- where its fields fit, it is written
      pub encoded_written : identifier_fits m ≡ true → fields_fit m ≡ true → n ≤ body_limit
          → (room : ℕ) → header + n ≤ room → writing m room ≡ written (header + n)
      unfolding writing
      encoded_written i f small room h =
          let l : length (encode m) ≡ header + n = ap length encoded ∙ length-take-le (header + n) s there in
          rw (i, f, body_told, l, le-ltb body_limit n, le-ltb room (header + n))

      -- at the front of the output
      pub encoded_output : identifier_fits m ≡ true → fields_fit m ≡ true → n ≤ body_limit
          → (out : List ℕ) → header + n ≤ length out → output m out ≡ take (header + n) s ++ drop (header + n) out
      unfolding output
      encoded_output i f small out h =
          let l : length (encode m) ≡ header + n = ap length encoded ∙ length-take-le (header + n) s there in
          rw (encoded_written i f small (length out) h, l, encoded)
