-- Laws of a message's octets with any octets behind: its body stands behind its header, and reading goes by the body.
use Prim.Native.Nat.{ℕ, ◌+◌, ◌≤◌}
use mathlib.Core.Path.{◌≡◌, refl, ap, ◌∙◌}
use mathlib.Core.List.{List, ◌∷◌, ◌++◌}
use native.Mathlib.Omega.{arith}
use lib.ListN.{length, length-append}
use Rattle.octets.specs.Number.{number16_at, octets16}
use Rattle.octets.specs.Bounds.{behind, part_in}
use Rattle.octets.specs.declared.parts.Bounds.{Bounds}
use Rattle.octets.proofs.NumberLaws.{number16_back}
use Rattle.message.specs.Limits.{header, body_limit}
use Rattle.message.specs.Message.{Message, type_of, encode, encode_body}
use Rattle.message.specs.Frame.{kind_of}
use Rattle.message.specs.Body as Body
use Rattle.message.specs.Read.{frame_answer, reading}
use Rattle.message.specs.Parts.{meaning}
use Rattle.message.specs.Claims.{taken_with, ReadsBack}
use Rattle.message.specs.declared.bodies.Fields.{Fields}
use Rattle.octets.proofs.HoldLaws.{Holds, holds_all, holds_in, holds_part}
use Rattle.message.proofs.AnswerLaws.{encode_length}
use Rattle.message.proofs.FrameSays.{Whole, whole_frame}

module _ (m : Message) (rest : List ℕ) where
  abbrev lent : List ℕ
  lent = encode m ++ rest

  pub body_held : Holds lent (encode_body m) header
  unfolding encode
  body_held = record { before = type_of m ∷ octets16 (length (encode_body m)); behind = rest; whole = refl; offset = refl }

  -- what stands in the body, as a part of the lent octets
  pub lent_part : {x : List ℕ} {at : ℕ} (b : Bounds) → Holds (encode_body m) x at → header + at ≡ b.start → b.start + length x ≡ b.end → part_in lent b ≡ x
  lent_part {x} {at} b h e k = rw (← e) (holds_part (holds_in body_held h) b.end (omega arith))

  module _ (other : type_of m ≡ 2 → ⊥) (fits : length (encode_body m) ≤ body_limit) where
    pub encode_whole : Whole lent (kind_of (type_of m)) (length (encode_body m))
    unfolding encode number16_at
    encode_whole = record {
      other = other;
      kinds = refl;
      told = number16_back (length (encode_body m)) (omega arith);
      small = fits;
      there = rw length-append (omega arith);
    }

    -- it is enough to know what the body holds and what that means
    pub reads_back : (f : Fields) → taken_with m rest ≡ length (encode m)
        → Body.content (kind_of (type_of m)) (encode_body m) ≡ Body.fields f → meaning lent f ≡ m → ReadsBack m rest
    unfolding reading
    reads_back f taken holds means = record {
      fields = f;
      answer =
          let body = lent_part (behind header (length (encode_body m))) (holds_all (encode_body m) refl) refl refl in
          ap (frame_answer lent) (whole_frame _ _ _ encode_whole) ∙ rw (body, holds, taken, encode_length m);
      means = means;
    }
