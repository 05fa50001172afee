-- Type 2 takes every lent octet: it is written back to them where they are four with length 1, and only then.
use Prim.Native.Nat.{ℕ, ◌+◌, ◌≤◌}
use mathlib.Core.Path.{◌≡◌, refl, sym, ap, subst, ◌∙◌}
use mathlib.Core.List.{List, [], ◌∷◌}
use native.Mathlib.Omega.{arith}
use lib.ListN.{length, take}
use lib.Seq.{take-length}
use Rattle.octets.specs.Number.{number16_at, Octets}
use Rattle.octets.proofs.NumberLaws.{part_octet}
use Rattle.message.specs.Limits.{header}
use Rattle.message.specs.Message.{unsupported_version, encode, encode_body}
use Rattle.message.specs.Read.{accepted, reading}
use Rattle.message.specs.Parts.{meaning}
use Rattle.message.specs.Claims.{WritesBack}
use Rattle.message.specs.declared.bodies.Fields.TheVariants.{UnsupportedVersion}
use Rattle.message.proofs.FrameSays.{Version}
use Rattle.message.proofs.Encoded.{body_of, encoded, encoded_written, encoded_output}
use Rattle.message.proofs.ReadSays.{reading_says}

module _ (s : List ℕ) (v taken : ℕ) (o : Octets s) (e : reading s ≡ accepted (UnsupportedVersion v) taken) where
  says : Version s v × (taken ≡ length s)
  says = rw e at (reading_says s o)

  pub version_writes_back : length s ≡ 4 → number16_at s 1 ≡ 1 → WritesBack s (UnsupportedVersion v) taken
  unfolding meaning
  version_writes_back l told =
      let there : header + 1 ≤ length s = omega arith in
      let m = unsupported_version v in
      let same : encode_body m ≡ body_of s 1 = ap (λ (x : ℕ). x ∷ []) (sym says.0.read) ∙ part_octet s header (omega arith) in
      subst (WritesBack s (UnsupportedVersion v)) (sym (says.1 ∙ l))
      (record {
        octets = encoded s 1 there o told m says.0.type same;
        answer = encoded_written s 1 there o told m says.0.type same refl refl (omega arith);
        result = encoded_output s 1 there o told m says.0.type same refl refl (omega arith);
      })

  pub version_only_then : encode (unsupported_version v) ≡ take taken s → (length s ≡ 4) × (number16_at s 1 ≡ 1)
  unfolding encode number16_at
  version_only_then same =
      let q : s ≡ encode (unsupported_version v) = sym (same ∙ ap (λ (n : ℕ). take n s) says.1 ∙ take-length s) in
      (ap length q, ap (λ (x : List ℕ). number16_at x 1) q)
