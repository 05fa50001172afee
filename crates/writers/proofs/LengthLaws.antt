-- The answer by the lengths of a message's fields is what writing it answers.
use Prim.Native.Nat.{ℕ, ◌+◌}
use mathlib.Core.Path.{◌≡◌, refl, ◌∙◌}
use mathlib.Core.Bool.{Bool, true, false, cond, not}
use mathlib.Core.List.{List}
use native.Mathlib.Omega.{arith}
use borrow.Author.Tests.{eqb-true}
use Rattle.std.specs.Prelude.{Some}
use Rattle.std.specs.Bool.{then_some}
use lib.Dec.{eqb}
use lib.ListN.{length, length-append}
use Rattle.message.specs.Limits.{width}
use Rattle.message.specs.Message.{Message, supported_profiles, unsupported_version, tunneled_dtls, endpoint_disconnect, encode, encode_body}
use Rattle.message.specs.Write.{refused, fitting, identifier_fits, fields_fit, writing}
use Rattle.message.proofs.AnswerLaws.{encode_length}
use Rattle.writers.specs.Keys as Keys
use Rattle.writers.specs.Steps.{answer_by, answer_for}
use Rattle.writers.specs.Keys.{KeyFields}

module _ (m : Message) (room : ℕ) where
  by_identifier : (b : Bool) (n : ℕ) → (b ≡ true → length (encode_body m) ≡ n)
      → answer_by b (fields_fit m) n room
      ≡ cond (not b) (refused 20) (cond (not (fields_fit m)) (refused 5) (fitting (length (encode_body m)) (length (encode m)) room))
  by_identifier true n h = rw (encode_length m, h refl)
  by_identifier false n h = refl

  answer_is : (n : ℕ) → (identifier_fits m ≡ true → length (encode_body m) ≡ n)
      → answer_by (identifier_fits m) (fields_fit m) n room ≡ writing m room
  unfolding writing
  answer_is n h = by_identifier (identifier_fits m) n h

-- a body's length where its fields fit
by_fields : (i f : Bool) (n room : ℕ) → answer_for i (then_some f n) room ≡ answer_by i f n room
by_fields i true n room = refl
by_fields i false n room = refl

module _ (room : ℕ) where
  pub profiles_answer : (version : ℕ) (l : List ℕ)
      → answer_for true (then_some (fields_fit (supported_profiles version l)) (3 + length l)) room ≡ writing (supported_profiles version l) room
  profiles_answer version l =
      by_fields true (fields_fit (supported_profiles version l)) (3 + length l) room
      ∙ answer_is (supported_profiles version l) room (3 + length l) (λ _. omega arith)

  pub version_answer : (version : ℕ) → answer_for true (Some 1) room ≡ writing (unsupported_version version) room
  version_answer version = answer_is (unsupported_version version) room 1 (λ _. refl)

  pub dtls_answer : (i d : List ℕ)
      → answer_for (eqb (length i) width) (then_some (fields_fit (tunneled_dtls i d)) (width + 2 + length d)) room ≡ writing (tunneled_dtls i d) room
  dtls_answer i d =
      by_fields (eqb (length i) width) (fields_fit (tunneled_dtls i d)) (width + 2 + length d) room
      ∙ answer_is (tunneled_dtls i d) room (width + 2 + length d)
      (λ h. let w = eqb-true (length i) width h in simp length-append (omega arith))

  pub disconnect_answer : (i : List ℕ) → answer_for (eqb (length i) width) (Some width) room ≡ writing (endpoint_disconnect i) room
  disconnect_answer i = answer_is (endpoint_disconnect i) room width (eqb-true (length i) width)

module _ (i : List ℕ) (p : ℕ) (k : KeyFields) (room : ℕ) where
  keys_length_lem : length i ≡ width
      → length (encode_body (Keys.media_keys i p k)) ≡ width + 7 + length k.mki.now + length k.client_key.now + length k.server_key.now + length k.client_salt.now + length k.server_salt.now
  keys_length_lem h = simp length-append (omega arith)

  pub keys_answer_lem : answer_for (eqb (length i) width) (Keys.body_length k) room ≡ writing (Keys.media_keys i p k) room
  keys_answer_lem =
      by_fields (eqb (length i) width) (Keys.fit k) _ room
      ∙ answer_is (Keys.media_keys i p k) room _ (λ h. keys_length_lem (eqb-true _ _ h))
