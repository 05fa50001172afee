-- What wrapping and unwrapping answer, case by case, and unwrapping by whether some plaintext wraps to the ciphertext.
use Prim.Native.Nat.{ℕ, ◌≤◌, ◌<◌}
use mathlib.Core.Path.{◌≡◌, refl, sym, ap, ◌∙◌}
use mathlib.Core.Bool.{true, false}
use mathlib.Core.List.{List, ◌++◌}
use mathlib.Core.Logic.{◌⊎◌, inl, inr}
use borrow.Author.Tests.{eq-eqb, ne_eqb, lt-ltb, le-ltb}
use lib.ListN.{length, drop}
use Rattle.octets.specs.Number.{Octets}
use Rattle.octets.specs.Range.{within}
use Rattle.octets.proofs.Tests.{by_test, false_true}
use Rattle.aes.specs.KeyExpansion.{key_expansion}
use Rattle.keywrap.specs.Limits.{key_length, plaintext_most}
use Rattle.keywrap.specs.Padding.{wrap, length_fits, accepted, unwrap_registers, verified, plaintext_in, unwrap}
use Rattle.keywrap.specs.Calls.{Answer, refused, written, fitting, wrapping, unwrapping, output_after, Writes}
use Rattle.keywrap.specs.Inner.{taking}
use Rattle.keywrap.specs.Claims.{WrapsTo, NothingWrapsTo, Unwraps}
use Rattle.keywrap.proofs.Accepted.{accepts, only_if, comes_back}

-- the promise is kept by an answer that is known
pub settled : (a : Answer) {e : Answer} (octets before : List ℕ) → e ≡ a → Writes e octets before (output_after a octets before) a
settled a octets before h = (sym h, ap (λ (v : Answer). output_after v octets before) (sym h))

-- ---- wrapping

module _ (key p : List ℕ) (room : ℕ) where
  pub wrap_other_key : (length key ≡ key_length → ⊥) → wrapping key p room ≡ refused 34
  unfolding wrapping
  wrap_other_key n = rw (ne_eqb (length key) key_length n) refl

  module _ (k : length key ≡ key_length) where
    pub wrap_other_length : within 1 plaintext_most (length p) ≡ false → wrapping key p room ≡ refused 33
    unfolding wrapping
    wrap_other_length w = rw (eq-eqb (length key) key_length k, w) refl

    pub wrap_no_room : within 1 plaintext_most (length p) ≡ true → room < length (wrap key p) → wrapping key p room ≡ refused 13
    unfolding wrapping
    wrap_no_room w h = rw (eq-eqb (length key) key_length k, w, lt-ltb room (length (wrap key p)) h) refl

    pub wrap_room : within 1 plaintext_most (length p) ≡ true → length (wrap key p) ≤ room → wrapping key p room ≡ written (length (wrap key p))
    unfolding wrapping
    wrap_room w h = rw (eq-eqb (length key) key_length k, w, le-ltb room (length (wrap key p)) h) refl

-- ---- unwrapped registers

module _ (x : List ℕ) (room : ℕ) where
  pub take_refused : verified x ≡ false → taking x room ≡ refused 22
  unfolding taking
  take_refused v = rw v refl

  pub take_no_room : verified x ≡ true → room < length (plaintext_in x) → taking x room ≡ refused 13
  unfolding taking
  take_no_room v h = rw (v, lt-ltb room (length (plaintext_in x)) h) refl

  pub take_room : verified x ≡ true → length (plaintext_in x) ≤ room → taking x room ≡ written (length (plaintext_in x))
  unfolding taking
  take_room v h = rw (v, le-ltb room (length (plaintext_in x)) h) refl

-- ---- unwrapping

pub when_other_length : (key c : List ℕ) (room : ℕ) → (length key ≡ key_length → ⊥) → unwrapping key c room ≡ refused 34
unfolding unwrapping
when_other_length key c room n = rw (ne_eqb (length key) key_length n) refl

module _ (key c : List ℕ) (room : ℕ) (k : length key ≡ key_length) where
  pub not_fitting : length_fits (length c) ≡ false → unwrapping key c room ≡ refused 22
  unfolding unwrapping accepted
  not_fitting f = rw (eq-eqb (length key) key_length k, f) refl

  pub when_fitting : length_fits (length c) ≡ true → unwrapping key c room ≡ taking (unwrap_registers (key_expansion key) c) room
  unfolding unwrapping accepted taking unwrap
  when_fitting f = rw (eq-eqb (length key) key_length k, f) refl

  when_refused : accepted key c ≡ false → unwrapping key c room ≡ refused 22
  unfolding unwrapping
  when_refused a = rw (eq-eqb (length key) key_length k, a) refl

  when_accepted : accepted key c ≡ true → unwrapping key c room ≡ fitting (unwrap key c) room
  unfolding unwrapping
  when_accepted a = rw (eq-eqb (length key) key_length k, a) refl

-- ---- the contract of `unwrap`

module _ (key c before after : List ℕ) (answer : Answer) (ok : Octets key) (oc : Octets c)
    (w : Writes (unwrapping key c (length before)) (unwrap key c) before after answer) where
  -- both the answer and the output, where it is known what unwrapping answers
  promised : (a : Answer) → unwrapping key c (length before) ≡ a → (answer ≡ a) × (after ≡ output_after a (unwrap key c) before)
  promised a e = (w.0 ∙ e, w.1 ∙ ap (λ (v : Answer). output_after v (unwrap key c) before) e)

  other_length_lem : (length key ≡ key_length → ⊥) → (answer ≡ refused 34) × (after ≡ before)
  other_length_lem n = promised (refused 34) (when_other_length key c (length before) n)

  module _ (k : length key ≡ key_length) where
    -- a plaintext that wraps to c
    module _ (p : List ℕ) (t : WrapsTo key c p) where
      fitted : unwrapping key c (length before) ≡ fitting p (length before)
      fitted =
          when_accepted key c (length before) k ((accepts key c ok oc).exactly.1 (p, t))
          ∙ ap (λ (x : List ℕ). fitting x (length before)) (comes_back key ok c p t)

      no_room_lem : length before < length p → (answer ≡ refused 13) × (after ≡ before)
      no_room_lem h = promised (refused 13) (fitted ∙ rw (lt-ltb (length before) (length p) h) refl)

      room : length p ≤ length before → (answer ≡ written (length p)) × (after ≡ p ++ drop (length p) before)
      room h =
          let r = promised (written (length p)) (fitted ∙ rw (le-ltb (length before) (length p) h) refl) in
          (r.0, r.1 ∙ ap (λ (x : List ℕ). x ++ drop (length x) before) (comes_back key ok c p t))

    refused_then : accepted key c ≡ false → NothingWrapsTo key c
    refused_then a p t = false_true (sym a ∙ (accepts key c ok oc).exactly.1 (p, t))

    some_or_none : ((p : List ℕ) × WrapsTo key c p) ⊎ NothingWrapsTo key c
    some_or_none = by_test (accepted key c) (λ a. inl ((accepts key c ok oc).exactly.0 a)) (λ a. inr (refused_then a))

    none : NothingWrapsTo key c → (answer ≡ refused 22) × (after ≡ before)
    none n =
        by_test (accepted key c)
        (λ a. absurd (n (unwrap key c) (only_if key ok c oc a)))
        (λ a. promised (refused 22) (when_refused key c (length before) k a))

  pub unwraps : Unwraps key c before after answer
  unwraps =
      record {
        other_length = other_length_lem;
        with_key = λ k. record { either = some_or_none k; nothing = none k; no_room = no_room_lem k; plaintext = room k };
      }
