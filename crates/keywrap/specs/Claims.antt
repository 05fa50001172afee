-- What the theorem and the contract of `unwrap` say of a key and a ciphertext: document 02, order 4, "accepted exactly if some plaintext
-- of 1 to 240 octets wraps to it under that key, and then that plaintext comes back".
use Rattle.std.specs.Prelude.{ℕ, ◌≤◌, ◌<◌, ◌≡◌, ◌↔◌, ◌⊎◌, true, List, ◌++◌, length, drop}
use Rattle.octets.specs.Number.{Octets}
use Rattle.keywrap.specs.Limits.{key_length, plaintext_most}
use Rattle.keywrap.specs.Padding.{wrap, accepted, unwrap}
use Rattle.keywrap.specs.Calls.{Answer, refused, written}

-- p is a plaintext of 1 to 240 octets that wraps to c
pub record WrapsTo (key c p : List ℕ) : Type 0 where
  pub least : 1 ≤ length p
  pub fits : length p ≤ plaintext_most
  pub octets : Octets p
  pub wraps : wrap key p ≡ c

-- no plaintext of 1 to 240 octets does
abbrev pub NothingWrapsTo : (key c : List ℕ) → Type 0
NothingWrapsTo key c = (p : List ℕ) → WrapsTo key c p → ⊥

-- ---- the theorem, of the definitions

pub record Accepts (key c : List ℕ) : Type 0 where
  pub exactly : (accepted key c ≡ true) ↔ ((p : List ℕ) × WrapsTo key c p)
  pub back : (p : List ℕ) → WrapsTo key c p → unwrap key c ≡ p

abbrev pub AcceptsAll : Type 0
AcceptsAll = (key c : List ℕ) → Octets key → Octets c → Accepts key c

-- ---- a call, whose output is `before` and then `after`

-- under a key of 16 octets either some plaintext wraps to c or nothing does, and the answer goes by that
pub record UnwrapsWith (key c before after : List ℕ) (answer : Answer) : Type 0 where
  pub either : ((p : List ℕ) × WrapsTo key c p) ⊎ NothingWrapsTo key c
  pub nothing : NothingWrapsTo key c → (answer ≡ refused 22) × (after ≡ before)
  pub no_room : (p : List ℕ) → WrapsTo key c p → length before < length p → (answer ≡ refused 13) × (after ≡ before)
  pub plaintext : (p : List ℕ) → WrapsTo key c p → length p ≤ length before
      → (answer ≡ written (length p)) × (after ≡ p ++ drop (length p) before)

pub record Unwraps (key c before after : List ℕ) (answer : Answer) : Type 0 where
  pub other_length : (length key ≡ key_length → ⊥) → (answer ≡ refused 34) × (after ≡ before)
  pub with_key : length key ≡ key_length → UnwrapsWith key c before after answer
