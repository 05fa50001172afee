-- A call is allowed, or refused by a number, the earliest in its order: document 01, "Refusal numbers".
use Rattle.std.specs.Prelude.{ℕ, Bool, true, false}

pub data Verdict : Type 0 where
  allowed : Verdict
  refusal : (number : ℕ) → Verdict

-- a refusal where its test holds, else what comes next in the order
abbrev pub refuse : Bool → (number : ℕ) → Verdict → Verdict
refuse true number next = refusal number
refuse false number next = next

-- what is so after an allowed call, and what after a refused one
abbrev pub after : {A : Type 0} → Verdict → A → A → A
after allowed new old = new
after (refusal number) new old = old
