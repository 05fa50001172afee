-- The reading of lent octets said on the octets themselves, without the definitions that it goes by: document 01, "Reading the front of a lent stretch". The numbers are the document's.
use Rattle.std.specs.Prelude.{ℕ, ◌+◌, ◌≤◌, ◌<◌, ◌≡◌, ◌⊎◌, List, length}
use Rattle.octets.specs.Number.{octet_at, number16_at}
use Rattle.message.specs.Read.{Answer, more_needed, refused, accepted, reading}
use Rattle.message.specs.declared.bodies.Fields.TheVariants.{UnsupportedVersion}

-- a header is there, by its type octet: of type 2, and of any other
pub record OfVersion (s : List ℕ) : Type 0 where
  pub header : 3 ≤ length s
  pub type : octet_at s 0 ≡ 2

pub record OfOther (s : List ℕ) : Type 0 where
  pub header : 3 ≤ length s
  pub type : octet_at s 0 ≡ 2 → ⊥

-- a whole message of another type than 2, within the limit
pub record WholeAt (s : List ℕ) : Type 0 where
  pub type : octet_at s 0 ≡ 2 → ⊥
  pub limit : number16_at s 1 ≤ 4096
  pub there : 3 + number16_at s 1 ≤ length s

-- a type that is not listed: 0 or 6 to 255
abbrev pub IsUnlisted : ℕ → Type 0
IsUnlisted type = (type ≡ 0) ⊎ (6 ≤ type)

-- an answer other than "more needed": accepted, or refusal 5; so many octets are taken either way
abbrev pub Takes : (taken : ℕ) → Answer → Type 0
Takes n more_needed = ⊥
Takes n (refused number taken) = (number ≡ 5) × (taken ≡ n)
Takes n (accepted f taken) = taken ≡ n

pub record ReadsBySteps (s : List ℕ) : Type 0 where
  -- 1: fewer than three octets: more needed
  pub few : length s < 3 → reading s ≡ more_needed
  -- 2: type 2: length 0 is refusal 5, three taken; otherwise, fewer than four octets: more needed; otherwise accepted, whatever the length says, and every lent octet is taken
  pub empty_version : OfVersion s → number16_at s 1 ≡ 0 → reading s ≡ refused 5 3
  pub version_awaited : OfVersion s → (number16_at s 1 ≡ 0 → ⊥) → length s < 4 → reading s ≡ more_needed
  pub version : OfVersion s → (number16_at s 1 ≡ 0 → ⊥) → 4 ≤ length s → reading s ≡ accepted (UnsupportedVersion (octet_at s 3)) (length s)
  -- 3: other types: length above 4,096 is refusal 2, none taken; not whole yet: more needed
  pub oversize : OfOther s → 4096 < number16_at s 1 → reading s ≡ refused 2 0
  pub awaited : OfOther s → number16_at s 1 ≤ 4096 → length s < 3 + number16_at s 1 → reading s ≡ more_needed
  -- 4: whole: type 0 or 6 to 255 is refusal 3; the whole message is taken, refused or not
  pub unlisted : WholeAt s → IsUnlisted (octet_at s 0) → reading s ≡ refused 3 (3 + number16_at s 1)
  pub listed : WholeAt s → (IsUnlisted (octet_at s 0) → ⊥) → Takes (3 + number16_at s 1) (reading s)
