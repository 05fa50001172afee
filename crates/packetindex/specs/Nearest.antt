-- What the theorems in proofs/ say of the estimate, with the numbers of document 02, order 11, and of RFC 3711 written out:
-- which ROC is tried, when the estimate refuses, and that otherwise it is the nearest index, with its ties.
use Rattle.std.specs.Prelude.{◌≡◌, ℕ, ◌+◌, ◌-◌, ◌*◌, ◌/◌, ◌%◌, ◌^◌, ◌<◌, ◌≤◌, min, ◌↔◌}
use Rattle.packetindex.specs.Estimating.{Answer, refused, found}
use Rattle.packetindex.specs.declared.stream.Stream.{Stream}
use Rattle.packetindex.specs.declared.estimating.Neighbour.{Neighbour}
use Rattle.packetindex.specs.declared.estimating.Neighbour.TheVariants.{OneLess, Same, OneMore}

-- |a - b|: of the two differences one is 0
abbrev pub distance : (a b : ℕ) → ℕ
distance a b = a - b + (b - a)

-- "65,536 times ROC plus the highest number seen"
abbrev pub highest_index : Stream → ℕ
highest_index s = 65536 * s.roc + s.highest

-- a ROC fits in 32 bits and a sequence number in 16, as those of the code do
pub record StreamFits (s : Stream) : Type 0 where
  pub roc_fits : s.roc < 2 ^ 32
  pub highest_fits : s.highest < 2 ^ 16

pub record Fits (s : Stream) (sequence : ℕ) : Type 0 where
  pub stream_fits : StreamFits s
  pub sequence_fits : sequence < 2 ^ 16

-- ---- the ROC tried

-- the half-way rule: another ROC only for numbers that are more than half-way apart
abbrev pub HalfWay : (highest sequence : ℕ) → Neighbour → Type 0
HalfWay highest sequence OneLess = highest + 32768 < sequence
HalfWay highest sequence Same = distance sequence highest ≤ 32768
HalfWay highest sequence OneMore = sequence + 32768 < highest

-- "one less, the same or one more, modulo 2^32"
abbrev pub Tried : (roc : ℕ) → Neighbour → (v : ℕ) → Type 0
Tried roc OneLess v = (v < 4294967296) × ((v + 1) % 4294967296 ≡ roc)
Tried roc Same v = v ≡ roc
Tried roc OneMore v = v ≡ (roc + 1) % 4294967296

-- the distance modulo 2^48, by which the last index and 0 are 1 apart
abbrev pub distance_modulo : (a b : ℕ) → ℕ
distance_modulo a b = min (distance a b) (2 ^ 48 - distance a b)

-- section 3.3.1: of the three ROCs, none has a closer index than this one
abbrev pub Closest : Stream → (sequence : ℕ) → Neighbour → Type 0
Closest s sequence n =
    (m : Neighbour) (v w : ℕ) → Tried s.roc n v → Tried s.roc m w
    → distance_modulo (65536 * v + sequence) (highest_index s) ≤ distance_modulo (65536 * w + sequence) (highest_index s)

-- ---- the refusals

-- 31: at ROC 0, one less
pub record BeforeFirst (s : Stream) (sequence : ℕ) : Type 0 where
  pub first : s.roc ≡ 0
  pub one_less : HalfWay s.highest sequence OneLess

-- 32: at ROC 4,294,967,295, one more
pub record AfterLast (s : Stream) (sequence : ℕ) : Type 0 where
  pub last : s.roc ≡ 4294967295
  pub one_more : HalfWay s.highest sequence OneMore

-- 31 by distances: sequence - 65,536, which is below 0, is nearer than every index with this sequence number
abbrev pub NearerBelow : Stream → (sequence : ℕ) → Type 0
NearerBelow s sequence = (j : ℕ) → j % 65536 ≡ sequence → highest_index s + 65536 - sequence < distance j (highest_index s)

-- 32 by distances: 2^48 + sequence, which has more than 48 bits, is nearer than every index with this sequence number
abbrev pub NearerAbove : Stream → (sequence : ℕ) → Type 0
NearerAbove s sequence =
    (j : ℕ) → j % 65536 ≡ sequence → j < 2 ^ 48 → distance (2 ^ 48 + sequence) (highest_index s) < distance j (highest_index s)

-- ---- the index

-- at most half-way from the highest index. Both ends have the same sequence number, so one of them is left out: the lower
-- end where the highest number is in the lower half of the sequence numbers, and the upper end where it is in the upper half.
pub data Near (s : Stream) (i : ℕ) : Type 0 where
  lower_half : s.highest < 32768 → highest_index s < i + 32768 → i ≤ highest_index s + 32768 → Near s i
  upper_half : 32768 ≤ s.highest → highest_index s ≤ i + 32768 → i < highest_index s + 32768 → Near s i

-- a near index of 48 bits, with its sequence number and its ROC
pub record NearIndex (s : Stream) (sequence roc i : ℕ) : Type 0 where
  pub sequence_of : i % 65536 ≡ sequence
  pub roc_of : i / 65536 ≡ roc
  pub bits : i < 2 ^ 48
  pub near : Near s i

-- no index with this sequence number is nearer
abbrev pub Nearest : Stream → (sequence i : ℕ) → Type 0
Nearest s sequence i = (j : ℕ) → j % 65536 ≡ sequence → distance i (highest_index s) ≤ distance j (highest_index s)

-- another index with this sequence number, as near
pub record AsNear (s : Stream) (sequence i j : ℕ) : Type 0 where
  pub sequence_of : j % 65536 ≡ sequence
  pub bits : j < 2 ^ 48
  pub other : j ≡ i → ⊥
  pub equal : distance j (highest_index s) ≡ distance i (highest_index s)

-- the other end: the numbers are half-way apart, and the index there is the one under the ROC before, or after
pub record OtherEnd (s : Stream) (sequence i j : ℕ) : Type 0 where
  pub apart : distance sequence s.highest ≡ 32768
  pub bits : j < 2 ^ 48
  pub before : s.highest < 32768 → j + 65536 ≡ i
  pub after : 32768 ≤ s.highest → j ≡ i + 65536

-- what holds of an index that the estimate gives
pub record Estimate (s : Stream) (sequence roc i : ℕ) : Type 0 where
  pub index : NearIndex s sequence roc i
  pub nearest : Nearest s sequence i
  pub ties : (j : ℕ) → AsNear s sequence i j ↔ OtherEnd s sequence i j
  -- half-way apart the RFC's comparisons leave the ROC as it is
  pub settled : distance sequence s.highest ≡ 32768 → roc ≡ s.roc

-- ---- every answer

pub data Refusal (s : Stream) (sequence number : ℕ) : Type 0 where
  no_such_index : number ≡ 31 → BeforeFirst s sequence → Refusal s sequence number
  key_spent : number ≡ 32 → AfterLast s sequence → Refusal s sequence number

abbrev pub Says : Stream → (sequence : ℕ) → Answer → Type 0
Says s sequence (refused number) = Refusal s sequence number
Says s sequence (found roc i) = Estimate s sequence roc i
