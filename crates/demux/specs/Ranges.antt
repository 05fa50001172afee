-- The ranges of sorting in other words, with the numbers of document 02, order 3: what the theorem in proofs/ says of them.
use Rattle.std.specs.Prelude.{ℕ, zero, suc, ◌+◌, ◌≤◌, ◌≡◌, ◌↔◌, ◌⊎◌, List, [], ◌∷◌, ◌++◌, map, replicate}
use Rattle.demux.specs.Sorting.{kind_of, refused, kind, sorting}
use Rattle.demux.specs.declared.sorting.Kind.{Kind}
use Rattle.demux.specs.declared.sorting.Kind.TheVariants.{Stun, Zrtp, Dtls, TurnChannel, Rtp, Other}

-- the first octets of each kind, both limits counted; the last range has no upper limit, as an octet is at most 255
abbrev pub InRange : Kind → (first : ℕ) → Type 0
InRange Stun first = first ≤ 3
InRange Zrtp first = (16 ≤ first) × (first ≤ 19)
InRange Dtls first = (20 ≤ first) × (first ≤ 63)
InRange TurnChannel first = (64 ≤ first) × (first ≤ 79)
InRange Rtp first = (128 ≤ first) × (first ≤ 191)
InRange Other first = ((4 ≤ first) × (first ≤ 15)) ⊎ (((80 ≤ first) × (first ≤ 127)) ⊎ (192 ≤ first))

-- so many numbers in order, from a start on
abbrev pub numbers : (start count : ℕ) → List ℕ
numbers start zero = []
numbers start (suc count) = start ∷ numbers (start + 1) count

-- the kinds of 0 to 255 in order, each octet once: a second count, by runs of one kind
abbrev pub Covered : Type 0
Covered =
    map kind_of (numbers 0 256)
    ≡ replicate 4 Stun
    ++ (replicate 12 Other
    ++ (replicate 4 Zrtp
    ++ (replicate 44 Dtls
    ++ (replicate 16 TurnChannel
    ++ (replicate 48 Other
    ++ (replicate 64 Rtp
    ++ replicate 64 Other))))))

pub record Ranges : Type 0 where
  -- a kind has these first octets and no others
  pub exactly : (k : Kind) (first : ℕ) → (kind_of first ≡ k) ↔ InRange k first
  pub covered : Covered
  -- so is a packet sorted, whatever stands behind its first octet; without one it is refusal 19
  pub sorted : (first : ℕ) (rest : List ℕ) → sorting (first ∷ rest) ≡ kind (kind_of first)
  pub empty : sorting [] ≡ refused 19
