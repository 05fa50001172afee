-- What the theorems in proofs/ say of updates, and of streams that are followed packet by packet.
use Rattle.std.specs.Prelude.{◌≡◌, ℕ, ◌+◌, ◌/◌, ◌%◌, ◌^◌, ◌<◌, ◌≤◌, max, ◌↔◌, List, [], ◌∷◌, ◌≢◌}
use Rattle.packetindex.specs.Estimating.{found, estimating}
use Rattle.packetindex.specs.Updating.{keep, updating, next}
use Rattle.packetindex.specs.Nearest.{distance, highest_index, StreamFits, HalfWay, Tried}
use Rattle.packetindex.specs.declared.stream.Stream.{Stream}
use Rattle.packetindex.specs.declared.estimating.Neighbour.{Neighbour}

-- "ROC and highest number become the packet's exactly when its index is higher": of a packet with this ROC and this index
pub record Update (s : Stream) (sequence roc i : ℕ) : Type 0 where
  pub answer : updating s sequence ≡ keep (next s sequence)
  pub moves : highest_index s < i → next s sequence ≡ record { roc = roc; highest = sequence }
  pub stays : i ≤ highest_index s → next s sequence ≡ s
  pub changes : (next s sequence ≢ s) ↔ (highest_index s < i)
  pub greater : highest_index (next s sequence) ≡ max (highest_index s) i

-- the same as RFC 3711, section 3.3.1, has it, by the ROC that was tried
pub record UpdateByRoc (s : Stream) (sequence roc : ℕ) : Type 0 where
  pub tried : (n : Neighbour) × (HalfWay s.highest sequence n × Tried s.roc n roc)
  pub one_less : roc + 1 ≡ s.roc → next s sequence ≡ s
  pub same : roc ≡ s.roc → next s sequence ≡ record { roc = s.roc; highest = max s.highest sequence }
  pub one_more : roc ≡ s.roc + 1 → next s sequence ≡ record { roc = roc; highest = sequence }

-- what is kept after packets with these sequence numbers
abbrev pub follow : Stream → (sequence_numbers : List ℕ) → Stream
follow s [] = s
follow s (sequence ∷ rest) = follow (next s sequence) rest

-- ---- packets by their true indices, in order or late, some lost, some repeated

-- each is less than half-way from the highest so far
abbrev pub CloseBy : (highest : ℕ) → (indices : List ℕ) → Type 0
CloseBy highest [] = Unit {0}
CloseBy highest (i ∷ rest) = (distance i highest < 32768) × (i < 2 ^ 48) × CloseBy (max highest i) rest

abbrev pub sequence_numbers_of : (indices : List ℕ) → List ℕ
sequence_numbers_of [] = []
sequence_numbers_of (i ∷ rest) = i % 65536 ∷ sequence_numbers_of rest

abbrev pub highest_of : (highest : ℕ) → (indices : List ℕ) → ℕ
highest_of highest [] = highest
highest_of highest (i ∷ rest) = highest_of (max highest i) rest

-- the estimate finds each again
abbrev pub AllFound : Stream → (indices : List ℕ) → Type 0
AllFound s [] = Unit {0}
AllFound s (i ∷ rest) = (estimating s (i % 65536) ≡ found (i / 65536) i) × AllFound (next s (i % 65536)) rest

pub record Followed (s : Stream) (indices : List ℕ) : Type 0 where
  pub all_found : AllFound s indices
  pub highest : highest_index (follow s (sequence_numbers_of indices)) ≡ highest_of (highest_index s) indices
  pub fits : StreamFits (follow s (sequence_numbers_of indices))
