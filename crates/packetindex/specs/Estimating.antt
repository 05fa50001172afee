-- The estimate of a packet's index: RFC 3711, section 3.3.1 and appendix A, with the refusals of document 02, order 11.
use Rattle.std.specs.Prelude.{ℕ, ◌+◌, ◌-◌, ◌*◌, ◌%◌, cond, ◌==◌, nat_lt, Result, Ok, Err}
use Rattle.octets.specs.Refusal.{number_of}
use Rattle.octets.specs.declared.refusal.Refusal.{Refusal}
use Rattle.packetindex.specs.Limits.{sequence_count, half_way, roc_count}
use Rattle.packetindex.specs.declared.stream.Stream.{Stream}
use Rattle.packetindex.specs.declared.estimating.Neighbour.{Neighbour}
use Rattle.packetindex.specs.declared.estimating.Neighbour.TheVariants.{OneLess, Same, OneMore}
use Rattle.packetindex.specs.declared.estimating.Estimate.{Estimate}

-- what the estimate answers: a refusal by its number, or the ROC tried and the index under it
pub data Answer : Type 0 where
  refused : (number : ℕ) → Answer
  found : (roc index : ℕ) → Answer

-- appendix A, with s_l for the highest sequence number seen:
--
--     if (s_l < 32,768)
--        if (SEQ - s_l > 32,768)
--           set v to (ROC-1) mod 2^32
--        else
--           set v to ROC
--     else
--        if (s_l - 32,768 > SEQ)
--           set v to (ROC+1) mod 2^32
--        else
--           set v to ROC
--
-- Its SEQ - s_l may be negative and is 0 here; neither is above 32,768.
unfoldable pub neighbour_of : (highest sequence : ℕ) → Neighbour
neighbour_of highest sequence =
    cond (nat_lt highest half_way)
    (cond (nat_lt half_way (sequence - highest)) OneLess Same)
    (cond (nat_lt sequence (highest - half_way)) OneMore Same)

-- the v that is tried
abbrev pub roc_tried : (roc : ℕ) → Neighbour → ℕ
roc_tried roc OneLess = (roc + (roc_count - 1)) % roc_count
roc_tried roc Same = roc
roc_tried roc OneMore = (roc + 1) % roc_count

-- i = 2^16 * v + SEQ
abbrev pub index_of : (roc sequence : ℕ) → ℕ
index_of roc sequence = roc * sequence_count + sequence

-- at ROC 0 one less is refusal 31, at the last ROC one more is refusal 32
abbrev pub answer : (roc sequence : ℕ) → Neighbour → Answer
answer roc sequence OneLess =
    cond (roc == 0) (refused 31) (found (roc_tried roc OneLess) (index_of (roc_tried roc OneLess) sequence))
answer roc sequence Same = found (roc_tried roc Same) (index_of (roc_tried roc Same) sequence)
answer roc sequence OneMore =
    cond (roc == roc_count - 1) (refused 32) (found (roc_tried roc OneMore) (index_of (roc_tried roc OneMore) sequence))

unfoldable pub estimating : Stream → (sequence : ℕ) → Answer
estimating s sequence = answer s.roc sequence (neighbour_of s.highest sequence)

-- what a result stands for: a refusal by its number, or the ROC tried and the index under it
abbrev pub answer_of : Result Estimate Refusal → Answer
answer_of (Err refusal) = refused (number_of refusal)
answer_of (Ok e) = found e.roc e.index
