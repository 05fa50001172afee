-- The kind of a packet by its first octet: RFC 7983, section 7, as document 02, order 3, has it. That no other octet is looked at, and what an empty packet is answered, is document 01's, "Sorting a packet".
--
--                 +----------------+
--                 |        [0..3] -+--> forward to STUN
--                 |                |
--                 |      [16..19] -+--> forward to ZRTP
--                 |                |
--     packet -->  |      [20..63] -+--> forward to DTLS
--                 |                |
--                 |      [64..79] -+--> forward to TURN Channel
--                 |                |
--                 |    [128..191] -+--> forward to RTP/RTCP
--                 +----------------+
use Rattle.std.specs.Prelude.{ℕ, cond, List, [], ◌∷◌, Result, Ok, Err}
use Rattle.octets.specs.Range.{within}
use Rattle.octets.specs.Refusal.{number_of}
use Rattle.octets.specs.declared.refusal.Refusal.{Refusal}
use Rattle.demux.specs.declared.sorting.Kind.{Kind}
use Rattle.demux.specs.declared.sorting.Kind.TheVariants.{Stun, Zrtp, Dtls, TurnChannel, Rtp, Other}

-- the figure's ranges, both limits counted; every other value is Other
unfoldable pub kind_of : (first : ℕ) → Kind
kind_of first =
    cond (within 0 3 first) Stun
    (cond (within 16 19 first) Zrtp
    (cond (within 20 63 first) Dtls
    (cond (within 64 79 first) TurnChannel
    (cond (within 128 191 first) Rtp
    Other))))

-- what sorting answers: a refusal by its number, or the packet's kind
pub data Answer : Type 0 where
  refused : (number : ℕ) → Answer
  kind : Kind → Answer

-- an empty packet is refusal 19; of any other the first octet decides
unfoldable pub sorting : List ℕ → Answer
sorting [] = refused 19
sorting (first ∷ rest) = kind (kind_of first)

-- the number or the kind that a result stands for
abbrev pub answer_of : Result Kind Refusal → Answer
answer_of (Err refusal) = refused (number_of refusal)
answer_of (Ok k) = kind k
