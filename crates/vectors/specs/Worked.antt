-- The worked octets of document 01 that it marks P, with P10 replaced as document 02, order 3, asks, in one table: what the definitions that the calls promise give on them, and the written meaning.
use Rattle.std.specs.Prelude.{ℕ, ◌≡◌, List, [], ◌∷◌, map, length}
use Rattle.demux.specs.Sorting.{sorting, kind}
use Rattle.demux.specs.declared.sorting.Kind.TheVariants.{Stun, Zrtp, Dtls, TurnChannel, Rtp, Other}
use Rattle.ekt.specs.Claims.{Splits}
use Rattle.ekt.specs.Splitting as Splitting
use Rattle.rules.specs.Answer.{Answer, refused, more_needed, wrote, version}
use Rattle.rules.specs.Layout.{down_block, up_block}
use Rattle.rules.specs.Table.{start_answer, start_next, octets_answer, octets_next}

-- Start in the first state, with an output just long enough: what it writes, and the tunnel up with the list
pub record Starts (list written : List ℕ) : Type 0 where
  pub answer : start_answer down_block list (length written) ≡ wrote written
  pub next : start_next down_block list (length written) ≡ up_block list

-- the list of both profiles, and the block that a start with it leaves
abbrev pub both : List ℕ
both = 0x00 ∷ 0x09 ∷ 0x00 ∷ 0x0A ∷ []

abbrev pub started : List ℕ
started = up_block both

-- Tunnel octets on that block: the answer, and the block that they leave
pub record Receives (octets : List ℕ) (a : Answer) (s : List ℕ) : Type 0 where
  pub answer : octets_answer started octets ≡ a
  pub next : octets_next started octets ≡ s

pub record Worked : Type 0 where
  -- RFC 9185, section 7
  pub p1 : Starts both (0x01 ∷ 0x00 ∷ 0x07 ∷ 0x00 ∷ 0x00 ∷ 0x04 ∷ 0x00 ∷ 0x09 ∷ 0x00 ∷ 0x0A ∷ [])
  pub p2 : Starts (0x00 ∷ 0x0A ∷ []) (0x01 ∷ 0x00 ∷ 0x05 ∷ 0x00 ∷ 0x00 ∷ 0x02 ∷ 0x00 ∷ 0x0A ∷ [])
  -- version 3, tunnel down; length 5,000, still version 1; more needed
  pub p3 : Receives (0x02 ∷ 0x00 ∷ 0x01 ∷ 0x03 ∷ []) (version 3 4) down_block
  pub p4 : Receives (0x02 ∷ 0x13 ∷ 0x88 ∷ 0x01 ∷ []) (version 1 4) down_block
  pub p5 : Receives (0x02 ∷ 0x00 ∷ 0x01 ∷ []) more_needed started
  -- refusal 2 ends the tunnel; 3, 4 and 5 take the three octets and change nothing
  pub p6 : Receives (0x03 ∷ 0x10 ∷ 0x01 ∷ []) (refused 2 0) down_block
  pub p7 : Receives (0x06 ∷ 0x00 ∷ 0x00 ∷ []) (refused 3 3) started
  pub p8 : Receives (0x01 ∷ 0x00 ∷ 0x00 ∷ []) (refused 4 3) started
  pub p9 : Receives (0x05 ∷ 0x00 ∷ 0x00 ∷ []) (refused 5 3) started
  -- first octets on both sides of every limit, whatever stands behind them
  pub p10 : (rest : List ℕ)
      → map (λ first. sorting (first ∷ rest)) (0 ∷ 3 ∷ 4 ∷ 15 ∷ 16 ∷ 19 ∷ 20 ∷ 63 ∷ 64 ∷ 79 ∷ 80 ∷ 127 ∷ 128 ∷ 191 ∷ 192 ∷ 255 ∷ [])
      ≡ map kind (Stun ∷ Stun ∷ Other ∷ Other ∷ Zrtp ∷ Zrtp ∷ Dtls ∷ Dtls ∷ TurnChannel ∷ TurnChannel ∷ Other ∷ Other ∷ Rtp ∷ Rtp ∷ Other ∷ Other ∷ [])
  -- the answer; then the front, the ciphertext and the extension's data
  pub p11 : Splits (0xAA ∷ 0x12 ∷ 0x34 ∷ 0x00 ∷ 0x01 ∷ 0x00 ∷ 0x08 ∷ 0x02 ∷ []) (Splitting.full 0x1234 1 0 1) [] (0xAA ∷ []) []
  pub p12 : Splits (0x00 ∷ []) (Splitting.short 0) [] [] []
  pub p13 : Splits (0xBB ∷ 0x00 ∷ 0x04 ∷ 0x03 ∷ []) (Splitting.extension 3 0 1) [] [] (0xBB ∷ [])
  pub p14 : Splits (0xAA ∷ 0x12 ∷ 0x34 ∷ 0x00 ∷ 0x01 ∷ 0x00 ∷ 0x07 ∷ 0x02 ∷ []) (Splitting.refused 18) [] [] []
