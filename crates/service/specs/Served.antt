-- A list of frames served from the first state: every frame on the block that the one before it left, as the calls that they stand for.
use Rattle.std.specs.Prelude.{ℕ, ◌≡◌, List, [], ◌∷◌, map}
use Rattle.rules.specs.Answer.{Answer}
use Rattle.rules.specs.Call.{Call}
use Rattle.rules.specs.Cards as Cards
use Rattle.rules.specs.Claim.{AsCards}
use Rattle.rules.specs.Layout.{down_block}
use Rattle.rules.specs.Table.{run, answers}
use Rattle.rules.specs.View.{view}
use Rattle.service.specs.Request.{Request, call, no_call, request_of}
use Rattle.service.specs.Reply.{frame_of, answer_octets, lent_to, own_reply, reply, block_after}

-- ---- as `serve_one` promises it, frame by frame

unfoldable pub replies : List ℕ → List (List ℕ) → List (List ℕ)
replies s [] = []
replies s (f ∷ fs) = reply s (request_of f) ∷ replies (block_after s (request_of f)) fs

unfoldable pub block_behind : List ℕ → List (List ℕ) → List ℕ
block_behind s [] = s
block_behind s (f ∷ fs) = block_behind (block_after s (request_of f)) fs

-- ---- by the list of calls

-- the calls among requests; those that are none drop out
unfoldable pub calls_in : List Request → List Call
calls_in [] = []
calls_in (call c ∷ qs) = c ∷ calls_in qs
calls_in (no_call kind ∷ qs) = calls_in qs

-- a frame for each request, the calls' answers taken in order; there is one for each call
unfoldable pub replies_of : List Request → List Answer → List (List ℕ)
replies_of [] given = []
replies_of (call c ∷ qs) [] = []
replies_of (call c ∷ qs) (a ∷ given) = frame_of (answer_octets (lent_to c) a) ∷ replies_of qs given
replies_of (no_call kind ∷ qs) given = own_reply kind ∷ replies_of qs given

abbrev pub calls_of : List (List ℕ) → List Call
calls_of frames = calls_in (map request_of frames)

pub record Served (frames : List (List ℕ)) : Type 0 where
  -- the answer frames are those of the distributor's answers to the calls
  pub answered : replies down_block frames ≡ replies_of (map request_of frames) (answers down_block (calls_of frames))
  -- the block is the one that the calls lead to
  pub block : block_behind down_block frames ≡ run down_block (calls_of frames)
  -- and holds what the cards say of these calls
  pub table : AsCards (view (block_behind down_block frames)) (Cards.fed Cards.first (calls_of frames))
