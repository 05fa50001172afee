-- Every list of frames is served as the list of calls that it stands for.
use Prim.Native.Nat.{ℕ}
use mathlib.Core.Path.{◌≡◌, refl, sym, ap, subst}
use mathlib.Core.List.{List, [], ◌∷◌, map}
use Rattle.rules.specs.Cards as Cards
use Rattle.rules.specs.Claim.{AsCards}
use Rattle.rules.specs.Layout.{down_block}
use Rattle.rules.specs.Table.{run, answers}
use Rattle.rules.specs.View.{view}
use Rattle.rules.proofs.Claimed.{claim}
use Rattle.service.specs.Request.{Request, call, no_call, request_of}
use Rattle.service.specs.Reply.{reply, block_after}
use Rattle.service.specs.Served.{replies, block_behind, calls_in, calls_of, replies_of, Served}

-- one request more: what it is decides both sides
module _ (s : List ℕ) (fs : List (List ℕ)) where
  more_answered : (q : Request)
      → replies (block_after s q) fs ≡ replies_of (map request_of fs) (answers (block_after s q) (calls_of fs))
      → reply s q ∷ replies (block_after s q) fs ≡ replies_of (q ∷ map request_of fs) (answers s (calls_in (q ∷ map request_of fs)))
  unfolding replies_of calls_in answers
  more_answered (call c) e = ap (λ (r : List (List ℕ)). reply s (call c) ∷ r) e
  more_answered (no_call kind) e = ap (λ (r : List (List ℕ)). reply s (no_call kind) ∷ r) e

  more_block : (q : Request) → block_behind (block_after s q) fs ≡ run (block_after s q) (calls_of fs)
      → block_behind (block_after s q) fs ≡ run s (calls_in (q ∷ map request_of fs))
  unfolding calls_in run
  more_block (call c) e = e
  more_block (no_call kind) e = e

-- from any block
answered_from : (s : List ℕ) (fs : List (List ℕ)) → replies s fs ≡ replies_of (map request_of fs) (answers s (calls_of fs))
unfolding replies replies_of
answered_from s [] = refl
answered_from s (f ∷ fs) = more_answered s fs (request_of f) (answered_from (block_after s (request_of f)) fs)

block_from : (s : List ℕ) (fs : List (List ℕ)) → block_behind s fs ≡ run s (calls_of fs)
unfolding block_behind calls_in run
block_from s [] = refl
block_from s (f ∷ fs) = more_block s fs (request_of f) (block_from (block_after s (request_of f)) fs)

pub served : (frames : List (List ℕ)) → Served frames
served frames = record {
  answered = answered_from down_block frames;
  block = block_from down_block frames;
  table = subst (λ (s : List ℕ). AsCards (view s) (Cards.fed Cards.first (calls_of frames))) (sym (block_from down_block frames)) (claim (calls_of frames)).state;
}
