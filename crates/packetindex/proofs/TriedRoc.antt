-- The ROC that the definition tries is the one that is asked for: one less, the same or one more, modulo 2^32.
use Rattle.std.proofs.Common.{◌≡◌, ℕ, ◌^◌, ◌<◌, ◌↔◌, sym, refl, subst, arith}
use Rattle.packetindex.specs.Estimating.{roc_tried}
use Rattle.packetindex.specs.Nearest.{Tried}
use Rattle.packetindex.specs.declared.estimating.Neighbour.{Neighbour}
use Rattle.packetindex.specs.declared.estimating.Neighbour.TheVariants.{OneLess, Same, OneMore}

module _ (roc : ℕ) (fits : roc < 2 ^ 32) where
  pub roc_tried_lem : (n : Neighbour) → Tried roc n (roc_tried roc n)
  roc_tried_lem OneLess = (omega arith, omega arith)
  roc_tried_lem Same = refl
  roc_tried_lem OneMore = refl

  only_tried : (n : Neighbour) (v : ℕ) → Tried roc n v → v ≡ roc_tried roc n
  only_tried OneLess v t = omega (arith, t.0, t.1)
  only_tried Same v t = t
  only_tried OneMore v t = t

  -- the theorem
  pub tried_exactly : (n : Neighbour) (v : ℕ) → Tried roc n v ↔ (v ≡ roc_tried roc n)
  tried_exactly n v = (only_tried n v, λ e. subst (Tried roc n) (sym e) (roc_tried_lem n))

-- at ROC 0 one less is 4,294,967,295, and at ROC 4,294,967,295 one more is 0
pub less_than_first : roc_tried 0 OneLess ≡ 4294967295
less_than_first = refl

pub more_than_last : roc_tried 4294967295 OneMore ≡ 0
more_than_last = refl
