-- Which ROC is tried: another one exactly for numbers more than half-way apart.
use Rattle.std.proofs.Common.{◌≡◌, ℕ, ◌-◌, ◌^◌, ◌<◌, ltb, ◌↔◌, refl, subst, arith, ltb-false, ltb-true}
use Rattle.octets.proofs.Tests.{by_choice}
use Rattle.packetindex.specs.Limits.{half_way}
use Rattle.packetindex.specs.Estimating.{neighbour_of}
use Rattle.packetindex.specs.Nearest.{HalfWay}
use Rattle.packetindex.specs.declared.estimating.Neighbour.{Neighbour}
use Rattle.packetindex.specs.declared.estimating.Neighbour.TheVariants.{OneLess, Same, OneMore}

module _ (highest sequence : ℕ) (h : highest < 2 ^ 16) (q : sequence < 2 ^ 16) where
  pub half_way_lem : HalfWay highest sequence (neighbour_of highest sequence)
  unfolding neighbour_of
  half_way_lem =
      by_choice (HalfWay highest sequence) (ltb highest half_way) _ _
      (λ e.
      let l = ltb-true highest half_way e in
      by_choice (HalfWay highest sequence) (ltb half_way (sequence - highest)) _ _
      (λ k. omega (arith, ltb-true half_way (sequence - highest) k))
      (λ k. omega (arith, ltb-false half_way (sequence - highest) k)))
      (λ e.
      let l = ltb-false highest half_way e in
      by_choice (HalfWay highest sequence) (ltb sequence (highest - half_way)) _ _
      (λ k. omega (arith, ltb-true sequence (highest - half_way) k))
      (λ k. omega (arith, ltb-false sequence (highest - half_way) k)))

  only_one : (m n : Neighbour) → HalfWay highest sequence m → HalfWay highest sequence n → m ≡ n
  only_one OneLess OneLess a b = refl
  only_one OneLess Same a b = absurd (omega arith)
  only_one OneLess OneMore a b = absurd (omega arith)
  only_one Same OneLess a b = absurd (omega arith)
  only_one Same Same a b = refl
  only_one Same OneMore a b = absurd (omega arith)
  only_one OneMore OneLess a b = absurd (omega arith)
  only_one OneMore Same a b = absurd (omega arith)
  only_one OneMore OneMore a b = refl

  -- the theorem
  pub half_way_exactly : (n : Neighbour) → (neighbour_of highest sequence ≡ n) ↔ HalfWay highest sequence n
  half_way_exactly n = (λ e. subst (HalfWay highest sequence) e half_way_lem, λ k. only_one (neighbour_of highest sequence) n half_way_lem k)
