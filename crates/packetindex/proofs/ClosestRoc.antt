-- Appendix A tries the ROC that section 3.3.1 of RFC 3711 asks for: the one whose index is closest modulo 2^48.
use Rattle.std.proofs.Common.{◌≡◌, ℕ, ◌+◌, ◌-◌, ◌*◌, ◌≤◌, Bool, true, false, eqb, refl, arith, eqb-true}
use borrow.Author.Tests.{eqb-false}
use Rattle.packetindex.specs.Estimating.{neighbour_of}
use Rattle.packetindex.specs.Nearest.{distance, highest_index, Fits, HalfWay, Tried, distance_modulo, Closest}
use Rattle.packetindex.specs.declared.stream.Stream.{Stream}
use Rattle.packetindex.specs.declared.estimating.Neighbour.{Neighbour}
use Rattle.packetindex.specs.declared.estimating.Neighbour.TheVariants.{OneLess, Same, OneMore}
use Rattle.packetindex.proofs.HalfWay.{half_way_lem}

-- a short distance is the distance modulo 2^48 as well; of a long one it is what is missing to 2^48
short_distance : (a b d : ℕ) → distance a b ≡ d → d ≤ 131072 → distance_modulo a b ≡ d
short_distance a b d e h = omega arith

long_distance : (a b d : ℕ) → distance a b + d ≡ 281474976710656 → d ≤ 131072 → distance_modulo a b ≡ d
long_distance a b d e h = omega arith

module _ (s : Stream) (sequence : ℕ) (f : Fits s sequence) where
  -- how far the index under a neighbour is from the highest one
  abbrev away : Neighbour → ℕ
  away OneLess = s.highest + 65536 - sequence
  away Same = distance sequence s.highest
  away OneMore = sequence + 65536 - s.highest

  abbrev away_under : ℕ → ℕ
  away_under v = distance_modulo (65536 * v + sequence) (highest_index s)

  less_away : (v : ℕ) → Tried s.roc OneLess v → (b : Bool) → eqb s.roc 0 ≡ b → away_under v ≡ away OneLess
  less_away v t true e =
      let z = eqb-true s.roc 0 e in
      let w : v ≡ 4294967295 = omega (arith, t.0, t.1, z) in
      long_distance (65536 * v + sequence) (highest_index s) (away OneLess) (omega (arith, f, z, w)) (omega (arith, f))
  less_away v t false e =
      let z = eqb-false s.roc 0 e in
      let w : v + 1 ≡ s.roc = omega (arith, t.0, t.1, z) in
      short_distance (65536 * v + sequence) (highest_index s) (away OneLess) (omega (arith, f, w)) (omega (arith, f))

  more_away : (v : ℕ) → Tried s.roc OneMore v → (b : Bool) → eqb s.roc 4294967295 ≡ b → away_under v ≡ away OneMore
  more_away v t true e =
      let z = eqb-true s.roc 4294967295 e in
      let w : v ≡ 0 = omega (arith, t, z) in
      long_distance (65536 * v + sequence) (highest_index s) (away OneMore) (omega (arith, f, z, w)) (omega (arith, f))
  more_away v t false e =
      let z = eqb-false s.roc 4294967295 e in
      let w : v ≡ s.roc + 1 = omega (arith, f, t, z) in
      short_distance (65536 * v + sequence) (highest_index s) (away OneMore) (omega (arith, f, w)) (omega (arith, f))

  tried_away : (n : Neighbour) (v : ℕ) → Tried s.roc n v → away_under v ≡ away n
  tried_away OneLess v t = less_away v t (eqb s.roc 0) refl
  tried_away Same v t = short_distance (65536 * v + sequence) (highest_index s) (away Same) (omega (arith, f, t)) (omega (arith, f))
  tried_away OneMore v t = more_away v t (eqb s.roc 4294967295) refl

  least_away : (n m : Neighbour) → HalfWay s.highest sequence n → away n ≤ away m
  least_away OneLess OneLess h = omega arith
  least_away OneLess Same h = omega (arith, f)
  least_away OneLess OneMore h = omega (arith, f)
  least_away Same OneLess h = omega (arith, f)
  least_away Same Same h = omega arith
  least_away Same OneMore h = omega (arith, f)
  least_away OneMore OneLess h = omega (arith, f)
  least_away OneMore Same h = omega (arith, f)
  least_away OneMore OneMore h = omega arith

  -- the theorem
  pub closest : Closest s sequence (neighbour_of s.highest sequence)
  closest m v w t u =
      let n = neighbour_of s.highest sequence in
      let h = half_way_lem s.highest sequence f.stream_fits.highest_fits f.sequence_fits in
      rw (tried_away n v t, tried_away m w u) (least_away n m h)
