-- Octets written one piece after the other.
use Prim.Native.Nat.{ℕ, ◌+◌, ◌-◌, ◌≤◌, ◌<◌}
use mathlib.Core.Path.{◌≡◌, ap, ◌∙◌}
use mathlib.Core.List.{List}
use native.Mathlib.Omega.{arith}
use lib.ListN.{length}
use Rattle.octets.specs.Number.{octets16, octets_of_16}
use Rattle.octets.specs.Part.{part}
use Rattle.octets.specs.Write.{over, put}
use Rattle.octets.proofs.PartLaws.{part_length}
use Rattle.octets.proofs.WriteLaws.{put_whole, over_length}
use Rattle.rows.proofs.RowWriting.{octets_of_16_lem}
use Rattle.rules.specs.Index.{entered, withdrawn}

module _ (s x y q : List ℕ) (from to : ℕ) where
  pub enter_is : from ≤ to → to + length q ≤ length s → x ≡ over s (from + length q) (part s from (from + (to - from))) → y ≡ put x from q → y ≡ entered s from to q
  unfolding entered
  enter_is h k g f =
      let w : from + (to - from) ≡ to = omega arith in
      let e : x ≡ over s (from + length q) (part s from to) = g ∙ ap (λ (i : ℕ). over s (from + length q) (part s from i)) w in
      let n = part_length s from to (omega arith) in
      let l : length x ≡ length s = ap length e ∙ over_length s (from + length q) (part s from to) (omega arith) in
      f ∙ put_whole x from q (omega arith) ∙ ap (λ (z : List ℕ). over z from q) e

  pub withdraw_is : from + length q ≤ to → to ≤ length s → x ≡ over s from (part s (from + length q) (from + length q + (to - (from + length q)))) → y ≡ put x (to - length q) q → y ≡ withdrawn s from to q
  unfolding withdrawn
  withdraw_is h k g f =
      let w : from + length q + (to - (from + length q)) ≡ to = omega arith in
      let e : x ≡ over s from (part s (from + length q) to) = g ∙ ap (λ (i : ℕ). over s from (part s (from + length q) i)) w in
      let n = part_length s (from + length q) to k in
      let l : length x ≡ length s = ap length e ∙ over_length s from (part s (from + length q) to) (omega arith) in
      f ∙ put_whole x (to - length q) q (omega arith) ∙ ap (λ (z : List ℕ). over z (to - length q) q) e

pub count_is : (s y : List ℕ) (at n : ℕ) → n < 65536 → at + 2 ≤ length s → y ≡ put s at (octets16 n) → y ≡ over s at (octets_of_16 n)
count_is s y at n h k e = e ∙ put_whole s at (octets16 n) k ∙ ap (over s at) (octets_of_16_lem n h)
