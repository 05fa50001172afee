-- Where a part of a lent slice begins.
use Prim.Native.Nat.{ℕ, ◌+◌, ◌-◌, ◌≤◌, ◌<◌, min}
use mathlib.Core.Path.{◌≡◌, ap, ◌∙◌}
use mathlib.Core.List.{List}
use native.Mathlib.Omega.{arith}
use lib.ListN.{length, drop, length-take, length-drop}
use borrow.Author.Tests.{le-leb}
use denote.Ref.{Bor}
use Rattle.octets.specs.Part.{part, part_start}
use Rattle.octets.specs.Lent.{BeginsAt, PartOf}

start_within : (s : List ℕ) (from to : ℕ) → from ≤ to → from ≤ length s → part_start s from to ≡ from
unfolding part_start
start_within s from to h k = rw (le-leb from (min to (length s)) (omega arith))

module _ {s r : Bor (List ℕ)} {from to : ℕ} where
  pub within_begins : PartOf s from to r → from ≤ to → from ≤ length s.now → BeginsAt s from r
  within_begins p h k = record {
    block = p.begins.block;
    start = p.begins.start ∙ ap (λ (n : ℕ). s.ref_ptr.1 + n) (start_within s.now from to h k);
  }

  -- every part but an empty one starts at the offset that was asked for
  pub some_begins : PartOf s from to r → 0 < length r.now → BeginsAt s from r
  unfolding part
  some_begins p h =
      let n = ap length p.octets ∙ length-take (to - from) (drop from s.now) in
      let m = length-drop from s.now in
      within_begins p (omega (arith, n, m)) (omega (arith, n, m))
