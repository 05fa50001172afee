use Prim.Native.Nat.{ℕ, ◌+◌, ◌*◌, ◌≤◌}
use mathlib.Core.Path.{◌≡◌, ap, ◌∙◌}
use mathlib.Core.List.{List}
use native.Mathlib.Omega.{arith}
use lib.ListN.{length, replicate}
use Rattle.octets.specs.Part.{part}
use Rattle.octets.specs.Write.{over}
use Rattle.rules.specs.Limits.{places}
use Rattle.octets.proofs.PartLaws.{part_length}
use Rattle.octets.proofs.CopyLaws.{over_back}
use Rattle.block.proofs.moving.shift.Goals as goal

-- a part that went through an array
back : (z o a : List ℕ) (from size : ℕ) → from + size ≤ length o → a ≡ over z 0 (part o from (from + size)) → part a 0 (0 + size) ≡ part o from (from + size)
back z o a from size h f =
    let l : 0 + size ≡ length (part o from (from + size)) = omega (arith, part_length o from (from + size) h) in
    ap (part a 0) l ∙ over_back z (part o from (from + size)) a f

pub returns : goal.returns
returns c =
    c.copy_part-2.ensures
    ∙ ap (λ (x : List ℕ). over c.args.out.now c.args.at x) (back (replicate (4 * places) 0) c.args.out.now _ c.args.from c.args.size c.requires.1 c.copy_part.ensures)
