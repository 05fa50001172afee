use Prim.Native.Nat.{ℕ, ◌+◌, ◌≤◌}
use mathlib.Core.Path.{◌≡◌, refl, sym, ap₂, ◌∙◌}
use mathlib.Core.List.{List}
use native.Mathlib.Omega.{arith}
use native.Mathlib.Numerals.{add-one}
use lib.ListN.{length, set, length-set}
use lib.Seq.{paste-zero, paste-suc, take-length}
use Rattle.octets.specs.Part.{part}
use Rattle.octets.proofs.PartLaws.{part_length}
use Rattle.octets.proofs.InPart.{octet_in}
use Rattle.block.proofs.moving.copy_part.Goals as goal

whole : (s : List ℕ) (from size : ℕ) → from + size ≤ length s → length (part s from (from + size)) ≡ size
whole s from size h = part_length s from (from + size) h ∙ omega arith

pub loop-i-init : goal.loop-i-init
loop-i-init c = (refl, paste-zero c.args.out.now c.args.at (part c.args.src.now c.args.from (c.args.from + c.args.size)))

pub loop-i-preserved : goal.loop-i-preserved
loop-i-preserved c =
    let a = c.args in
    let i = c.loop-i.i in
    let s = part a.src.now a.from (a.from + a.size) in
    let n : length s ≡ a.size = whole a.src.now a.from a.size (omega arith) in (
      simp length-set (omega arith),
      ap₂ (λ (l : List ℕ) (b : ℕ). set l (a.at + i) b) c.loop-i.invariant.1 (sym (octet_in a.src.now a.from a.size i (omega arith)))
          ∙ (simp add-one (paste-suc a.out.now a.at s i 0 (omega arith) (omega arith))),
    )

pub returns : goal.returns
returns c =
    let a = c.args in
    let s = part a.src.now a.from (a.from + a.size) in
    let e : c.loop-i.i ≡ length s = omega (arith, whole a.src.now a.from a.size (omega arith)) in
    c.loop-i.invariant.1 ∙ simp (e, take-length)
