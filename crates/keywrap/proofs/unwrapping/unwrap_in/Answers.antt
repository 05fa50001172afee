use mathlib.Core.Path.{ap, ◌∙◌}
use mathlib.Core.List.{List}
use Prim.Native.Nat.{ℕ}
use native.Mathlib.Omega.{arith}
use lib.ListN.{length}
use Rattle.keywrap.specs.Padding.{unwrap_registers, plaintext_in}
use Rattle.keywrap.specs.Calls.{output_after}
use Rattle.keywrap.specs.Inner.{taking}
use Rattle.keywrap.proofs.PaddingLaws.{fitting_multiple, fitting_least, fitting_most}
use Rattle.keywrap.proofs.unwrapping.unwrap_in.Goals as goal

pub unwrap_registers-requires : goal.unwrap_registers-requires
unwrap_registers-requires c =
    let n = length c.args.c.now in
    let f = c.requires.0 in
    let e = c.copy_from_slice.ensures.len in
    let m = fitting_multiple n f in
    let l = fitting_least n f in
    let h = fitting_most n f in
    (omega arith, (omega arith, omega arith))

pub take_plaintext-requires : goal.take_plaintext-requires
take_plaintext-requires c =
    let n = length c.args.c.now in
    let f = c.requires.0 in
    let m = fitting_multiple n f in
    let l = fitting_least n f in
    let h = fitting_most n f in
    (omega arith, (omega arith, omega arith))

pub returns : goal.returns
returns c =
    let a = c.args in
    let o = a.out.now in
    let e = c.unwrap_registers.ensures ∙ ap (unwrap_registers a.w.now) c.copy_from_slice.ensures.after in (
      c.take_plaintext.ensures.0 ∙ ap (λ (x : List ℕ). taking x (length o)) e,
      c.take_plaintext.ensures.1 ∙ ap (λ (x : List ℕ). output_after (taking x (length o)) (plaintext_in x) o) e,
    )
