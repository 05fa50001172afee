use Prim.Native.Nat.{ℕ, ◌+◌, ◌-◌, ◌≤◌}
use mathlib.Core.Path.{◌≡◌, sym, ap, ◌∙◌}
use mathlib.Core.List.{List, ◌++◌}
use mathlib.Core.Bool.{true}
use native.Mathlib.Omega.{arith}
use lib.ListN.{length, drop}
use Rattle.keywrap.specs.Padding.{mli, verified, plaintext_in}
use Rattle.keywrap.specs.Calls.{Answer, refused, written, output_after}
use Rattle.keywrap.proofs.WholeLaws.{whole_of}
use Rattle.keywrap.proofs.PaddingLaws.{bounds, plaintext_long}
use Rattle.keywrap.proofs.CallLaws.{settled, take_no_room, take_room}
use Rattle.keywrap.proofs.unwrapping.take_plaintext.Goals as goal

pub returns-then-out-m : goal.returns-then-out-m
returns-then-out-m c =
    let a = c.args in
    let x = a.x.now in
    let v : verified x ≡ true = sym c.verified.ensures ∙ c.if-not-verified.false in
    let w = whole_of x (omega arith) (omega arith) (λ i. omega (arith, c.type_inv.x i)) in
    let l = plaintext_long x w (omega arith) v in
    settled (refused 13) (plaintext_in x) a.out.now (take_no_room x (length a.out.now) v (omega (arith, l, c.mli-m.ensures)))

pub slice_bounds-copy_from_slice-end-3 : goal.slice_bounds-copy_from_slice-end-3
slice_bounds-copy_from_slice-end-3 c =
    let x = c.args.x.now in
    let v : verified x ≡ true = sym c.verified.ensures ∙ c.if-not-verified.false in
    let w = whole_of x (omega arith) (omega arith) (λ i. omega (arith, c.type_inv.x i)) in
    let b : mli x + 8 ≤ length x = (bounds x w (omega arith) v).1 in
    omega (arith, c.mli-m.ensures)

pub returns : goal.returns
unfolding plaintext_in
returns c =
    let a = c.args in
    let x = a.x.now in
    let o = a.out.now in
    let v : verified x ≡ true = sym c.verified.ensures ∙ c.if-not-verified.false in
    let w = whole_of x (omega arith) (omega arith) (λ i. omega (arith, c.type_inv.x i)) in
    let m = c.mli-m.result in
    let e : m ≡ mli x = c.mli-m.ensures in
    let l : length (plaintext_in x) ≡ mli x = plaintext_long x w (omega arith) v in
    let n : 8 + m - 8 ≡ mli x = omega arith in
    let f = take_room x (length o) v (omega (arith, c.if-out-m.false)) in (
      ap written (e ∙ sym l) ∙ sym f,
      ap (λ (y : List ℕ). y ++ drop m o) (rw n at c.copy_from_slice.ensures.after) ∙ ap (λ (k : ℕ). plaintext_in x ++ drop k o) (e ∙ sym l)
          ∙ ap (λ (v : Answer). output_after v (plaintext_in x) o) (sym f),
    )
