use Prim.Native.Nat.{ℕ}
use mathlib.Core.Path.{◌≡◌, sym, ap, ◌∙◌}
use mathlib.Core.Bool.{true}
use mathlib.Core.List.{List}
use native.Mathlib.Omega.{arith}
use lib.ListN.{length, replicate}
use lib.Seq.{length-take-le}
use Rattle.aes.specs.KeyExpansion.{key_expansion}
use Rattle.keywrap.specs.Padding.{length_fits, unwrap_registers, plaintext_in, unwrap}
use Rattle.keywrap.specs.Calls.{Answer, unwrapping, output_after, answer_of}
use Rattle.keywrap.specs.Inner.{taking}
use Rattle.keywrap.proofs.PaddingLaws.{fitting_most}
use Rattle.keywrap.proofs.CodeLaws.{relent}
use Rattle.keywrap.proofs.CallLaws.{when_fitting}
use Rattle.keywrap.proofs.unwrapping.unwrap_lent.Goals as goal

pub slice_bounds-unwrap_in-end : goal.slice_bounds-unwrap_in-end
slice_bounds-unwrap_in-end c =
    let n = length c.args.c.now in
    sym (length-take-le n (replicate 248 0) (fitting_most n (sym c.length_fits.ensures ∙ c.if-not-length_fits.false)))

pub unwrap_in-answer-requires : goal.unwrap_in-answer-requires
unwrap_in-answer-requires c =
    let n = length c.args.c.now in
    let f : length_fits n ≡ true = sym c.length_fits.ensures ∙ c.if-not-length_fits.false in
    (f, length-take-le n (replicate 248 0) (fitting_most n f))

pub slice_bounds-forget-end : goal.slice_bounds-forget-end
slice_bounds-forget-end c =
    let n = length c.args.c.now in
    let f : length_fits n ≡ true = sym c.length_fits.ensures ∙ c.if-not-length_fits.false in
    relent c.unwrap_in-answer.new.x (replicate 248 0) n
    (c.unwrap_in-answer.auto.x ∙ length-take-le n (replicate 248 0) (fitting_most n f)) (fitting_most n f)

pub forget-requires : goal.forget-requires
forget-requires c = let l = slice_bounds-forget-end c in (omega arith, omega arith)

pub returns : goal.returns
unfolding unwrap
returns c =
    let a = c.args in
    let k = a.c.now in
    let o = a.out.now in
    let f : length_fits (length k) ≡ true = sym c.length_fits.ensures ∙ c.if-not-length_fits.false in
    let s = c.load_schedule.ensures ∙ ap key_expansion c.in-Some.ensures.cases.same in
    let t = ap (λ (w : List ℕ). taking (unwrap_registers w k) (length o)) s ∙ sym (when_fitting a.key.now k (length o) c.in-Some.ensures.cases.long f) in (
      ap answer_of c.cleared.ensures ∙ c.unwrap_in-answer.ensures.0 ∙ t,
      c.unwrap_in-answer.ensures.1
          ∙ ap (λ (v : Answer). output_after v (plaintext_in (unwrap_registers c.load_schedule.new.w k)) o) t
          ∙ ap (λ (w : List ℕ). output_after (unwrapping a.key.now k (length o)) (plaintext_in (unwrap_registers w k)) o) s,
    )
