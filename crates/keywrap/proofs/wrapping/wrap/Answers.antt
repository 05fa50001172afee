use Prim.Native.Nat.{ℕ, ◌+◌}
use mathlib.Core.Path.{◌≡◌, sym, ap, ◌∙◌}
use mathlib.Core.Bool.{true}
use mathlib.Core.List.{List, ◌++◌}
use native.Mathlib.Omega.{arith}
use lib.ListN.{length, drop}
use lib.Seq.{length-take-le}
use Rattle.octets.specs.Range.{within}
use Rattle.octets.proofs.RangeLaws.{within_true}
use Rattle.keywrap.specs.Limits.{plaintext_most}
use Rattle.keywrap.specs.Padding.{padding, wrap}
use Rattle.keywrap.specs.Calls.{Answer, refused, written, output_after}
use Rattle.keywrap.proofs.Accepted.{wrapped_long}
use Rattle.keywrap.proofs.CallLaws.{settled, wrap_no_room, wrap_room}
use Rattle.keywrap.proofs.PaddingLaws.{initial_long}
use Rattle.keywrap.proofs.wrapping.wrap.Goals as goal

pub wrapped_length-count-requires : goal.wrapped_length-count-requires
wrapped_length-count-requires c =
    let p = c.args.plaintext.now in
    (within_true 1 plaintext_most (length p) (sym c.within.ensures ∙ c.if-not-within.false)).1

pub returns-then-out-count : goal.returns-then-out-count
returns-then-out-count c =
    let a = c.args in
    let key = a.key.now in
    let p = a.plaintext.now in
    let w : within 1 plaintext_most (length p) ≡ true = sym c.within.ensures ∙ c.if-not-within.false in
    let r = within_true 1 plaintext_most (length p) w in
    let n : length (wrap key p) ≡ 8 + (length p + padding (length p)) = wrapped_long key (λ i. omega (arith, c.type_inv.key i)) p r.0 r.1 (λ i. omega (arith, c.type_inv.plaintext i)) in
    settled (refused 13) (wrap key p) a.out.now (wrap_no_room key p (length a.out.now) c.in-Some.ensures.cases.long w (omega (arith, c.wrapped_length-count.ensures)))

pub wrap_into-left-requires : goal.wrap_into-left-requires
wrap_into-left-requires c =
    let a = c.args in
    let p = a.plaintext.now in
    let r = within_true 1 plaintext_most (length p) (sym c.within.ensures ∙ c.if-not-within.false) in (
      r.0,
      r.1,
      length-take-le c.wrapped_length-count.result a.out.now c.if-out-count.false ∙ c.wrapped_length-count.ensures ∙ sym (initial_long p r.0 r.1),
    )

pub returns : goal.returns
returns c =
    let a = c.args in
    let key = a.key.now in
    let p = a.plaintext.now in
    let o = a.out.now in
    let w : within 1 plaintext_most (length p) ≡ true = sym c.within.ensures ∙ c.if-not-within.false in
    let r = within_true 1 plaintext_most (length p) w in
    let n : length (wrap key p) ≡ 8 + (length p + padding (length p)) = wrapped_long key (λ i. omega (arith, c.type_inv.key i)) p r.0 r.1 (λ i. omega (arith, c.type_inv.plaintext i)) in
    let m = c.wrapped_length-count.result in
    let e : m ≡ length (wrap key p) = c.wrapped_length-count.ensures ∙ sym n in
    let z = c.wrap_into-left.ensures.0 in
    let k : m + c.wrap_into-left.result ≡ length (wrap key p) = omega arith in
    let f = wrap_room key p (length o) c.in-Some.ensures.cases.long w (omega (arith, c.if-out-count.false)) in (
      ap written k ∙ sym f,
      ap (λ (y : List ℕ). y ++ drop m o) (c.wrap_into-left.ensures.1 ∙ ap (λ (k : List ℕ). wrap k p) c.in-Some.ensures.cases.same) ∙ ap (λ (i : ℕ). wrap key p ++ drop i o) e
          ∙ ap (λ (v : Answer). output_after v (wrap key p) o) (sym f),
    )
