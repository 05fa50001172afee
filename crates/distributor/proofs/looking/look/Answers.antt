use lib.ListN.{length}
use mathlib.Core.Path.{◌≡◌, refl, sym, ap, ◌∙◌}
use mathlib.Core.Bool.{true, false}
use borrow.Author.Rules.{rules}
use borrow.Author.Tests.{ltb-true}
use Rattle.rules.specs.Layout as L
use Rattle.rules.specs.Table as Spec
use Rattle.rules.specs.Answer.{found}
use Rattle.rules.proofs.RowsLaws.{row_length_lem}
use Rattle.distributor.specs.Record as R
use Rattle.distributor.proofs.CheckLaws.{passed_on}
use Rattle.distributor.proofs.RecordReads.{record_read, look_refused}
use Rattle.distributor.proofs.looking.look.Goals as goal

pub returns-then-not-is_up : goal.returns-then-not-is_up
unfolding Spec.answer Spec.look_answer Spec.look_verdict
returns-then-not-is_up c =
    let u : L.up c.args.state.now ≡ false = sym c.is_up.ensures ∙ c.if-not-is_up.true in
    (rw u refl, search rules)

pub returns-in_err-place : goal.returns-in_err-place
unfolding Spec.answer Spec.look_answer Spec.look_verdict
returns-in_err-place c =
    let u : L.up c.args.state.now ≡ true = sym c.is_up.ensures ∙ c.if-not-is_up.false in
    let f = c.in_err-place.ensures in
    look_refused _ _ _ _ (passed_on _ _ c.from_residual.ensures.1) (rw (u, f.0, f.1) refl)

pub returns : goal.returns
unfolding Spec.answer Spec.look_answer Spec.look_verdict
returns c =
    let s = c.args.state.now in
    let u : L.up s ≡ true = sym c.is_up.ensures ∙ c.if-not-is_up.false in
    let size : length s ≡ L.block_length = search rules in
    let f = c.in_ok-place.ensures in
    let p = Spec.place_of_endpoint s c.args.endpoint in
    let row : c.record_of.result ≡ R.record_of (L.row_of s p) = c.record_of.ensures ∙ ap R.record_of (c.row_at.ensures.octets ∙ ap (L.row_of s) f.1) in
    let read = record_read (L.row_of s p) (row_length_lem s (record { size = size }) p (ltb-true _ _ f.0)) in
    (rw (row, u, f.0) (ap found read), row)
