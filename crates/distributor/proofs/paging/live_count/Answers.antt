use native.Mathlib.Omega.{arith}
use mathlib.Core.Path.{sym, ap, ◌∙◌}
use lib.ListN.{length}
use Rattle.status.proofs.PlaceLaws.{first_none}
use Rattle.distributor.specs.Packing.{shown_to}
use Rattle.distributor.proofs.PageLaws.{vacant_row_lem, live_length, all_rows}
use Rattle.distributor.proofs.paging.live_count.Goals as goal
use Rattle.distributor.proofs.paging.live_count.Goals.{then-state_at, else-state_at}

pub loop-place-init : goal.loop-place-init
loop-place-init c = (omega arith, sym (ap length (first_none (shown_to c.args.state.now c.args.shown))))

pub loop-place-preserved : goal.loop-place-preserved
loop-place-preserved c =
    let a = c.args in
    let i = c.loop-place.place in
    let k = c.loop-place-test.true in
    let s = c.state_at.ensures in
    elim c.if-state_at.branch [
      | then-state_at w ↦
          let e = live_length a.state.now a.shown c.requires i k (λ z. w.if-state_at.true (s ∙ z)) in (omega arith, omega arith)
      | else-state_at w ↦
          let e = ap length (vacant_row_lem a.state.now a.shown c.requires i k (sym s ∙ w.if-state_at.false)) in (omega arith, omega arith)
    ]

pub returns : goal.returns
returns c =
    let a = c.args in
    let l = c.loop-place in
    l.invariant.1 ∙ ap length (all_rows a.state.now a.shown c.requires l.place (omega arith))
