use mathlib.Core.Path.{◌≡◌, refl, ◌∙◌}
use mathlib.Core.Bool.{not, false}
use mathlib.Core.List.{List}
use Prim.Native.Nat.{ℕ}
use Rattle.message.specs.Profiles.{good_list}
use Rattle.rules.specs.Layout.{up}
use Rattle.rules.specs.Orders.{start_order}
use Rattle.rules.specs.Refusals.{no_room, start_message}
use Rattle.rules.specs.Table.{answer, step, start_verdict}
use Rattle.distributor.proofs.CheckLaws.{passed_on}
use Rattle.distributor.proofs.Sendable.{start_room_lem, start_done, start_refused, start_written}
use Rattle.distributor.proofs.starting.start_down.Goals as goal

-- with the tunnel down the verdict is that of the list and the room
down : (s list : List ℕ) (room : ℕ) → up s ≡ false → start_order false (not (good_list list)) (no_room (start_message list) room) ≡ start_verdict s list room
unfolding start_verdict
down s list room d = rw d refl

pub returns-in_err-check_start : goal.returns-in_err-check_start
unfolding answer step
returns-in_err-check_start c =
    let a = c.args in
    start_refused a.state.now a.list.now a.out.now _ (passed_on _ _ c.from_residual.ensures.1) (c.in_err-check_start.ensures ∙ down _ _ _ c.requires)

pub returns-in_err-count : goal.returns-in_err-count
returns-in_err-count c =
    let a = c.args in
    absurd (start_written a.state.now a.list.now a.out.now (c.in_ok-check_start.ensures.0 ∙ down _ _ _ c.requires) _ _ c.in_err-count.ensures)

pub put_up-requires : goal.put_up-requires
put_up-requires c =
    let a = c.args in
    start_room_lem a.state.now a.list.now a.out.now (c.in_ok-check_start.ensures.0 ∙ down _ _ _ c.requires)

pub returns : goal.returns
unfolding answer step
returns c =
    let a = c.args in
    start_done a.state.now a.list.now a.out.now (c.in_ok-check_start.ensures.0 ∙ down _ _ _ c.requires) _ _ _ c.in_ok-count.ensures c.put_up.ensures
