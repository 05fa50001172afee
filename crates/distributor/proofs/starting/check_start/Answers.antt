use mathlib.Core.Path.{refl, sym, ap, ◌∙◌}
use borrow.Author.Tests.{lt-ltb, le-ltb}
use mathlib.Core.Bool.{not}
use Rattle.distributor.proofs.Sendable.{start_length}
use Rattle.distributor.proofs.starting.check_start.Goals as goal

pub returns-then-not-good_list : goal.returns-then-not-good_list
returns-then-not-good_list c = rw (ap not (sym c.good_list.ensures ∙ c.if-not-good_list.true)) refl

pub returns-then-room-list : goal.returns-then-room-list
returns-then-room-list c = rw (ap not (sym c.good_list.ensures ∙ c.if-not-good_list.false), start_length c.args.list.now, lt-ltb _ _ c.if-room-list.true) refl

pub returns : goal.returns
returns c = rw (ap not (sym c.good_list.ensures ∙ c.if-not-good_list.false), start_length c.args.list.now, le-ltb _ _ c.if-room-list.false) (refl, refl)
