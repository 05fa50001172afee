use mathlib.Core.Path.{◌≡◌, sym, ◌∙◌}
use borrow.Author.Rules.{rules}
use denote.Enum.Bare.{same_true, same_false}
use Rattle.std.specs.Prelude.{None, Some, cond, eqb}
use Rattle.octets.specs.Number.{octet_at}
use Rattle.rules.specs.Layout.{state_at}
use Rattle.rows.specs.contracts.state.State.{the_type}
use Rattle.distributor.specs.Record.{record_keys}
use Rattle.distributor.proofs.RecordReads.{record_is, open_keys, keyed_keys}
use Rattle.distributor.proofs.looking.record_of.Goals as goal
use Rattle.distributor.proofs.looking.record_of.Goals.{then-eq, else-eq}

pub returns : goal.returns
returns c =
    let r = c.args.row.now in
    let keys : c.if-eq.keys ≡ cond (eqb (octet_at r state_at) 1) None (Some (record_keys r)) =
    elim c.if-eq.branch [
      | then-eq w ↦ w.keys-is ∙ open_keys r _ c.state_of.ensures (same_true the_type (search rules) _ _ (sym w.if-eq.ensures))
      | else-eq w ↦ w.keys-is ∙ keyed_keys r _ c.state_of.ensures _ (same_false the_type _ _ (sym w.if-eq.ensures)) w.keys_of.ensures
    ] in
    record_is r _ _ _ c.array.ensures c.endpoint_of.ensures keys
