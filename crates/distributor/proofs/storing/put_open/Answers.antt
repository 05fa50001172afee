use mathlib.Core.Path.{ap, ◌∙◌}
use mathlib.Core.List.{List}
use Prim.Native.Nat.{ℕ}
use Rattle.rules.specs.Index as Index
use Rattle.distributor.proofs.storing.put_open.Goals as goal

pub returns : goal.returns
returns c =
    let a = c.args in
    c.put_in.ensures ∙ ap (λ (s : List ℕ). Index.with_entry s a.endpoint a.place) c.put_open_row.ensures
