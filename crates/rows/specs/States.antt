-- What a row's state octet says: 0 vacant, 1 open, else keyed.
use Rattle.std.specs.Prelude.{ℕ, cond, eqb}
use Rattle.rows.specs.declared.state.State.{State}
use Rattle.rows.specs.declared.state.State.TheVariants.{Vacant, Open, Keyed}

abbrev pub state_in : (octet : ℕ) → State
state_in octet = cond (eqb octet 0) Vacant (cond (eqb octet 1) Open Keyed)
