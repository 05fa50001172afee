-- What a call makes of the block where it is refused, or where more is needed.
use Rattle.std.specs.Prelude.{ℕ, ◌≡◌, cond, List, eqb}
use Rattle.rules.specs.Call.{Call}
use Rattle.rules.specs.Answer.{refused, more_needed}
use Rattle.rules.specs.Layout.{down_block}
use Rattle.rules.specs.Table.{answer, step}

-- a refusal changes nothing, but refusal 2, which ends the tunnel and empties the table: the request, demand 1; document 01, "Refusal numbers"
abbrev pub RefusedKeeps : (block : List ℕ) (call : Call) → Type 0
RefusedKeeps s c = (number taken : ℕ) → answer s c ≡ refused number taken → step s c ≡ cond (eqb number 2) down_block s

-- "more needed" changes nothing; its answer has neither octets taken nor octets written: document 01, "Tunnel messages"
abbrev pub MoreNeededKeeps : (block : List ℕ) (call : Call) → Type 0
MoreNeededKeeps s c = answer s c ≡ more_needed → step s c ≡ s
