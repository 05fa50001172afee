-- What a call leaves of octets that are lent to it as a row.
use Rattle.std.specs.Prelude.{ℕ, cond, List, length, eqb}
use Rattle.rules.specs.Layout.{row_length}

-- another row instead of a row; octets of another length are no row, and stay as they were
abbrev pub on_row : List ℕ → List ℕ → List ℕ
on_row r new = cond (eqb (length r) row_length) new r
