-- What it says of a place that it is in the table, or that none is.
use Prim.Native.Nat.{ℕ, ◌≤◌, ◌<◌}
use mathlib.Core.Path.{◌≡◌, refl}
use mathlib.Core.Bool.{Bool, true, false, cond}
use borrow.Author.Tests.{ltb-true, ltb-false}
use lib.Dec.{ltb}
use Rattle.std.specs.Prelude.{Option, Some, None}
use Rattle.rules.specs.Limits.{places}
use Rattle.block.specs.InTable.{in_table}

pub there : (p n : ℕ) → in_table p ≡ Some n → (p < places) × (n ≡ p)
there p n e = go (ltb p places) refl e
  where
    go : (b : Bool) → ltb p places ≡ b → cond b (Some p) None ≡ Some n → (p < places) × (n ≡ p)
    go true h e = (ltb-true p places h, cc)
    go false h e = cc

pub not_there : (p : ℕ) → in_table p ≡ None → places ≤ p
not_there p e = go (ltb p places) None refl e refl
  where
    go : (b : Bool) (o : Option ℕ) → ltb p places ≡ b → cond b (Some p) None ≡ o → o ≡ None → places ≤ p
    go true o h e f = cc
    go false o h e f = ltb-false p places h
