-- What reading a page answers: it fits in 32 bits, and tells the place and the state.
use Prim.Native.Nat.{ℕ, ◌^◌, ◌<◌}
use mathlib.Core.Path.{◌≡◌, sym, subst}
use mathlib.Core.List.{List}
use native.Mathlib.Omega.{arith}
use Rattle.status.specs.Page.{counting, counted_of, Picked, picking}
use Rattle.std.specs.Prelude.{Result, Ok, Err}
use Rattle.octets.specs.declared.refusal.Refusal.{Refusal}
use Rattle.shawm.specs.Refusal.{count_or_refused}
use Rattle.shawm.specs.Page.{entry_number}
use Rattle.shawm.specs.Claims.{CountTopBit, EntryTopBit}
use Rattle.shawm.proofs.TopBit.{count_top_bit, entry_top_bit}

count_number_lem : (a : Result ℕ Refusal) → CountTopBit (counted_of a) → count_or_refused a < 2 ^ 32
count_number_lem (Err r) h = omega arith
count_number_lem (Ok count) h = omega arith

pub count_fits : (a : Result ℕ Refusal) (s : List ℕ) → counted_of a ≡ counting s → count_or_refused a < 2 ^ 32
count_fits a s e = count_number_lem a (subst CountTopBit (sym e) (count_top_bit s))

entry_number_lem : (v : Picked) → EntryTopBit v → entry_number v < 2 ^ 32
entry_number_lem (Picked.refused number) h = omega arith
entry_number_lem (Picked.entry e) h = omega (arith, h)

pub entry_fits : (v : Picked) (s : List ℕ) (n : ℕ) → v ≡ picking s n → entry_number v < 2 ^ 32
entry_fits v s n e = entry_number_lem v (subst EntryTopBit (sym e) (entry_top_bit s n))
