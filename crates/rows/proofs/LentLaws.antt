-- Octets that are lent as a row, and what becomes of them.
use Prim.Native.Nat.{ℕ, ◌+◌, ◌-◌, ◌≤◌}
use mathlib.Core.Path.{◌≡◌, sym, ap, ◌∙◌}
use mathlib.Core.List.{List, ◌++◌, append_assoc}
use native.Mathlib.Omega.{arith}
use borrow.Author.Tests.{eq-eqb, ne_eqb}
use lib.ListN.{length, take, drop, length-take, length-drop}
use lib.Seq.{drop-drop}
use Rattle.octets.specs.Write.{over}
use Rattle.rules.specs.Layout.{row_length}
use Rattle.rows.specs.Lent.{on_row}

pub on_row_lem : (r new : List ℕ) → length r ≡ row_length → on_row r new ≡ new
on_row_lem r new e = rw (eq-eqb _ _ e)

pub off_row : (r new : List ℕ) → (length r ≡ row_length → ⊥) → on_row r new ≡ r
off_row r new h = rw (ne_eqb _ _ h)

-- a part that was lent from a to a + n and came back as r is written over
lent_back : (s r : List ℕ) (a n : ℕ) → length r ≡ n → take a s ++ (r ++ drop (a + n - a) (drop a s)) ≡ over s a r
lent_back s r a n e =
    let k : a + n - a ≡ n = omega arith in
    rw (k, drop-drop n a s, ← e) (sym (append_assoc (take a s) r (drop (a + length r) s)))

-- a row of the block that was lent
pub lent_row : (s new r : List ℕ) (a : ℕ) → a + row_length ≤ length s → length new ≡ row_length → r ≡ on_row (take (a + row_length - a) (drop a s)) new
    → take a s ++ (r ++ drop (a + row_length - a) (drop a s)) ≡ over s a new
lent_row s new r a h l e =
    let k : length (take (a + row_length - a) (drop a s)) ≡ row_length = simp (length-take, length-drop) (omega arith) in
    ap (λ (x : List ℕ). take a s ++ (x ++ drop (a + row_length - a) (drop a s))) (e ∙ on_row_lem (take (a + row_length - a) (drop a s)) new k) ∙ lent_back s new a row_length l
