use Prim.Native.Nat.{ℕ}
use borrow.Author.Rules.{rules}
use lib.ListN.{get_or}
use Rattle.aes.proofs.Made.{each_made}
use Rattle.aes.proofs.state.mixed.Goals as goal

pub returns : goal.returns
returns g c =
    λ i h.
    rw (← c.next_rows-a.ensures, ← c.next_rows-b.ensures, ← c.next_rows-c.ensures)
    (each_made (λ (i x : ℕ). g.F.Fn.post c.args.row (get_or c.args.s i 0, (get_or c.next_rows-a.result i 0, (get_or c.next_rows-b.result i 0, (get_or c.next_rows-c.result i 0, tt)))) x) c.from_fn.ensures.items (λ i x q h k. search rules) i h)
