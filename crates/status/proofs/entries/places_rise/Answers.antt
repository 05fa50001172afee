use Prim.Native.Nat.{ℕ, ◌-◌}
use mathlib.Core.Path.{◌≡◌, sym, ap, ◌∙◌}
use mathlib.Core.List.{map}
use native.Mathlib.Omega.{arith}
use lib.ListN.{length}
use lib.Seq.{take_all}
use Rattle.status.specs.Limits.{count_bits, page_bits}
use Rattle.status.specs.Bits.{bit_at}
use Rattle.status.specs.Entries.{endpoint_of, entries_at, rising}
use Rattle.status.proofs.ScanLaws.{rising_none}
use Rattle.status.proofs.NumbersLaws.{endpoints_none}
use Rattle.status.proofs.entries.places_rise.Goals as goal

pub loop-i-init : goal.loop-i-init
loop-i-init c =
    let a = c.args in
    let e : length a.list.now ≡ length a.list.now - 0 = omega arith in record {
      rises = ap (λ (n : ℕ). rising 0 (entries_at (bit_at a.page.now) count_bits n)) e;
      stored = endpoints_none a.list.now (bit_at a.page.now);
    }

pub returns : goal.returns
returns c =
    let a = c.args in
    let s = a.page.now in
    let l = c.loop-i in
    let e : l.i ≡ length a.list.now = omega arith in (
      sym (l.invariant.rises ∙ rising_none (bit_at s) (page_bits l.i) (length a.list.now - l.i) (omega arith) l.least),
      λ _. sym (take_all l.i l.list (omega arith)) ∙ l.invariant.stored ∙ ap (λ (n : ℕ). map endpoint_of (entries_at (bit_at s) count_bits n)) e,
    )
