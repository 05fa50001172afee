use native.Mathlib.Omega.{arith}
use mathlib.Core.Path.{refl}
use Rattle.distributor.proofs.PackingLaws.{sum_fits, put_waits, put_flushes}
use Rattle.distributor.proofs.packing.put.Goals as goal

pub overflow_add-pending : goal.overflow_add-pending
overflow_add-pending c =
    let a = c.args in
    let p = c.requires in
    record { fits = sum_fits a.w.pending a.width p.1 a.n p.2 }

pub returns-then-bits-lt-WORD_BITS : goal.returns-then-bits-lt-WORD_BITS
returns-then-bits-lt-WORD_BITS c =
    let a = c.args in
    let p = c.requires in
    (record { few = omega arith; width = omega arith }, put_waits a.out.now a.w a.width a.n p.2 p.0.few p.1 _ refl)

pub returns : goal.returns
returns c =
    let a = c.args in
    let p = c.requires in
    let f = c.put_four in (
      record { few = omega (arith, p.0.few, p.1); width = omega arith },
      put_flushes a.out.now a.w a.width a.n p.2 p.0.few p.1 _ refl c.if-bits-lt-WORD_BITS.false _ (omega arith) f.ensures,
    )
