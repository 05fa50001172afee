use mathlib.Core.Path.{refl}
use lib.Seq.{drop-drop}
use Rattle.keywrap.specs.KeyWrap.{register_count}
use Rattle.keywrap.specs.Padding.{mli, verified}
use Rattle.keywrap.proofs.CodeLaws.{or_none, tail}
use Rattle.keywrap.proofs.checks.verified.Goals as goal

pub returns : goal.returns
unfolding verified register_count
returns c =
    let x = c.args.x.now in
    rw (
      c.zeros_from.ensures,
      or_none c.constant_fault.result c.fault.result,
      c.constant_fault.ensures,
      c.fault.ensures,
      c.mli_fits.ensures,
      c.mli-m.ensures,
      tail x 8,
      drop-drop (mli x) 8 x,
    ) refl
