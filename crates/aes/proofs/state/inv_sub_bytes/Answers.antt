use borrow.Author.Rules.{rules}
use Rattle.aes.proofs.CircuitLaws.{inverse_circuits}
use Rattle.aes.proofs.state.inv_sub_bytes.Goals as goal

-- The S-box between two affine transformations.
pub returns : goal.returns
returns c =
    rw (c.inv_affines-2.ensures, c.sub_bytes.ensures, c.inv_affines.ensures)
    (inverse_circuits c.args.s (λ i. search rules))
