use Prim.Native.Nat.{◌-◌}
use mathlib.Core.Path.{◌≡◌}
use Rattle.aes.specs.Cipher.{inv_rounds}
use Rattle.aes.proofs.cipher.decrypt_block.Given as goal

abbrev pub invariant-loop-n : goal.invariant-loop-n
invariant-loop-n l = inv_rounds l.w (l.n - 1) l.t ≡ inv_rounds l.w 9 l.initial.t
