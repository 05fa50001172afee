use Prim.Native.Nat.{◌-◌}
use mathlib.Core.Path.{◌≡◌}
use Rattle.aes.specs.Cipher.{rounds}
use Rattle.aes.proofs.cipher.encrypt_block.Given as goal

-- Before round n, the rounds before it.
abbrev pub invariant-loop-n : goal.invariant-loop-n
invariant-loop-n l = l.t ≡ rounds l.w (l.n - 1) l.initial.t
