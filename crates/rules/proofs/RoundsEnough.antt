-- What the limits' values have to do with each other: the rounds are one more than the places can be halved.
use Prim.Native.Nat.{◌-◌, ◌≤◌, ◌<◌}
use native.Mathlib.Omega.{arith}
use Rattle.rules.specs.Limits.{places, rounds}
use Rattle.rules.specs.Halving.{two_to}

pub enough : places ≤ two_to (rounds - 1)
enough = omega arith

pub needed : two_to (rounds - 2) < places
needed = omega arith
