-- The round constants as a table, with their rule.
use Prim.Native.Nat.{ℕ, ◌-◌, ◌<◌}
use mathlib.Core.Path.{◌≡◌}
use mathlib.Core.List.{List, [], ◌∷◌}
use lib.ListN.{get_or}
use Rattle.aes.specs.Field.{xor, xtime, multiples, mul}
use Rattle.aes.specs.KeyExpansion.{power}
use Rattle.aes.proofs.Below.{agree}

abbrev pub constants : List ℕ
constants = 1 ∷ 1 ∷ 2 ∷ 4 ∷ 8 ∷ 16 ∷ 32 ∷ 64 ∷ 128 ∷ 27 ∷ 54 ∷ []

pub rcon_rule : (n : ℕ) → n < 11 → get_or constants n 0 ≡ power (n - 1)
unfolding power mul multiples xtime xor
rcon_rule = agree (λ n. get_or constants n 0) (λ n. power (n - 1)) 11 tt
