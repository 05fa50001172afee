-- Whether a list has a number, and whether its numbers differ: what the code asks of endpoints.
use Rattle.std.specs.Prelude.{ℕ, Bool, true, false, not, ◌&&◌, ◌||◌, List, [], ◌∷◌, eqb}

unfoldable pub has : (n : ℕ) → List ℕ → Bool
has n [] = false
has n (x ∷ l) = eqb x n || has n l

unfoldable pub apart : List ℕ → Bool
apart [] = true
apart (x ∷ l) = not (has x l) && apart l
