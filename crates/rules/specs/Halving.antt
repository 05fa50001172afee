-- A search by halving among numbers that rise (document 02, order 2).
use Rattle.std.specs.Prelude.{ℕ, zero, suc, ◌+◌, ◌*◌, ◌-◌, ◌/◌, cond, List, [], ◌∷◌, eqb, ltb, leb}

-- where a number stands among others, or where it would stand
pub data Spot : Type 0 where
  here : ℕ → Spot
  missing : ℕ → Spot

-- where the half that is left begins, by the number seen in the middle
unfoldable pub nearer : (seen sought lo middle : ℕ) → ℕ
nearer seen sought lo middle = cond (leb seen sought) middle lo

-- of the n numbers from lo on: where those that are left after so many rounds begin
unfoldable pub halved : (rounds : ℕ) → (number_at : ℕ → ℕ) → (sought lo n : ℕ) → ℕ
halved zero number_at sought lo n = lo
halved (suc rounds) number_at sought lo n = halved rounds number_at sought (nearer (number_at (lo + n / 2)) sought lo (lo + n / 2)) (n - n / 2)

-- the last round: the number seen at the position that is left
unfoldable pub settled : (seen sought at : ℕ) → Spot
settled seen sought at = cond (eqb seen sought) (here at) (missing (cond (ltb seen sought) (at + 1) at))

-- a search among n numbers in so many rounds: all but the last halve
unfoldable pub halving : (rounds : ℕ) → (number_at : ℕ → ℕ) → (sought n : ℕ) → Spot
halving zero number_at sought n = missing zero
halving (suc rounds) number_at sought n =
    let at = halved rounds number_at sought 0 n in
    cond (eqb n 0) (missing zero) (settled (number_at at) sought at)

-- the rounds that it takes: none among no numbers, the last alone for one
abbrev pub rounds_for : (rounds n : ℕ) → ℕ
rounds_for rounds n = cond (eqb n 0) 0 (cond (leb n 1) 1 rounds)

-- ---- the numbers that it compares: one a round

-- the positions of those seen while halving
unfoldable pub halved_by : (rounds : ℕ) → (number_at : ℕ → ℕ) → (sought lo n : ℕ) → List ℕ
halved_by zero number_at sought lo n = []
halved_by (suc rounds) number_at sought lo n = (lo + n / 2) ∷ halved_by rounds number_at sought (nearer (number_at (lo + n / 2)) sought lo (lo + n / 2)) (n - n / 2)

unfoldable pub compared : (rounds : ℕ) → (number_at : ℕ → ℕ) → (sought n : ℕ) → List ℕ
compared zero number_at sought n = []
compared (suc rounds) number_at sought n = halved rounds number_at sought 0 n ∷ halved_by rounds number_at sought 0 n

-- as many numbers can be halved k times
abbrev pub two_to : (k : ℕ) → ℕ
two_to zero = 1
two_to (suc k) = 2 * two_to k
