-- The place that an opening takes: document 01, "takes the lowest free place, so a freed place is used again". It is said of the tables before and after and of the answer; no search is named.
use Rattle.std.specs.Prelude.{ℕ, ◌<◌, ◌≡◌, ◌≢◌, List, [], ◌∷◌, length, get_or}
use Rattle.std.proofs.Math.Option.{some, none}
use Rattle.rules.specs.Call.{Call, opening}
use Rattle.rules.specs.Answer.{Association, opened, placed}
use Rattle.rules.specs.Table.{answer, step}
use Rattle.rules.specs.View.{AtPlace, view}

-- what stands at a place; behind the last place nothing does
abbrev pub at_place : List AtPlace → (place : ℕ) → AtPlace
at_place table place = get_or table place none

pub record Placed (before after : List AtPlace) (place : ℕ) (identifier : List ℕ) (endpoint : ℕ) : Type 0 where
  -- it is one of the places, and was free
  pub within : place < length before
  pub free : at_place before place ≡ none
  -- every lower place holds a record
  pub lowest : (lower : ℕ) → lower < place → (a : Association) × (at_place before lower ≡ some a)
  -- afterwards the new association stands there, open, and every other place is as it was
  pub new : at_place after place ≡ some (opened identifier endpoint)
  pub others : (other : ℕ) → other ≢ place → at_place after other ≡ at_place before other

-- of a call on a block: where it is an opening and is answered with a place
abbrev pub Opening : (block : List ℕ) (call : Call) → Type 0
Opening s c =
    (identifier : List ℕ) (endpoint place : ℕ) → c ≡ opening identifier endpoint → answer s c ≡ placed place
    → Placed (view s).table (view (step s c)).table place identifier endpoint

-- of each call in a list, on the block that the calls before it led to
abbrev pub Openings : (block : List ℕ) (calls : List Call) → Type 0
Openings s [] = Unit {0}
Openings s (c ∷ cs) = Opening s c × Openings (step s c) cs
