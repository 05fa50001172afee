-- What a status page shows of a table: place by place, vacant or live, and of a live one its state and endpoint. Nothing else of a table is known here.
use Rattle.std.specs.Prelude.{ℕ, suc, Bool, cond, not, List, [], ◌∷◌, eqb}
use Rattle.status.specs.declared.entry.Entry.{Entry}

pub data Shown : Type 0 where
  vacant : Shown
  live : (keyed : Bool) (endpoint : ℕ) → Shown

-- "for each live place, lowest first": the entries of the places from `place` on
unfoldable pub entries_from : (place : ℕ) → List Shown → List Entry
entries_from place [] = []
entries_from place (vacant ∷ l) = entries_from (suc place) l
entries_from place (live keyed endpoint ∷ l) = record { place = place; keyed = keyed; endpoint = endpoint } ∷ entries_from (suc place) l

abbrev pub entries_of : List Shown → List Entry
entries_of l = entries_from 0 l

-- by a state (0 vacant, 1 open, else keyed) and an endpoint

abbrev pub shown_as : (state endpoint : ℕ) → Shown
shown_as state endpoint = cond (eqb state 0) vacant (live (not (eqb state 1)) endpoint)
