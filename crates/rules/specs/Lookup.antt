-- The search for an endpoint's record (document 02, order 2): what is meant by it, and what holds of the one through the index.
use Rattle.std.specs.Prelude.{ℕ, suc, ◌≤◌, ◌≡◌, List, [], ◌∷◌, length, drop}
use Rattle.rules.specs.Search.{first}
use Rattle.rules.specs.Call.{Call}
use Rattle.rules.specs.Layout.{rows, live, endpoint_of, serving, index_at, down_block}
use Rattle.rules.specs.Halving.{halving, two_to}
use Rattle.rules.specs.Order.{Entry, order}
use Rattle.rules.specs.Index.{count_of, index_endpoint, place_at_spot, index_octets}
use Rattle.rules.specs.Table.{place_of_endpoint, run, answers}
use Rattle.rules.specs.View.{view}
use Rattle.rules.specs.ViewSteps.{down_view, view_run, view_answers}

-- what is meant: the first row that serves the endpoint, or the number of rows where none does
abbrev pub place_serving : List ℕ → (endpoint : ℕ) → ℕ
place_serving s endpoint = first (serving endpoint) (rows s)

-- the live rows in the order of their endpoints
abbrev pub sorted : List ℕ → List Entry
sorted s = order live endpoint_of (rows s)

-- two functions give the same numbers at these positions
abbrev pub Agree : (f g : ℕ → ℕ) → List ℕ → Type 0
Agree f g [] = Unit {0}
Agree f g (at ∷ l) = (f at ≡ g at) × Agree f g l

-- of the block after a list of calls
pub record Lookup (calls : List Call) (s : List ℕ) : Type 0 where
  -- the search answers as it is meant
  pub found : (endpoint : ℕ) → place_of_endpoint s endpoint ≡ place_serving s endpoint
  -- so do k halvings and one round more, where at most 2 to the power of k are live
  pub in_rounds : (k endpoint : ℕ) → length (sorted s) ≤ two_to k → place_at_spot s (halving (suc k) (index_endpoint s) endpoint (count_of s)) ≡ place_serving s endpoint
  -- the index follows from the rows, octet by octet
  pub follows : drop index_at s ≡ index_octets (sorted s)
  -- every answer on the way, place numbers included, is that of a search from the lowest place on, and so is every record
  pub answered : answers down_block calls ≡ view_answers down_view calls
  pub seen : view s ≡ view_run down_view calls

abbrev pub LooksUp : List Call → Type 0
LooksUp calls = Lookup calls (run down_block calls)
