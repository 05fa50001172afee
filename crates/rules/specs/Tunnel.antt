-- The tunnel: down, or up with the profile list that it started with: document 01, "The record and its calls".
use Rattle.std.specs.Prelude.{ℕ, Bool, true, false, List, []}

pub data Tunnel : Type 0 where
  down : Tunnel
  up_with : (list : List ℕ) → Tunnel

abbrev pub is_up : Tunnel → Bool
is_up down = false
is_up (up_with list) = true

abbrev pub list_in : Tunnel → List ℕ
list_in down = []
list_in (up_with list) = list
