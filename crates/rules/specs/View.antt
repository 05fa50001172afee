-- The block read as a tunnel and, place by place, its associations: document 01, "The record and its calls".
use Rattle.std.specs.Prelude.{ℕ, Bool, false, cond, List, map}
use Rattle.std.proofs.Math.Option.{Option, some, none}
use Rattle.octets.specs.Part.{same}
use Rattle.rules.specs.Layout.{up, list_of, rows, live}
use Rattle.rules.specs.Answer.{Association, opened, keyed}
use Rattle.rules.specs.Tunnel.{Tunnel, down, up_with}
use Rattle.rules.specs.Table.{association_of}

-- what stands at a place: an association, or none
abbrev pub AtPlace : Type 0
AtPlace = Option Association

pub record View : Type 0 where
  pub tunnel : Tunnel
  pub table : List AtPlace

unfoldable pub tunnel_of : List ℕ → Tunnel
tunnel_of s = cond (up s) (up_with (list_of s)) down

unfoldable pub in_row : List ℕ → AtPlace
in_row r = cond (live r) (some (association_of r)) none

unfoldable pub view : List ℕ → View
view s = record { tunnel = tunnel_of s; table = map in_row (rows s) }

-- ---- tests of a place

abbrev pub identifier_in : Association → List ℕ
identifier_in (opened identifier endpoint) = identifier
identifier_in (keyed identifier endpoint k) = identifier

abbrev pub endpoint_in : Association → ℕ
endpoint_in (opened identifier endpoint) = endpoint
endpoint_in (keyed identifier endpoint k) = endpoint

abbrev pub is_for : List ℕ → AtPlace → Bool
is_for identifier none = false
is_for identifier (some a) = same (identifier_in a) identifier
