-- A legal block: its index is the order of its live rows, no two of which have the same endpoint.
use Prim.Native.Nat.{ℕ}
use mathlib.Core.Path.{◌≡◌}
use mathlib.Core.List.{List}
use Rattle.rules.specs.Search as Search
use Rattle.rules.specs.Layout.{rows, live, endpoint_of, serving}
use Rattle.rules.specs.Table.{place_of_endpoint}
use Rattle.rules.proofs.RowsLaws.{Sized}
use Rattle.rules.proofs.IndexTable as Index

pub record Legal (s : List ℕ) : Type 0 where
  pub sized : Sized s
  pub front : List ℕ
  pub table : Index.Legal live endpoint_of front s (rows s)

-- what the index finds is what a search row by row finds
pub place_first : (s : List ℕ) → Legal s → (endpoint : ℕ) → place_of_endpoint s endpoint ≡ Search.first (serving endpoint) (rows s)
unfolding serving
place_first s g e = Index.place_found live endpoint_of g.front s (rows s) g.table e
