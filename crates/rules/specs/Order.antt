-- The live rows of a table in the order of their endpoints: what the index holds (document 02, order 2).
use Rattle.std.specs.Prelude.{ℕ, zero, suc, Bool, cond, List, [], ◌∷◌, leb}

-- an endpoint and the place of its row
pub record Entry : Type 0 where
  pub endpoint : ℕ
  pub place : ℕ

abbrev pub entry : (endpoint place : ℕ) → Entry
entry endpoint place = record { endpoint = endpoint; place = place }

-- before the first entry whose endpoint is not less
unfoldable pub insert : Entry → List Entry → List Entry
insert x [] = x ∷ []
insert x (y ∷ m) = cond (leb x.endpoint y.endpoint) (x ∷ y ∷ m) (y ∷ insert x m)

module _ {A : Type 0} (live : A → Bool) (endpoint_of : A → ℕ) where
  -- of rows the first of which stands at a place
  unfoldable pub order_from : (place : ℕ) → List A → List Entry
  order_from place [] = []
  order_from place (r ∷ l) = cond (live r) (insert (entry (endpoint_of r) place) (order_from (suc place) l)) (order_from (suc place) l)

  abbrev pub order : List A → List Entry
  order l = order_from zero l
