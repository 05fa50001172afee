-- Legal blocks: an empty table's, and those with another row and the index that follows from it.
use Prim.Native.Nat.{ℕ, zero, suc, ◌+◌, ◌*◌, ◌-◌, ◌≤◌, ◌<◌}
use mathlib.Core.Path.{◌≡◌, refl, sym, ap, ap₂, subst, ◌∙◌}
use mathlib.Core.Bool.{true, false, cond, true≢false}
use mathlib.Core.List.{List, [], ◌++◌, map}
use mathlib.Core.Option.{some, none}
use native.Mathlib.Omega.{arith}
use lib.ListN.{length, set, replicate, length-append}
use Rattle.octets.specs.Write.{over}
use Rattle.octets.proofs.WriteLaws.{over_length}
use Rattle.octets.proofs.Tests.{by_test}
use Rattle.rules.specs.Limits.{places}
use Rattle.rules.specs.Layout.{rows, live, endpoint_of, row_length, index_at, block_length, vacant_row, with_row}
use Rattle.rules.specs.Order.{order_from}
use Rattle.rules.specs.Index.{index_octets}
use Rattle.rules.specs.Answer.{Association}
use Rattle.rules.specs.Table.{association_of}
use Rattle.rules.specs.View as Tunnel
use Rattle.rules.specs.View.{AtPlace, in_row, view, endpoint_in}
use Rattle.rules.proofs.Entries.{EndpointsDiffer}
use Rattle.rules.proofs.RowsLaws.{Sized, rows_length, rows_with, rows_front, over_front}
use Rattle.rules.proofs.TunnelLaws.{tunnel_front}
use Rattle.rules.proofs.IndexLaws.{index_length, index_empty}
use Rattle.rules.proofs.IndexTable as Index
use Rattle.rules.proofs.Legal.{Legal}
use Rattle.rules.proofs.ViewTests.{association_endpoint}

-- ---- what stands at a place tells of its row

pub row_tells : (r : List ℕ) (a : Association) → in_row r ≡ some a → (live r ≡ true) × (endpoint_of r ≡ endpoint_in a)
unfolding in_row
row_tells r a e = by_test (live r)
    (λ h. (h, sym (association_endpoint r) ∙ ap endpoint_in (inside h e)))
    (λ h. absurd (outside h e))
  where
    inside : live r ≡ true → cond (live r) (some (association_of r)) none ≡ some a → association_of r ≡ a
    inside h q = let p : some (association_of r) ≡ some a = rw h at q in cc

    outside : live r ≡ false → cond (live r) (some (association_of r)) none ≡ some a → ⊥
    outside h q = let p : none ≡ some a = rw h at q in let z : ◌≡◌ {A = ℕ} 0 1 = cc in omega arith

pub vacant_live : live vacant_row ≡ false
unfolding live vacant_row
vacant_live = refl

-- ---- an empty table

vacant_order : (j k : ℕ) → order_from live endpoint_of j (replicate k vacant_row) ≡ []
unfolding order_from
vacant_order j zero = refl
vacant_order j (suc k) = rw vacant_live (vacant_order (suc j) k)

vacant_differ : (k : ℕ) → EndpointsDiffer live endpoint_of (replicate k vacant_row)
vacant_differ zero = tt
vacant_differ (suc k) = ((λ h. absurd (true≢false (sym h ∙ vacant_live))), vacant_differ k)

pub empty_legal : (front s : List ℕ) → Sized s → length front ≡ index_at → s ≡ front ++ replicate (block_length - index_at) 0 → rows s ≡ replicate places vacant_row → Legal s
empty_legal front s z f e r =
    let o : order_from live endpoint_of 0 (rows s) ≡ [] = ap (order_from live endpoint_of 0) r ∙ vacant_order 0 places in
    record {
      sized = z;
      front = front;
      table = record {
        index = record { size = f; index = rw (o, index_empty) e; few = rw o (omega arith) };
        differ = rw r (vacant_differ places);
        size = rows_length s;
      };
    }

-- ---- another row

module _ (s : List ℕ) (g : Legal s) (at : ℕ) (h : at < places) (r : List ℕ) (e : length r ≡ row_length) where
  abbrev pub front_with : List ℕ
  front_with = over g.front (at * row_length) r

  room : at * row_length + length r ≤ length g.front
  room = omega (arith, g.table.index.size)

  -- the index stands as it was
  pub with_table : Index.Legal live endpoint_of front_with (with_row s at r) (rows s)
  unfolding with_row
  with_table =
      let i = g.table.index in
      record {
        index = record {
          size = over_length g.front (at * row_length) r room ∙ i.size;
          index = ap (λ (x : List ℕ). over x (at * row_length) r) i.index ∙ over_front g.front (index_octets (order_from live endpoint_of 0 (rows s))) r (at * row_length) room;
          few = i.few;
        };
        differ = g.table.differ;
        size = g.table.size;
      }

  module _ (t : List ℕ) (k : Index.Legal live endpoint_of front_with t (set (rows s) at r)) where
    old : with_row s at r ≡ front_with ++ index_octets (order_from live endpoint_of 0 (rows s))
    old = with_table.index.index

    new : t ≡ front_with ++ index_octets (order_from live endpoint_of 0 (set (rows s) at r))
    new = k.index.index

    rows_same : rows t ≡ rows (with_row s at r)
    rows_same = ap rows new ∙ rows_front front_with _ _ k.index.size ∙ sym (ap rows old)

    rows_are : set (rows s) at r ≡ rows t
    rows_are = sym (rows_same ∙ rows_with s g.sized at h r e)

    pub follows_legal : Legal t
    follows_legal = record {
      sized = record {
        size = ap length new ∙ length-append front_with _ ∙ omega (arith, k.index.size, index_length (order_from live endpoint_of 0 (set (rows s) at r)));
      };
      front = front_with;
      table = subst (Index.Legal live endpoint_of front_with t) rows_are k;
    }

    pub follows_view : view t ≡ view (with_row s at r)
    unfolding view
    follows_view =
        ap₂ (λ tunnel (l : List AtPlace). record { tunnel = tunnel; table = l })
        (ap Tunnel.tunnel_of new ∙ tunnel_front front_with _ _ k.index.size ∙ sym (ap Tunnel.tunnel_of old)) (ap (map in_row) rows_same)
