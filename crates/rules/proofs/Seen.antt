-- A legal block and what it is seen as: the blocks that calls leave.
use Prim.Native.Nat.{ℕ, ◌-◌, ◌<◌}
use mathlib.Core.Path.{◌≡◌, refl, sym, ap, ap₂, ◌∙◌}
use mathlib.Core.Bool.{Bool, true, false, cond}
use mathlib.Core.List.{List, ◌∷◌, ◌++◌, map}
use mathlib.Core.Option.{none}
use lib.ListN.{length, set, replicate, length-replicate}
use Rattle.rules.specs.Limits.{places, list_limit}
use Rattle.rules.specs.Search as Search
use Rattle.rules.specs.Layout.{rows, live, endpoint_of, row_length, tunnel_at, index_at, block_length, field, vacant_row, with_row, down_block, up_block}
use Rattle.rules.specs.Verdict.{Verdict, allowed, refusal, after}
use Rattle.rules.specs.Tunnel.{Tunnel}
use Rattle.rules.specs.View.{AtPlace, View, in_row, view}
use Rattle.rules.specs.ViewSteps.{set_first, down_view, up_view}
use Rattle.rules.proofs.SearchLaws.{map_set, map_replicate}
use Rattle.rules.proofs.RowsLaws.{rows_with, rows_down, down_sized, rows_up, up_front, up_sized}
use Rattle.rules.proofs.ChunkLaws.{replicate_add}
use Rattle.rules.proofs.IndexTable as Index
use Rattle.rules.proofs.Legal.{Legal}
use Rattle.rules.proofs.LegalSteps.{empty_legal, front_with, follows_legal, follows_view}
use Rattle.rules.proofs.RowLaws.{vacant_row_lem}
use Rattle.rules.proofs.TunnelLaws.{tunnel_with, down_tunnel, up_tunnel}
use Rattle.rules.proofs.ListRoom.{good_list_room}
use Rattle.message.specs.Profiles.{good_list}

pub record Seen (s : List ℕ) (v : View) : Type 0 where
  pub legal : Legal s
  pub is : view s ≡ v

pub as_it_is : (s : List ℕ) → Legal s → Seen s (view s)
as_it_is s l = record { legal = l; is = refl }

-- ---- both sides go by the same verdict, or the same test

module _ {new old : List ℕ} {x y : View} where
  pub by_verdict : (v : Verdict) → (v ≡ allowed → Seen new x) → Seen old y → Seen (after v new old) (after v x y)
  by_verdict allowed f g = f refl
  by_verdict (refusal number) f g = g

  pub by_test : (b : Bool) → (b ≡ true → Seen new x) → Seen old y → Seen (cond b new old) (cond b x y)
  by_test true f g = f refl
  by_test false f g = g

-- ---- empty tables

abbrev seen_as : Tunnel → List AtPlace → View
seen_as t l = record { tunnel = t; table = l }

empty_table : (s : List ℕ) → rows s ≡ replicate places vacant_row → map in_row (rows s) ≡ replicate places none
empty_table s h = ap (map in_row) h ∙ map_replicate in_row places vacant_row ∙ ap (replicate places) vacant_row_lem

down_legal : Legal down_block
unfolding down_block
down_legal = empty_legal (replicate index_at 0) down_block down_sized (length-replicate {A = ℕ} index_at 0) (replicate_add index_at (block_length - index_at) 0) rows_down

up_legal : (list : List ℕ) → Legal (up_block list)
unfolding up_block
up_legal list = empty_legal (replicate tunnel_at 0 ++ (1 ∷ field list_limit list)) (up_block list) (up_sized list) (up_front list) refl (rows_up list)

pub down_seen : Seen down_block down_view
unfolding view
down_seen = record { legal = down_legal; is = ap₂ seen_as down_tunnel (empty_table down_block rows_down) }

pub up_seen : (list : List ℕ) → good_list list ≡ true → Seen (up_block list) (up_view list)
unfolding view
up_seen list g = record {
  legal = up_legal list;
  is = ap₂ seen_as (up_tunnel list (good_list_room list g)) (empty_table (up_block list) (rows_up list));
}

row_view : (s : List ℕ) (l : Legal s) (at : ℕ) (h : at < places) (r : List ℕ) (e : length r ≡ row_length) (x : AtPlace) → in_row r ≡ x
    → (p : AtPlace → Bool) → Search.first p (view s).table ≡ at → view (with_row s at r) ≡ set_first p x (view s)
unfolding view
row_view s l at h r e x f p g =
    ap₂ seen_as (tunnel_with s l.sized at h r e)
    (ap (map in_row) (rows_with s l.sized at h r e) ∙ map_set in_row (rows s) at r ∙ ap₂ (set (map in_row (rows s))) (sym g) f)

-- ---- another row at a place that a search finds, and the index that follows

pub row_seen : (s : List ℕ) (l : Legal s) (at : ℕ) (h : at < places) (r : List ℕ) (e : length r ≡ row_length) (x : AtPlace) → in_row r ≡ x
    → (p : AtPlace → Bool) → Search.first p (view s).table ≡ at
    → (t : List ℕ) → Index.Legal live endpoint_of (front_with s l at h r e) t (set (rows s) at r) → Seen t (set_first p x (view s))
row_seen s l at h r e x f p g t k = record {
  legal = follows_legal s l at h r e t k;
  is = follows_view s l at h r e t k ∙ row_view s l at h r e x f p g;
}
