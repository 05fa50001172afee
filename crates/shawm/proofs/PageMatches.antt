-- The entries of a table's page, read through the C interface, are the table's.
use Prim.Native.Nat.{ℕ, ◌+◌, ◌*◌, ◌/◌, ◌%◌}
use mathlib.Core.Path.{◌≡◌, ap, ◌∙◌}
use mathlib.Core.Bool.{Bool, true, false}
use mathlib.Core.List.{List}
use native.Mathlib.Omega.{arith}
use Rattle.status.specs.Entries.{state_of}
use Rattle.status.specs.Page.{layout, Picked}
use Rattle.status.specs.Claims.{nth, Listable}
use Rattle.status.specs.declared.entry.Entry.{Entry}
use Rattle.status.proofs.Theorem.{reads_back}
use Rattle.shawm.specs.Page.{count_number, entry_number, endpoint_number}
use Rattle.shawm.specs.Claims.{PageMatches}

-- a number of twice a place and a state tells both
module _ (place : ℕ) where
  place_in : (keyed : Bool) → (place * 2 + state_of keyed) / 2 ≡ place
  place_in true = omega arith
  place_in false = omega arith

  state_in : (keyed : Bool) → (place * 2 + state_of keyed) % 2 ≡ state_of keyed
  state_in true = omega arith
  state_in false = omega arith

-- the theorem
module _ (es : List Entry) (l : Listable es) where
  pub page_matches : PageMatches (layout es) es
  page_matches = record {
    count = ap count_number (reads_back es l).counted;
    place = λ n h. ap (λ (p : Picked). entry_number p / 2) ((reads_back es l).each n h) ∙ place_in (nth es n).place (nth es n).keyed;
    state = λ n h. ap (λ (p : Picked). entry_number p % 2) ((reads_back es l).each n h) ∙ state_in (nth es n).place (nth es n).keyed;
    endpoint = λ n h. ap endpoint_number ((reads_back es l).each n h);
    behind = λ n h. ap entry_number ((reads_back es l).behind n h);
    no_endpoint = λ n h. ap endpoint_number ((reads_back es l).behind n h);
  }
