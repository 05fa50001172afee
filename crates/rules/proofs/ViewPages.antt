-- The page of a block is that of its view, and a call that writes a page writes this one.
use Prim.Native.Nat.{ℕ}
use mathlib.Core.Path.{◌≡◌, refl, ap, ap₂}
use mathlib.Core.Bool.{Bool, true, false, cond, not, true≢false}
use mathlib.Core.List.{List, [], ◌∷◌, map}
use mathlib.Core.Option.{some, none}
use lib.Dec.{eqb}
use lib.ListN.{replicate}
use Rattle.octets.specs.Number.{octet_at}
use Rattle.status.specs.declared.entry.Entry.{Entry}
use Rattle.status.specs.Places.{Shown, vacant, entries_of}
use Rattle.status.specs.Places as Places
use Rattle.rules.specs.Limits.{places}
use Rattle.rules.specs.Call.{write_page}
use Rattle.rules.specs.Verdict.{Verdict, allowed, refusal}
use Rattle.rules.specs.Answer.{Answer, opened, keyed, page, by_answer, answered}
use Rattle.rules.specs.Layout.{up, rows, live, endpoint_of, identifier_of, keys_of, state_at}
use Rattle.rules.specs.Table.{association_of, shown_in, shown, page_entries, page_verdict, page_answer, answer}
use Rattle.rules.specs.View.{in_row, view}
use Rattle.rules.specs.ViewSteps.{shown_at, shown_of, entries_in}
use Rattle.rules.proofs.ViewTests.{view_up}

-- ---- a row

module _ (r : List ℕ) where
  shown_row : shown_at (in_row r) ≡ shown_in r
  unfolding in_row live association_of
  shown_row = go (eqb (octet_at r state_at) 0) (eqb (octet_at r state_at) 1)
    where
      go : (v o : Bool)
          → shown_at (cond (not v) (some (cond o (opened (identifier_of r) (endpoint_of r)) (keyed (identifier_of r) (endpoint_of r) (keys_of r)))) none)
          ≡ cond v vacant (Places.live (not o) (endpoint_of r))
      go true o = refl
      go false true = refl
      go false false = refl

shown_rows : (l : List (List ℕ)) → map shown_at (map in_row l) ≡ map shown_in l
shown_rows [] = refl
shown_rows (r ∷ l) = ap₂ (λ (x : Shown) (y : List Shown). x ∷ y) (shown_row r) (shown_rows l)

-- ---- a block

pub view_shown : (s : List ℕ) → shown_of (view s) ≡ shown s
unfolding view shown
view_shown s = rw (view_up s) (ap (λ (l : List Shown). cond (up s) l (replicate places vacant)) (shown_rows (rows s)))

pub view_entries : (s : List ℕ) → entries_in (view s) ≡ page_entries s
view_entries s = ap entries_of (view_shown s)

-- ---- the entries of a page that was written

pub page_is : (s : List ℕ) (room : ℕ) (entries : List Entry) → answer s (write_page room) ≡ page entries → page_entries s ≡ entries
unfolding answer page_answer
page_is s room entries = go (page_verdict s room)
  where
    go : (v : Verdict) → answered v 0 (page (page_entries s)) ≡ page entries → page_entries s ≡ entries
    go allowed e = ap (λ (a : Answer). by_answer (λ number taken. []) [] (λ place. []) (λ endpoint dtls taken. []) (λ entries. entries) (λ taken. []) a) e
    go (refusal number) e = absurd (true≢false (ap (λ (a : Answer). by_answer (λ number taken. true) false (λ place. false) (λ endpoint dtls taken. false) (λ entries. false) (λ taken. false) a) e))
