-- The page that is written is the block's.
use Prim.Native.Nat.{ℕ, zero, suc, ◌+◌, ◌≤◌, ◌<◌}
use mathlib.Core.Path.{◌≡◌, refl, sym, ap, subst, ◌∙◌}
use mathlib.Core.Bool.{Bool, true, false, cond, not}
use mathlib.Core.List.{List, [], ◌∷◌, ◌++◌, map}
use native.Mathlib.Omega.{arith}
use native.Mathlib.Numerals.{add-one}
use borrow.Author.Tests.{eq-eqb, ne_eqb, lt-ltb, le-ltb}
use lib.Dec.{eqb}
use lib.ListN.{length, get_or, drop, replicate, length-map, length-append}
use lib.Seq.{take_all, get_or-take, length-take-le}
use Rattle.status.specs.declared.entry.Entry.{Entry}
use Rattle.status.specs.Places.{vacant, entries_from, entries_of}
use Rattle.status.specs.Limits.{count_bits, page_bits}
use Rattle.status.specs.Bits.{bits_of, octets_for, pack}
use Rattle.status.specs.Entries.{bits_of_entries}
use Rattle.status.specs.Page.{bits_of_page, layout}
use Rattle.status.proofs.PageLaws.{layout_length}
use Rattle.status.proofs.PlaceLaws.{first_of, from_length, first_vacant, first_live}
use Rattle.rules.specs.Limits.{places}
use Rattle.rules.specs.Call.{write_page}
use Rattle.rules.specs.Answer.{page, answered}
use Rattle.rules.specs.Verdict.{refuse, allowed}
use Rattle.rules.specs.Layout.{up, rows, row_of, state_of, endpoint_of}
use Rattle.rules.specs.Table.{shown_in, shown, page_entries, page_verdict, page_answer, answer}
use Rattle.rules.proofs.RowsLaws.{rows_length}
use Rattle.rules.proofs.AgreesPages.{entries_none}
use Rattle.distributor.specs.Packing.{shown_to}
use Rattle.distributor.specs.Outcomes.{Pages}
use Rattle.std.specs.Prelude.{Result, Ok, Err}
use Rattle.octets.specs.declared.refusal.Refusal.{Refusal}

get_d_mapped : {A B : Type 0} (f : A → B) (l : List A) (d : A) (e : B) (i : ℕ) → i < length l → get_or (map f l) i e ≡ f (get_or l i d)
get_d_mapped f [] d e i h = absurd (omega arith)
get_d_mapped f (x ∷ l) d e zero h = refl
get_d_mapped f (x ∷ l) d e (suc i) h = get_d_mapped f l d e i (omega arith)

-- ---- row by row

-- the entry of a live row
abbrev pub entry_of : (state endpoint place : ℕ) → Entry
entry_of state endpoint place = record { place = place; keyed = not (eqb state 1); endpoint = endpoint }

module _ (s : List ℕ) (count : ℕ) (h : count ≤ places) where
  pub shown_length : length (shown_to s count) ≡ count
  shown_length =
      let e : length (map shown_in (rows s)) ≡ places = length-map (rows s) shown_in ∙ rows_length s in
      length-take-le count (map shown_in (rows s)) (omega arith)

  row_shown : (i : ℕ) → i < count → get_or (shown_to s count) i vacant ≡ shown_in (row_of s i)
  unfolding row_of
  row_shown i k =
      get_or-take count (map shown_in (rows s)) i vacant k ∙ get_d_mapped shown_in (rows s) [] vacant i (omega (arith, rows_length s))

  -- the entries of the first rows
  abbrev pub first_rows : ℕ → List Entry
  first_rows i = first_of (shown_to s count) i

  pub vacant_row_lem : (i : ℕ) → i < count → state_of (row_of s i) ≡ 0 → first_rows (i + 1) ≡ first_rows i
  vacant_row_lem i k z =
      rw add-one (first_vacant (shown_to s count) i (omega (arith, shown_length)) (row_shown i k ∙ rw (eq-eqb (state_of (row_of s i)) 0 z)))

  pub live_row : (i : ℕ) → i < count → (state_of (row_of s i) ≡ 0 → ⊥) → first_rows (i + 1) ≡ first_rows i ++ (entry_of (state_of (row_of s i)) (endpoint_of (row_of s i)) i ∷ [])
  live_row i k z =
      rw add-one
      (first_live (shown_to s count) i (omega (arith, shown_length)) (not (eqb (state_of (row_of s i)) 1)) (endpoint_of (row_of s i))
      (row_shown i k ∙ rw (ne_eqb (state_of (row_of s i)) 0 z)))

  pub live_length : (i : ℕ) → i < count → (state_of (row_of s i) ≡ 0 → ⊥) → length (first_rows (i + 1)) ≡ length (first_rows i) + 1
  live_length i k z =
      ap length (live_row i k z) ∙ length-append (first_rows i) (entry_of (state_of (row_of s i)) (endpoint_of (row_of s i)) i ∷ [])

  pub all_rows : (i : ℕ) → count ≤ i → first_rows i ≡ entries_of (shown_to s count)
  all_rows i k = ap entries_of (take_all i (shown_to s count) (omega (arith, shown_length)))

-- every row is shown, or none
pub all_shown : (s : List ℕ) → entries_of (shown_to s (cond (up s) places 0)) ≡ page_entries s
unfolding shown entries_from
all_shown s = go (up s)
  where
    go : (b : Bool) → entries_of (shown_to s (cond b places 0)) ≡ entries_of (cond b (map shown_in (rows s)) (replicate places vacant))
    go true = ap entries_of (take_all places (map shown_in (rows s)) (omega (arith, length-map (rows s) shown_in, rows_length s)))
    go false = sym (entries_none 0 places)

-- ---- how many, and how long

few_shown : (b : Bool) → cond b places 0 ≤ places
few_shown true = omega arith
few_shown false = omega arith

module _ (s : List ℕ) {shown count : ℕ} (a : shown ≡ cond (up s) places 0) (b : count ≡ length (entries_of (shown_to s shown))) where
  pub shown_few : shown ≤ places
  shown_few = rw a (few_shown (up s))

  pub entries_all : entries_of (shown_to s shown) ≡ page_entries s
  entries_all = ap (λ (n : ℕ). entries_of (shown_to s n)) a ∙ all_shown s

  pub count_few : count ≤ places
  count_few = omega (arith, b, from_length 0 (shown_to s shown), shown_length s shown shown_few, shown_few)

  pub page_length : {octets : ℕ} → octets ≡ octets_for (page_bits count) → octets ≡ length (layout (page_entries s))
  page_length {octets} c =
      c ∙ ap (λ (n : ℕ). octets_for (page_bits n)) (b ∙ ap length entries_all) ∙ sym (layout_length (page_entries s))

  pub page_packed : pack (bits_of count_bits count ++ bits_of_entries (entries_of (shown_to s shown))) ≡ layout (page_entries s)
  unfolding layout bits_of_page
  page_packed =
      ap (λ (n : ℕ). pack (bits_of count_bits n ++ bits_of_entries (entries_of (shown_to s shown)))) b
      ∙ ap (λ (es : List Entry). pack (bits_of count_bits (length es) ++ bits_of_entries es)) entries_all

-- ---- what is answered

abbrev answered_by : List ℕ → Bool → (out after : List ℕ) → Result ℕ Refusal → Type 0
answered_by s no_room out after r = Pages (answered (refuse no_room 13 allowed) 0 (page (page_entries s))) out after r

module _ (s out : List ℕ) where
  pub page_refused : length out < length (layout (page_entries s)) → Pages (answer s (write_page (length out))) out out (Err Refusal.NoRoom)
  unfolding answer page_answer page_verdict
  page_refused h =
      subst (λ (b : Bool). answered_by s b out out (Err Refusal.NoRoom)) (sym (lt-ltb (length out) (length (layout (page_entries s))) h)) (refl, refl)

  pub page_written : (after : List ℕ) (count : ℕ) → length (layout (page_entries s)) ≤ length out → count ≡ length (layout (page_entries s))
      → after ≡ layout (page_entries s) ++ drop count out → Pages (answer s (write_page (length out))) out after (Ok count)
  unfolding answer page_answer page_verdict
  page_written after count h e w =
      subst (λ (b : Bool). answered_by s b out after (Ok count)) (sym (le-ltb (length out) (length (layout (page_entries s))) h))
      (record { entries = page_entries s; told = refl; counted = e; written = w ∙ ap (λ (n : ℕ). layout (page_entries s) ++ drop n out) e })
