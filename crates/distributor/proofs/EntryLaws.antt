-- Laws of the entries that are put row by row.
use Prim.Native.Nat.{ℕ, ◌+◌, ◌*◌, ◌^◌, ◌≤◌, ◌<◌}
use mathlib.Core.Path.{◌≡◌, ap, subst, ◌∙◌}
use mathlib.Core.Bool.{Bool}
use mathlib.Core.List.{List, [], ◌∷◌, ◌++◌, append-nil}
use native.Mathlib.Omega.{arith}
use lib.ListN.{length}
use Rattle.status.specs.Limits.{place_bits, state_bits, endpoint_bits, entry_bits}
use Rattle.status.specs.Bits.{bits_of}
use Rattle.status.specs.Entries.{bits_of_entry, bits_of_entries}
use Rattle.status.specs.Entries as Entries
use Rattle.status.specs.Places.{entries_of}
use Rattle.status.proofs.LimitFacts.{places_fit, state_fits}
use Rattle.status.proofs.BitLaws.{bits_add, below_add}
use Rattle.status.proofs.EntryLaws.{state_below, entries_append}
use Rattle.status.proofs.PlaceLaws.{first_of, first_none, first_few}
use Rattle.rules.specs.Limits.{places}
use Rattle.rules.specs.Layout.{row_of, state_of, endpoint_of}
use Rattle.distributor.specs.Packing.{word_bits, Moved, Puts, shown_to}
use Rattle.distributor.specs.declared.packing.Packing.{Packing}
use Rattle.distributor.proofs.PackingLaws.{puts_more}
use Rattle.distributor.proofs.PageLaws.{entry_of, vacant_row_lem, live_row, live_length, all_rows}

abbrev head_of : (place : ℕ) (keyed : Bool) → ℕ
head_of place keyed = place * 2 ^ state_bits + Entries.state_of keyed

pub head_below : (place : ℕ) (keyed : Bool) → place < places → head_of place keyed < 2 ^ (place_bits + state_bits)
head_below place keyed h =
    below_add place_bits state_bits (omega (arith, places_fit)) (state_fits (Entries.state_of keyed) (state_below keyed))

-- place and state, then the endpoint
pub entry_puts : {a b c : List ℕ} {u v w : Packing} (place : ℕ) (keyed : Bool) (endpoint : ℕ) {head : ℕ} → head ≡ head_of place keyed
    → Puts a u (bits_of (place_bits + state_bits) head) b v → Puts b v (bits_of endpoint_bits endpoint) c w
    → Puts a u (bits_of_entry (record { place = place; keyed = keyed; endpoint = endpoint })) c w
unfolding bits_of_entry
entry_puts {a} {b} {c} {u} {v} {w} place keyed endpoint {head} e f g =
    let s = Entries.state_of keyed in
    let d : bits_of (place_bits + state_bits) head ≡ bits_of place_bits place ++ bits_of state_bits s =
    ap (bits_of (place_bits + state_bits)) e ∙ bits_add place_bits state_bits place s (state_fits s (state_below keyed)) in
    puts_more a b c (bits_of place_bits place ++ bits_of state_bits s) (bits_of endpoint_bits endpoint) u v w
    (subst (λ (x : List ℕ). Puts a u x b v) d f) g

-- ---- how far it got

-- the entries of the first so many rows are put
pub record Put (s : List ℕ) (shown : ℕ) (old : List ℕ) (start : Packing) (new : List ℕ) (w : Packing) (i : ℕ) : Type 0 where
  pub few : w.bits < word_bits
  pub width : w.at * 8 + w.bits ≡ start.at * 8 + start.bits + length (first_of (shown_to s shown) i) * entry_bits
  pub bits : Puts old start (bits_of_entries (first_of (shown_to s shown) i)) new w

module _ (s : List ℕ) (shown : ℕ) where
  pub put_none : (old : List ℕ) (start : Packing) → start.bits < word_bits → Put s shown old start old start 0
  unfolding bits_of_entries
  put_none old start h =
      let f = first_none (shown_to s shown) in
      record {
        few = h;
        width = rw f (omega arith);
        bits = λ first front c. rw (f, append-nil front) c;
      }

  module _ (h : shown ≤ places) (old : List ℕ) (start : Packing) (new : List ℕ) (w : Packing) (i : ℕ) (p : Put s shown old start new w i) where
    pub put_vacant : i < shown → state_of (row_of s i) ≡ 0 → Put s shown old start new w (i + 1)
    put_vacant k z =
        let e = vacant_row_lem s shown h i k z in
        record { few = p.few; width = rw e p.width; bits = rw e p.bits }

    pub put_live : i < shown → (state_of (row_of s i) ≡ 0 → ⊥) → (x : List ℕ) (r : Packing) → Moved w entry_bits r
        → {state endpoint : ℕ} → state ≡ state_of (row_of s i) → endpoint ≡ endpoint_of (row_of s i)
        → Puts new w (bits_of_entry (entry_of state endpoint i)) x r → Put s shown old start x r (i + 1)
    unfolding bits_of_entries
    put_live k z x r m {state} {endpoint} t u q =
        let b = subst (λ (n : ℕ). Puts new w (bits_of_entry (entry_of (state_of (row_of s i)) n i)) x r) u
        (subst (λ (n : ℕ). Puts new w (bits_of_entry (entry_of n endpoint i)) x r) t q) in
        let v = entry_of (state_of (row_of s i)) (endpoint_of (row_of s i)) i in
        let es = first_of (shown_to s shown) i in
        let e = live_row s shown h i k z in
        let g : bits_of_entries (es ++ (v ∷ [])) ≡ bits_of_entries es ++ bits_of_entry v =
        entries_append es (v ∷ []) ∙ ap (λ (q : List ℕ). bits_of_entries es ++ q) (append-nil (bits_of_entry v)) in
        record {
          few = m.few;
          width = omega (arith, m.width, p.width, live_length s shown h i k z);
          bits = rw (e, g) (puts_more old new x (bits_of_entries es) (bits_of_entry v) start w r p.bits b);
        }

    -- there is room for it
    pub live_room : i < shown → (state_of (row_of s i) ≡ 0 → ⊥)
        → w.at * 8 + w.bits + entry_bits ≤ start.at * 8 + start.bits + length (entries_of (shown_to s shown)) * entry_bits
    live_room k z = omega (arith, p.width, live_length s shown h i k z, first_few (shown_to s shown) (i + 1))

    pub put_done : shown ≤ i → Moved start (length (entries_of (shown_to s shown)) * entry_bits) w × Puts old start (bits_of_entries (entries_of (shown_to s shown))) new w
    put_done k =
        let e = all_rows s shown h i k in
        (record { few = p.few; width = p.width ∙ ap (λ (n : ℕ). start.at * 8 + start.bits + n * entry_bits) (ap length e) }, rw e at p.bits)
