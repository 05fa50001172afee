-- Where a view and cards agree, an entry is in the page exactly where its place holds an association with its state and endpoint, and the places rise.
use Prim.Native.Nat.{ℕ, zero, suc, ◌+◌, ◌≤◌, ◌<◌}
use mathlib.Core.Path.{◌≡◌, refl, sym, ap, subst, ◌∙◌}
use mathlib.Core.Bool.{Bool, true, false, cond}
use mathlib.Core.List.Memᴰ
use mathlib.Core.List.{List, [], ◌∷◌, map, Memᴰ}
use mathlib.Core.Option.{some, none, some-ne-none}
use native.Mathlib.Omega.{arith}
use lib.ListN.{length, get_or, replicate}
use Rattle.status.specs.declared.entry.Entry.{Entry}
use Rattle.status.specs.Page.{no_entry}
use Rattle.status.specs.Places.{Shown, vacant, live, entries_from, entries_of}
use Rattle.rules.specs.Limits.{places}
use Rattle.rules.specs.Tunnel.{is_up}
use Rattle.rules.specs.Answer as Answer
use Rattle.rules.specs.Answer.{Association}
use Rattle.rules.specs.View.{AtPlace, View, identifier_in}
use Rattle.rules.specs.Placed.{at_place}
use Rattle.rules.specs.Cards.{Cards}
use Rattle.rules.specs.PagesByCards.{OfEntry, LivePlaces}
use Rattle.rules.specs.ViewSteps.{shown_at, entries_in}
use Rattle.rules.proofs.Choices.{no_both}
use Rattle.rules.proofs.Agrees.{Agrees}
use Rattle.rules.proofs.AgreesSays.{its_card}
use Rattle.rules.proofs.AgreesPages.{entries_none}

-- ---- an entry and its place

entry_is : (e : Entry) {place endpoint : ℕ} {keyed : Bool} → e.place ≡ place → e.keyed ≡ keyed → e.endpoint ≡ endpoint
    → e ≡ record { place = place; keyed = keyed; endpoint = endpoint }
entry_is e p k x = rw (← p, ← k, ← x)

-- the entry stands at place i of the table, which is numbered from `from` on
abbrev At : (from : ℕ) → List AtPlace → Entry → Type 0
At from l e = (i : ℕ) × (e.place ≡ from + i) × OfEntry e (at_place l i)

at_later : (from : ℕ) (x : AtPlace) (l : List AtPlace) (e : Entry) → At (suc from) l e → At from (x ∷ l) e
at_later from x l e (i, p, o) = (suc i, p ∙ omega arith, o)

entry_at_lem : (from : ℕ) (l : List AtPlace) (e : Entry) → Memᴰ e (entries_from from (map shown_at l)) → At from l e
unfolding entries_from
entry_at_lem from [] e m = absurd (Memᴰ.not-nil m)
entry_at_lem from (none ∷ l) e m = at_later from none l e (entry_at_lem (suc from) l e m)
entry_at_lem from (some (Answer.opened i x) ∷ l) e (Memᴰ.head q) =
    (0, ap (λ (y : Entry). y.place) q ∙ omega arith, (ap (λ (y : Entry). y.keyed) q, ap (λ (y : Entry). y.endpoint) q))
entry_at_lem from (some (Answer.opened i x) ∷ l) e (Memᴰ.tail m) = at_later from (some (Answer.opened i x)) l e (entry_at_lem (suc from) l e m)
entry_at_lem from (some (Answer.keyed i x k) ∷ l) e (Memᴰ.head q) =
    (0, ap (λ (y : Entry). y.place) q ∙ omega arith, (ap (λ (y : Entry). y.keyed) q, ap (λ (y : Entry). y.endpoint) q))
entry_at_lem from (some (Answer.keyed i x k) ∷ l) e (Memᴰ.tail m) = at_later from (some (Answer.keyed i x k)) l e (entry_at_lem (suc from) l e m)

entry_of : (from : ℕ) (l : List AtPlace) (e : Entry) (i : ℕ) → e.place ≡ from + i → OfEntry e (at_place l i) → Memᴰ e (entries_from from (map shown_at l))
unfolding entries_from
entry_of from [] e i p o = absurd o
entry_of from (none ∷ l) e zero p o = absurd o
entry_of from (none ∷ l) e (suc i) p o = entry_of (suc from) l e i (omega arith) o
entry_of from (some (Answer.opened j x) ∷ l) e zero p o = Memᴰ.head (entry_is e {place = from} (omega arith) o.0 o.1)
entry_of from (some (Answer.opened j x) ∷ l) e (suc i) p o = Memᴰ.tail (entry_of (suc from) l e i (omega arith) o)
entry_of from (some (Answer.keyed j x k) ∷ l) e zero p o = Memᴰ.head (entry_is e {place = from} (omega arith) o.0 o.1)
entry_of from (some (Answer.keyed j x k) ∷ l) e (suc i) p o = Memᴰ.tail (entry_of (suc from) l e i (omega arith) o)

-- ---- places rise

abbrev place_of : (from : ℕ) → List Shown → ℕ → ℕ
place_of from l n = (get_or (entries_from from l) n no_entry).place

place_from : (from : ℕ) (l : List Shown) (n : ℕ) → n < length (entries_from from l) → from ≤ place_of from l n
unfolding entries_from
place_from from [] n h = absurd (omega arith)
place_from from (vacant ∷ l) n h = omega (arith, place_from (suc from) l n h)
place_from from (live k e ∷ l) zero h = omega arith
place_from from (live k e ∷ l) (suc n) h = omega (arith, place_from (suc from) l n (omega arith))

places_rise_lem : (from : ℕ) (l : List Shown) (m n : ℕ) → m < n → n < length (entries_from from l) → place_of from l m < place_of from l n
unfolding entries_from
places_rise_lem from [] m n h k = absurd (omega arith)
places_rise_lem from (vacant ∷ l) m n h k = places_rise_lem (suc from) l m n h k
places_rise_lem from (live d e ∷ l) m zero h k = absurd (omega arith)
places_rise_lem from (live d e ∷ l) zero (suc n) h k = omega (arith, place_from (suc from) l n (omega arith))
places_rise_lem from (live d e ∷ l) (suc m) (suc n) h k = places_rise_lem (suc from) l m n (omega arith) (omega arith)

-- ---- the page

-- what stands at a place is in the table
pub standing : (l : List AtPlace) (place : ℕ) (a : Association) → at_place l place ≡ some a → Memᴰ (some a) l
standing [] place a q = absurd (some-ne-none _ (sym q))
standing (x ∷ l) zero a q = Memᴰ.head (sym q)
standing (x ∷ l) (suc place) a q = Memᴰ.tail (standing l place a q)

module _ (v : View) (cards : Cards) (g : Agrees v cards) where
  up_places : LivePlaces (entries_of (map shown_at v.table)) v.table
  up_places = record {
    exactly = λ e. (there e, λ o. entry_of 0 v.table e e.place (omega arith) o);
    rise = places_rise_lem 0 (map shown_at v.table);
  }
    where
      there : (e : Entry) → Memᴰ e (entries_of (map shown_at v.table)) → OfEntry e (at_place v.table e.place)
      there e m =
          let a : At 0 v.table e = entry_at_lem 0 v.table e m in
          let q : a.0 ≡ e.place = omega (arith, a.1) in
          subst (λ (i : ℕ). OfEntry e (at_place v.table i)) q a.2

  -- while the tunnel is down no place holds an association
  vacant_down : is_up v.tunnel ≡ false → (e : Entry) → OfEntry e (at_place v.table e.place) → ⊥
  vacant_down d e o = go (at_place v.table e.place) refl o
    where
      go : (x : AtPlace) → at_place v.table e.place ≡ x → OfEntry e x → ⊥
      go none q o = o
      go (some a) q o = no_both (its_card g (standing v.table e.place a q)).full (g.idle d (identifier_in a))

  pub agrees_places : LivePlaces (entries_in v) v.table
  agrees_places = go (is_up v.tunnel) refl
    where
      go : (b : Bool) → is_up v.tunnel ≡ b → LivePlaces (entries_of (cond b (map shown_at v.table) (replicate places vacant))) v.table
      go true d = up_places
      go false d =
          subst (λ (es : List Entry). LivePlaces es v.table) (sym (entries_none 0 places))
          (record { exactly = λ e. (λ m. absurd (Memᴰ.not-nil m), λ o. absurd (vacant_down d e o)); rise = λ m n h k. absurd (omega arith) })
