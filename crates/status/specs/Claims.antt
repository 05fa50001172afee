-- What the theorems in proofs/ say of pages.
use Rattle.std.specs.Prelude.{ℕ, ◌+◌, ◌*◌, ◌<◌, ◌≤◌, ◌^◌, ◌≡◌, ◌↔◌, Bool, cond, List, [], ◌∷◌, length, get_or}
use Rattle.octets.specs.Number.{Octets}
use Rattle.status.specs.Limits.{places, endpoint_bits}
use Rattle.status.specs.Page.{layout, no_entry, counting, picking}
use Rattle.status.specs.Page as Page
use Rattle.status.specs.Places.{Shown, vacant, live, entries_of}
use Rattle.status.specs.declared.entry.Entry.{Entry}

abbrev pub nth : List Entry → ℕ → Entry
nth es n = get_or es n no_entry

-- entries that a table can give: "places rise, endpoints differ"
pub record Listable (es : List Entry) : Type 0 where
  pub place_below : (n : ℕ) → n < length es → (nth es n).place < places
  pub endpoint_below : (n : ℕ) → n < length es → (nth es n).endpoint < 2 ^ endpoint_bits
  pub places_rise : (m n : ℕ) → m < n → n < length es → (nth es m).place < (nth es n).place
  pub endpoints_differ : (m n : ℕ) → m < n → n < length es → (nth es m).endpoint ≡ (nth es n).endpoint → ⊥

-- these are the entries that the reader's two calls give of octets: the count, every entry, and none behind
pub record ReadOut (s : List ℕ) (es : List Entry) : Type 0 where
  pub counted : counting s ≡ Page.entries (length es)
  pub each : (n : ℕ) → n < length es → picking s n ≡ Page.entry (nth es n)
  pub behind : (n : ℕ) → length es ≤ n → picking s n ≡ Page.refused 29

-- "accepts exactly the pages some table can give": laid out and read, the entries are themselves, and what is read and laid out again is the same octets
pub record Accepts (s : List ℕ) : Type 0 where
  pub exactly : (es : List Entry) → ReadOut s es ↔ (Listable es × (layout es ≡ s))
  pub otherwise : ((es : List Entry) → Listable es → layout es ≡ s → ⊥) → (counting s ≡ Page.refused 29) × ((n : ℕ) → picking s n ≡ Page.refused 29)

-- ---- the layout in other words: one number, with the document's widths

-- octets as one number, the first the most significant
unfoldable pub joined : (front : ℕ) (octets : List ℕ) → ℕ
joined front [] = front
joined front (octet ∷ octets) = joined (front * 256 + octet) octets

-- the fields as one number, the first the most significant; 1 is keyed
unfoldable pub fields : (front : ℕ) → List Entry → ℕ
fields front [] = front
fields front (e ∷ es) = fields (((front * 32 + e.place) * 2 + cond e.keyed 1 0) * 4294967296 + e.endpoint) es

-- the page is its fields behind the count, and fewer than eight zero bits
pub record LaidOut (es : List Entry) : Type 0 where
  pub octets : Octets (layout es)
  pub filling : ℕ
  pub few : filling < 8
  pub size : 8 * length (layout es) ≡ 6 + 38 * length es + filling
  pub number : joined 0 (layout es) ≡ fields (length es) es * 2 ^ filling

-- ---- places

-- what a table has at its places: as many as there are, endpoints of 32 bits, those of live ones different
pub record Table (l : List Shown) : Type 0 where
  pub size : length l ≡ places
  pub below : (i : ℕ) (keyed : Bool) (endpoint : ℕ) → get_or l i vacant ≡ live keyed endpoint → endpoint < 2 ^ endpoint_bits
  pub differ : (i j : ℕ) (k m : Bool) (endpoint : ℕ) → get_or l i vacant ≡ live k endpoint → get_or l j vacant ≡ live m endpoint → i ≡ j

-- a table that gives these entries
pub record TableOf (es : List Entry) : Type 0 where
  pub shown : List Shown
  pub table : Table shown
  pub gives : entries_of shown ≡ es
