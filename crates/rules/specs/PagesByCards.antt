-- The pages in a list of calls, by the cards and by the table: document 02, order 1. Places are the table's own and on no card; the rest of each entry is.
use Rattle.std.specs.Prelude.{ℕ, ◌<◌, ◌≡◌, ◌↔◌, true, false, length, get_or}
use mathlib.Core.List.{List, [], ◌∷◌, map, Memᴰ}
use Rattle.std.proofs.Math.Option.{some, none}
use Rattle.status.specs.declared.entry.Entry.{Entry}
use Rattle.status.specs.Page.{no_entry}
use Rattle.status.specs.Places.{Shown, vacant, live}
use Rattle.rules.specs.Search.{Distinct}
use Rattle.rules.specs.Call.{Call, write_page}
use Rattle.rules.specs.Answer as Answer
use Rattle.rules.specs.Answer.{page}
use Rattle.rules.specs.Table.{answer, step}
use Rattle.rules.specs.View.{AtPlace, view}
use Rattle.rules.specs.Placed.{at_place}
use Rattle.rules.specs.Cards as Cards
use Rattle.rules.specs.Cards.{Held, blank, opened, keyed, Cards, filled, next}

-- ---- by the cards

-- a card, and an entry without its place
abbrev pub shown_on : Held → Shown
shown_on blank = vacant
shown_on (opened endpoint) = live false endpoint
shown_on (keyed endpoint k) = live true endpoint

abbrev pub without_place : Entry → Shown
without_place e = live e.keyed e.endpoint

-- the entries, places apart, are the filled cards: as many, every one of them, no other, and none twice
pub record FilledCards (entries : List Entry) (cards : Cards) : Type 0 where
  pub number : length entries ≡ length (Cards.live cards)
  pub every : (i : List ℕ) → filled (cards.card i).held ≡ true → Memᴰ (shown_on (cards.card i).held) (map without_place entries)
  pub no_other : (x : Shown) → Memᴰ x (map without_place entries) → (i : List ℕ) × (filled (cards.card i).held ≡ true) × (shown_on (cards.card i).held ≡ x)
  pub once : Distinct (map (λ (e : Entry). e.endpoint) entries)

-- ---- by the table: "for each live place, lowest first"

-- an association with this entry's state and endpoint
abbrev pub OfEntry : Entry → AtPlace → Type 0
OfEntry e none = ⊥
OfEntry e (some (Answer.opened identifier endpoint)) = (e.keyed ≡ false) × (e.endpoint ≡ endpoint)
OfEntry e (some (Answer.keyed identifier endpoint k)) = (e.keyed ≡ true) × (e.endpoint ≡ endpoint)

-- an entry is there exactly where its place holds such an association, and the places rise
pub record LivePlaces (entries : List Entry) (table : List AtPlace) : Type 0 where
  pub exactly : (e : Entry) → Memᴰ e entries ↔ OfEntry e (at_place table e.place)
  pub rise : (m n : ℕ) → m < n → n < length entries → (get_or entries m no_entry).place < (get_or entries n no_entry).place

-- ---- of a list of calls

-- of a call on a block: where it writes a page
abbrev pub Page : (block : List ℕ) → Cards → Call → Type 0
Page s cards c = (room : ℕ) (entries : List Entry) → c ≡ write_page room → answer s c ≡ page entries → FilledCards entries cards × LivePlaces entries (view s).table

-- of each call in a list, on the block and the cards that the calls before it led to
abbrev pub Pages : (block : List ℕ) → Cards → List Call → Type 0
Pages s cards [] = Unit {0}
Pages s cards (c ∷ cs) = Page s cards c × Pages (step s c) (next cards c) cs
