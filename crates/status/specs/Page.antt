-- The status page and its reader: document 02, order 1.
use Rattle.std.specs.Prelude.{ℕ, Bool, false, cond, ◌&&◌, List, ◌++◌, length, get_or, ltb, Result, Ok, Err}
use Rattle.octets.specs.Part.{same}
use Rattle.octets.specs.Refusal.{number_of}
use Rattle.octets.specs.declared.refusal.Refusal.{Refusal}
use Rattle.status.specs.Limits.{count_bits}
use Rattle.status.specs.Bits.{bits_of, value_of, pack, bit_at}
use Rattle.status.specs.Entries.{bits_of_entries, good, entries_at}
use Rattle.status.specs.declared.entry.Entry.{Entry}

-- "6 bits for the number of live associations, then for each live place ..; zero bits fill the last octet"
unfoldable pub bits_of_page : List Entry → List ℕ
bits_of_page es = bits_of count_bits (length es) ++ bits_of_entries es

unfoldable pub layout : List Entry → List ℕ
layout es = pack (bits_of_page es)

-- ---- reading: "accepts exactly the pages some table can give"

unfoldable pub count_of : (page : List ℕ) → ℕ
count_of s = value_of (bit_at s) 0 count_bits

-- so many entries behind the count
abbrev pub entries_in : (page : List ℕ) (count : ℕ) → List Entry
entries_in s count = entries_at (bit_at s) count_bits count

-- the entries that octets stand for, as many as their count says
unfoldable pub decoded : (page : List ℕ) → List Entry
decoded s = entries_in s (count_of s)

-- a table can give these entries, and laid out they are these octets
unfoldable pub is_page : (page : List ℕ) → Bool
is_page s = good (decoded s) && same (layout (decoded s)) s

-- "it gives the count": or refusal 29
pub data Counted : Type 0 where
  refused : (number : ℕ) → Counted
  entries : (count : ℕ) → Counted

unfoldable pub counting : (page : List ℕ) → Counted
counting s = cond (is_page s) (entries (count_of s)) (refused 29)

-- "and, by a second call, the nth entry, counted from 0": or refusal 29
pub data Picked : Type 0 where
  refused : (number : ℕ) → Picked
  entry : Entry → Picked

-- past the end of a list of entries; no answer gives it
abbrev pub no_entry : Entry
no_entry = record { place = 0; keyed = false; endpoint = 0 }

unfoldable pub picking : (page : List ℕ) (n : ℕ) → Picked
picking s n = cond (is_page s && ltb n (count_of s)) (entry (get_or (decoded s) n no_entry)) (refused 29)

-- ---- the answers that the results stand for

abbrev pub counted_of : Result ℕ Refusal → Counted
counted_of (Err refusal) = refused (number_of refusal)
counted_of (Ok count) = entries count

abbrev pub picked_of : Result Entry Refusal → Picked
picked_of (Err refusal) = refused (number_of refusal)
picked_of (Ok e) = entry e
