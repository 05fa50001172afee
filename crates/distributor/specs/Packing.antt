-- Bits put one behind the other into an output: those that do not make four octets yet wait in a number.
use Rattle.std.specs.Prelude.{ℕ, ◌+◌, ◌*◌, ◌%◌, ◌^◌, ◌≤◌, ◌<◌, ◌≡◌, List, ◌++◌, map, length, take, drop}
use Rattle.octets.specs.Number.{Octets}
use Rattle.status.specs.Bits.{bits_of, pack}
use Rattle.status.specs.Claims.{joined}
use Rattle.status.specs.Places.{Shown}
use Rattle.rules.specs.Layout.{rows}
use Rattle.rules.specs.Table.{shown_in}
use Rattle.distributor.specs.declared.packing.Packing.{Packing}

-- bits written at once
abbrev pub word_bits : ℕ
word_bits = 32

-- a number written at an offset, in four octets; those behind stay
pub record FourPut (old : List ℕ) (at number : ℕ) (new : List ℕ) : Type 0 where
  pub front : joined 0 (take (at + 4) new) ≡ joined 0 (take at old) * 2 ^ word_bits + number
  pub behind : drop (at + 4) new ≡ drop (at + 4) old

-- the octets in front of `at`, and behind them the lowest bits that wait, are a number; from `at` on the output is as it first was
pub record Holds (first : List ℕ) (number : ℕ) (out : List ℕ) (at pending bits : ℕ) : Type 0 where
  pub size : length out ≡ length first
  pub whole : joined 0 (take at out) * 2 ^ bits + pending % 2 ^ bits ≡ number
  pub behind : drop at out ≡ drop at first

-- these bits were put, from the output's front on
pub record Packed (first bits out : List ℕ) (w : Packing) : Type 0 where
  pub number : ℕ
  pub spelled : bits_of (length bits) number ≡ bits
  pub below : number < 2 ^ length bits
  pub width : w.at * 8 + w.bits ≡ length bits
  pub held : Holds first number out w.at w.pending w.bits

-- these bits were put behind all those before
abbrev pub Puts : (old : List ℕ) → Packing → (bits new : List ℕ) → Packing → Type 0
Puts old w bits new r = (first front : List ℕ) → Packed first front old w → Packed first (front ++ bits) new r

-- there is room for so many more bits
pub record Room (out : List ℕ) (w : Packing) (more : ℕ) : Type 0 where
  pub few : w.bits < word_bits
  pub room : w.at * 8 + w.bits + more ≤ length out * 8

-- so many more bits are there
pub record Moved (w : Packing) (more : ℕ) (r : Packing) : Type 0 where
  pub few : r.bits < word_bits
  pub width : r.at * 8 + r.bits ≡ w.at * 8 + w.bits + more

-- so many octets have all that was put, and fewer than eight bits to fill
pub record Ends (out : List ℕ) (w : Packing) (end : ℕ) : Type 0 where
  pub few : w.bits < word_bits
  pub all : w.at * 8 + w.bits ≤ end * 8
  pub filling : end * 8 < w.at * 8 + w.bits + 8
  pub room : end ≤ length out

-- all that was put stands in those octets, zero bits fill them, and behind them the output is as it first was
abbrev pub Finishes : (old : List ℕ) → Packing → (end : ℕ) (new : List ℕ) → Type 0
Finishes old w end new = (first bits : List ℕ) → Octets new → Packed first bits old w → new ≡ pack bits ++ drop end first

-- what the first so many rows show
abbrev pub shown_to : (block : List ℕ) (count : ℕ) → List Shown
shown_to s count = take count (map shown_in (rows s))
