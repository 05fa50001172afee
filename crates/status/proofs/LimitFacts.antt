-- All that any proof here computes from the values of the limits, but for what omega sees of them: that a page's bits can be counted in a usize, and that no field is above 56 bits.
use Prim.Native.Nat.{ℕ, ◌^◌, ◌≤◌, ◌<◌}
use mathlib.Core.Path.{◌≡◌, refl}
use native.Mathlib.Omega.{arith}
use Rattle.status.specs.Limits.{places, count_bits, place_bits, state_bits}
use Rattle.status.specs.Bits.{octets_for}

-- every place has its bits
pub places_fit : places ≤ 2 ^ place_bits
places_fit = omega arith

-- and every number of so many bits is a place, so the reader need not ask
pub places_all : 2 ^ place_bits ≤ places
places_all = omega arith

-- the number of places has its bits
pub count_fits : (n : ℕ) → n ≤ places → n < 2 ^ count_bits
count_fits n h = omega arith

-- the count alone takes one octet
pub count_octets : octets_for count_bits ≡ 1
count_octets = refl

-- a state is one bit
pub state_fits : (n : ℕ) → n < 2 → n < 2 ^ state_bits
state_fits n h = h

pub state_two : (n : ℕ) → n < 2 ^ state_bits → n < 2
state_two n h = h
