-- Laws of looking through entries' places, one behind the other.
use Prim.Native.Nat.{ℕ, zero, suc, ◌+◌, ◌-◌, ◌≤◌, ◌<◌}
use mathlib.Core.Path.{◌≡◌, refl, sym, ap, ap₂}
use mathlib.Core.Bool.{true, false, ◌&&◌}
use mathlib.Core.List.{[], ◌∷◌}
use native.Mathlib.Omega.{arith}
use borrow.Author.Tests.{le-leb, lt-leb, lt-ltb}
use Rattle.status.specs.Limits.{places, place_bits, entry_bits}
use Rattle.status.specs.Entries.{rising, mentions, distinct, entry_at, entries_at}
use Rattle.status.specs.declared.entry.Entry.{Entry}
use Rattle.status.proofs.LimitFacts.{places_all}
use Rattle.status.proofs.BitLaws.{Binary, value_below}

pub place_below_lem : (f : ℕ → ℕ) → Binary f → (at : ℕ) (e : Entry) → e ≡ entry_at f at → e.place < places
unfolding entry_at
place_below_lem f o at e k = omega (arith, ap (λ (x : Entry). x.place) k, value_below f o at place_bits, places_all)

-- fewer than two have nothing to rise above, nor to differ from
pub good_few : (f : ℕ → ℕ) → Binary f → (at n : ℕ) → n < 2 → (rising 0 (entries_at f at n) && distinct (entries_at f at n)) ≡ true
unfolding rising distinct mentions entries_at
good_few f o at zero h = refl
good_few f o at (suc zero) h =
    rw (le-leb 0 (entry_at f at).place (omega arith), lt-ltb (entry_at f at).place places (place_below_lem f o at (entry_at f at) refl))
good_few f o at (suc (suc n)) h = absurd (omega arith)

-- none are left
module _ (f : ℕ → ℕ) (at n : ℕ) (h : n ≤ 0) where
  none_left : entries_at f at n ≡ []
  unfolding entries_at
  none_left = let e : n ≡ 0 = omega arith in rw e

  pub rising_none : (least : ℕ) → rising least (entries_at f at n) ≡ true
  unfolding rising
  rising_none least = rw none_left

entries_next : (f : ℕ → ℕ) (at n : ℕ) → 0 < n → (e : Entry) → e ≡ entry_at f at → entries_at f at n ≡ e ∷ entries_at f (at + entry_bits) (n - 1)
unfolding entries_at
entries_next f at zero h e k = absurd (omega arith)
entries_next f at (suc n) h e k =
    let d : n ≡ suc n - 1 = omega arith in
    ap₂ (λ (x : Entry) (m : ℕ). x ∷ entries_at f (at + entry_bits) m) (sym k) d

-- e is the first of those that are left
module _ (f : ℕ → ℕ) (at n : ℕ) (h : 0 < n) (e : Entry) (k : e ≡ entry_at f at) where
  pub rising_not : (least : ℕ) → e.place < least → rising least (entries_at f at n) ≡ false
  unfolding rising
  rising_not least q = rw (entries_next f at n h e k, lt-leb _ _ q)

  pub rising_next : Binary f → (least : ℕ) → least ≤ e.place → rising least (entries_at f at n) ≡ rising (e.place + 1) (entries_at f (at + entry_bits) (n - 1))
  unfolding rising
  rising_next o least q = rw (entries_next f at n h e k, le-leb _ _ q, lt-ltb _ _ (place_below_lem f o at e k))
