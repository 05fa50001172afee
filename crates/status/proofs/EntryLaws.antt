-- Laws of entries: laid out as bits and read back.
use Prim.Native.Nat.{ℕ, zero, suc, ◌+◌, ◌*◌, ◌/◌, ◌%◌, ◌^◌, ◌≤◌, ◌<◌}
use mathlib.Core.Path.{◌≡◌, refl, sym, ap, ap₂, ◌∙◌}
use mathlib.Core.Bool.{Bool, true, false}
use mathlib.Core.List.{List, [], ◌∷◌, ◌++◌, append_assoc}
use native.Mathlib.Omega.{arith}
use native.Mathlib.Nat.{add_assoc}
use lib.Pow.{high, low}
use lib.Dec.{ltb, eqb}
use lib.ListN.{length, get_or, length-append}
use borrow.Author.Tests.{leb-true, ltb-true, eqb-true, eqb-false, lt-ltb}
use Rattle.octets.proofs.Tests.{both}
use Rattle.status.specs.Limits.{places, place_bits, state_bits, endpoint_bits, entry_bits}
use Rattle.status.specs.Bits.{bits_of, bit_in, value_of}
use Rattle.status.specs.Entries.{state_of, bits_of_entry, bits_of_entries, rising, narrow, entry_at, entries_at}
use Rattle.status.specs.declared.entry.Entry.{Entry}
use Rattle.status.proofs.LimitFacts.{places_fit, state_fits, state_two}
use Rattle.status.proofs.BitLaws.{Binary, Stands, value_below, length_bits, binary_nil, binary_append, binary_bits, stands_first, stands_second, stands_both, stands_value, value_stands, value_add}

-- ---- the state bit

pub state_below : (b : Bool) → state_of b < 2
state_below true = omega arith
state_below false = omega arith

state_back : (b : Bool) → eqb (state_of b) 1 ≡ b
state_back true = refl
state_back false = refl

pub state_of_lem : (n : ℕ) → n < 2 → state_of (eqb n 1) ≡ n
state_of_lem n h = go (eqb n 1) refl
  where
    go : (b : Bool) → eqb n 1 ≡ b → state_of b ≡ n
    go true e = sym (eqb-true n 1 e)
    go false e = let z = eqb-false n 1 e in omega arith

-- ---- one entry

pub length_entry : (e : Entry) → length (bits_of_entry e) ≡ entry_bits
unfolding bits_of_entry
length_entry e =
    simp (length-append, length_bits)

pub binary_entry : (e : Entry) → Binary (bit_in (bits_of_entry e))
unfolding bits_of_entry
binary_entry e =
    binary_append (bits_of place_bits e.place ++ bits_of state_bits (state_of e.keyed)) (bits_of endpoint_bits e.endpoint)
    (binary_append (bits_of place_bits e.place) (bits_of state_bits (state_of e.keyed)) (binary_bits place_bits e.place) (binary_bits state_bits (state_of e.keyed)))
    (binary_bits endpoint_bits e.endpoint)

-- where its endpoint starts
behind_state : (at p s : ℕ) → at + length (bits_of place_bits p ++ bits_of state_bits s) ≡ at + place_bits + state_bits
behind_state at p s =
    ap (λ (n : ℕ). at + n) (length-append (bits_of place_bits p) (bits_of state_bits s) ∙ ap₂ (λ (m n : ℕ). m + n) (length_bits place_bits p) (length_bits state_bits s))
    ∙ sym (add_assoc at place_bits state_bits)

-- its three fields stand one behind the other
fields_stand : (f : ℕ → ℕ) (at : ℕ) (p s e : ℕ) → Stands f at (bits_of place_bits p ++ bits_of state_bits s ++ bits_of endpoint_bits e)
    → Stands f at (bits_of place_bits p) × Stands f (at + place_bits) (bits_of state_bits s) × Stands f (at + place_bits + state_bits) (bits_of endpoint_bits e)
fields_stand f at p s e h =
    let x = bits_of place_bits p in
    let y = bits_of state_bits s in
    let z = bits_of endpoint_bits e in
    let t = stands_first f at (x ++ y) z h in (
      stands_first f at x y t,
      stands_second f at x y (at + place_bits) (ap (λ (n : ℕ). at + n) (length_bits place_bits p)) t,
      stands_second f at (x ++ y) z (at + place_bits + state_bits) (behind_state at p s) h,
    )

entry_same : {p q : ℕ} {k l : Bool} {d e : ℕ} → p ≡ q → k ≡ l → d ≡ e
    → ◌≡◌ {A = Entry} (record { place = p; keyed = k; endpoint = d }) (record { place = q; keyed = l; endpoint = e })
entry_same a b c = λ i. record { place = a i; keyed = b i; endpoint = c i }

pub stands_entry : (f : ℕ → ℕ) (at : ℕ) (e : Entry) → e.place < 2 ^ place_bits → e.endpoint < 2 ^ endpoint_bits
    → Stands f at (bits_of_entry e) → entry_at f at ≡ e
unfolding bits_of_entry entry_at
stands_entry f at e p q h =
    let t = fields_stand f at e.place (state_of e.keyed) e.endpoint h in
    let s = state_of e.keyed in
    entry_same
    (stands_value f at place_bits e.place p t.0)
    (ap (λ (n : ℕ). eqb n 1) (stands_value f (at + place_bits) state_bits s (state_fits s (state_below e.keyed)) t.1) ∙ state_back e.keyed)
    (stands_value f (at + place_bits + state_bits) endpoint_bits e.endpoint q t.2)

pub entry_stands : (f : ℕ → ℕ) → Binary f → (at : ℕ) → Stands f at (bits_of_entry (entry_at f at))
unfolding bits_of_entry entry_at
entry_stands f o at =
    let p = value_of f at place_bits in
    let s = value_of f (at + place_bits) state_bits in
    let e = value_of f (at + place_bits + state_bits) endpoint_bits in
    let k : state_of (eqb s 1) ≡ s = state_of_lem s (state_two s (value_below f o (at + place_bits) state_bits)) in
    rw k
    (stands_both f at (bits_of place_bits p ++ bits_of state_bits s) (bits_of endpoint_bits e) (at + place_bits + state_bits) (behind_state at p s)
    (stands_both f at (bits_of place_bits p) (bits_of state_bits s) (at + place_bits) (ap (λ (n : ℕ). at + n) (length_bits place_bits p))
    (value_stands f o at place_bits)
    (value_stands f o (at + place_bits) state_bits))
    (value_stands f o (at + place_bits + state_bits) endpoint_bits))

-- ---- one entry as one number

-- the number that is read has its fields
module _ (f : ℕ → ℕ) (o : Binary f) (at v : ℕ) (k : v ≡ value_of f at entry_bits) where
  pub number_fields : ◌≡◌ {A = Entry} (record { place = v / 2 ^ endpoint_bits / 2 ^ state_bits; keyed = eqb (v / 2 ^ endpoint_bits % 2 ^ state_bits) 1; endpoint = v % 2 ^ endpoint_bits }) (entry_at f at)
  unfolding entry_at
  number_fields =
      let p = value_of f at place_bits in
      let s = value_of f (at + place_bits) state_bits in
      let e = value_of f (at + place_bits + state_bits) endpoint_bits in
      let b = value_below f o (at + place_bits + state_bits) endpoint_bits in
      let c = value_below f o (at + place_bits) state_bits in
      let w : v ≡ (p * 2 ^ state_bits + s) * 2 ^ endpoint_bits + e =
      k ∙ value_add f at (place_bits + state_bits) endpoint_bits
      ∙ ap₂ (λ (x y : ℕ). x * 2 ^ endpoint_bits + value_of f y endpoint_bits) (value_add f at place_bits state_bits) (sym (add_assoc at place_bits state_bits)) in
      let h : v / 2 ^ endpoint_bits ≡ p * 2 ^ state_bits + s = ap (λ (x : ℕ). x / 2 ^ endpoint_bits) w ∙ high (p * 2 ^ state_bits + s) endpoint_bits b in
      let i : v / 2 ^ endpoint_bits / 2 ^ state_bits ≡ p = ap (λ (x : ℕ). x / 2 ^ state_bits) h ∙ high p state_bits c in
      let j : v / 2 ^ endpoint_bits % 2 ^ state_bits ≡ s = ap (λ (x : ℕ). x % 2 ^ state_bits) h ∙ low p state_bits c in
      let l : v % 2 ^ endpoint_bits ≡ e = ap (λ (x : ℕ). x % 2 ^ endpoint_bits) w ∙ low (p * 2 ^ state_bits + s) endpoint_bits b in
      entry_same i (ap (λ (n : ℕ). eqb n 1) j) l

-- ---- a list of entries

pub length_entries : (es : List Entry) → length (bits_of_entries es) ≡ length es * entry_bits
unfolding bits_of_entries
length_entries [] = refl
length_entries (e ∷ es) = length-append (bits_of_entry e) (bits_of_entries es) ∙ omega (arith, length_entry e, length_entries es)

pub entries_append : (a b : List Entry) → bits_of_entries (a ++ b) ≡ bits_of_entries a ++ bits_of_entries b
unfolding bits_of_entries
entries_append [] b = refl
entries_append (e ∷ a) b = ap (λ (p : List ℕ). bits_of_entry e ++ p) (entries_append a b) ∙ sym (append_assoc (bits_of_entry e) (bits_of_entries a) (bits_of_entries b))

pub binary_entries : (es : List Entry) → Binary (bit_in (bits_of_entries es))
unfolding bits_of_entries
binary_entries [] = binary_nil
binary_entries (e ∷ es) = binary_append (bits_of_entry e) (bits_of_entries es) (binary_entry e) (binary_entries es)

pub length_entries_at : (f : ℕ → ℕ) (at n : ℕ) → length (entries_at f at n) ≡ n
unfolding entries_at
length_entries_at f at zero = refl
length_entries_at f at (suc n) = ap suc (length_entries_at f (at + entry_bits) n)

-- places that rise, from the first on
pub rising_head : (least : ℕ) (e : Entry) (es : List Entry) → rising least (e ∷ es) ≡ true
    → (least ≤ e.place) × (e.place < places) × (rising (e.place + 1) es ≡ true)
unfolding rising
rising_head least e es r =
    let a = both _ _ r in
    let b = both _ _ a.0 in
    (leb-true _ _ b.0, ltb-true _ _ b.1, a.1)

pub stands_entries : (f : ℕ → ℕ) (at : ℕ) (es : List Entry) (least : ℕ) → rising least es ≡ true → narrow es ≡ true
    → Stands f at (bits_of_entries es) → entries_at f at (length es) ≡ es
unfolding bits_of_entries entries_at narrow
stands_entries f at [] least r n h = refl
stands_entries f at (e ∷ es) least r n h =
    let a = rising_head least e es r in
    let d = both (ltb e.endpoint (2 ^ endpoint_bits)) (narrow es) n in
    let p : e.place < 2 ^ place_bits = omega (arith, a.1, places_fit) in
    let x = stands_first f at (bits_of_entry e) (bits_of_entries es) h in
    let y = stands_second f at (bits_of_entry e) (bits_of_entries es) (at + entry_bits) (ap (λ (k : ℕ). at + k) (length_entry e)) h in
    ap₂ (λ (u : Entry) (v : List Entry). u ∷ v)
    (stands_entry f at e p (ltb-true e.endpoint (2 ^ endpoint_bits) d.0) x)
    (stands_entries f (at + entry_bits) es (e.place + 1) a.2 d.1 y)

pub entries_stand : (f : ℕ → ℕ) → Binary f → (at n : ℕ) → Stands f at (bits_of_entries (entries_at f at n))
unfolding bits_of_entries entries_at
entries_stand f o at zero = λ j h. absurd (omega arith)
entries_stand f o at (suc n) =
    stands_both f at (bits_of_entry (entry_at f at)) (bits_of_entries (entries_at f (at + entry_bits) n)) (at + entry_bits)
    (ap (λ (k : ℕ). at + k) (length_entry (entry_at f at)))
    (entry_stands f o at)
    (entries_stand f o (at + entry_bits) n)

-- the nth of them
pub nth_entry : (f : ℕ → ℕ) (at m n : ℕ) (d : Entry) → n < m → get_or (entries_at f at m) n d ≡ entry_at f (at + n * entry_bits)
unfolding entries_at
nth_entry f at zero n d h = absurd (omega arith)
nth_entry f at (suc m) zero d h =
    let e : at ≡ at + zero * entry_bits = omega arith in
    ap (entry_at f) e
nth_entry f at (suc m) (suc n) d h =
    let e : at + entry_bits + n * entry_bits ≡ at + suc n * entry_bits = omega arith in
    nth_entry f (at + entry_bits) m n d (omega arith) ∙ ap (entry_at f) e

-- endpoints that are read have their bits
pub narrow_at : (f : ℕ → ℕ) → Binary f → (at n : ℕ) → narrow (entries_at f at n) ≡ true
unfolding entries_at narrow entry_at
narrow_at f o at zero = refl
narrow_at f o at (suc n) =
    rw (lt-ltb _ _ (value_below f o (at + place_bits + state_bits) endpoint_bits)) (narrow_at f o (at + entry_bits) n)

-- places that rise are no more than there are
pub rising_length : (least : ℕ) (es : List Entry) → least ≤ places → rising least es ≡ true → least + length es ≤ places
rising_length least [] h r = omega arith
rising_length least (e ∷ es) h r =
    let a = rising_head least e es r in
    omega (arith, rising_length (e.place + 1) es (omega arith) a.2)
