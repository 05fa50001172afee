-- Laws of states.
use Prim.Native.Nat.{ℕ, zero, suc, ◌+◌, ◌*◌, ◌/◌, ◌%◌, ◌<◌}
use mathlib.Core.Path.{◌≡◌, refl, sym, ap₂, subst}
use mathlib.Core.List.{List, [], ◌∷◌}
use native.Mathlib.Omega.{arith}
use lib.ListN.{length, get_or}
use lib.Seq.{ext_get_or}
use Rattle.octets.specs.Number.{Octets}
use Rattle.octets.proofs.OctetLaws.{octets_within}
use Rattle.aes.specs.State.{at, column, state_by}

-- a block: 16 octets
pub record Block (s : List ℕ) : Type 0 where
  pub long : length s ≡ 16
  pub octets : Octets s

pub by_four : (P : ℕ → Type 0) → P 0 → P 1 → P 2 → P 3 → (r : ℕ) → r < 4 → P r
by_four P a b c d zero h = a
by_four P a b c d (suc zero) h = b
by_four P a b c d (suc (suc zero)) h = c
by_four P a b c d (suc (suc (suc zero))) h = d
by_four P a b c d (suc (suc (suc (suc r)))) h = absurd (omega arith)

-- each octet of a state that is made

pub at_state : (f : ℕ → ℕ → ℕ) (r c : ℕ) → r < 4 → c < 4 → at (state_by f) r c ≡ f r c
unfolding at state_by column
at_state f r c hr hc =
    by_four (λ (x : ℕ). at (state_by f) x c ≡ f x c)
    (by_four (λ (y : ℕ). at (state_by f) 0 y ≡ f 0 y) refl refl refl refl c hc)
    (by_four (λ (y : ℕ). at (state_by f) 1 y ≡ f 1 y) refl refl refl refl c hc)
    (by_four (λ (y : ℕ). at (state_by f) 2 y ≡ f 2 y) refl refl refl refl c hc)
    (by_four (λ (y : ℕ). at (state_by f) 3 y ≡ f 3 y) refl refl refl refl c hc) r hr

-- two are equal if their octets are

column_same : (f g : ℕ → ℕ → ℕ) (c : ℕ) (s t : List ℕ) → ((r : ℕ) → r < 4 → f r c ≡ g r c) → s ≡ t → column f c s ≡ column g c t
unfolding column
column_same f g c s t e h =
    ap₂ ◌∷◌ (e 0 (omega arith)) (ap₂ ◌∷◌ (e 1 (omega arith)) (ap₂ ◌∷◌ (e 2 (omega arith)) (ap₂ ◌∷◌ (e 3 (omega arith)) h)))

pub state_same : (f g : ℕ → ℕ → ℕ) → ((r c : ℕ) → r < 4 → c < 4 → f r c ≡ g r c) → state_by f ≡ state_by g
unfolding state_by
state_same f g e =
    column_same f g 0 (column f 1 (column f 2 (column f 3 []))) (column g 1 (column g 2 (column g 3 []))) (λ r h. e r 0 h (omega arith))
    (column_same f g 1 (column f 2 (column f 3 [])) (column g 2 (column g 3 [])) (λ r h. e r 1 h (omega arith))
    (column_same f g 2 (column f 3 []) (column g 3 []) (λ r h. e r 2 h (omega arith))
    (column_same f g 3 [] [] (λ r h. e r 3 h (omega arith)) refl)))

-- a list of 16 is a state

pub by_octets : (P : ℕ → Type 0) → ((r c : ℕ) → r < 4 → c < 4 → P (r + 4 * c)) → (i : ℕ) → i < 16 → P i
by_octets P e i h =
    let q : i % 4 + 4 * (i / 4) ≡ i = omega arith in
    subst P q (e (i % 4) (i / 4) (omega arith) (omega arith))

own_octet : (s : List ℕ) (r c : ℕ) → r < 4 → c < 4 → get_or (state_by (at s)) (r + 4 * c) 0 ≡ get_or s (r + 4 * c) 0
unfolding at
own_octet s r c hr hc = at_state (at s) r c hr hc

pub state_at_lem : (s : List ℕ) → length s ≡ 16 → state_by (at s) ≡ s
unfolding state_by column
state_at_lem s h =
    ext_get_or 0 (state_by (at s)) s (sym h)
    (by_octets (λ (i : ℕ). get_or (state_by (at s)) i 0 ≡ get_or s i 0) (own_octet s))

-- a state of octets is a block

pub at_lt : {s : List ℕ} → Block s → (r c : ℕ) → at s r c < 256
unfolding at
at_lt b r c = b.octets (r + 4 * c)

made_lt : (f : ℕ → ℕ → ℕ) → ((r c : ℕ) → r < 4 → c < 4 → f r c < 256) → (r c : ℕ) → r < 4 → c < 4 → get_or (state_by f) (r + 4 * c) 0 < 256
unfolding at
made_lt f e r c hr hc = let q : get_or (state_by f) (r + 4 * c) 0 ≡ f r c = at_state f r c hr hc in rw q (e r c hr hc)

pub state_long : (f : ℕ → ℕ → ℕ) → length (state_by f) ≡ 16
unfolding state_by column
state_long f = refl

pub state_block : (f : ℕ → ℕ → ℕ) → ((r c : ℕ) → r < 4 → c < 4 → f r c < 256) → Block (state_by f)
state_block f e =
    record {
      long = state_long f;
      octets =
          octets_within (state_by f)
          (λ i h. by_octets (λ (i : ℕ). get_or (state_by f) i 0 < 256) (made_lt f e) i (rw (state_long f) at h));
    }
