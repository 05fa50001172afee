-- A view and cards that agree: the invariant of every list of calls.
use Prim.Native.Nat.{ℕ}
use mathlib.Core.Path.{◌≡◌, refl, sym, subst}
use mathlib.Core.Bool.{Bool, true, false}
use mathlib.Core.List.Memᴰ
use mathlib.Core.List.{List, [], ◌∷◌, Memᴰ}
use mathlib.Core.Option.{some, some-injective}
use lib.Dec.{eqb}
use lib.ListN.{length}
use Rattle.octets.proofs.Tests.{false_true}
use Rattle.message.specs.Limits.{width}
use Rattle.rules.specs.Limits.{places}
use Rattle.rules.specs.Search.{keep, Distinct}
use Rattle.rules.specs.Tunnel.{is_up}
use Rattle.rules.specs.Answer as Answer
use Rattle.rules.specs.Answer.{Association}
use Rattle.rules.specs.View.{AtPlace, View, identifier_in, endpoint_in, is_for}
use Rattle.rules.specs.Cards.{Held, blank, opened, keyed, Cards, filled, holding}
use Rattle.rules.specs.CardAnswers.{association_on}
use Rattle.rules.proofs.Choices.{no_both}

-- the places that a card stands for: none where it is blank, one where it is filled
abbrev pub places_on : List ℕ → Held → List AtPlace
places_on i blank = []
places_on i (opened e) = some (Answer.opened i e) ∷ []
places_on i (keyed e k) = some (Answer.keyed i e k) ∷ []

pub record Agrees (v : View) (cards : Cards) : Type 0 where
  pub tunnel : (i : List ℕ) → (cards.card i).tunnel ≡ v.tunnel
  pub size : length v.table ≡ places
  pub on_cards : (i : List ℕ) → keep (is_for i) v.table ≡ places_on i (cards.card i).held
  -- two cards with one endpoint are one
  pub ends : (i j : List ℕ) (e : ℕ) → holding e (cards.card i).held ≡ true → holding e (cards.card j).held ≡ true → i ≡ j
  -- no card is filled while the tunnel is down
  pub idle : is_up v.tunnel ≡ false → (i : List ℕ) → filled (cards.card i).held ≡ false
  -- a filled card's identifier has A octets and an opening named it, and none is named twice
  pub sized : (i : List ℕ) → filled (cards.card i).held ≡ true → length i ≡ width
  pub among : (i : List ℕ) → filled (cards.card i).held ≡ true → Memᴰ i cards.opening
  pub once : Distinct cards.opening

-- ---- a card and the association on it

pub record OnCard (i : List ℕ) (h : Held) (a : Association) : Type 0 where
  pub full : filled h ≡ true
  pub identifier : identifier_in a ≡ i
  pub endpoint : (e : ℕ) → eqb (endpoint_in a) e ≡ holding e h
  pub association : a ≡ association_on i h

pub card_on : (i : List ℕ) (h : Held) → filled h ≡ true → OnCard i h (association_on i h)
card_on i blank f = absurd (false_true f)
card_on i (opened x) f = record { full = refl; identifier = refl; endpoint = λ e. refl; association = refl }
card_on i (keyed x k) f = record { full = refl; identifier = refl; endpoint = λ e. refl; association = refl }

pub places_filled : (i : List ℕ) (h : Held) → filled h ≡ true → places_on i h ≡ some (association_on i h) ∷ []
places_filled i blank f = absurd (false_true f)
places_filled i (opened x) f = refl
places_filled i (keyed x k) f = refl

pub places_blank : (i : List ℕ) (h : Held) → filled h ≡ false → places_on i h ≡ []
places_blank i blank f = refl
places_blank i (opened x) f = no_both refl f
places_blank i (keyed x k) f = no_both refl f

-- what stands at a place of a card is on it
pub on_card : (i : List ℕ) (h : Held) {a : Association} → Memᴰ (some a) (places_on i h) → OnCard i h a
on_card i h {a} m = go (filled h) refl
  where
    go : (b : Bool) → filled h ≡ b → OnCard i h a
    go true f =
        let q : a ≡ association_on i h = some-injective _ _ (Memᴰ.eq_of_singleton (rw (places_filled i h f) at m)) in
        subst (λ (x : Association). OnCard i h x) (sym q) (card_on i h f)
    go false f = absurd (Memᴰ.not-nil (rw (places_blank i h f) at m))

pub holding_filled : (e : ℕ) (h : Held) → holding e h ≡ true → filled h ≡ true
holding_filled e blank t = t
holding_filled e (opened x) t = refl
holding_filled e (keyed x k) t = refl
