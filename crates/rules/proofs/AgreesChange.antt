-- How agreement goes on: every card blank, no card changed, or the card of one identifier changed.
use Prim.Native.Nat.{ℕ, zero, suc}
use mathlib.Core.Path.{◌≡◌, refl, sym, ap, ◌∙◌, subst, fun_ext}
use mathlib.Core.Bool.{Bool, true, false, cond}
use mathlib.Core.List.{List, [], Memᴰ}
use mathlib.Core.Option.{none}
use lib.ListN.{length, replicate, length-replicate}
use Rattle.octets.specs.Part.{same}
use Rattle.octets.proofs.SameLaws.{same_true}
use Rattle.message.specs.Limits.{width}
use Rattle.rules.specs.Limits.{places}
use Rattle.rules.specs.Search.{keep, Distinct}
use Rattle.rules.specs.Tunnel.{Tunnel, down, up_with, is_up}
use Rattle.rules.specs.Verdict.{Verdict, allowed, refusal, after}
use Rattle.rules.specs.View.{AtPlace, View, is_for}
use Rattle.rules.specs.Cards as Cards
use Rattle.rules.specs.Cards.{Held, blank, opened, keyed, Card, Cards, filled, holding, with, down_card}
use Rattle.rules.specs.ViewSteps.{down_view}
use Rattle.rules.proofs.Choices.{no_both, chosen, no_choice}
use Rattle.rules.proofs.Accepting.{accepts}
use Rattle.rules.proofs.Agrees.{Agrees, places_on}

-- ---- every card blank

keep_none : (i : List ℕ) (n : ℕ) → keep (is_for i) (replicate n none) ≡ []
unfolding keep
keep_none i zero = refl
keep_none i (suc n) = keep_none i n

blank_agrees : (t : Tunnel) (is : List (List ℕ)) → Distinct is
    → Agrees (record { tunnel = t; table = replicate places none }) (record { card = λ i. record { tunnel = t; held = blank }; opening = is })
blank_agrees t is o =
    record {
      tunnel = λ i. refl;
      size = length-replicate {A = AtPlace} places none;
      on_cards = λ i. keep_none i places;
      ends = λ i j e m n. no_both m refl;
      idle = λ d i. refl;
      sized = λ i f. no_both f refl;
      among = λ i f. no_both f refl;
      once = o;
    }

pub first_agrees : Agrees down_view Cards.first
unfolding Cards.first
first_agrees = blank_agrees down [] tt

-- cards that are these, card by card
pub cards_are : (v : View) (cards' : Cards) (f : List ℕ → Card) → ((i : List ℕ) → cards'.card i ≡ f i)
    → Agrees v (record { card = f; opening = cards'.opening }) → Agrees v cards'
cards_are v cards' f e = subst (λ (c : List ℕ → Card). Agrees v (record { card = c; opening = cards'.opening })) (sym (fun_ext e))

pub all_blank : (t : Tunnel) (cards' : Cards) → ((i : List ℕ) → cards'.card i ≡ record { tunnel = t; held = blank }) → Distinct cards'.opening
    → Agrees (record { tunnel = t; table = replicate places none }) cards'
all_blank t cards' e o = cards_are _ cards' _ e (blank_agrees t cards'.opening o)

blank_is : (h : Held) → filled h ≡ false → h ≡ blank
blank_is blank f = refl
blank_is (opened e) f = no_both refl f
blank_is (keyed e k) f = no_both refl f

down_is : (t : Tunnel) → is_up t ≡ false → t ≡ down
down_is down d = refl
down_is (up_with list) d = no_both refl d

-- a card that is not filled, blanked
blanked : (c : Card) → filled c.held ≡ false → with c blank ≡ c
blanked c f = ap (with c) (sym (blank_is c.held f))

-- blanking a card by tests that are equal where it is filled
pub blanking : (c : Card) (a b : Bool) → (filled c.held ≡ true → a ≡ b) → cond a (with c blank) c ≡ cond b (with c blank) c
blanking c a b f = go (filled c.held) refl
  where
    go : (t : Bool) → filled c.held ≡ t → cond a (with c blank) c ≡ cond b (with c blank) c
    go true q = chosen (with c blank) c (f q)
    go false q = no_choice a (blanked c q) ∙ sym (no_choice b (blanked c q))

module _ {v : View} {cards : Cards} (g : Agrees v cards) where
  -- a tunnel that is down: every card is so, and blank
  pub idle_card : is_up v.tunnel ≡ false → (i : List ℕ) → down_card ≡ cards.card i
  idle_card d i =
      ap (λ (t : Tunnel). record { tunnel = t; held = blank }) (sym (g.tunnel i ∙ down_is v.tunnel d))
      ∙ blanked (cards.card i) (g.idle d i)

  -- ---- no card changed

  module _ (cards' : Cards) where
    pub record Named : Type 0 where
      pub more : (i : List ℕ) → Memᴰ i cards.opening → Memᴰ i cards'.opening
      pub once : Distinct cards'.opening

    pub unchanged : Named → ((i : List ℕ) → cards'.card i ≡ cards.card i) → Agrees v cards'
    unchanged n e =
        cards_are v cards' cards.card e
        (record {
          tunnel = g.tunnel;
          size = g.size;
          on_cards = g.on_cards;
          ends = g.ends;
          idle = g.idle;
          sized = g.sized;
          among = λ i f. n.more i (g.among i f);
          once = n.once;
        })

  -- no opening named one more
  pub same_named : {f : List ℕ → Card} → Named (record { card = f; opening = cards.opening })
  same_named = record { more = λ i m. m; once = g.once }

  -- ---- the card of an identifier changed

  module _ (i : List ℕ) (h : Held) (cards' : Cards) where
    -- the cards: that of i, where a call passes, and no other
    pub record Touched (pass : Bool) : Type 0 where
      pub named : Named cards'
      pub own : cards'.card i ≡ cond pass (with (cards.card i) h) (cards.card i)
      pub others : (j : List ℕ) → same i j ≡ false → cards'.card j ≡ cards.card j

    -- the table, where it passes
    pub record Stored (table : List AtPlace) : Type 0 where
      pub up : is_up v.tunnel ≡ true
      pub size : length table ≡ places
      pub own : keep (is_for i) table ≡ places_on i h
      pub others : (j : List ℕ) → same i j ≡ false → keep (is_for j) table ≡ keep (is_for j) v.table
      pub ends : (j : List ℕ) (e : ℕ) → same i j ≡ false → holding e h ≡ true → holding e (cards.card j).held ≡ true → ⊥
      pub sized : filled h ≡ true → length i ≡ width
      pub among : filled h ≡ true → Memᴰ i cards'.opening

    -- what holds of the card of i and of every other holds of every card
    each : {pass : Bool} (t : Touched pass) (P : List ℕ → Card → Type 0) → P i (cond pass (with (cards.card i) h) (cards.card i))
        → ((j : List ℕ) → same i j ≡ false → P j (cards.card j)) → (j : List ℕ) → P j (cards'.card j)
    each t P x f j = go (same i j) refl
      where
        go : (b : Bool) → same i j ≡ b → P j (cards'.card j)
        go true q = subst (λ (j : List ℕ). P j (cards'.card j)) (same_true i j q) (subst (λ (c : Card). P i c) (sym t.own) x)
        go false q = subst (λ (c : Card). P j c) (sym (t.others j q)) (f j q)

    refused_agrees : Touched false → Agrees v cards'
    refused_agrees t = unchanged cards' t.named (each t (λ j c. c ≡ cards.card j) refl (λ j q. refl))

    changed_agrees : (table : List AtPlace) → Touched true → Stored table → Agrees (record { tunnel = v.tunnel; table = table }) cards'
    changed_agrees table t s =
        record {
          tunnel = each t (λ j c. c.tunnel ≡ v.tunnel) (g.tunnel i) (λ j q. g.tunnel j);
          size = s.size;
          on_cards = each t (λ j c. keep (is_for j) table ≡ places_on j c.held) s.own (λ j q. s.others j q ∙ g.on_cards j);
          ends =
              each t (λ a c. (b : List ℕ) (e : ℕ) → holding e c.held ≡ true → holding e (cards'.card b).held ≡ true → a ≡ b)
              (each t (λ b c. (e : ℕ) → holding e h ≡ true → holding e c.held ≡ true → i ≡ b) (λ e m n. refl) (λ b q e m n. absurd (s.ends b e q m n)))
              (λ a p.
              each t (λ b c. (e : ℕ) → holding e (cards.card a).held ≡ true → holding e c.held ≡ true → a ≡ b)
              (λ e m n. absurd (s.ends a e p n m)) (λ b q e. g.ends a b e));
          idle = λ d. no_both s.up d;
          sized = each t (λ j c. filled c.held ≡ true → length j ≡ width) s.sized (λ j q. g.sized j);
          among = each t (λ j c. filled c.held ≡ true → Memᴰ j cards'.opening) s.among (λ j q f. t.named.more j (g.among j f));
          once = t.named.once;
        }

    -- a call that concerns the card of i alone, by a test or by its verdict
    pub one_card : (table : List AtPlace) (pass : Bool) → Touched pass → (pass ≡ true → Stored table)
        → Agrees (cond pass (record { tunnel = v.tunnel; table = table }) v) cards'
    one_card table true t s = changed_agrees table t (s refl)
    one_card table false t s = refused_agrees t

    pub one_verdict : (table : List AtPlace) (w : Verdict) → Touched (accepts w) → (accepts w ≡ true → Stored table)
        → Agrees (after w (record { tunnel = v.tunnel; table = table }) v) cards'
    one_verdict table allowed t s = one_card table true t s
    one_verdict table (refusal n) t s = one_card table false t s
