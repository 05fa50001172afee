-- Where a view and cards agree, the page shows the filled cards, each once, and nothing else.
use Prim.Native.Nat.{ℕ, zero, suc}
use mathlib.Core.Path.{◌≡◌, refl, sym, ap, subst, ◌∙◌}
use mathlib.Core.Bool.{Bool, true, false, cond}
use mathlib.Core.List.Memᴰ
use mathlib.Core.List.{List, [], ◌∷◌, map, Memᴰ}
use mathlib.Core.Option.{some, none}
use lib.ListN.{length, replicate, length-map}
use Rattle.octets.proofs.Tests.{false_true}
use Rattle.status.specs.declared.entry.Entry.{Entry}
use Rattle.status.specs.Places.{Shown, vacant, live, entries_from, entries_of}
use Rattle.rules.specs.Limits.{places}
use Rattle.rules.specs.Search.{keep, Distinct}
use Rattle.rules.specs.Tunnel.{is_up}
use Rattle.rules.specs.Answer as Answer
use Rattle.rules.specs.Answer.{Association}
use Rattle.rules.specs.View.{AtPlace, View, identifier_in, endpoint_in}
use Rattle.rules.specs.Cards as Cards
use Rattle.rules.specs.Cards.{Held, blank, opened, keyed, filled}
use Rattle.rules.specs.CardAnswers.{association_on}
use Rattle.rules.specs.Claim.{records}
use Rattle.rules.specs.PagesByCards.{shown_on, without_place, FilledCards}
use Rattle.rules.specs.ViewSteps.{shown_at, entries_in}
use Rattle.rules.proofs.Choices.{no_both}
use Rattle.rules.proofs.Agrees.{Agrees}
use Rattle.rules.proofs.AgreesSays.{its_card, in_table, live_count, agrees_cards}
use Rattle.rules.proofs.RecordLaws.{recorded, records_all}

abbrev shows : Association → Shown
shows a = shown_at (some a)

-- the entries of a table, places apart, are its records
entries_shown : (place : ℕ) (l : List AtPlace) → map without_place (entries_from place (map shown_at l)) ≡ map shows (records l)
unfolding entries_from records
entries_shown place [] = refl
entries_shown place (none ∷ l) = entries_shown (suc place) l
entries_shown place (some (Answer.opened i e) ∷ l) = ap (λ (x : List Shown). live false e ∷ x) (entries_shown (suc place) l)
entries_shown place (some (Answer.keyed i e k) ∷ l) = ap (λ (x : List Shown). live true e ∷ x) (entries_shown (suc place) l)

abbrev endpoint_of : Entry → ℕ
endpoint_of e = e.endpoint

entries_endpoints : (place : ℕ) (l : List AtPlace) → map endpoint_of (entries_from place (map shown_at l)) ≡ map endpoint_in (records l)
unfolding entries_from records
entries_endpoints place [] = refl
entries_endpoints place (none ∷ l) = entries_endpoints (suc place) l
entries_endpoints place (some (Answer.opened i e) ∷ l) = ap (λ (x : List ℕ). e ∷ x) (entries_endpoints (suc place) l)
entries_endpoints place (some (Answer.keyed i e k) ∷ l) = ap (λ (x : List ℕ). e ∷ x) (entries_endpoints (suc place) l)

-- vacant places have none
pub entries_none : (place n : ℕ) → entries_from place (replicate n vacant) ≡ []
unfolding entries_from
entries_none place zero = refl
entries_none place (suc n) = entries_none (suc place) n

card_shown : (i : List ℕ) (h : Held) → filled h ≡ true → shown_on h ≡ shows (association_on i h)
card_shown i blank f = absurd (false_true f)
card_shown i (opened e) f = refl
card_shown i (keyed e k) f = refl

none_kept : (p : List ℕ → Bool) → ((i : List ℕ) → p i ≡ false) → (l : List (List ℕ)) → keep p l ≡ []
unfolding keep
none_kept p f [] = refl
none_kept p f (i ∷ l) = rw (f i) (none_kept p f l)

module _ (v : View) (cards : Cards.Cards) (g : Agrees v cards) where
  -- while the tunnel is down no card is filled, and the page shows none
  page_down : is_up v.tunnel ≡ false → FilledCards [] cards
  page_down d = record {
    number = sym (ap length (none_kept (λ i. filled (cards.card i).held) (g.idle d) cards.opening));
    every = λ i f. no_both f (g.idle d i);
    no_other = λ x m. absurd (Memᴰ.not-nil m);
    once = tt;
  }

  page_up : FilledCards (entries_of (map shown_at v.table)) cards
  page_up = record {
    number =
        sym (length-map (entries_of (map shown_at v.table)) without_place)
        ∙ ap length (entries_shown 0 v.table) ∙ length-map (records v.table) shows ∙ sym (live_count g);
    every = λ i f.
        subst (λ (l : List Shown). Memᴰ (shown_on (cards.card i).held) l) (sym (entries_shown 0 v.table))
        (Memᴰ.cast (card_shown i (cards.card i).held f) (Memᴰ.map shows (records_all v.table (in_table g i f))));
    no_other = λ x m.
        let r : (a : Association) × Memᴰ a (records v.table) × (shows a ≡ x) =
        Memᴰ.of_map shows (records v.table) (subst (λ (l : List Shown). Memᴰ x l) (entries_shown 0 v.table) m) in
        let c = its_card g (recorded v.table r.1) in
        let i = identifier_in r.0 in
        (i, c.full, card_shown i (cards.card i).held c.full ∙ ap shows (sym c.association) ∙ r.2);
    once = subst (λ (l : List ℕ). Distinct l) (sym (entries_endpoints 0 v.table)) (agrees_cards v cards g).endpoints;
  }

  pub agrees_pages : FilledCards (entries_in v) cards
  agrees_pages = go (is_up v.tunnel) refl
    where
      go : (b : Bool) → is_up v.tunnel ≡ b → FilledCards (entries_of (cond b (map shown_at v.table) (replicate places vacant))) cards
      go true e = page_up
      go false e = subst (λ (es : List Entry). FilledCards es cards) (sym (entries_none 0 places)) (page_down e)
