-- The claim holds of every list of calls.
use Prim.Native.Nat.{ℕ}
use mathlib.Core.Path.{◌≡◌, refl, sym, ap, ap₂, subst, ◌∙◌}
use mathlib.Core.List.{List, [], ◌∷◌, map}
use Rattle.status.specs.declared.entry.Entry.{Entry}
use Rattle.rules.specs.Call as Call
use Rattle.rules.specs.Answer.{Answer}
use Rattle.rules.specs.Layout.{down_block}
use Rattle.rules.specs.Table.{step, run, answer, answers}
use Rattle.rules.specs.View.{view}
use Rattle.rules.specs.Cards as Cards
use Rattle.rules.specs.Cards.{fed, next}
use Rattle.rules.specs.CardAnswers.{expected, expected_answers}
use Rattle.rules.specs.Claim.{Claim, Handed, except_place, handed_by, handout, handouts, expected_handout, expected_handouts}
use Rattle.rules.specs.PagesByCards.{FilledCards, LivePlaces, Page, Pages}
use Rattle.rules.proofs.Legal.{Legal}
use Rattle.rules.proofs.ViewLaws.{legal_down, view_down, legal_step, view_step_lem, view_answer_lem}
use Rattle.rules.proofs.Agrees.{Agrees}
use Rattle.rules.proofs.AgreesChange.{first_agrees}
use Rattle.rules.proofs.AgreesSays.{agrees_cards}
use Rattle.rules.proofs.AgreesSteps.{agrees_step}
use Rattle.rules.proofs.AgreesAnswers.{agrees_answer}
use Rattle.rules.proofs.AgreesHanded.{agrees_handed}
use Rattle.rules.proofs.AgreesPages.{agrees_pages}
use Rattle.rules.proofs.AgreesPlaces.{agrees_places}
use Rattle.rules.proofs.ViewPages.{view_entries, page_is}
use Rattle.rules.proofs.LowestPlace.{legal_openings}

-- a block that is legal and as the cards say, seen through its view
pub record Kept (s : List ℕ) (cards : Cards.Cards) : Type 0 where
  pub legal : Legal s
  pub agrees : Agrees (view s) cards

pub kept_first : Kept down_block Cards.first
kept_first = record { legal = legal_down; agrees = subst (λ v. Agrees v Cards.first) (sym view_down) first_agrees }

module _ {s : List ℕ} {cards : Cards.Cards} (k : Kept s cards) where
  kept_step : (c : Call.Call) → Kept (step s c) (next cards c)
  kept_step c = record {
    legal = legal_step s k.legal c;
    agrees = subst (λ v. Agrees v (next cards c)) (sym (view_step_lem s k.legal c)) (agrees_step (view s) cards k.agrees c);
  }

  kept_answer : (c : Call.Call) → except_place (answer s c) ≡ expected cards c
  kept_answer c = ap except_place (view_answer_lem s k.legal c) ∙ agrees_answer (view s) cards k.agrees c

  kept_handed : (c : Call.Call) → handout s c ≡ expected_handout cards c
  unfolding handout expected_handout
  kept_handed (Call.start list room) = refl
  kept_handed (Call.opening i e) = refl
  kept_handed (Call.booth_packet e packet room) = refl
  kept_handed (Call.tunnel_octets octets) =
      ap (handed_by octets) (view_answer_lem s k.legal (Call.tunnel_octets octets)) ∙ agrees_handed (view s) cards k.agrees octets
  kept_handed (Call.close i room) = refl
  kept_handed Call.end = refl
  kept_handed (Call.look e) = refl
  kept_handed (Call.write_page room) = refl

  kept_page : (c : Call.Call) → Page s cards c
  kept_page c room entries e a =
      subst (λ (es : List Entry). FilledCards es cards × LivePlaces es (view s).table) (view_entries s ∙ page_is s room entries (sym (ap (answer s) e) ∙ a))
      (agrees_pages (view s) cards k.agrees, agrees_places (view s) cards k.agrees)

-- ---- along a list

pub kept_run : (calls : List Call.Call) (s : List ℕ) (cards : Cards.Cards) → Kept s cards → Kept (run s calls) (fed cards calls)
unfolding run fed
kept_run [] s cards k = k
kept_run (c ∷ cs) s cards k = kept_run cs (step s c) (next cards c) (kept_step k c)

kept_answers : (calls : List Call.Call) (s : List ℕ) (cards : Cards.Cards) → Kept s cards → map except_place (answers s calls) ≡ expected_answers cards calls
unfolding answers expected_answers
kept_answers [] s cards k = refl
kept_answers (c ∷ cs) s cards k =
    ap₂ (λ (a : Answer) (l : List Answer). a ∷ l) (kept_answer k c) (kept_answers cs (step s c) (next cards c) (kept_step k c))

kept_handouts : (calls : List Call.Call) (s : List ℕ) (cards : Cards.Cards) → Kept s cards → handouts s calls ≡ expected_handouts cards calls
unfolding handouts expected_handouts
kept_handouts [] s cards k = refl
kept_handouts (c ∷ cs) s cards k =
    ap₂ (λ (h : Handed) (l : List Handed). h ∷ l) (kept_handed k c) (kept_handouts cs (step s c) (next cards c) (kept_step k c))

kept_pages : (calls : List Call.Call) (s : List ℕ) (cards : Cards.Cards) → Kept s cards → Pages s cards calls
kept_pages [] s cards k = tt
kept_pages (c ∷ cs) s cards k = (kept_page k c, kept_pages cs (step s c) (next cards c) (kept_step k c))

pub claim : (calls : List Call.Call) → Claim calls
claim calls = record {
  state = agrees_cards _ _ (kept_run calls down_block Cards.first kept_first).agrees;
  deliveries = kept_handouts calls down_block Cards.first kept_first;
  answered = kept_answers calls down_block Cards.first kept_first;
  openings = legal_openings calls down_block legal_down;
  pages = kept_pages calls down_block Cards.first kept_first;
}
