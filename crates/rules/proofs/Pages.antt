-- What a page shows of a block, for every block: tunnel up or down and, place by place, none, open or keyed, and the endpoint.
use Prim.Native.Nat.{ℕ}
use mathlib.Core.Path.{◌≡◌, refl, sym, ap, ap₂, ◌∙◌}
use mathlib.Core.Bool.{Bool, true, false, cond}
use mathlib.Core.List.{List, [], ◌∷◌, map}
use mathlib.Core.Option.{some, none}
use lib.ListN.{replicate}
use Rattle.status.specs.declared.entry.Entry.{Entry}
use Rattle.status.specs.Page.{layout}
use Rattle.status.specs.Places.{Shown, vacant, live, entries_of}
use Rattle.status.proofs.Theorem.{layout_none}
use Rattle.rules.specs.Call.{write_page}
use Rattle.rules.specs.Orders.{page_order}
use Rattle.rules.specs.Answer.{Answer, opened, keyed, page, answered}
use Rattle.rules.specs.Refusals.{no_room_for_page}
use Rattle.rules.specs.Layout.{up}
use Rattle.rules.specs.Table.{shown, page_entries, page_verdict, page_answer, answer}
use Rattle.rules.specs.View.{AtPlace, view}
use Rattle.rules.specs.ViewSteps.{shown_at}
use Rattle.rules.specs.Limits.{places}
use Rattle.rules.specs.Pages.{OnePage, ShowsOnly, Alike, AllAlike, SamePage, DownShowsZero}
use Rattle.rules.proofs.ViewPages.{view_entries}
use Rattle.rules.proofs.AgreesPages.{entries_none}

-- the answer is settled by the entries
abbrev answer_with : List Entry → (room : ℕ) → Answer
answer_with entries room = answered (page_order (no_room_for_page entries room)) 0 (page entries)

page_answer_lem : (s : List ℕ) (room : ℕ) → answer s (write_page room) ≡ answer_with (page_entries s) room
unfolding answer page_answer page_verdict
page_answer_lem s room = refl

same_entries : (s t : List ℕ) → page_entries s ≡ page_entries t → OnePage s t
same_entries s t e = (ap layout e, λ room. page_answer_lem s room ∙ ap (λ (es : List Entry). answer_with es room) e ∙ sym (page_answer_lem t room))

pub shows_only : (s t : List ℕ) → ShowsOnly s t
shows_only s t e = same_entries s t (ap entries_of e)

-- ---- identifiers, profiles, MKIs, keys and salts

alike_shown : (a b : AtPlace) → Alike a b → shown_at a ≡ shown_at b
alike_shown none none q = refl
alike_shown none (some b) q = absurd q
alike_shown (some a) none q = absurd q
alike_shown (some (opened i e)) (some (opened j f)) q = ap (live false) q
alike_shown (some (opened i e)) (some (keyed j f m)) q = absurd q
alike_shown (some (keyed i e k)) (some (opened j f)) q = absurd q
alike_shown (some (keyed i e k)) (some (keyed j f m)) q = ap (live true) q

all_shown : (a b : List AtPlace) → AllAlike a b → map shown_at a ≡ map shown_at b
all_shown [] [] q = refl
all_shown [] (y ∷ b) q = absurd q
all_shown (x ∷ a) [] q = absurd q
all_shown (x ∷ a) (y ∷ b) q = ap₂ (λ (u : Shown) (l : List Shown). u ∷ l) (alike_shown x y q.0) (all_shown a b q.1)

pub same_page : (s t : List ℕ) → SamePage s t
same_page s t u q =
    same_entries s t
    (sym (view_entries s)
    ∙ ap₂ (λ (b : Bool) (l : List Shown). entries_of (cond b l (replicate places vacant))) u (all_shown (view s).table (view t).table q)
    ∙ view_entries t)

-- ---- a tunnel that is down

down_entries : (s : List ℕ) → up s ≡ false → page_entries s ≡ []
unfolding shown
down_entries s d = rw d (entries_none 0 places)

pub down_shows_zero : (s : List ℕ) → DownShowsZero s
down_shows_zero s d =
    let e = down_entries s d in
    (ap layout e ∙ layout_none, λ room. page_answer_lem s room ∙ ap (λ (es : List Entry). answer_with es room) e ∙ rw layout_none)
