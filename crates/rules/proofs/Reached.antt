-- The pages that can be read are exactly those that lists of calls lead to, and the list is given.
use Prim.Native.Nat.{ℕ}
use mathlib.Core.Path.{◌≡◌, sym, ap, subst, ◌∙◌}
use mathlib.Core.List.{List, [], ◌∷◌}
use lib.ListN.{length}
use Rattle.status.specs.Page as Page
use Rattle.status.specs.Page.{layout, counting}
use Rattle.status.specs.Places.{Shown, entries_of}
use Rattle.status.proofs.Theorem.{counted_list, table_of}
use Rattle.rules.specs.Call.{Call, start, opening, booth_packet, tunnel_octets, close, end, look, write_page}
use Rattle.rules.specs.Layout.{down_block}
use Rattle.rules.specs.Table.{run, page_entries}
use Rattle.rules.specs.ViewSteps.{shown_of}
use Rattle.rules.specs.Reaching.{calls_for}
use Rattle.rules.specs.Pages.{EndpointFits, EndpointsFit, Callable, AllCallable, Leads, Reached, Exactly}
use Rattle.rules.proofs.LookedUp.{looks_up}
use Rattle.rules.proofs.ViewPages.{view_shown}
use Rattle.rules.proofs.Reaching.{shown_after}
use Rattle.rules.proofs.ReachingCalls.{calls_callable}
use Rattle.rules.proofs.PagesFit.{readable}

pub leads : (l : List Shown) → Leads l
leads l t =
    (calls_callable l t, sym (view_shown (run down_block (calls_for l))) ∙ ap shown_of (looks_up (calls_for l)).seen ∙ shown_after l t)

-- calls that a program can make bring endpoints of 32 bits
call_fits : (c : Call) → Callable c → EndpointFits c
call_fits (start list room) o = tt
call_fits (opening identifier endpoint) o = o.1
call_fits (booth_packet endpoint packet room) o = tt
call_fits (tunnel_octets octets) o = tt
call_fits (close identifier room) o = tt
call_fits end o = tt
call_fits (look endpoint) o = tt
call_fits (write_page room) o = tt

calls_fit : (calls : List Call) → AllCallable calls → EndpointsFit calls
calls_fit [] o = tt
calls_fit (c ∷ cs) o = (call_fits c o.0, calls_fit cs o.1)

pub exactly : (s : List ℕ) → Exactly s
exactly s = (there, back)
  where
    there : (count : ℕ) × (counting s ≡ Page.entries count) → Reached s
    there (count, e) =
        let p = counted_list s count e in
        let t = table_of p.0 p.1 in
        let l = leads t.shown t.table in
        record { calls = calls_for t.shown; callable = l.0; gives = ap (λ (x : List Shown). layout (entries_of x)) l.1 ∙ ap layout t.gives ∙ p.2 }

    back : Reached s → (count : ℕ) × (counting s ≡ Page.entries count)
    back r = (
      length (page_entries (run down_block r.calls)),
      subst (λ (x : List ℕ). counting x ≡ Page.entries (length (page_entries (run down_block r.calls)))) r.gives (readable r.calls (calls_fit r.calls r.callable)).1.counted,
    )
