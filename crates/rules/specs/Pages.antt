-- The pages of tables: what of a table they show, and that those that can be read are exactly those that calls lead to (document 02, order 1).
use Rattle.std.specs.Prelude.{ℕ, ◌<◌, ◌^◌, ◌≡◌, ◌↔◌, false, List, [], ◌∷◌, ltb}
use Rattle.std.proofs.Math.Option.{some, none}
use Rattle.octets.specs.Number.{Octets}
use Rattle.status.specs.Page as Page
use Rattle.status.specs.Page.{layout, counting}
use Rattle.status.specs.Places.{Shown}
use Rattle.status.specs.Claims.{Listable, ReadOut, Table}
use Rattle.rules.specs.Call.{Call, start, opening, booth_packet, tunnel_octets, close, end, look, write_page}
use Rattle.rules.specs.Verdict.{allowed, refuse}
use Rattle.rules.specs.Answer.{opened, keyed, page, answered}
use Rattle.rules.specs.Layout.{up, down_block}
use Rattle.rules.specs.Table.{answer, run, shown, page_entries}
use Rattle.rules.specs.Tunnel.{is_up}
use Rattle.rules.specs.View.{AtPlace, view}
use Rattle.rules.specs.Reaching.{calls_for}

-- the page of a block
abbrev pub page_of : (block : List ℕ) → List ℕ
page_of s = layout (page_entries s)

-- ---- of every two blocks, whatever they hold

-- the same octets, and the same answer whatever the room
abbrev pub OnePage : (s t : List ℕ) → Type 0
OnePage s t = (page_of s ≡ page_of t) × ((room : ℕ) → answer s (write_page room) ≡ answer t (write_page room))

-- the page is settled by what is shown: place by place none, open or keyed, and the endpoint; none everywhere while the tunnel is down
abbrev pub ShowsOnly : (s t : List ℕ) → Type 0
ShowsOnly s t = shown s ≡ shown t → OnePage s t

-- "differ only in identifiers, profiles, MKIs, keys and salts"
abbrev pub Alike : (a b : AtPlace) → Type 0
Alike none none = Unit {0}
Alike none (some b) = ⊥
Alike (some a) none = ⊥
Alike (some (opened i e)) (some (opened j f)) = e ≡ f
Alike (some (opened i e)) (some (keyed j f k)) = ⊥
Alike (some (keyed i e k)) (some (opened j f)) = ⊥
Alike (some (keyed i e k)) (some (keyed j f m)) = e ≡ f

abbrev pub AllAlike : (a b : List AtPlace) → Type 0
AllAlike [] [] = Unit {0}
AllAlike [] (y ∷ b) = ⊥
AllAlike (x ∷ a) [] = ⊥
AllAlike (x ∷ a) (y ∷ b) = Alike x y × AllAlike a b

abbrev pub SamePage : (s t : List ℕ) → Type 0
SamePage s t = is_up (view s).tunnel ≡ is_up (view t).tunnel → AllAlike (view s).table (view t).table → OnePage s t

-- "a down tunnel shows zero": one octet, zero
abbrev pub DownShowsZero : List ℕ → Type 0
DownShowsZero s = up s ≡ false → (page_of s ≡ 0 ∷ []) × ((room : ℕ) → answer s (write_page room) ≡ answered (refuse (ltb room 1) 13 allowed) 0 (page []))

-- ---- of every list of calls

-- the endpoint that an opening brings is a number of 32 bits, as every u32 is
abbrev pub EndpointFits : Call → Type 0
EndpointFits (start list room) = Unit {0}
EndpointFits (opening identifier endpoint) = endpoint < 2 ^ 32
EndpointFits (booth_packet endpoint packet room) = Unit {0}
EndpointFits (tunnel_octets octets) = Unit {0}
EndpointFits (close identifier room) = Unit {0}
EndpointFits end = Unit {0}
EndpointFits (look endpoint) = Unit {0}
EndpointFits (write_page room) = Unit {0}

abbrev pub EndpointsFit : List Call → Type 0
EndpointsFit [] = Unit {0}
EndpointsFit (c ∷ cs) = EndpointFits c × EndpointsFit cs

-- the page of the block that a list of calls leads to
abbrev pub page_after : List Call → List ℕ
page_after calls = page_of (run down_block calls)

-- its entries are ones that a table can give, and are read out of it by the two calls of the reader
abbrev pub Readable : List Call → Type 0
Readable calls = EndpointsFit calls → Listable (page_entries (run down_block calls)) × ReadOut (page_after calls) (page_entries (run down_block calls))

-- ---- of every page

-- a call that a program can make: what it lends are octets, endpoints are numbers of 32 bits
abbrev pub Callable : Call → Type 0
Callable (start list room) = Octets list
Callable (opening identifier endpoint) = Octets identifier × (endpoint < 2 ^ 32)
Callable (booth_packet endpoint packet room) = (endpoint < 2 ^ 32) × Octets packet
Callable (tunnel_octets octets) = Octets octets
Callable (close identifier room) = Octets identifier
Callable end = Unit {0}
Callable (look endpoint) = endpoint < 2 ^ 32
Callable (write_page room) = Unit {0}

abbrev pub AllCallable : List Call → Type 0
AllCallable [] = Unit {0}
AllCallable (c ∷ cs) = Callable c × AllCallable cs

-- for what any table shows, the list of Reaching.antt leads to a table that shows it
abbrev pub Leads : List Shown → Type 0
Leads l = Table l → AllCallable (calls_for l) × (shown (run down_block (calls_for l)) ≡ l)

-- octets that are the page of some list of calls
pub record Reached (s : List ℕ) : Type 0 where
  pub calls : List Call
  pub callable : AllCallable calls
  pub gives : page_after calls ≡ s

-- "accepts exactly the pages some table can give"
abbrev pub Exactly : List ℕ → Type 0
Exactly s = ((count : ℕ) × (counting s ≡ Page.entries count)) ↔ Reached s
