-- The claim about every list of calls (demand 3): the block that it leads to, and every answer on the way, are what the cards say, openings take the lowest free place, and pages show the filled cards.
use Rattle.std.specs.Prelude.{ℕ, ◌≤◌, ◌≡◌, ◌↔◌, true, false, length}
use mathlib.Core.List.{List, [], ◌∷◌, map, Memᴰ}
use Rattle.std.proofs.Math.Option.{some, none}
use Rattle.octets.specs.Bounds.{part_in}
use Rattle.message.specs.Limits.{width}
use Rattle.message.specs.Message as Message
use Rattle.message.specs.Parts.{meaning}
use Rattle.message.specs.Read as Read
use Rattle.rules.specs.Limits.{places}
use Rattle.rules.specs.Search.{keep, Distinct}
use Rattle.rules.specs.Tunnel.{is_up}
use Rattle.rules.specs.Call as Call
use Rattle.rules.specs.Answer as Answer
use Rattle.rules.specs.Answer.{Answer, Association, refused, more_needed, placed, delivery, page, by_answer, of_delivery}
use Rattle.rules.specs.Layout.{down_block}
use Rattle.rules.specs.Table.{run, answer, answers, step}
use Rattle.rules.specs.View.{AtPlace, View, view, is_for, identifier_in, endpoint_in}
use Rattle.rules.specs.Cards as Cards
use Rattle.rules.specs.Cards.{Held, blank, opened, keyed, filled, live, fed}
use Rattle.rules.specs.CardAnswers.{expected_answers}
use Rattle.rules.specs.Placed.{Openings}
use Rattle.rules.specs.PagesByCards.{Pages}

-- ---- a record and a card

-- what a record holds beside its identifier
abbrev pub held_in : Association → Held
held_in (Answer.opened identifier endpoint) = opened endpoint
held_in (Answer.keyed identifier endpoint k) = keyed endpoint k

-- the live records, and those with an identifier
unfoldable pub records : List AtPlace → List Association
records [] = []
records (none ∷ l) = records l
records (some a ∷ l) = a ∷ records l

abbrev pub records_with : List ℕ → List AtPlace → List Association
records_with identifier table = records (keep (is_for identifier) table)

-- none for a blank card, and one for a filled one
abbrev pub held_on : Held → List Held
held_on blank = []
held_on (opened endpoint) = opened endpoint ∷ []
held_on (keyed endpoint k) = keyed endpoint k ∷ []

-- ---- answers

-- an answer, except for an opening's place and a page's entries, of which `openings` and `pages` below speak
abbrev pub except_place : Answer → Answer
except_place a = by_answer refused more_needed (λ place. placed 0) delivery (λ entries. page []) (λ taken. a) a

-- what a call hands out: DTLS octets with an endpoint, or nothing
pub data Handed : Type 0 where
  nothing : Handed
  handed : (endpoint : ℕ) (dtls : List ℕ) → Handed

-- by its answer, of the octets that were lent
abbrev pub handed_by : List ℕ → Answer → Handed
handed_by octets a = of_delivery a (λ endpoint dtls taken. handed endpoint (part_in octets dtls)) nothing

unfoldable pub handout : List ℕ → Call.Call → Handed
handout s (Call.start list room) = nothing
handout s (Call.opening identifier endpoint) = nothing
handout s (Call.booth_packet endpoint packet room) = nothing
handout s (Call.tunnel_octets octets) = handed_by octets (answer s (Call.tunnel_octets octets))
handout s (Call.close identifier room) = nothing
handout s Call.end = nothing
handout s (Call.look endpoint) = nothing
handout s (Call.write_page room) = nothing

-- by the cards: an accepted type 4's DTLS octets, with the endpoint on the card of its identifier at that call; while the tunnel is down every card is blank
abbrev pub handed_on : Held → List ℕ → Handed
handed_on blank dtls = nothing
handed_on (opened endpoint) dtls = handed endpoint dtls
handed_on (keyed endpoint k) dtls = handed endpoint dtls

abbrev pub handed_for : Cards.Cards → Message.Message → Handed
handed_for cards (Message.supported_profiles v l) = nothing
handed_for cards (Message.unsupported_version v) = nothing
handed_for cards (Message.media_keys i p m ck sk cs ss) = nothing
handed_for cards (Message.tunneled_dtls identifier dtls) = handed_on (cards.card identifier).held dtls
handed_for cards (Message.endpoint_disconnect i) = nothing

abbrev pub handed_read : Cards.Cards → List ℕ → Read.Answer → Handed
handed_read cards octets Read.more_needed = nothing
handed_read cards octets (Read.refused number taken) = nothing
handed_read cards octets (Read.accepted f taken) = handed_for cards (meaning octets f)

unfoldable pub expected_handout : Cards.Cards → Call.Call → Handed
expected_handout cards (Call.start list room) = nothing
expected_handout cards (Call.opening identifier endpoint) = nothing
expected_handout cards (Call.booth_packet endpoint packet room) = nothing
expected_handout cards (Call.tunnel_octets octets) = handed_read cards octets (Read.reading octets)
expected_handout cards (Call.close identifier room) = nothing
expected_handout cards Call.end = nothing
expected_handout cards (Call.look endpoint) = nothing
expected_handout cards (Call.write_page room) = nothing

unfoldable pub handouts : List ℕ → List Call.Call → List Handed
handouts s [] = []
handouts s (c ∷ cs) = handout s c ∷ handouts (step s c) cs

unfoldable pub expected_handouts : Cards.Cards → List Call.Call → List Handed
expected_handouts cards [] = []
expected_handouts cards (c ∷ cs) = expected_handout cards c ∷ expected_handouts (Cards.next cards c) cs

-- ---- the claim

-- tunnel and table are what the cards say
pub record AsCards (v : View) (cards : Cards.Cards) : Type 0 where
  -- "the tunnel and its profile list are those of every card"
  pub tunnel : (i : List ℕ) → (cards.card i).tunnel ≡ v.tunnel
  -- there are as many places as the documents say, and none is taken while the tunnel is down
  pub size : length v.table ≡ places
  pub idle : is_up v.tunnel ≡ false → (i : List ℕ) → filled (cards.card i).held ≡ false
  -- "the table has a record with an identifier exactly when that card is filled, then just one, equal to it in endpoint, state and key fields"
  pub held : (i : List ℕ) → map held_in (records_with i v.table) ≡ held_on (cards.card i).held
  -- only cards of identifiers of A octets are ever filled
  pub sized : (i : List ℕ) → filled (cards.card i).held ≡ true → length i ≡ width
  -- the identifiers of the filled cards, and no others, are counted, each once, and are no more than there are places
  pub counted : (i : List ℕ) → (filled (cards.card i).held ≡ true) ↔ Memᴰ i (live cards)
  pub once : Distinct (live cards)
  pub few : length (live cards) ≤ places
  -- "live associations differ pairwise in identifier and in endpoint"
  pub identifiers : Distinct (map identifier_in (records v.table))
  pub endpoints : Distinct (map endpoint_in (records v.table))

pub record Claim (calls : List Call.Call) : Type 0 where
  pub state : AsCards (view (run down_block calls)) (fed Cards.first calls)
  -- "for each accepted type 4 in the list, the octets handed out are its DTLS octets, and the endpoint is the one on the card of its identifier at that call"
  pub deliveries : handouts down_block calls ≡ expected_handouts Cards.first calls
  -- beyond document 01: every answer, place numbers and a page's entries apart, is the one that the cards give
  pub answered : map except_place (answers down_block calls) ≡ expected_answers Cards.first calls
  -- "takes the lowest free place, so a freed place is used again": for each opening in the list that is answered with a place, in the table that the calls before it led to
  pub openings : Openings down_block calls
  -- document 02, order 1: each page in the list shows the filled cards at that call, each once, and of each, beside its place, its state and its endpoint alone
  pub pages : Pages down_block Cards.first calls
