-- The page after every list of calls is accepted and read back: places are as many as there are, endpoints have their bits, those of live ones differ.
use Prim.Native.Nat.{ℕ, zero, suc, ◌<◌, ◌^◌}
use mathlib.Core.Path.{◌≡◌, refl, sym, ap, subst, ◌∙◌}
use mathlib.Core.Bool.{Bool, true, false, cond, not, ◌&&◌, true≢false}
use mathlib.Core.List.Memᴰ
use mathlib.Core.List.{List, [], ◌∷◌, map, Memᴰ}
use mathlib.Core.Option.{some, none}
use lib.Dec.{eqb}
use lib.ListN.{get_or, replicate, length-map}
use Rattle.octets.specs.Bounds.{part_in}
use Rattle.octets.specs.Part.{same}
use Rattle.octets.proofs.Tests.{false_true}
use Rattle.status.specs.Limits.{endpoint_bits}
use Rattle.status.specs.Places.{Shown, vacant, live, entries_of}
use Rattle.status.specs.Claims.{Listable, Table}
use Rattle.status.proofs.Theorem.{reads_back, table_listable, none_listable}
use Rattle.message.specs.Message.{endpoint_disconnect}
use Rattle.message.specs.Parts.{identifier_bounds}
use Rattle.message.specs.Profiles.{good_list, in_list, keys_fit, mki_and_salts_fit}
use Rattle.message.specs.Read as Read
use Rattle.message.specs.declared.bodies.Fields.{Fields}
use Rattle.message.specs.declared.bodies.Fields.TheVariants.{SupportedProfiles, UnsupportedVersion, MediaKeys, TunneledDtls, EndpointDisconnect}
use Rattle.rules.specs.Keys.{Keys, keys_in}
use Rattle.rules.specs.Limits.{places}
use Rattle.rules.specs.Search.{Distinct}
use Rattle.rules.specs.Tunnel.{up_with, is_up, list_in}
use Rattle.rules.specs.Call as Call
use Rattle.rules.specs.Answer as Answer
use Rattle.rules.specs.Answer.{Association}
use Rattle.rules.specs.Refusals.{wrong_width, no_room, start_message}
use Rattle.rules.specs.Layout.{down_block}
use Rattle.rules.specs.Table.{run, page_entries}
use Rattle.rules.specs.View.{AtPlace, View, identifier_in, endpoint_in}
use Rattle.rules.specs.ViewSteps.{shown_at, entries_in}
use Rattle.rules.specs.Cards.{Held, blank, opened, keyed, Card, Cards, filled, endpoint_live, all_live, with, down_card, with_keys, card_next, next, first, fed, message_card, read_card}
use Rattle.rules.specs.CardAnswers.{association_on}
use Rattle.rules.specs.Claim.{records}
use Rattle.rules.specs.Pages.{EndpointFits, EndpointsFit, Readable}
use Rattle.rules.proofs.Agrees.{Agrees}
use Rattle.rules.proofs.AgreesSays.{its_card, agrees_cards}
use Rattle.rules.proofs.RecordLaws.{recorded}
use Rattle.rules.proofs.AgreesPages.{entries_none}
use Rattle.rules.proofs.ViewPages.{view_entries}
use Rattle.rules.proofs.Claimed.{kept_first, kept_run}

-- ---- the endpoint on a card has its bits

abbrev Fits : Held → Type 0
Fits blank = Unit {0}
Fits (opened endpoint) = endpoint < 2 ^ endpoint_bits
Fits (keyed endpoint k) = endpoint < 2 ^ endpoint_bits

fits_either : (b : Bool) (x y : Card) → Fits x.held → Fits y.held → Fits (cond b x y).held
fits_either true x y f g = f
fits_either false x y f g = g

fits_keys : (k : Keys) (h : Held) → Fits h → Fits (with_keys k h)
fits_keys k blank f = tt
fits_keys k (opened e) f = f
fits_keys k (keyed e old) f = f

fits_message : (c : Card) (octets : List ℕ) (f : Fields) (i : List ℕ) → Fits c.held → Fits (message_card c octets f i).held
fits_message c octets (SupportedProfiles v n) i g = g
fits_message c octets (UnsupportedVersion v) i g = tt
fits_message c octets (MediaKeys profile k) i g =
    fits_either (same (part_in octets identifier_bounds) i && filled c.held && in_list profile (list_in c.tunnel) && keys_fit profile k && mki_and_salts_fit k)
    (with c (with_keys (keys_in octets profile k) c.held)) c (fits_keys (keys_in octets profile k) c.held g) g
fits_message c octets (TunneledDtls n) i g = g
fits_message c octets EndpointDisconnect i g = fits_either (same (part_in octets identifier_bounds) i) (with c blank) c tt g

fits_read : (c : Card) (octets : List ℕ) (r : Read.Answer) (i : List ℕ) → Fits c.held → Fits (read_card c octets r i).held
fits_read c octets Read.more_needed i g = g
fits_read c octets (Read.refused number taken) i g = fits_either (eqb number 2) down_card c tt g
fits_read c octets (Read.accepted f taken) i g = fits_message c octets f i g

fits_next : (cards : Cards) (c : Call.Call) → EndpointFits c → ((i : List ℕ) → Fits (cards.card i).held) → (i : List ℕ) → Fits (card_next cards c i).held
unfolding card_next
fits_next cards (Call.start list room) e g i =
    let c = cards.card i in
    fits_either (not (is_up c.tunnel) && good_list list && not (no_room (start_message list) room)) (record { tunnel = up_with list; held = blank }) c tt (g i)
fits_next cards (Call.opening identifier endpoint) e g i =
    let c = cards.card i in
    fits_either (same identifier i && not (wrong_width identifier) && is_up c.tunnel && not (filled c.held) && not (endpoint_live cards endpoint) && not (all_live cards))
    (with c (opened endpoint)) c e (g i)
fits_next cards (Call.booth_packet endpoint packet room) e g i = g i
fits_next cards (Call.tunnel_octets octets) e g i =
    fits_either (is_up (cards.card i).tunnel) (read_card (cards.card i) octets (Read.reading octets) i) (cards.card i) (fits_read (cards.card i) octets (Read.reading octets) i (g i)) (g i)
fits_next cards (Call.close identifier room) e g i =
    let c = cards.card i in
    fits_either (same identifier i && is_up c.tunnel && not (no_room (endpoint_disconnect identifier) room)) (with c blank) c tt (g i)
fits_next cards Call.end e g i = tt
fits_next cards (Call.look endpoint) e g i = g i
fits_next cards (Call.write_page room) e g i = g i

fits_fed : (calls : List Call.Call) (cards : Cards) → EndpointsFit calls → ((i : List ℕ) → Fits (cards.card i).held) → (i : List ℕ) → Fits ((fed cards calls).card i).held
unfolding fed next
fits_fed [] cards e g = g
fits_fed (c ∷ cs) cards e g = fits_fed cs (next cards c) e.1 (fits_next cards c e.0 g)

-- ---- what a table shows

abbrev endpoint_in' : Shown → ℕ
endpoint_in' vacant = 0
endpoint_in' (live k endpoint) = endpoint

abbrev is_live : Shown → Bool
is_live vacant = false
is_live (live k endpoint) = true

-- the endpoint of a place that is shown live is a record's
shown_record : (l : List AtPlace) (place : ℕ) (k : Bool) (e : ℕ) → get_or (map shown_at l) place vacant ≡ live k e → Memᴰ e (map endpoint_in (records l))
unfolding records
shown_record [] place k e q = absurd (true≢false (sym (ap is_live q)))
shown_record (none ∷ l) zero k e q = absurd (true≢false (sym (ap is_live q)))
shown_record (none ∷ l) (suc place) k e q = shown_record l place k e q
shown_record (some (Answer.opened i x) ∷ l) zero k e q = Memᴰ.head (sym (ap endpoint_in' q))
shown_record (some (Answer.opened i x) ∷ l) (suc place) k e q = Memᴰ.tail (shown_record l place k e q)
shown_record (some (Answer.keyed i x m) ∷ l) zero k e q = Memᴰ.head (sym (ap endpoint_in' q))
shown_record (some (Answer.keyed i x m) ∷ l) (suc place) k e q = Memᴰ.tail (shown_record l place k e q)

-- a live place in front, and another with its endpoint
front_differs : (x : Association) (l : List AtPlace) → (Memᴰ (endpoint_in x) (map endpoint_in (records l)) → ⊥) → (place : ℕ) (k m : Bool) (e : ℕ)
    → shown_at (some x) ≡ live k e → get_or (map shown_at l) place vacant ≡ live m e → ⊥
front_differs (Answer.opened i y) l d place k m e p q = d (Memᴰ.cast (ap endpoint_in' p) (shown_record l place m e q))
front_differs (Answer.keyed i y z) l d place k m e p q = d (Memᴰ.cast (ap endpoint_in' p) (shown_record l place m e q))

shown_differ : (l : List AtPlace) → Distinct (map endpoint_in (records l)) → (i j : ℕ) (k m : Bool) (e : ℕ)
    → get_or (map shown_at l) i vacant ≡ live k e → get_or (map shown_at l) j vacant ≡ live m e → i ≡ j
unfolding records
shown_differ [] d i j k m e p q = absurd (true≢false (sym (ap is_live p)))
shown_differ (none ∷ l) d zero j k m e p q = absurd (true≢false (sym (ap is_live p)))
shown_differ (none ∷ l) d (suc i) zero k m e p q = absurd (true≢false (sym (ap is_live q)))
shown_differ (none ∷ l) d (suc i) (suc j) k m e p q = ap suc (shown_differ l d i j k m e p q)
shown_differ (some x ∷ l) d zero zero k m e p q = refl
shown_differ (some x ∷ l) d zero (suc j) k m e p q = absurd (front_differs x l d.0 j k m e p q)
shown_differ (some x ∷ l) d (suc i) zero k m e p q = absurd (front_differs x l d.0 i m k e q p)
shown_differ (some x ∷ l) d (suc i) (suc j) k m e p q = ap suc (shown_differ l d.1 i j k m e p q)

-- ---- the table after a list of calls

card_fits : (i : List ℕ) (h : Held) → filled h ≡ true → Fits h → endpoint_in (association_on i h) < 2 ^ endpoint_bits
card_fits i blank f g = absurd (false_true f)
card_fits i (opened e) f g = g
card_fits i (keyed e k) f g = g

module _ {v : View} {cards : Cards} (g : Agrees v cards) (fit : (i : List ℕ) → Fits (cards.card i).held) where
  record_fits : (e : ℕ) → Memᴰ e (map endpoint_in (records v.table)) → e < 2 ^ endpoint_bits
  record_fits e m =
      let r : (a : Association) × Memᴰ a (records v.table) × (endpoint_in a ≡ e) = Memᴰ.of_map endpoint_in (records v.table) m in
      let c = its_card g (recorded v.table r.1) in
      let i = identifier_in r.0 in
      subst (λ (x : ℕ). x < 2 ^ endpoint_bits) (ap endpoint_in (sym c.association) ∙ r.2) (card_fits i (cards.card i).held c.full (fit i))

  shown_table : Table (map shown_at v.table)
  shown_table = record {
    size = length-map v.table shown_at ∙ g.size;
    below = λ i k e q. record_fits e (shown_record v.table i k e q);
    differ = shown_differ v.table (agrees_cards v cards g).endpoints;
  }

  entries_listable : Listable (entries_in v)
  entries_listable = go (is_up v.tunnel)
    where
      go : (b : Bool) → Listable (entries_of (cond b (map shown_at v.table) (replicate places vacant)))
      go true = table_listable (map shown_at v.table) shown_table
      go false = subst Listable (sym (entries_none 0 places)) none_listable

pub readable : (calls : List Call.Call) → Readable calls
unfolding first
readable calls fit =
    let k = kept_run calls down_block first kept_first in
    let l : Listable (page_entries (run down_block calls)) = subst Listable (view_entries (run down_block calls)) (entries_listable k.agrees (fits_fed calls first fit (λ i. tt))) in
    (l, reads_back (page_entries (run down_block calls)) l)
