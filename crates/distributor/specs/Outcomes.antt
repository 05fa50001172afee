-- What the calls' results stand for: document 01, "Forms by place".
use Rattle.std.specs.Prelude.{ℕ, ◌≡◌, List, ◌++◌, length, drop, ltb, true, false, Result, Ok, Err}
use Rattle.octets.specs.Bounds.{part_in}
use Rattle.octets.specs.Refusal.{number_of}
use Rattle.octets.specs.declared.refusal.Refusal.{Refusal}
use Rattle.status.specs.declared.entry.Entry.{Entry}
use Rattle.status.specs.Page.{layout}
use Rattle.message.specs.Parts.{identifier_bounds}
use Rattle.message.specs.Read as Read
use Rattle.message.specs.declared.bodies.Fields.{Fields}
use Rattle.message.specs.declared.reading.Refused.{Refused}
use Rattle.rules.specs.Limits.{places}
use Rattle.rules.specs.Verdict.{Verdict, allowed, refusal}
use Rattle.rules.specs.Call.{Call}
use Rattle.rules.specs.Table.{answer, step, place_of_identifier, fields_answer, fields_next, read_answer, read_next}
use Rattle.rules.specs.Table as Table
use Rattle.rules.specs.Answer.{Answer, refused, more_needed, wrote, placed, ended, keys_stored, delivery, removed, version, page}
use Rattle.rows.specs.declared.writing.ReadKeys.{ReadKeys}
use Rattle.distributor.specs.declared.receiving.Received.{Received}

-- a call does what the rules say: what it returns and writes tells the answer, and the block is left as the step leaves it
abbrev pub Does : Call → (before after : List ℕ) → (Tells : Answer → Type 0) → Type 0
Does c before after Tells = Tells (answer before c) × (after ≡ step before c)

-- what checks a verdict: an allowed call, with what it is about, an association's place or the vacant one that an opening takes; or the refusal
abbrev pub Checks : {A : Type 0} → Verdict → A → Result A Refusal → Type 0
Checks v about (Ok x) = (allowed ≡ v) × (x ≡ about)
Checks v about (Err r) = refusal (number_of r) ≡ v

-- what finds the place that the rules have: one in the table, or refusal 6
abbrev pub Found : (place : ℕ) → Result ℕ Refusal → Type 0
Found place (Ok at) = (ltb place places ≡ true) × (at ≡ place)
Found place (Err r) = (ltb place places ≡ false) × (number_of r ≡ 6)

abbrev pub ended_of : Result (Unit {0}) Refusal → Answer
ended_of (Ok x) = ended
ended_of (Err r) = refused (number_of r) 0

abbrev pub opened_of : Result ℕ Refusal → Answer
opened_of (Ok place) = placed place
opened_of (Err r) = refused (number_of r) 0

-- ---- calls that write

-- so many octets, those of the answer: they stand at the front of the output, and the octets behind are as they were
pub record Wrote (a : Answer) (before after : List ℕ) (count : ℕ) : Type 0 where
  pub octets : List ℕ
  pub told : a ≡ wrote octets
  pub counted : count ≡ length octets
  pub written : after ≡ octets ++ drop (length octets) before

-- a refusal takes no octet and leaves every octet of the output as it was
abbrev pub Sends : Answer → (before after : List ℕ) → Result ℕ Refusal → Type 0
Sends a before after (Ok count) = Wrote a before after count
Sends a before after (Err r) = (a ≡ refused (number_of r) 0) × (after ≡ before)

-- the page with the answer's entries: it stands at the front of the output, and the octets behind are as they were
pub record WrotePage (a : Answer) (before after : List ℕ) (count : ℕ) : Type 0 where
  pub entries : List Entry
  pub told : a ≡ page entries
  pub counted : count ≡ length (layout entries)
  pub written : after ≡ layout entries ++ drop (length (layout entries)) before

abbrev pub Pages : Answer → (before after : List ℕ) → Result ℕ Refusal → Type 0
Pages a before after (Ok count) = WrotePage a before after count
Pages a before after (Err r) = (a ≡ refused (number_of r) 0) × (after ≡ before)

-- ---- Tunnel octets

abbrev pub accepted_of : Received → Answer
accepted_of Received.MoreNeeded = more_needed
accepted_of (Received.KeysStored taken endpoint) = keys_stored endpoint taken
accepted_of (Received.Delivery dtls taken endpoint) = delivery endpoint dtls taken
accepted_of (Received.Disconnected taken endpoint) = removed endpoint taken
accepted_of (Received.Version number taken) = version number taken

abbrev pub received_of : Result Received Refused → Answer
received_of (Ok r) = accepted_of r
received_of (Err r) = refused (number_of r.refusal) r.taken

-- the answer to what was read, and the block afterwards
abbrev pub Reads : (before octets : List ℕ) → Read.Answer → (after : List ℕ) → Answer → Type 0
Reads before octets r after a = (a ≡ read_answer before octets r) × (after ≡ read_next before octets r)

abbrev pub Takes : (before octets : List ℕ) → Fields → (taken : ℕ) → (after : List ℕ) → Result Received Refused → Type 0
Takes before octets f taken after r = (received_of r ≡ fields_answer before octets f taken) × (after ≡ fields_next before octets f)

-- by the identifier that stands in front of the keys

abbrev pub keys_place : (block : List ℕ) → ReadKeys → ℕ
keys_place s k = place_of_identifier s (part_in k.octets.now identifier_bounds)

abbrev pub keys_verdict : (block : List ℕ) → ReadKeys → Verdict
keys_verdict s k = Table.keys_verdict s (part_in k.octets.now identifier_bounds) k.profile k.lengths
