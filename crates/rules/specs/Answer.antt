-- What calls answer: the documents' numbers and values. Of the table only place numbers are here, of openings and in a page.
use Rattle.std.specs.Prelude.{ℕ, List}
use Rattle.octets.specs.declared.parts.Bounds.{Bounds}
use Rattle.status.specs.declared.entry.Entry.{Entry}
use Rattle.rules.specs.Keys.{Keys}
use Rattle.rules.specs.Verdict.{Verdict, allowed, refusal}

-- an association as Look gives it
pub data Association : Type 0 where
  opened : (identifier : List ℕ) (endpoint : ℕ) → Association
  keyed : (identifier : List ℕ) (endpoint : ℕ) → Keys → Association

pub data Answer : Type 0 where
  refused : (number taken : ℕ) → Answer
  more_needed : Answer
  -- the octets that are written
  wrote : (octets : List ℕ) → Answer
  -- the place that an opening takes
  placed : (place : ℕ) → Answer
  ended : Answer
  found : Association → Answer
  -- by the endpoint of the association that the message names; of a removal, the one that it had
  keys_stored : (endpoint taken : ℕ) → Answer
  -- where the DTLS octets stand in the lent octets
  delivery : (endpoint : ℕ) (dtls : Bounds) (taken : ℕ) → Answer
  removed : (endpoint taken : ℕ) → Answer
  version : (number taken : ℕ) → Answer
  -- the entries of the page that is written
  page : (entries : List Entry) → Answer

-- what is so of a refusal, of "more needed", of a place, of a delivery and of a page, and what of any other answer, by the octets taken, 0 where there are none
abbrev pub by_answer {ℓ} : {X : Type ℓ}
    → (of_refused : (number taken : ℕ) → X) (of_more_needed : X) (of_placed : (place : ℕ) → X) (of_delivered : (endpoint : ℕ) (dtls : Bounds) (taken : ℕ) → X) (of_page : (entries : List Entry) → X) (of_other : (taken : ℕ) → X)
    → Answer → X
by_answer r m p d g o (refused number taken) = r number taken
by_answer r m p d g o more_needed = m
by_answer r m p d g o (wrote octets) = o 0
by_answer r m p d g o (placed place) = p place
by_answer r m p d g o ended = o 0
by_answer r m p d g o (found a) = o 0
by_answer r m p d g o (keys_stored endpoint taken) = o taken
by_answer r m p d g o (delivery endpoint dtls taken) = d endpoint dtls taken
by_answer r m p d g o (removed endpoint taken) = o taken
by_answer r m p d g o (version number taken) = o taken
by_answer r m p d g o (page entries) = g entries

-- what is so of a delivery, and what of all else
abbrev pub of_delivery {ℓ} : {X : Type ℓ} → Answer → ((endpoint : ℕ) (dtls : Bounds) (taken : ℕ) → X) → X → X
of_delivery a x y = by_answer (λ number taken. y) y (λ place. y) x (λ entries. y) (λ taken. y) a

-- an answer where the call is allowed, or its refusal
abbrev pub answered : Verdict → (taken : ℕ) → Answer → Answer
answered allowed taken a = a
answered (refusal number) taken a = refused number taken
