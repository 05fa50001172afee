-- What reading a status page answers, as numbers: document 02, order 1.
use Rattle.std.specs.Prelude.{ℕ, ◌+◌, ◌*◌}
use Rattle.status.specs.Entries.{state_of}
use Rattle.status.specs.Page.{Counted, Picked}
use Rattle.shawm.specs.Refusal.{refusal}

-- the number of entries, or the refusal
abbrev pub count_number : Counted → ℕ
count_number (Counted.refused number) = refusal number
count_number (Counted.entries count) = count

-- an entry's place and its state, 1 where it is keyed; or the refusal
abbrev pub entry_number : Picked → ℕ
entry_number (Picked.refused number) = refusal number
entry_number (Picked.entry e) = e.place * 2 + state_of e.keyed

-- an entry's endpoint, 0 where there is none
abbrev pub endpoint_number : Picked → ℕ
endpoint_number (Picked.refused number) = 0
endpoint_number (Picked.entry e) = e.endpoint
