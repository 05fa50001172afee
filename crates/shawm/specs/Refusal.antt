-- A refusal as an answer of 32 bits: the top bit, and document 01's number in the low octet ("Refusal numbers").
use Rattle.std.specs.Prelude.{ℕ, ◌+◌, ◌^◌, Result, Ok, Err}
use Rattle.octets.specs.Refusal.{number_of}
use Rattle.octets.specs.declared.refusal.Refusal.{Refusal}

abbrev pub top_bit : ℕ
top_bit = 2 ^ 31

abbrev pub refusal : (number : ℕ) → ℕ
refusal number = top_bit + number

-- a count, or the refusal
abbrev pub count_or_refused : Result ℕ Refusal → ℕ
count_or_refused (Ok count) = count
count_or_refused (Err r) = refusal (number_of r)
