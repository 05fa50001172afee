-- What the steps of writing promise: a piece at an offset, and the answer to a message by the lengths of its fields.
use Rattle.std.specs.Prelude.{ℕ, ◌+◌, ◌≤◌, ◌≡◌, Bool, true, false, cond, not, List, length, Option, Some, None}
use Rattle.octets.specs.Write.{put, put_end}
use Rattle.message.specs.Limits.{header}
use Rattle.message.specs.Write.{Answer, refused, fitting}

-- where there is room for a piece it is written, and the answer is the offset behind it
abbrev pub Puts : (before : List ℕ) (at : ℕ) (piece : List ℕ) (r : ℕ) (after : List ℕ) → Type 0
Puts before at piece r after = at + length piece ≤ length before → (r ≡ put_end before at piece) × (after ≡ put before at piece)

-- the earliest refusal, by whether the identifier and the fields fit and by the body's length, or the message's length
abbrev pub answer_by : (identifier fields : Bool) (body_length room : ℕ) → Answer
answer_by identifier fields body_length room =
    cond (not identifier) (refused 20)
    (cond (not fields) (refused 5)
    (fitting body_length (header + body_length) room))

-- the same by the length of a body, none where its fields don't fit
abbrev pub answer_for : (identifier : Bool) → (body_length : Option ℕ) → (room : ℕ) → Answer
answer_for identifier None room = answer_by identifier false 0 room
answer_for identifier (Some n) room = answer_by identifier true n room
