-- The numbers of the kinds of answers: docs/RELAY.md, "Answers".
use Rattle.std.specs.Prelude.{ℕ}
use Rattle.service.specs.Request.{unknown_kind, too_long_kind, misshapen_kind}
use Rattle.service.specs.declared.answer_kind.AnswerKind.{AnswerKind}
use Rattle.service.specs.declared.answer_kind.AnswerKind.TheVariants.{MoreNeeded, Refused, Written, Placed, Ended, Found, KeysStored, Delivery, Removed, Version, Page, Unknown, TooLong, Misshapen}

abbrev pub number_of : AnswerKind → ℕ
number_of MoreNeeded = 0
number_of Refused = 1
number_of Written = 2
number_of Placed = 3
number_of Ended = 4
number_of Found = 5
number_of KeysStored = 6
number_of Delivery = 7
number_of Removed = 8
number_of Version = 9
number_of Page = 10
number_of Unknown = unknown_kind
number_of TooLong = too_long_kind
number_of Misshapen = misshapen_kind
