-- What sorting a packet answers, as a number: document 01, "Sorting a packet", and document 02, order 3. A number that was given stays; a new kind gets the next.
use Rattle.std.specs.Prelude.{ℕ}
use Rattle.demux.specs.Sorting.{Answer, refused, kind}
use Rattle.demux.specs.declared.sorting.Kind.{Kind}
use Rattle.shawm.specs.Refusal.{refusal}

abbrev pub kind_number : Kind → ℕ
kind_number Kind.Stun = 0
kind_number Kind.Dtls = 1
kind_number Kind.Rtp = 2
kind_number Kind.Other = 3
kind_number Kind.Zrtp = 4
kind_number Kind.TurnChannel = 5

abbrev pub sort_number : Answer → ℕ
sort_number (refused number) = refusal number
sort_number (kind k) = kind_number k
