-- The sizes of RFC 3711, section 3.3.1: a sequence number has 16 bits and a ROC 32, so an index has 48.
use Rattle.std.specs.Prelude.{ℕ}

-- how many sequence numbers there are, and so how many indices under one ROC
abbrev pub sequence_count : ℕ
sequence_count = 65536

-- half of that
abbrev pub half_way : ℕ
half_way = 32768

-- how many ROCs there are, 2^32
abbrev pub roc_count : ℕ
roc_count = 4294967296
