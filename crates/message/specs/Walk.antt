-- A walk over a body, field by field: it stands still at the first field that is missing, cut short or outside its lengths (document 01, "Tunnel messages").
use Rattle.std.specs.Prelude.{ℕ, ◌+◌, ◌%◌, Bool, true, false, cond, ◌&&◌, List, length, leb, eqb, Result, Ok, Err}
use Rattle.octets.specs.Number.{octet_at, number16_at}

-- whether every field so far was good, and the offset in the body where the walk stands
pub record Walk : Type 0 where
  pub good : Bool
  pub at : ℕ

abbrev pub walk_at : Bool → ℕ → Walk
walk_at good at = record { good = good; at = at }

abbrev pub begin : Walk
begin = walk_at true 0

-- past n octets where all was good, these are and they end within the body; else it stands still
unfoldable pub past : (body_length : ℕ) (good : Bool) (n : ℕ) → Walk → Walk
past body_length good n w =
    cond (w.good && good && leb (w.at + n) body_length) (walk_at true (w.at + n)) (walk_at false w.at)

-- a field of n octets
unfoldable pub fixed : List ℕ → ℕ → Walk → Walk
fixed body n w = past (length body) true n w

-- a field of at least so many octets behind one length octet, and one of at least one octet behind two
unfoldable pub field8 : List ℕ → (least : ℕ) → Walk → Walk
field8 body least w = past (length body) (leb least (octet_at body w.at)) (1 + octet_at body w.at) w

unfoldable pub field16 : List ℕ → Walk → Walk
field16 body w = past (length body) (leb 1 (number16_at body w.at)) (2 + number16_at body w.at) w

-- a profile list: of even length, at least one profile
unfoldable pub profile_list : List ℕ → Walk → Walk
profile_list body w =
    past (length body) (leb 1 (number16_at body w.at) && eqb (number16_at body w.at % 2) 0) (2 + number16_at body w.at) w

-- every field was good, and the body ends where the last one ends
unfoldable pub complete : List ℕ → Walk → Bool
complete body w = w.good && eqb w.at (length body)

-- the walk that each case of a result stands for
abbrev pub walk_of : Result ℕ ℕ → Walk
walk_of (Ok at) = walk_at true at
walk_of (Err at) = walk_at false at
