-- The number that sorting answers tells the kind, and so the range of the first octet.
use Prim.Native.Nat.{ℕ}
use mathlib.Core.Path.{◌≡◌, refl, sym, ap, ◌∙◌}
use mathlib.Core.Bool.{cond}
use lib.Dec.{eqb}
use Rattle.demux.specs.Sorting as Sort
use Rattle.demux.specs.declared.sorting.Kind.{Kind}
use Rattle.demux.proofs.Ranges.{ranges}
use Rattle.shawm.specs.Sorting.{kind_number}
use Rattle.shawm.specs.Claims.{Tells, SortNumbers}

-- the way back from kind_number
abbrev kind_with : (number : ℕ) → Kind
kind_with number =
    cond (eqb number 0) Kind.Stun
    (cond (eqb number 1) Kind.Dtls
    (cond (eqb number 2) Kind.Rtp
    (cond (eqb number 3) Kind.Other
    (cond (eqb number 4) Kind.Zrtp
    Kind.TurnChannel))))

back : (k : Kind) → kind_with (kind_number k) ≡ k
back Kind.Stun = refl
back Kind.Zrtp = refl
back Kind.Dtls = refl
back Kind.TurnChannel = refl
back Kind.Rtp = refl
back Kind.Other = refl

tells : (k : Kind) → Tells (kind_number k) k
unfolding Sort.sorting
tells k first rest = (
  λ e. (ranges.exactly k first).0 (sym (back (Sort.kind_of first)) ∙ ap kind_with e ∙ back k),
  λ h. ap kind_number ((ranges.exactly k first).1 h),
)

pub sort_numbers : SortNumbers
sort_numbers = record {
  stun = tells Kind.Stun;
  dtls = tells Kind.Dtls;
  rtp = tells Kind.Rtp;
  other = tells Kind.Other;
  zrtp = tells Kind.Zrtp;
  turn_channel = tells Kind.TurnChannel;
}
