-- Splitting refuses exactly when no tag of the grammar ends the packet.
use Prim.Native.Nat.{ℕ}
use mathlib.Core.Path.{◌≡◌, ap}
use mathlib.Core.List.{List, ◌++◌}
use Rattle.octets.specs.Number.{Octets}
use Rattle.octets.specs.Part.{part}
use Rattle.ekt.specs.Grammar
use Rattle.ekt.specs.Grammar.{IsTag, short_tag, full_tag, extension_tag}
use Rattle.ekt.specs.Splitting.{Split, refused, short, full, extension, splitting}
use Rattle.ekt.proofs.Built.{short_splits, full_splits, extension_splits}
use Rattle.ekt.specs.Claims.{Says, Ends}
use Rattle.ekt.proofs.Accepted.{split_says}

-- where a tag ends the packet, the packet is not refused
pub refused_none : (f t : List ℕ) → IsTag t → splitting (f ++ t) ≡ refused 18 → ⊥
refused_none f t Grammar.short h = cc (short_splits f).answer
refused_none f t (Grammar.full c spi epoch h1 h2 h3 h4) h = cc (full_splits f c spi epoch h1 h2 h3 h4).answer
refused_none f t (Grammar.extension message_type d h1 h2 h3 h4) h =
    cc (extension_splits f d message_type h1 h2 h3 h4).answer

-- where none does, it is refused
pub none_refused : (p : List ℕ) → Octets p → ((f t : List ℕ) → IsTag t → f ++ t ≡ p → ⊥) → splitting p ≡ refused 18
none_refused p o none = go (splitting p) (split_says p o)
  where
    ends : (start : ℕ) (tag : List ℕ) → Ends p start tag → ⊥
    ends start tag e = none (part p 0 start) tag e.is_tag e.whole

    go : (s : Split) → Says p s → s ≡ refused 18
    go (refused number) e = ap refused e
    go (short start) e = absurd (ends start _ e)
    go (full spi epoch start end) e = absurd (ends start _ e)
    go (extension message_type start end) e = absurd (ends start _ e)
