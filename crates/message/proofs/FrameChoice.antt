-- Which of the two framings a type octet chooses.
use Prim.Native.Nat.{ℕ, ◌<◌}
use mathlib.Core.Path.{◌≡◌, refl}
use mathlib.Core.List.{List}
use lib.ListN.{length}
use lib.Dec.{eqb}
use borrow.Author.Tests.{lt-ltb, eq-eqb, ne_eqb}
use Rattle.octets.specs.Number.{octet_at}
use Rattle.octets.proofs.Tests.{by_choice}
use Rattle.message.specs.Limits.{header}
use Rattle.message.specs.Frame.{Framing, more_needed, version_frame, plain_frame, frame}

-- either asks for a whole header
pub by_neither : (s : List ℕ) → length s < header → more_needed ≡ frame s
unfolding frame version_frame plain_frame
by_neither s h = rw (lt-ltb _ _ h) (by_choice (λ (f : Framing). more_needed ≡ f) (eqb (octet_at s 0) 2) _ _ (λ _. refl) (λ _. refl))

pub by_version : (s : List ℕ) → octet_at s 0 ≡ 2 → version_frame s ≡ frame s
unfolding frame
by_version s h = rw (eq-eqb _ _ h)

pub by_plain : (s : List ℕ) → (octet_at s 0 ≡ 2 → ⊥) → plain_frame s ≡ frame s
unfolding frame
by_plain s h = rw (ne_eqb _ _ h)
