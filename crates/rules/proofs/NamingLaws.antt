-- Laws of the identifiers that openings have named: each stands there once.
use Prim.Native.Nat.{ℕ}
use mathlib.Core.Path.{◌≡◌, refl}
use mathlib.Core.Bool.{Bool, cond, not, ◌&&◌}
use mathlib.Core.List.Memᴰ
use mathlib.Core.List.{List, [], ◌∷◌, Memᴰ}
use borrow.Author.Tests.{eq-eqb, not-true}
use lib.ListN.{length}
use Rattle.octets.specs.Part.{same}
use Rattle.octets.proofs.SameLaws.{same_refl, same_true}
use Rattle.octets.proofs.Tests.{by_choice, both}
use Rattle.message.specs.Limits.{width}
use Rattle.rules.specs.Search.{some_of, Distinct}
use Rattle.rules.specs.Refusals.{wrong_width}
use Rattle.rules.specs.Cards.{naming}
use Rattle.rules.proofs.Choices.{no_both, by_test}
use Rattle.rules.proofs.KeepLaws.{found_some, first_found}

module _ (i : List ℕ) (is : List (List ℕ)) where
  abbrev is_new : Bool
  is_new = not (wrong_width i) && not (some_of (same i) is)

  pub naming_more : (j : List ℕ) → Memᴰ j is → Memᴰ j (naming i is)
  naming_more j m = by_choice (λ (l : List (List ℕ)). Memᴰ j l) is_new _ _ (λ e. Memᴰ.tail m) (λ e. m)

  pub naming_once : Distinct is → Distinct (naming i is)
  naming_once o =
      by_choice Distinct is_new _ _
      (λ e. ((λ m. no_both (found_some (same i) m (same_refl i)) (not-true _ (both (not (wrong_width i)) _ e).1)), o))
      (λ e. o)

  pub naming_here : length i ≡ width → Memᴰ i (naming i is)
  naming_here w =
      rw (eq-eqb (length i) width w)
      (by_test (λ b. Memᴰ i (cond (not b) (i ∷ is) is)) (some_of (same i) is)
      (λ e. let r = first_found (same i) [] is e in Memᴰ.cast (same_true i _ r.1) r.0)
      (λ e. Memᴰ.head refl))
