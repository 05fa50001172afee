use mathlib.Core.Path.{refl, sym, ◌∙◌}
use borrow.Author.Tests.{lt-ltb, le-ltb}
use Rattle.block.proofs.InTableLaws.{there, not_there}
use Rattle.distributor.proofs.opening.taken.Goals as goal

pub returns-in-Some : goal.returns-in-Some
returns-in-Some c = rw (lt-ltb _ _ (there _ _ (sym c.place_of_identifier.ensures ∙ c.in-Some.is)).0) refl

pub returns-in-None : goal.returns-in-None
returns-in-None c = rw (le-ltb _ _ (not_there _ (sym c.place_of_identifier.ensures ∙ c.in-None.is))) refl
