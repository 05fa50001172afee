-- A search past places that do not pass finds the one behind them; and the identifiers of places differ.
use Prim.Native.Nat.{ℕ, zero, suc, ◌-◌, ◌≤◌}
use mathlib.Core.Path.{◌≡◌, refl, sym, ap, ◌∙◌}
use mathlib.Core.Bool.{Bool, true, false}
use mathlib.Core.List.{List, [], ◌∷◌, ◌++◌}
use mathlib.Core.Option.{some, none}
use native.Mathlib.Omega.{arith}
use lib.ListN.{length, get_or, replicate}
use lib.Seq.{get_or_at, set_at}
use Rattle.octets.specs.Part.{same}
use Rattle.octets.proofs.SameLaws.{same_apart}
use Rattle.message.specs.Limits.{width}
use Rattle.rules.specs.Search.{first, some_of}
use Rattle.rules.specs.Answer.{Association}
use Rattle.rules.specs.Tunnel.{up_with}
use Rattle.rules.specs.View.{AtPlace, View, identifier_in, is_for}
use Rattle.rules.specs.ViewSteps.{association_at, first_with, set_first, has}
use Rattle.rules.specs.Reaching.{identifier_for, profiles}
use Rattle.rules.proofs.Cases.{either_false}

-- ---- a search

module _ {A : Type 0} (p : A → Bool) where
  pub some_behind : (before l : List A) → some_of p before ≡ false → some_of p (before ++ l) ≡ some_of p l
  unfolding some_of
  some_behind [] l h = refl
  some_behind (x ∷ before) l h = let n = either_false (p x) (some_of p before) h in rw n.0 (some_behind before l n.1)

  first_behind : (before : List A) (x : A) (l : List A) → some_of p before ≡ false → p x ≡ true → first p (before ++ x ∷ l) ≡ length before
  unfolding first some_of
  first_behind [] x l h e = rw e
  first_behind (y ∷ before) x l h e = let n = either_false (p y) (some_of p before) h in rw n.0 (ap suc (first_behind before x l n.1 e))

  pub none_more : (before : List A) (x : A) → some_of p before ≡ false → p x ≡ false → some_of p (before ++ (x ∷ [])) ≡ false
  unfolding some_of
  none_more before x h e = some_behind before (x ∷ []) h ∙ rw e

  pub none_equal : (n : ℕ) (x : A) → p x ≡ false → some_of p (replicate n x) ≡ false
  unfolding some_of
  none_equal zero x e = refl
  none_equal (suc n) x e = rw e (none_equal n x e)

-- ---- a table, where the tunnel is up with the list of calls_for

abbrev pub view_of : List AtPlace → View
view_of table = record { tunnel = up_with profiles; table = table }

-- the places before one do not pass, and this one does
module _ (p : AtPlace → Bool) (before : List AtPlace) (x : AtPlace) (behind : List AtPlace) (h : some_of p before ≡ false) (e : p x ≡ true) where
  abbrev here : View
  here = view_of (before ++ x ∷ behind)

  pub has_here : has p here ≡ true
  unfolding some_of
  has_here = some_behind p before (x ∷ behind) h ∙ rw e

  at_here : first p (before ++ x ∷ behind) ≡ length before
  at_here = first_behind p before x behind h e

  pub with_here : first_with p here ≡ association_at x
  with_here = ap association_at (get_or_at before x behind _ _ (sym at_here))

  pub set_here : (new : AtPlace) → set_first p new here ≡ view_of (before ++ new ∷ behind)
  set_here new = ap view_of (set_at before x behind new _ (sym at_here))

-- ---- identifiers

pub identifier_wide : (place : ℕ) → length (identifier_for place) ≡ width
identifier_wide place = refl

last_octet : (place : ℕ) → get_or (identifier_for place) (width - 1) 0 ≡ place
last_octet place = refl

identifiers_differ : (place other : ℕ) → (place ≡ other → ⊥) → same (identifier_for place) (identifier_for other) ≡ false
identifiers_differ place other h =
    same_apart (λ (i : List ℕ). get_or i (width - 1) 0) (identifier_for place) (identifier_for other)
    (λ e. h (sym (last_octet place) ∙ e ∙ last_octet other))

-- of these places none has the identifier of a place from one on
abbrev pub Unknown : (from : ℕ) → List AtPlace → Type 0
Unknown from l = (place : ℕ) → from ≤ place → some_of (is_for (identifier_for place)) l ≡ false

module _ (from : ℕ) (l : List AtPlace) (u : Unknown from l) where
  pub unknown_vacant : Unknown (suc from) (l ++ (none ∷ []))
  unknown_vacant place h = none_more (is_for (identifier_for place)) l none (u place (omega arith)) refl

  pub unknown_live : (a : Association) → identifier_in a ≡ identifier_for from → Unknown (suc from) (l ++ (some a ∷ []))
  unknown_live a e place h =
      none_more (is_for (identifier_for place)) l (some a) (u place (omega arith)) (rw e (identifiers_differ from place (λ q. omega arith)))
