-- Laws of the walk over a good body: it goes past every field, and reads it.
use Prim.Native.Nat.{ℕ, ◌+◌, ◌%◌, ◌≤◌}
use mathlib.Core.Path.{◌≡◌, refl}
use mathlib.Core.Bool.{true}
use mathlib.Core.List.{List, [], ◌∷◌, ◌++◌}
use native.Mathlib.Omega.{arith}
use lib.ListN.{length}
use borrow.Author.Tests.{le-leb, eq-eqb}
use Rattle.octets.specs.Number.{octet_at, number16_at, octets16}
use Rattle.message.specs.Limits.{most16}
use Rattle.message.specs.Message.{vector8, vector16}
use Rattle.message.specs.Walk.{walk_at, past, fixed, field8, field16, profile_list, complete}
use Rattle.octets.proofs.HoldLaws.{Holds, holds_two, holds_within, holds_octet, holds_number}

pub past_good : (body_length n at : ℕ) → at + n ≤ body_length → past body_length true n (walk_at true at) ≡ walk_at true (at + n)
unfolding past
past_good body_length n at h = rw (le-leb _ _ h)

pub fixed_good : {body x : List ℕ} {at : ℕ} → Holds body x at → (n : ℕ) → length x ≡ n → fixed body n (walk_at true at) ≡ walk_at true (at + n)
unfolding fixed
fixed_good {body} {x} {at} h n e = past_good (length body) n at (omega (arith, holds_within h))

pub complete_good : (body : List ℕ) (at : ℕ) → at ≡ length body → complete body (walk_at true at) ≡ true
unfolding complete
complete_good body at e = rw (eq-eqb _ _ e)

-- ---- a field x behind one length octet, with y behind it

pub record Field8 (body x y : List ℕ) (at least : ℕ) : Type 0 where
  pub walk : field8 body least (walk_at true at) ≡ walk_at true (at + (1 + length x))
  pub says : octet_at body at ≡ length x
  pub held : Holds body x (at + 1)
  pub next : Holds body y (at + (1 + length x))

pub field8_good : {body : List ℕ} {at : ℕ} (x y : List ℕ) (least : ℕ) → Holds body (vector8 x ++ y) at → least ≤ length x → Field8 body x y at least
unfolding field8
field8_good {body} {at} x y least h k =
    let o = holds_octet h in
    let v = holds_two (vector8 x) y h (at + (1 + length x)) (omega arith) in
    record {
      walk = rw (o, le-leb _ _ k) (past_good (length body) (1 + length x) at (omega (arith, holds_within v.0)));
      says = o;
      held = (holds_two (length x ∷ []) x v.0 (at + 1) refl).1;
      next = v.1;
    }

-- ---- a field x behind two length octets

pub record Field16 (body x : List ℕ) (at : ℕ) : Type 0 where
  pub walk : field16 body (walk_at true at) ≡ walk_at true (at + (2 + length x))
  pub list : length x % 2 ≡ 0 → profile_list body (walk_at true at) ≡ walk_at true (at + (2 + length x))
  pub says : number16_at body at ≡ length x
  pub held : Holds body x (at + 2)

pub field16_good : {body : List ℕ} {at : ℕ} (x : List ℕ) → Holds body (vector16 x) at → 1 ≤ length x → length x ≤ most16 → Field16 body x at
unfolding field16 profile_list
field16_good {body} {at} x h some most =
    let n = holds_number (length x) x h (omega arith) in
    let go = past_good (length body) (2 + length x) at (omega (arith, holds_within h)) in
    record {
      walk = rw (n, le-leb _ _ some) go;
      list = λ even. rw (n, le-leb _ _ some, eq-eqb _ _ even) go;
      says = n;
      held = (holds_two (octets16 (length x)) x h (at + 2) refl).1;
    }
