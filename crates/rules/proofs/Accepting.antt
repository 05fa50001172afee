-- The conjunctions of single tests that the cards go by are what the orders of refusals allow.
use Prim.Native.Nat.{ℕ}
use mathlib.Core.Path.{◌≡◌, refl}
use mathlib.Core.Bool.{Bool, true, false, not, ◌&&◌}
use Rattle.octets.proofs.Tests.{false_true}
use Rattle.rules.specs.Verdict.{Verdict, allowed, refusal, refuse, after}
use Rattle.rules.specs.Orders.{start_order, open_order, close_order, keys_order}

abbrev pub accepts : Verdict → Bool
accepts allowed = true
accepts (refusal number) = false

-- by cases on a verdict
pub by_verdict : {X : Type 0} (P : X → Type 0) (w : Verdict) (x y : X) → (accepts w ≡ true → P x) → (accepts w ≡ false → P y) → P (after w x y)
by_verdict P allowed x y f g = f refl
by_verdict P (refusal number) x y f g = g refl

-- where a call is allowed its first test fails, and the rest allow it
pub passes : (b : Bool) (n : ℕ) (w : Verdict) → accepts (refuse b n w) ≡ true → (b ≡ false) × (accepts w ≡ true)
passes true n w h = absurd (false_true h)
passes false n w h = (refl, h)

-- ---- the conjunctions, and the orders over the same tests

pub start_accepts : (up good no_room : Bool) → (not up && good && not no_room) ≡ accepts (start_order up (not good) no_room)
start_accepts true good no_room = refl
start_accepts false false no_room = refl
start_accepts false true true = refl
start_accepts false true false = refl

pub open_accepts : (wrong up known busy full : Bool)
    → (not wrong && up && not known && not busy && not full) ≡ accepts (open_order (not up) wrong known busy full)
open_accepts true true known busy full = refl
open_accepts true false known busy full = refl
open_accepts false false known busy full = refl
open_accepts false true true busy full = refl
open_accepts false true false true full = refl
open_accepts false true false false true = refl
open_accepts false true false false false = refl

-- of an identifier that is live, 1 and 13 are left
pub close_accepts : (up no_room : Bool) → (up && not no_room) ≡ accepts (close_order (not up) false false no_room)
close_accepts false no_room = refl
close_accepts true true = refl
close_accepts true false = refl

pub keys_accepts : (known listed fit short : Bool) → (known && listed && fit && short) ≡ accepts (keys_order (not known) (not listed) (not fit) (not short))
keys_accepts false listed fit short = refl
keys_accepts true false fit short = refl
keys_accepts true true false short = refl
keys_accepts true true true false = refl
keys_accepts true true true true = refl
