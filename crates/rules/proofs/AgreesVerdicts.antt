-- Each call's verdict on the view, by the cards' tests.
use Prim.Native.Nat.{ℕ}
use mathlib.Core.Path.{◌≡◌, ap}
use mathlib.Core.Bool.{not}
use mathlib.Core.List.{List}
use Rattle.message.specs.Message.{endpoint_disconnect}
use Rattle.message.specs.Profiles.{in_list, keys_fit, mki_and_salts_fit}
use Rattle.message.specs.Keys.{KeyLengths}
use Rattle.rules.specs.Tunnel.{is_up, list_in}
use Rattle.rules.specs.Refusals.{wrong_width, no_room}
use Rattle.rules.specs.View.{View}
use Rattle.rules.specs.Cards.{Cards, filled, endpoint_live, all_live}
use Rattle.rules.specs.ViewSteps.{is_down, open_verdict, close_verdict, keys_verdict}
use Rattle.rules.specs.Orders.{open_order, close_order, keys_order}
use Rattle.rules.proofs.Agrees.{Agrees}
use Rattle.rules.proofs.AgreesSays.{known_is, busy_is, full_is}

module _ {v : View} {cards : Cards} (g : Agrees v cards) where
  pub up_is : (i : List ℕ) → is_up (cards.card i).tunnel ≡ is_up v.tunnel
  up_is i = ap is_up (g.tunnel i)

  pub open_is : (i : List ℕ) (e : ℕ) → open_verdict v i e ≡ open_order (is_down v) (wrong_width i) (filled (cards.card i).held) (endpoint_live cards e) (all_live cards)
  unfolding open_verdict
  open_is i e = rw (known_is g i, busy_is g e, full_is g)

  pub close_is : (i : List ℕ) (room : ℕ)
      → close_verdict v i room ≡ close_order (is_down v) (wrong_width i) (not (filled (cards.card i).held)) (no_room (endpoint_disconnect i) room)
  unfolding close_verdict
  close_is i room = rw (known_is g i)

  pub keys_is : (i : List ℕ) (profile : ℕ) (k : KeyLengths)
      → keys_verdict v i profile k
      ≡ keys_order (not (filled (cards.card i).held)) (not (in_list profile (list_in v.tunnel))) (not (keys_fit profile k)) (not (mki_and_salts_fit k))
  unfolding keys_verdict
  keys_is i profile k = rw (known_is g i)
