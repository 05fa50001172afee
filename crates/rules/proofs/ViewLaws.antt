-- The theorems of the view: each call on a legal block is the call on its view, and a legal block stays legal.
use Prim.Native.Nat.{ℕ}
use mathlib.Core.Path.{◌≡◌}
use mathlib.Core.List.{List}
use Rattle.rules.specs.Call.{Call}
use Rattle.rules.specs.Layout.{down_block}
use Rattle.rules.specs.Table.{step, answer}
use Rattle.rules.specs.View.{view}
use Rattle.rules.specs.ViewSteps.{down_view, view_step, view_answer}
use Rattle.rules.proofs.Legal.{Legal}
use Rattle.rules.proofs.Seen.{down_seen}
use Rattle.rules.proofs.ViewNext.{step_seen}
use Rattle.rules.proofs.ViewAnswers.{call_answer}

pub legal_down : Legal down_block
legal_down = down_seen.legal

pub view_down : view down_block ≡ down_view
view_down = down_seen.is

module _ (s : List ℕ) (l : Legal s) (c : Call) where
  pub legal_step : Legal (step s c)
  legal_step = (step_seen s l c).legal

  pub view_step_lem : view (step s c) ≡ view_step (view s) c
  view_step_lem = (step_seen s l c).is

  pub view_answer_lem : answer s c ≡ view_answer (view s) c
  view_answer_lem = call_answer s l c
