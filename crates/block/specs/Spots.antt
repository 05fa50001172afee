-- What the answer of a search in the index means.
use Rattle.std.specs.Prelude.{ℕ, Result, Ok, Err}
use Rattle.rules.specs.Halving as Spec

abbrev pub spot_of : Result ℕ ℕ → Spec.Spot
spot_of (Ok at) = Spec.here at
spot_of (Err at) = Spec.missing at
