-- What a good walk says: it came from a good walk, and every test on its way held.
use Prim.Native.Nat.{ℕ, ◌+◌, ◌≤◌}
use mathlib.Core.Path.{◌≡◌, refl}
use mathlib.Core.Bool.{Bool, true, ◌&&◌}
use mathlib.Core.List.{List}
use lib.ListN.{length}
use lib.Dec.{leb, eqb}
use borrow.Author.Tests.{leb-true, eqb-true}
use Rattle.octets.proofs.Tests.{by_choice, both, false_true}
use Rattle.message.specs.Walk.{Walk, past, complete}

-- the walk v is the walk w past n octets
pub record Past (body_length : ℕ) (good : Bool) (n : ℕ) (w v : Walk) : Type 0 where
  pub before : w.good ≡ true
  pub test : good ≡ true
  pub inside : w.at + n ≤ body_length
  pub offset : v.at ≡ w.at + n

pub past_says : (body_length : ℕ) (good : Bool) (n : ℕ) (w : Walk)
    → (past body_length good n w).good ≡ true → Past body_length good n w (past body_length good n w)
unfolding past
past_says body_length good n w =
    by_choice (λ v. v.good ≡ true → Past body_length good n w v) (w.good && good && leb (w.at + n) body_length) _ _
    (λ e _.
    let a = both (w.good && good) (leb (w.at + n) body_length) e in
    let b = both w.good good a.0 in
    record { before = b.0; test = b.1; inside = leb-true _ _ a.1; offset = refl })
    (λ _ h. absurd (false_true h))

pub complete_says : (body : List ℕ) (w : Walk) → complete body w ≡ true → (w.good ≡ true) × (w.at ≡ length body)
unfolding complete
complete_says body w h =
    let p = both w.good (eqb w.at (length body)) h in
    (p.0, eqb-true _ _ p.1)
