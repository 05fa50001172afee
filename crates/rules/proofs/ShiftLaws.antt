-- Laws of octets moved up or down within a list.
use Prim.Native.Nat.{ℕ, ◌+◌, ◌-◌, ◌≤◌}
use mathlib.Core.Path.{◌≡◌, sym, ap, ◌∙◌}
use mathlib.Core.List.{List, ◌++◌, append_assoc}
use native.Mathlib.Omega.{arith}
use lib.ListN.{length, take, drop, length-append, length-drop, take-append-drop}
use lib.Seq.{take_at, drop_at, length-take-le}
use Rattle.octets.specs.Part.{part}
use Rattle.octets.specs.Write.{over}
use Rattle.octets.proofs.PartLaws.{part_behind}
use Rattle.rules.specs.Index.{entered, withdrawn}

-- octets instead of as many
pub over_at : (x y r q : List ℕ) (at : ℕ) → length x ≡ at → length y ≡ length q → over (x ++ (y ++ r)) at q ≡ x ++ (q ++ r)
over_at x y r q at e f =
    let l : length (x ++ y) ≡ at + length q = length-append x y ∙ omega arith in
    let a : drop (at + length q) (x ++ (y ++ r)) ≡ r = ap (drop (at + length q)) (sym (append_assoc x y r)) ∙ drop_at (x ++ y) r (at + length q) l in
    rw (take_at x (y ++ r) at e, a) (append_assoc x q r)

-- two neighbours that are cut at another offset
record Cut (a b : List ℕ) (n : ℕ) : Type 0 where
  low : List ℕ
  high : List ℕ
  whole : (r : List ℕ) → a ++ (b ++ r) ≡ low ++ (high ++ r)
  lows : length low ≡ n
  highs : length high ≡ length a + length b - n

cut : (a b : List ℕ) (n : ℕ) → n ≤ length a + length b → Cut a b n
cut a b n h = record {
  low = take n (a ++ b);
  high = drop n (a ++ b);
  whole = λ r. sym (append_assoc a b r) ∙ ap (λ (l : List ℕ). l ++ r) (sym (take-append-drop n (a ++ b))) ∙ append_assoc (take n (a ++ b)) (drop n (a ++ b)) r;
  lows = length-take-le n (a ++ b) (rw (length-append a b) h);
  highs = length-drop n (a ++ b) ∙ ap (λ (i : ℕ). i - n) (length-append a b);
}

module _ (x r q : List ℕ) (from to : ℕ) (e : length x ≡ from) where
  pub entered_at : (b z : List ℕ) → from + length b ≡ to → length z ≡ length q → entered (x ++ (b ++ (z ++ r))) from to q ≡ x ++ (q ++ (b ++ r))
  unfolding entered
  entered_at b z f g =
      let k = cut b z (length q) (omega arith) in
      let p : part (x ++ (b ++ (z ++ r))) from to ≡ b = part_behind x b (z ++ r) from to e f in
      let l : length (x ++ k.low) ≡ from + length q = length-append x k.low ∙ omega (arith, k.lows) in
      let w : x ++ (b ++ (z ++ r)) ≡ (x ++ k.low) ++ (k.high ++ r) = ap (λ (y : List ℕ). x ++ y) (k.whole r) ∙ sym (append_assoc x k.low (k.high ++ r)) in
      let o : over (x ++ (b ++ (z ++ r))) (from + length q) b ≡ x ++ (k.low ++ (b ++ r)) =
      ap (λ (y : List ℕ). over y (from + length q) b) w ∙ over_at (x ++ k.low) k.high r b (from + length q) l (omega (arith, k.highs)) ∙ append_assoc x k.low (b ++ r) in
      ap (λ (y : List ℕ). over (over (x ++ (b ++ (z ++ r))) (from + length q) y) from q) p
      ∙ ap (λ (y : List ℕ). over y from q) o
      ∙ over_at x k.low (b ++ r) q from e k.lows

  pub withdrawn_at : (b w : List ℕ) → from + length q + length b ≡ to → length w ≡ length q → withdrawn (x ++ (w ++ (b ++ r))) from to q ≡ x ++ (b ++ (q ++ r))
  unfolding withdrawn
  withdrawn_at b w f g =
      let k = cut w b (length b) (omega arith) in
      let xw : length (x ++ w) ≡ from + length q = length-append x w ∙ omega arith in
      let p : part (x ++ (w ++ (b ++ r))) (from + length q) to ≡ b =
      ap (λ (y : List ℕ). part y (from + length q) to) (sym (append_assoc x w (b ++ r))) ∙ part_behind (x ++ w) b r (from + length q) to xw f in
      let o : over (x ++ (w ++ (b ++ r))) from b ≡ x ++ (b ++ (k.high ++ r)) =
      ap (λ (y : List ℕ). over (x ++ y) from b) (k.whole r) ∙ over_at x k.low (k.high ++ r) b from e k.lows in
      let l : length (x ++ b) ≡ to - length q = length-append x b ∙ omega arith in
      ap (λ (y : List ℕ). over (over (x ++ (w ++ (b ++ r))) from y) (to - length q) q) p
      ∙ ap (λ (y : List ℕ). over y (to - length q) q) (o ∙ sym (append_assoc x b (k.high ++ r)))
      ∙ over_at (x ++ b) k.high r q (to - length q) l (omega (arith, k.highs))
      ∙ append_assoc x b (q ++ r)
