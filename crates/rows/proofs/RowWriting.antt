-- Rows written from front to back: pieces, and what is kept between them.
use Prim.Native.Nat.{ℕ, ◌+◌, ◌-◌, ◌/◌, ◌%◌, ◌≤◌, ◌<◌}
use mathlib.Core.Path.{◌≡◌, sym, ap, ◌∙◌}
use mathlib.Core.List.{List, ◌++◌, append_assoc, append-nil}
use native.Mathlib.Omega.{arith}
use lib.ListN.{length, take, drop, length-append, take-append-drop, drop_of_length-le, length-take, length-drop}
use lib.Seq.{drop-drop}
use Rattle.octets.specs.Number.{octets16, octets_of_16}
use Rattle.octets.specs.Part.{part}
use Rattle.octets.specs.Write.{put}
use Rattle.octets.proofs.WriteLaws.{Wrote, end_whole, wrote_more}

-- the same octets, with the offset said otherwise
pub wrote_at : {l p x : List ℕ} {at : ℕ} → Wrote l p x at → (to : ℕ) → to ≡ length p → Wrote l p x to
wrote_at w to e = record { output = w.output; offset = e }

part_length_of : (l : List ℕ) (at to : ℕ) → to ≤ length l → length (take (to - at) (drop at l)) ≡ to - at
part_length_of l at to k = simp (length-take, length-drop) (omega arith)

-- octets that stay as they were
pub wrote_keep : {l p x : List ℕ} {at : ℕ} → Wrote l p x at → (to : ℕ) → at ≤ to → to ≤ length l → Wrote l (p ++ part l at to) x to
unfolding part
wrote_keep {l} {p} {x} {at} w to h k =
    let n : length (take (to - at) (drop at l)) ≡ to - at = part_length_of l at to k in
    let e : at + (to - at) ≡ to = omega arith in
    let m : length (p ++ take (to - at) (drop at l)) ≡ to = length-append p _ ∙ rw (n, ← w.offset) e in
    record {
      output =
          w.output
          ∙ ap (λ (i : ℕ). p ++ drop i l) (sym w.offset)
          ∙ ap (λ (q : List ℕ). p ++ q) (sym (take-append-drop (to - at) (drop at l)) ∙ ap (λ (q : List ℕ). take (to - at) (drop at l) ++ q) (drop-drop (to - at) at l ∙ ap (λ (i : ℕ). drop i l) e))
          ∙ sym (append_assoc p (take (to - at) (drop at l)) (drop to l))
          ∙ ap (λ (i : ℕ). (p ++ take (to - at) (drop at l)) ++ drop i l) (sym m);
      offset = sym m;
    }

-- one piece more, where there is room for it
pub wrote_put : {l p x y : List ℕ} {at : ℕ} (q : List ℕ) → Wrote l p x at → length p + length q ≤ length l → y ≡ put x at q → Wrote l (p ++ q) y (at + length q)
wrote_put {l} {p} {x} {y} {at} q w room h =
    let s : length x ≡ length l = ap length w.output ∙ (simp (length-append, length-drop) (omega arith)) in
    let k : at + length q ≤ length x = omega (arith, w.offset) in
    wrote_more q w room (sym (end_whole x at q k)) h

-- all of an output was written
pub wrote_all : {l p x : List ℕ} {at : ℕ} → Wrote l p x at → at ≡ length l → x ≡ p
wrote_all {l} {p} {x} {at} w e =
    let h : length l ≤ length p = omega (arith, w.offset) in
    w.output ∙ rw (drop_of_length-le l h) (append-nil p)

-- ---- numbers of 16 bits, as they are written

pub octets_of_16_lem : (n : ℕ) → n < 65536 → octets16 n ≡ octets_of_16 n
octets_of_16_lem n h =
    let e : n / 256 % 256 ≡ n / 256 = omega arith in
    rw e
