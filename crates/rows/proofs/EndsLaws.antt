-- A copy in two moves, of the first octets and of the last, which may overlap.
use Prim.Native.Nat.{ℕ, ◌+◌, ◌-◌, ◌≤◌}
use mathlib.Core.Path.{◌≡◌, sym, ap, ap₂, ◌∙◌}
use mathlib.Core.List.{List, ◌++◌, append_assoc}
use native.Mathlib.Omega.{arith}
use lib.ListN.{length, take, drop, length-append, length-drop, take-append-drop}
use lib.Seq.{take_at, take-add, drop-drop, drop-append-add, length-take-le}
use Rattle.octets.specs.Write.{over, put}
use Rattle.octets.proofs.WriteLaws.{over_over, over_length, put_whole}

-- a piece over a shorter one at its offset
over_cover : (l q r : List ℕ) (at : ℕ) → at + length r ≤ length l → length q ≤ length r → over (over l at q) at r ≡ over l at r
over_cover l q r at h k =
    let p = take at l in
    let e : length p ≡ at = length-take-le at l (omega arith) in
    let f : length (p ++ q) ≡ at + length q = length-append p q ∙ ap (λ (n : ℕ). n + length q) e in
    let m : at + length r ≡ length (p ++ q) + (length r - length q) = omega arith in
    let n : at + length q + (length r - length q) ≡ at + length r = omega arith in
    ap₂ (λ (x y : List ℕ). (x ++ r) ++ y)
    (ap (take at) (append_assoc p q (drop (at + length q) l)) ∙ take_at p (q ++ drop (at + length q) l) at e)
    (ap (λ (i : ℕ). drop i (over l at q)) m
    ∙ drop-append-add (p ++ q) (drop (at + length q) l) (length r - length q)
    ∙ drop-drop (length r - length q) (at + length q) l
    ∙ ap (λ (i : ℕ). drop i l) n)

-- the first n octets of s, then those behind d, are all of s
pub ends : (l s x : List ℕ) (at n d : ℕ) → at + length s ≤ length l → d + n ≡ length s → d ≤ n → x ≡ put l at (take n s) → put x (at + d) (drop d s) ≡ over l at s
ends l s x at n d room e h w =
    let a = take d s in
    let q = take (n - d) (drop d s) in
    let r = drop d s in
    let la : length a ≡ d = length-take-le d s (omega arith) in
    let lr : length r ≡ n = length-drop d s ∙ omega arith in
    let lq : length q ≡ n - d = length-take-le (n - d) r (omega arith) in
    let ln : length (take n s) ≡ n = length-take-le n s (omega arith) in
    let lx : length x ≡ length l = ap length (w ∙ put_whole l at (take n s) (omega arith)) ∙ over_length l at (take n s) (omega arith) in
    let m : d + (n - d) ≡ n = omega arith in
    let f : take n s ≡ a ++ q = ap (λ (i : ℕ). take i s) (sym m) ∙ take-add d (n - d) s in
    let b = over l at a in
    let lb : length b ≡ length l = over_length l at a (omega arith) in
    let g : x ≡ over b (at + d) q =
    w ∙ put_whole l at (take n s) (omega arith) ∙ ap (over l at) f ∙ sym (over_over l a q at (omega arith)) ∙ ap (λ (i : ℕ). over b (at + i) q) la in
    put_whole x (at + d) r (omega arith)
    ∙ ap (λ (y : List ℕ). over y (at + d) r) g
    ∙ over_cover b q r (at + d) (omega arith) (omega arith)
    ∙ ap (λ (i : ℕ). over b (at + i) r) (sym la)
    ∙ over_over l a r at (omega arith)
    ∙ ap (over l at) (take-append-drop d s)
