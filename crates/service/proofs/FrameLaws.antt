-- A frame written from the front of an output.
use Prim.Native.Nat.{ℕ, ◌+◌, ◌≤◌}
use mathlib.Core.Path.{◌≡◌, refl, ap, subst, ◌∙◌}
use mathlib.Core.List.{List, [], ◌∷◌, ◌++◌}
use native.Mathlib.Omega.{arith}
use lib.ListN.{length}
use Rattle.octets.specs.Number.{octets16}
use Rattle.octets.specs.Write.{over}
use Rattle.octets.proofs.WriteLaws.{put_put, over_length}
use Rattle.service.specs.Reply.{Replies, frame_of}
use Rattle.service.specs.Limits.{head_length}
use Rattle.service.proofs.PieceLaws.{Put, Over, whole, more, from_front}

-- with its length said otherwise
pub framed : (l a : List ℕ) (n : ℕ) {x : List ℕ} {at : ℕ} → n ≡ length a → Replies (octets16 n ++ a) l x at → Replies (frame_of a) l x at
framed l a n {x} {at} e h = subst (λ (k : ℕ). Replies (octets16 k ++ a) l x at) e h

-- a head, and the values behind it
pub headed : (l : List ℕ) (kind : ℕ) (values : List ℕ) {x y : List ℕ} {to : ℕ} → head_length + length values ≤ length l
    → x ≡ over l 0 (octets16 (1 + length values) ++ kind ∷ []) → Put x head_length values y to → Replies (frame_of (kind ∷ values)) l y to
headed l kind values {x} {y} {to} room e o =
    let p : List ℕ = octets16 (1 + length values) ++ kind ∷ [] in
    let a : Over l 0 p x head_length = (refl, e) in
    let n : length x ≡ length l = ap length e ∙ over_length l 0 p (omega arith) in
    let w = from_front l (p ++ values) (more l 0 p values (omega arith) a (whole x head_length values (omega arith) o)) in
    framed l (kind ∷ values) (1 + length values) (omega arith) w

-- the values in two pieces
pub headed_twice : (l : List ℕ) (kind : ℕ) (p q : List ℕ) {r x y z : List ℕ} {i to : ℕ} → r ≡ p → head_length + length (p ++ q) ≤ length l
    → x ≡ over l 0 (octets16 (1 + length (p ++ q)) ++ kind ∷ []) → Put x head_length r y i → Put y i q z to → Replies (frame_of (kind ∷ p ++ q)) l z to
headed_twice l kind p q {r} {x} {y} {z} {i} f room e o b =
    let a = subst (λ (s : List ℕ). Put x head_length s y i) f o in
    let n : length x ≡ length l = ap length e ∙ over_length l 0 (octets16 (1 + length (p ++ q)) ++ kind ∷ []) (omega arith) in
    headed l kind (p ++ q) room e (put_put x p q head_length (omega arith) a.0 a.1 b.0 b.1)
