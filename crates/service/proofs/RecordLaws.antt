-- A record written in pieces.
use Prim.Native.Nat.{ℕ, ◌+◌, ◌-◌, ◌≤◌}
use mathlib.Core.Path.{◌≡◌, refl, sym, ap, subst, ◌∙◌}
use mathlib.Core.List.{List, [], ◌∷◌, ◌++◌, append_assoc}
use native.Mathlib.Omega.{arith}
use lib.ListN.{length, take, replicate, length-append, length-take, length-replicate}
use lib.Seq.{take-append-add}
use Rattle.std.specs.Prelude.{Option}
use Rattle.std.proofs.lemmas.List.{drop-replicate, take-replicate}
use Rattle.octets.specs.Number.{octets16, octets_of_32}
use Rattle.octets.specs.Part.{part}
use Rattle.octets.specs.Write.{over}
use Rattle.octets.proofs.PartLaws.{part_front}
use Rattle.octets.proofs.WriteLaws.{put_put, over_length}
use Rattle.message.specs.Limits.{width, mki_limit, salt_limit}
use Rattle.rules.specs.Answer.{found}
use Rattle.rules.specs.Keys.{Keys}
use Rattle.rules.specs.Layout.{padded, field}
use Rattle.rules.specs.Limits.{key_limit}
use Rattle.rules.proofs.FieldLaws.{padded_length, field_length}
use Rattle.distributor.specs.Record.{association_with}
use Rattle.distributor.specs.declared.looking.RecordKeys.{RecordKeys}
use Rattle.service.specs.Limits.{head_length, endpoint_length, keys_length, record_length}
use Rattle.service.specs.Reply.{Replies, frame_of, keys_octets, answer_octets}
use Rattle.service.proofs.FrameLaws.{framed}
use Rattle.service.proofs.PieceLaws.{Put, Over, whole, more, from_front}

-- ---- a field: its length, its octets, zeros

-- the octets that the length says
pub front_short : (s : List ℕ) (n : ℕ) → length (part s 0 n) ≤ n
front_short s n = rw (part_front s n, length-take n s) (omega arith)

front_within : (s : List ℕ) (n : ℕ) → length (part s 0 n) ≤ length s
front_within s n = rw (part_front s n, length-take n s) (omega arith)

-- written over zeros
pub padded_out : (n : ℕ) (x : List ℕ) → length x ≤ n → over (replicate n 0) 0 x ≡ padded n x
unfolding padded
padded_out n x h =
    let e : length x + (n - length x) ≡ n = omega arith in
    let z : 0 + length x ≡ length x = omega arith in
    rw (z, drop-replicate {X = ℕ} (length x) n 0)
    (sym
    (ap (λ (k : ℕ). take k (x ++ replicate n 0)) (sym e) ∙ take-append-add x (replicate n 0) (n - length x)
    ∙ ap (λ (r : List ℕ). x ++ r) (take-replicate {X = ℕ} (n - length x) n 0 (omega arith))))

-- so many octets of a field, from an offset on
abbrev pub Fielded : (l : List ℕ) (at limit : ℕ) (x y : List ℕ) (to : ℕ) → Type 0
Fielded l at limit x y to = (to ≡ at + 1 + limit) × (y ≡ over l at (field limit x))

pub field_done : (l : List ℕ) (at limit : ℕ) (f : List ℕ) (n : ℕ) {s q x y : List ℕ} {i j to : ℕ} → at + 1 + limit ≤ length l → length f ≡ limit → s ≡ part f 0 n
    → Put (replicate limit 0) 0 s q i → Put l at (length s ∷ []) x j → Put x j q y to → Fielded l at limit (take n f) y to
field_done l at limit f n {s} {q} {x} {y} {i} {j} {to} room e p a b c =
    let h : length s ≤ limit = rw p (rw (← e) (front_within f n)) in
    let k : 0 + length s ≤ length (replicate {A = ℕ} limit 0) = omega (arith, length-replicate {A = ℕ} limit 0) in
    let z : q ≡ padded limit s = (whole (replicate limit 0) 0 s k a).1 ∙ padded_out limit s h in
    let m : length q ≡ limit = ap length z ∙ padded_length limit s in
    let w = whole l at (length s ∷ q) (omega arith) (put_put l (length s ∷ []) q at (omega arith) b.0 b.1 c.0 c.1) in
    (w.0 ∙ omega arith, w.1 ∙ ap (λ (r : List ℕ). over l at (length s ∷ r)) z ∙ ap (λ (r : List ℕ). over l at (field limit r)) (p ∙ part_front f n))

-- its end by its length
fielded : (l : List ℕ) (at limit : ℕ) (x : List ℕ) {y : List ℕ} {to : ℕ} → Fielded l at limit x y to → Over l at (field limit x) y to
fielded l at limit x o = (o.0 ∙ omega (arith, field_length limit x), o.1)

-- ---- the key fields

regroup : (a b c d e f : List ℕ) → ((((a ++ b) ++ c) ++ d) ++ e) ++ f ≡ a ++ b ++ c ++ d ++ e ++ f
regroup a b c d e f = simp append_assoc

module _ (l : List ℕ) (at : ℕ) (k : Keys) (room : at + keys_length ≤ length l) where
  pub keys_done : {x0 x1 x2 x3 x4 x5 : List ℕ} {a0 a1 a2 a3 a4 a5 : ℕ} → Put l at (octets16 k.profile) x0 a0
      → Fielded x0 (at + 2) mki_limit k.mki x1 a1 → Fielded x1 a1 key_limit k.client_key x2 a2 → Fielded x2 a2 key_limit k.server_key x3 a3
      → Fielded x3 a3 salt_limit k.client_salt x4 a4 → Fielded x4 a4 salt_limit k.server_salt x5 a5
      → (a5 ≡ at + keys_length) × (x5 ≡ over l at (keys_octets k))
  keys_done {x0} {x1} {x2} {x3} {x4} {x5} {a0} {a1} {a2} {a3} {a4} {a5} p m c s d e =
      let h : at ≤ length l = omega arith in
      let o : Over l at (octets16 k.profile) x0 (at + 2) = (refl, (whole l at (octets16 k.profile) (omega arith) p).1) in
      let o1 = more l at _ _ h o (fielded x0 (at + 2) mki_limit k.mki m) in
      let o2 = more l at _ _ h o1 (fielded x1 a1 key_limit k.client_key c) in
      let o3 = more l at _ _ h o2 (fielded x2 a2 key_limit k.server_key s) in
      let o4 = more l at _ _ h o3 (fielded x3 a3 salt_limit k.client_salt d) in
      let o5 = more l at _ _ h o4 (fielded x4 a4 salt_limit k.server_salt e) in (
        omega (arith, m.0, c.0, s.0, d.0, e.0),
        o5.1 ∙ ap (over l at) (regroup (octets16 k.profile) (field mki_limit k.mki) (field key_limit k.client_key) (field key_limit k.server_key) (field salt_limit k.client_salt) (field salt_limit k.server_salt)),
      )

pub keys_length_lem : (k : Keys) → length (keys_octets k) ≡ keys_length
keys_length_lem k =
    simp length-append
    (omega (arith, field_length mki_limit k.mki, field_length key_limit k.client_key, field_length key_limit k.server_key, field_length key_limit k.client_salt, field_length key_limit k.server_salt))

-- ---- the whole answer

-- the head and the kind; then the state, the identifier and the endpoint
abbrev front : (state : ℕ) (i e : List ℕ) → List ℕ
front state i e = (octets16 (1 + record_length) ++ 5 ∷ []) ++ ((state ∷ []) ++ i) ++ e

pub front_done : (l : List ℕ) (state : ℕ) (i e : List ℕ) {f w x y z : List ℕ} {a b to : ℕ} → length i ≡ width → length e ≡ endpoint_length → f ≡ e → head_length + 1 + width + endpoint_length ≤ length l
    → w ≡ over l 0 (octets16 (1 + record_length) ++ 5 ∷ []) → Put w head_length (state ∷ []) x a → Put x a i y b → Put y b f z to
    → (to ≡ head_length + 1 + width + endpoint_length) × (z ≡ over l 0 (front state i e))
front_done l state i e {f} {w} {x} {y} {z} {a} {b} {to} h k g room o p q r0 =
    let r = subst (λ (s : List ℕ). Put y b s z to) g r0 in
    let head : List ℕ = octets16 (1 + record_length) ++ 5 ∷ [] in
    let n : length w ≡ length l = ap length o ∙ over_length l 0 head (omega arith) in
    let c : length ((state ∷ []) ++ i) ≡ 1 + width = omega arith in
    let d : length (((state ∷ []) ++ i) ++ e) ≡ 1 + width + endpoint_length = length-append ((state ∷ []) ++ i) e ∙ omega arith in
    let s = put_put w (state ∷ []) i head_length (omega arith) p.0 p.1 q.0 q.1 in
    let t = whole w head_length (((state ∷ []) ++ i) ++ e) (omega arith) (put_put w ((state ∷ []) ++ i) e head_length (omega arith) s.0 s.1 r.0 r.1) in
    let u : Over l 0 head w head_length = (refl, o) in
    let v = more l 0 head (((state ∷ []) ++ i) ++ e) (omega arith) u t in
    (t.0 ∙ omega arith, v.1)

pub record_done : (l i t : List ℕ) (state e : ℕ) {x y : List ℕ} {at to : ℕ} → length i ≡ width → length t ≡ keys_length
    → (at ≡ head_length + 1 + width + endpoint_length) × (x ≡ over l 0 (front state i (octets_of_32 e)))
    → (to ≡ at + keys_length) × (y ≡ over x at t)
    → Replies (frame_of (5 ∷ (state ∷ i) ++ octets_of_32 e ++ t)) l y to
record_done l i t state e {x} {y} {at} {to} h k a b =
    let p : List ℕ = 0 ∷ 173 ∷ 5 ∷ state ∷ i in
    let f : length (p ++ octets_of_32 e) ≡ 8 + width = length-append p (octets_of_32 e) ∙ omega arith in
    let o : Over l 0 (p ++ octets_of_32 e) x at = (a.0 ∙ omega arith, a.1) in
    let w = from_front l ((p ++ octets_of_32 e) ++ t) (more l 0 (p ++ octets_of_32 e) t (omega arith) o (b.0 ∙ omega arith, b.1)) in
    let n : 1 + record_length ≡ length (5 ∷ (state ∷ i) ++ octets_of_32 e ++ t) = omega (arith, length-append (p ++ octets_of_32 e) t) in
    framed l (5 ∷ (state ∷ i) ++ octets_of_32 e ++ t) (1 + record_length) n w

-- of the same keys, if any
pub found_with : (l i : List ℕ) (e : ℕ) {j : Option RecordKeys} (k : Option RecordKeys) {x : List ℕ} {to : ℕ} → j ≡ k
    → Replies (frame_of (answer_octets [] (found (association_with i e k)))) l x to → Replies (frame_of (answer_octets [] (found (association_with i e j)))) l x to
found_with l i e k {x} {to} h o = subst (λ (m : Option RecordKeys). Replies (frame_of (answer_octets [] (found (association_with i e m)))) l x to) (sym h) o
