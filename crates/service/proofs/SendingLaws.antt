-- A call that writes, lent all of the output behind the head; then the head.
use Prim.Native.Nat.{ℕ, suc, ◌+◌, ◌≤◌}
use mathlib.Core.Path.{◌≡◌, sym, ap, ap₂, subst, ◌∙◌}
use mathlib.Core.List.{List, [], ◌∷◌, ◌++◌, append-nil}
use native.Mathlib.Omega.{arith}
use lib.ListN.{length, take, drop, length-take, length-drop, take-append-drop, drop_of_length-le}
use lib.Seq.{drop_at, drop-drop}
use Rattle.std.proofs.lemmas.List.{take_all}
use Rattle.octets.specs.Number.{octets16}
use Rattle.std.specs.Prelude.{Result, Ok, Err}
use Rattle.octets.specs.Refusal.{number_of}
use Rattle.octets.specs.declared.refusal.Refusal.{Refusal}
use Rattle.octets.specs.Write.{over}
use Rattle.rules.specs.Verdict.{Verdict, allowed, refusal}
use Rattle.status.specs.Page.{layout}
use Rattle.status.specs.declared.entry.Entry.{Entry}
use Rattle.rules.specs.Answer.{Answer, wrote, page, answered, refused}
use Rattle.distributor.specs.Outcomes.{Sends, Pages}
use Rattle.service.specs.Limits.{head_length, room, answer_limit}
use Rattle.service.specs.Reply.{Replies, frame_of, answer_octets}
use Rattle.service.specs.Sending.{behind_head, front}
use Rattle.service.proofs.PieceLaws.{from_front}

-- ---- what a call that writes tells, whichever answer it has: the octets written where the verdict allows it, else the verdict's refusal

abbrev pub Tells : Verdict → (m before after : List ℕ) → Result ℕ Refusal → Type 0
Tells allowed m before after (Err n) = ⊥
Tells allowed m before after (Ok count) = (count ≡ length m) × (after ≡ m ++ drop (length m) before)
Tells (refusal k) m before after (Err n) = (k ≡ number_of n) × (after ≡ before)
Tells (refusal k) m before after (Ok count) = ⊥

refused_is : {a b : ℕ} → refused a 0 ≡ refused b 0 → a ≡ b
refused_is e = cc

wrote_is : {m o : List ℕ} → wrote m ≡ wrote o → m ≡ o
wrote_is e = cc

wrote_not : {m : List ℕ} {n taken : ℕ} → wrote m ≡ refused n taken → ⊥
wrote_not e = let z : ◌≡◌ {A = ℕ} 0 1 = cc in omega arith

page_is : {es fs : List Entry} → page es ≡ page fs → es ≡ fs
page_is e = cc

page_not : {es : List Entry} {n taken : ℕ} → page es ≡ refused n taken → ⊥
page_not e = let z : ◌≡◌ {A = ℕ} 0 1 = cc in omega arith

module _ (m : List ℕ) where
  pub sends_tell : (w : Verdict) (before after : List ℕ) (r : Result ℕ Refusal) → Sends (answered w 0 (wrote m)) before after r → Tells w m before after r
  sends_tell allowed before after (Err n) s = wrote_not s.0
  sends_tell allowed before after (Ok count) s = rw (wrote_is s.told) (s.counted, s.written)
  sends_tell (refusal k) before after (Err n) s = (refused_is s.0, s.1)
  sends_tell (refusal k) before after (Ok count) s = wrote_not (sym s.told)

module _ (es : List Entry) where
  pub pages_tell : (w : Verdict) (before after : List ℕ) (r : Result ℕ Refusal) → Pages (answered w 0 (page es)) before after r → Tells w (layout es) before after r
  pages_tell allowed before after (Err n) s = page_not s.0
  pages_tell allowed before after (Ok count) s = rw (page_is s.told) (s.counted, s.written)
  pages_tell (refusal k) before after (Err n) s = (refused_is s.0, s.1)
  pages_tell (refusal k) before after (Ok count) s = page_not (sym s.told)

-- what is lent of an output, and the output with what came back
abbrev pub lent : List ℕ → List ℕ
lent l = take room (drop head_length l)

abbrev pub back : List ℕ → List ℕ → List ℕ
back l new = take head_length l ++ (new ++ drop room (drop head_length l))

module _ (l : List ℕ) (size : length l ≡ answer_limit) where
  behind_room : length (drop head_length l) ≤ room
  behind_room = rw length-drop (omega arith)

  lent_is : lent l ≡ drop head_length l
  lent_is = take_all room (drop head_length l) behind_room

  pub lent_length : length (lent l) ≡ room
  lent_length = ap length lent_is ∙ length-drop head_length l ∙ omega arith

  back_is : (new : List ℕ) → back l new ≡ take head_length l ++ new
  back_is new =
      ap (λ (r : List ℕ). take head_length l ++ (new ++ r)) (drop_of_length-le (drop head_length l) behind_room)
      ∙ ap (λ (r : List ℕ). take head_length l ++ r) (append-nil new)

  front_length : length (take head_length l) ≡ head_length
  front_length = rw length-take (omega arith)

  -- a refused call
  back_kept : back l (lent l) ≡ l
  back_kept = back_is (lent l) ∙ ap (λ (r : List ℕ). take head_length l ++ r) lent_is ∙ take-append-drop head_length l

  -- a call that wrote
  module _ (m : List ℕ) where
    behind_head_lem : drop head_length (back l (m ++ drop (length m) (lent l))) ≡ m ++ drop (head_length + length m) l
    behind_head_lem =
        ap (drop head_length) (back_is (m ++ drop (length m) (lent l)))
        ∙ drop_at (take head_length l) (m ++ drop (length m) (lent l)) head_length front_length
        ∙ ap (λ (r : List ℕ). m ++ r) (ap (drop (length m)) lent_is ∙ drop-drop (length m) head_length l)

    message_replied : (kind : ℕ) {x : List ℕ} {to : ℕ} → to ≡ head_length + length m
        → x ≡ over (back l (m ++ drop (length m) (lent l))) 0 (octets16 (1 + length m) ++ kind ∷ []) → Replies (frame_of (kind ∷ m)) l x to
    message_replied kind {x} {to} e o =
        let f : 1 + length m ≡ suc (length m) = omega arith in
        let g : head_length + length m ≡ suc (suc (suc (length m))) = omega arith in (
          e ∙ g,
          o ∙ ap (λ (r : List ℕ). (octets16 (1 + length m) ++ kind ∷ []) ++ r) behind_head_lem ∙ rw (f, g),
        )

-- ---- the call's answer: a refusal, or its kind and the octets written

module _ (l new m : List ℕ) (size : length l ≡ answer_limit) where
  pub sent_replied : (kind : ℕ) (a : Answer) → answer_octets [] a ≡ kind ∷ m → (w : Verdict) (r : Result ℕ Refusal) → Tells w m (lent l) new r → {x : List ℕ} {to : ℕ}
      → (to ≡ head_length + behind_head r) × (x ≡ over (back l new) 0 (front kind r))
      → Replies (frame_of (answer_octets [] (answered w 0 a))) l x to
  sent_replied kind a e allowed (Err n) s o = absurd s
  sent_replied kind a e allowed (Ok n) s {x} {to} o =
      subst (λ (q : List ℕ). Replies (frame_of q) l x to) (sym e)
      (message_replied l size m kind (o.0 ∙ ap (λ (k : ℕ). head_length + k) s.0)
      (o.1 ∙ ap₂ (λ (b : List ℕ) (k : ℕ). over (back l b) 0 (octets16 (1 + k) ++ kind ∷ [])) s.1 s.0))
  sent_replied kind a e (refusal k) (Err n) s {x} {to} o =
      from_front l (frame_of (answer_octets [] (refused k 0)))
      (o.0, o.1 ∙ ap₂ (λ (b : List ℕ) (j : ℕ). over b 0 (frame_of (answer_octets [] (refused j 0)))) (ap (back l) s.1 ∙ back_kept l size) (sym s.0))
  sent_replied kind a e (refusal k) (Ok n) s o = absurd s
