-- An answer stays where more octets are lent behind, and behind any octets there can be such that reading asks for no more.
use Prim.Native.Nat.{ℕ, ◌+◌, ◌≤◌}
use mathlib.Core.Path.{◌≡◌, refl, sym, ap, subst, ◌∙◌}
use mathlib.Core.Bool.{Bool, true, false, cond}
use mathlib.Core.List.{List, [], ◌∷◌, ◌++◌}
use native.Mathlib.Omega.{arith}
use lib.ListN.{length, length-append, replicate, length-replicate}
use lib.Dec.{ltb, eqb}
use borrow.Author.Tests.{le-ltb, ltb-false}
use Rattle.octets.specs.Number.{octet_at, number16_at}
use Rattle.octets.specs.Part.{part}
use Rattle.octets.proofs.Tests.{by_choice}
use Rattle.message.specs.Limits.{width, body_limit, header}
use Rattle.message.specs.Frame as Frame
use Rattle.message.specs.Frame.{Framing, version_frame, plain_frame, frame, kind_of}
use Rattle.message.specs.Walk.{begin, fixed, field8, field16, profile_list, complete}
use Rattle.message.specs.Body as Body
use Rattle.message.specs.Body.{Content, content, supported_profiles, media_keys, tunneled_dtls, endpoint_disconnect}
use Rattle.message.specs.Read.{Answer, more_needed, refused, accepted, body_answer, frame_answer, reading}
use Rattle.message.specs.Claims.{lent_more, Ended}
use Rattle.message.specs.declared.framing.Kind.{Kind}
use Rattle.octets.proofs.OctetLaws.{zeros_octets}
use Rattle.octets.proofs.LongerLaws.{same_octet, same_number, same_part}
use Rattle.message.proofs.FrameSays.{KindSays, whole_type, FrameSays, frame_says}

-- ---- answers other than more needed

abbrev Told : Answer → Type 0
Told more_needed = ⊥
Told (refused number taken) = Unit {0}
Told (accepted f taken) = Unit {0}

told : (a : Answer) → (a ≡ more_needed → ⊥) → Told a
told more_needed h = h refl
told (refused number taken) h = tt
told (accepted f taken) h = tt

body_told : (taken : ℕ) (c : Content) → Told (body_answer taken c)
body_told taken (Body.refused number) = tt
body_told taken (Body.fields f) = tt

-- ---- the frame stays

-- the frame f of s and the frame g of more octets, test by test
abbrev Stay : List ℕ → (f g : Framing) → Type 0
Stay s f g = Told (frame_answer s f) → g ≡ f

by_same : (s : List ℕ) (b : Bool) {f g h k : Framing} → Stay s f h → Stay s g k → Stay s (cond b f g) (cond b h k)
by_same s true p q = p
by_same s false p q = q

module _ (s t : List ℕ) where
  by_length : (n : ℕ) {f g : Framing} → (n ≤ length s → Stay s f g)
      → Stay s (cond (ltb (length s) n) Frame.more_needed f) (cond (ltb (length (s ++ t)) n) Frame.more_needed g)
  by_length n {f} {g} p =
      by_choice (λ (x : Framing). Stay s x (cond (ltb (length (s ++ t)) n) Frame.more_needed g)) (ltb (length s) n) Frame.more_needed f
      (λ _ w. absurd w)
      (λ e.
      let h : n ≤ length s = ltb-false (length s) n e in
      rw (le-ltb (length (s ++ t)) n (rw length-append (omega arith))) (p h))

  version_stays : Stay s (version_frame s) (version_frame (s ++ t))
  unfolding version_frame
  version_stays = by_length header (λ l.
      rw (same_number s t 1 (omega arith))
      (by_same s (eqb (number16_at s 1) 0) (λ _. refl)
      (by_length (header + 1) (λ h _. ap Frame.version (same_octet s t header h)))))

  plain_stays : Stay s (plain_frame s) (plain_frame (s ++ t))
  unfolding plain_frame
  plain_stays = by_length header (λ l.
      rw (same_number s t 1 (omega arith), same_octet s t 0 (omega arith))
      (by_same s (ltb body_limit (number16_at s 1)) (λ _. refl)
      (by_length (header + number16_at s 1) (λ _ _. refl))))

frame_stays : (s t : List ℕ) → Stay s (frame s) (frame (s ++ t))
unfolding frame plain_frame
frame_stays [] t = λ w. absurd w
frame_stays (x ∷ s) t = by_same (x ∷ s) (eqb x 2) (version_stays (x ∷ s) t) (plain_stays (x ∷ s) t)

-- ---- the answer stays

-- of another type than 2, a body's answer is the same however many octets are lent
module _ (taken more : ℕ) (body : List ℕ) where
  abbrev Same : Content → Type 0
  Same c = lent_more (body_answer taken c) more ≡ body_answer taken c

  body_same : (type : ℕ) (kind : Kind) → KindSays type kind → (type ≡ 2 → ⊥) → Same (content kind body)
  unfolding content supported_profiles media_keys tunneled_dtls endpoint_disconnect
  body_same type Kind.SupportedProfiles h other =
      by_choice Same (complete body (profile_list body (fixed body 1 begin))) _ _ (λ _. refl) (λ _. refl)
  body_same type Kind.UnsupportedVersion h other = absurd (other h)
  body_same type Kind.MediaKeys h other =
      let mki = field8 body 0 (fixed body 2 (fixed body width begin)) in
      by_choice Same (complete body (field8 body 1 (field8 body 1 (field8 body 1 (field8 body 1 mki))))) _ _ (λ _. refl) (λ _. refl)
  body_same type Kind.TunneledDtls h other =
      by_choice Same (complete body (field16 body (fixed body width begin))) _ _ (λ _. refl) (λ _. refl)
  body_same type Kind.EndpointDisconnect h other =
      by_choice Same (complete body (fixed body width begin)) _ _ (λ _. refl) (λ _. refl)
  body_same type Kind.Unlisted h other = refl

frame_lent : (s t : List ℕ) (f : Framing) → FrameSays s f → frame_answer (s ++ t) f ≡ lent_more (frame_answer s f) (length t)
frame_lent s t Frame.more_needed h = refl
frame_lent s t (Frame.refused number taken) h = refl
frame_lent s t (Frame.version number) h = rw length-append
frame_lent s t (Frame.whole kind n) h =
    rw (same_part s t header n h.there)
    (sym (body_same (header + n) (length t) (part s header (header + n)) (octet_at s 0) kind (whole_type h) h.other))

pub answer_stays : (s t : List ℕ) → (reading s ≡ more_needed → ⊥) → reading (s ++ t) ≡ lent_more (reading s) (length t)
unfolding reading
answer_stays s t h = ap (frame_answer (s ++ t)) (frame_stays s t (told (reading s) h)) ∙ frame_lent s t (frame s) (frame_says s)

-- ---- more needed ends

enough_told : (s : List ℕ) → header + body_limit ≤ length s → Told (reading s)
unfolding reading frame version_frame plain_frame
enough_told s h =
    let P : Framing → Type 0 = λ f. Told (frame_answer s f) in
    let n = number16_at s 1 in
    let there : (k : ℕ) → k ≤ body_limit → ltb (length s) (header + k) ≡ false = λ k l. le-ltb (length s) (header + k) (omega arith) in
    by_choice P (eqb (octet_at s 0) 2) _ _
    (λ _. rw (there 0 (omega arith), there 1 (omega arith)) (by_choice P (eqb n 0) _ _ (λ _. tt) (λ _. tt)))
    (λ _. rw (there 0 (omega arith)) (by_choice P (ltb body_limit n) _ _ (λ _. tt) (λ e.
    rw (there n (ltb-false _ _ e)) (body_told (header + n) (content (kind_of (octet_at s 0)) (part s header (header + n)))))))

-- a header and the longest body always have an answer
pub enough_answers : (s : List ℕ) → header + body_limit ≤ length s → reading s ≡ more_needed → ⊥
enough_answers s h e = subst Told e (enough_told s h)

ended_by : (s : List ℕ) (n : ℕ) → header + body_limit ≤ n → Ended s
ended_by s n h = record {
  rest = replicate n 0;
  octets = zeros_octets n;
  ended = enough_answers (s ++ replicate n 0) (simp (length-append, length-replicate) (omega arith));
}

pub more_ends : (s : List ℕ) → Ended s
more_ends s = ended_by s (header + body_limit) (omega arith)
