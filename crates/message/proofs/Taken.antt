-- Reading goes by document 01's steps, said on the octets themselves.
use Prim.Native.Nat.{ℕ, zero, suc, ◌+◌, ◌≤◌}
use mathlib.Core.Path.{◌≡◌, refl, sym, ap}
use mathlib.Core.Logic.{inl, inr}
use mathlib.Core.Bool.{false}
use mathlib.Core.List.{List}
use native.Mathlib.Omega.{arith}
use lib.Dec.{eqb}
use borrow.Author.Tests.{lt-ltb, le-ltb, eq-eqb, ne_eqb, eqb-false}
use Rattle.octets.specs.Number.{octet_at, number16_at}
use Rattle.octets.specs.Part.{part}
use Rattle.octets.proofs.Tests.{by_choice}
use Rattle.message.specs.Limits.{header}
use Rattle.message.specs.Frame.{kind_of, version_frame, plain_frame, frame, whole}
use Rattle.message.specs.Body.{Content, refused, fields, content}
use Rattle.message.specs.Read.{body_answer, frame_answer, reading}
use Rattle.message.specs.Taken.{WholeAt, IsUnlisted, Takes, ReadsBySteps}
use Rattle.message.specs.declared.framing.Kind.{Kind}
use Rattle.message.specs.declared.bodies.Fields.{Fields}
use Rattle.message.proofs.BodyCases.{profiles_body, version_body, keys_body, dtls_body, disconnect_body}
use Rattle.message.proofs.FrameChoice.{by_neither}
use Rattle.message.proofs.FrameSays.{whole_frame}

-- ---- the type octet

not_listed : (t k : ℕ) → IsUnlisted t → 1 ≤ k → k ≤ 5 → eqb t k ≡ false
not_listed t k (inl e) l m = ne_eqb t k (λ q. omega arith)
not_listed t k (inr h) l m = ne_eqb t k (λ q. omega arith)

pub kind_unlisted : (t : ℕ) → IsUnlisted t → kind_of t ≡ Kind.Unlisted
unfolding kind_of
kind_unlisted t u =
    let no : (k : ℕ) → 1 ≤ k → k ≤ 5 → eqb t k ≡ false = λ k. not_listed t k u in
    simp (no 1 (omega arith) (omega arith), no 2 (omega arith) (omega arith), no 3 (omega arith) (omega arith), no 4 (omega arith) (omega arith), no 5 (omega arith) (omega arith))

abbrev Listed : Kind → Type 0
Listed Kind.SupportedProfiles = Unit {0}
Listed Kind.UnsupportedVersion = Unit {0}
Listed Kind.MediaKeys = Unit {0}
Listed Kind.TunneledDtls = Unit {0}
Listed Kind.EndpointDisconnect = Unit {0}
Listed Kind.Unlisted = ⊥

outside : (t : ℕ) → ((k : ℕ) → 1 ≤ k → k ≤ 5 → t ≡ k → ⊥) → IsUnlisted t
outside zero other = inl refl
outside (suc t) other = inr (omega (arith, other 1 (omega arith) (omega arith), other 2 (omega arith) (omega arith), other 3 (omega arith) (omega arith), other 4 (omega arith) (omega arith), other 5 (omega arith) (omega arith)))

kind_listed : (t : ℕ) → (IsUnlisted t → ⊥) → Listed (kind_of t)
unfolding kind_of
kind_listed t l =
    by_choice Listed (eqb t 1) _ _ (λ _. tt) (λ a.
    by_choice Listed (eqb t 2) _ _ (λ _. tt) (λ b.
    by_choice Listed (eqb t 3) _ _ (λ _. tt) (λ c.
    by_choice Listed (eqb t 4) _ _ (λ _. tt) (λ d.
    by_choice Listed (eqb t 5) _ _ (λ _. tt) (λ e.
    l (outside t (λ k m n q. omega (arith, eqb-false t 1 a, eqb-false t 2 b, eqb-false t 3 c, eqb-false t 4 d, eqb-false t 5 e))))))))

-- ---- the body

by_body : (P : Content → Type 0) → ((f : Fields) → P (fields f)) → P (refused 5) → (kind : Kind) → Listed kind → (body : List ℕ) → P (content kind body)
by_body P good bad Kind.SupportedProfiles l body = profiles_body P bad body (λ version n. good _)
by_body P good bad Kind.UnsupportedVersion l body = version_body P bad body (λ version. good _)
by_body P good bad Kind.MediaKeys l body = keys_body P bad body (λ profile k. good _)
by_body P good bad Kind.TunneledDtls l body = dtls_body P bad body (λ n _. good _)
by_body P good bad Kind.EndpointDisconnect l body = disconnect_body P bad body (good _)
by_body P good bad Kind.Unlisted l body = absurd l

-- ---- the steps

module _ (s : List ℕ) where
  abbrev type : ℕ
  type = octet_at s 0

  abbrev n : ℕ
  n = number16_at s 1

  pub whole_framed : WholeAt s → frame s ≡ whole (kind_of type) n
  whole_framed w = whole_frame s (kind_of type) n (record { other = w.type; kinds = refl; told = refl; small = w.limit; there = w.there })

  listed_takes : (IsUnlisted type → ⊥) → Takes (3 + n) (body_answer (header + n) (content (kind_of type) (part s header (header + n))))
  listed_takes l =
      by_body (λ c. Takes (3 + n) (body_answer (header + n) c)) (λ f. refl) (refl, refl)
      (kind_of type) (kind_listed type l) (part s header (header + n))

  pub reads_by_steps : ReadsBySteps s
  unfolding reading frame version_frame plain_frame content
  reads_by_steps = record {
    few = λ h. ap (frame_answer s) (sym (by_neither s h));
    empty_version = λ v e. simp (eq-eqb _ _ v.type, le-ltb _ _ v.header, eq-eqb _ _ e);
    version_awaited = λ v some h. simp (eq-eqb _ _ v.type, le-ltb _ _ v.header, ne_eqb _ _ some, lt-ltb _ _ h);
    version = λ v some h. simp (eq-eqb _ _ v.type, le-ltb _ _ v.header, ne_eqb _ _ some, le-ltb _ _ h);
    oversize = λ o h. simp (ne_eqb _ _ o.type, le-ltb _ _ o.header, lt-ltb _ _ h);
    awaited = λ o l h. simp (ne_eqb _ _ o.type, le-ltb _ _ o.header, le-ltb _ _ l, lt-ltb _ _ h);
    unlisted = λ w u. rw (whole_framed w, kind_unlisted _ u);
    listed = λ w l. rw (whole_framed w) (listed_takes l);
  }
