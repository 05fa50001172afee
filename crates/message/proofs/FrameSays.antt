-- What the framing of any octets says of them.
use Prim.Native.Nat.{ℕ, ◌+◌, ◌≤◌}
use mathlib.Core.Path.{◌≡◌, refl, subst}
use mathlib.Core.List.{List}
use lib.ListN.{length}
use lib.Dec.{ltb, eqb}
use native.Mathlib.Omega.{arith}
use borrow.Author.Tests.{le-ltb, ne_eqb, eqb-true, eqb-false, ltb-false}
use Rattle.octets.specs.Number.{octet_at, number16_at}
use Rattle.octets.proofs.Tests.{by_choice}
use Rattle.message.specs.Limits.{body_limit, header}
use Rattle.message.specs.Frame.{Framing, more_needed, refused, version, whole, kind_of, version_frame, plain_frame, frame}
use Rattle.message.specs.declared.framing.Kind.{Kind}

-- which octet a listed kind comes from
abbrev pub KindSays : ℕ → Kind → Type 0
KindSays t Kind.SupportedProfiles = t ≡ 1
KindSays t Kind.UnsupportedVersion = t ≡ 2
KindSays t Kind.MediaKeys = t ≡ 3
KindSays t Kind.TunneledDtls = t ≡ 4
KindSays t Kind.EndpointDisconnect = t ≡ 5
KindSays t Kind.Unlisted = Unit {0}

kind_says : (t : ℕ) → KindSays t (kind_of t)
unfolding kind_of
kind_says t =
    by_choice (KindSays t) (eqb t 1) _ _ (eqb-true t 1) (λ _.
    by_choice (KindSays t) (eqb t 2) _ _ (eqb-true t 2) (λ _.
    by_choice (KindSays t) (eqb t 3) _ _ (eqb-true t 3) (λ _.
    by_choice (KindSays t) (eqb t 4) _ _ (eqb-true t 4) (λ _.
    by_choice (KindSays t) (eqb t 5) _ _ (eqb-true t 5) (λ _. tt)))))

-- the lent octets hold a version
pub record Version (s : List ℕ) (number : ℕ) : Type 0 where
  pub type : octet_at s 0 ≡ 2
  pub there : header + 1 ≤ length s
  pub read : octet_at s header ≡ number

-- the lent octets hold a whole message, of another type than 2
pub record Whole (s : List ℕ) (kind : Kind) (n : ℕ) : Type 0 where
  pub other : octet_at s 0 ≡ 2 → ⊥
  pub kinds : kind_of (octet_at s 0) ≡ kind
  pub told : number16_at s 1 ≡ n
  pub small : n ≤ body_limit
  pub there : header + n ≤ length s

pub whole_type : {s : List ℕ} {kind : Kind} {n : ℕ} → Whole s kind n → KindSays (octet_at s 0) kind
whole_type {s} w = subst (KindSays (octet_at s 0)) w.kinds (kind_says (octet_at s 0))

-- such octets are framed as that message
pub whole_frame : (s : List ℕ) (kind : Kind) (n : ℕ) → Whole s kind n → frame s ≡ whole kind n
unfolding frame plain_frame
whole_frame s kind n h =
    let l : header ≤ length s = omega arith in
    simp (ne_eqb _ _ h.other, le-ltb _ _ l, h.told, le-ltb _ _ h.small, le-ltb _ _ h.there, h.kinds)

abbrev pub FrameSays : List ℕ → Framing → Type 0
FrameSays s more_needed = Unit {0}
FrameSays s (refused number taken) = Unit {0}
FrameSays s (version number) = Version s number
FrameSays s (whole kind n) = Whole s kind n

module _ (s : List ℕ) where
  version_says : octet_at s 0 ≡ 2 → FrameSays s (version_frame s)
  unfolding version_frame
  version_says t =
      by_choice (FrameSays s) (ltb (length s) header) _ _ (λ _. tt) (λ _.
      by_choice (FrameSays s) (eqb (number16_at s 1) 0) _ _ (λ _. tt) (λ _.
      by_choice (FrameSays s) (ltb (length s) (header + 1)) _ _ (λ _. tt) (λ e.
      record { type = t; there = ltb-false _ _ e; read = refl })))

  plain_says : (octet_at s 0 ≡ 2 → ⊥) → FrameSays s (plain_frame s)
  unfolding plain_frame
  plain_says t =
      by_choice (FrameSays s) (ltb (length s) header) _ _ (λ _. tt) (λ _.
      by_choice (FrameSays s) (ltb body_limit (number16_at s 1)) _ _ (λ _. tt) (λ small.
      by_choice (FrameSays s) (ltb (length s) (header + number16_at s 1)) _ _ (λ _. tt) (λ there.
      record {
        other = t;
        kinds = refl;
        told = refl;
        small = ltb-false _ _ small;
        there = ltb-false _ _ there;
      })))

  pub frame_says : FrameSays s (frame s)
  unfolding frame
  frame_says =
      by_choice (FrameSays s) (eqb (octet_at s 0) 2) _ _
      (λ e. version_says (eqb-true _ _ e)) (λ e. plain_says (eqb-false _ _ e))
