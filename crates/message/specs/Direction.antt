-- Reading at one end of the tunnel, which some kinds of messages are never sent to: document 01, refusal 4, "tested before the body".
use Rattle.std.specs.Prelude.{ℕ, ◌+◌, Bool, cond, List}
use Rattle.message.specs.Limits.{header}
use Rattle.message.specs.Frame.{Framing, more_needed, refused, version, whole}
use Rattle.message.specs.Read as Read
use Rattle.message.specs.declared.framing.Kind.{Kind}

-- what is so of a whole message of some kinds, by its body's length, and what of all else
abbrev pub of_kinds : {X : Type 0} → (kinds : Kind → Bool) → Framing → (of_whole : (body_length : ℕ) → X) (other : X) → X
of_kinds kinds more_needed x y = y
of_kinds kinds (refused number taken) x y = y
of_kinds kinds (version number) x y = y
of_kinds kinds (whole kind n) x y = cond (kinds kind) (x n) y

-- a whole message of the wrong kinds is refused with 4, whatever its body; all else is read
abbrev pub directed : (wrong : Kind → Bool) → List ℕ → Framing → Read.Answer
directed wrong s f = of_kinds wrong f (λ n. Read.refused 4 (header + n)) (Read.frame_answer s f)
