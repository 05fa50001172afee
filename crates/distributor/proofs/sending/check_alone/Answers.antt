use mathlib.Core.Path.{refl, sym, ap, ◌∙◌}
use mathlib.Core.Bool.{not}
use borrow.Author.Tests.{lt-ltb, le-ltb}
use Rattle.distributor.proofs.sending.check_alone.Goals as goal

pub returns-then-not-is_dtls : goal.returns-then-not-is_dtls
returns-then-not-is_dtls c = rw (sym c.is_dtls.ensures ∙ ap not c.if-not-is_dtls.true) refl

pub returns-then-packet-room : goal.returns-then-packet-room
returns-then-packet-room c = rw (sym c.is_dtls.ensures ∙ ap not c.if-not-is_dtls.false, le-ltb _ _ c.if-packet-le-DTLS_LIMIT.true, le-ltb _ _ c.if-packet-room.true) (refl, refl)

pub returns-then-packet-le-DTLS_LIMIT : goal.returns-then-packet-le-DTLS_LIMIT
returns-then-packet-le-DTLS_LIMIT c = rw (sym c.is_dtls.ensures ∙ ap not c.if-not-is_dtls.false, le-ltb _ _ c.if-packet-le-DTLS_LIMIT.true, lt-ltb _ _ c.if-packet-room.false) refl

pub returns : goal.returns
returns c = rw (sym c.is_dtls.ensures ∙ ap not c.if-not-is_dtls.false, lt-ltb _ _ c.if-packet-le-DTLS_LIMIT.false) refl
