-- Start, Booth packet, Close and Write page: their answers are a refusal, or a message or the page, by one verdict.
use Prim.Native.Nat.{ℕ, ◌+◌}
use mathlib.Core.Path.{◌≡◌, refl, ap, subst, ◌∙◌}
use mathlib.Core.List.{List, []}
use lib.ListN.{length}
use Rattle.std.specs.Prelude.{Result}
use Rattle.octets.specs.declared.refusal.Refusal.{Refusal}
use Rattle.octets.specs.Write.{over}
use Rattle.message.specs.Message.{Message, encode, endpoint_disconnect}
use Rattle.status.specs.Page.{layout}
use Rattle.rules.specs.Call as Call
use Rattle.rules.specs.Refusals.{start_message}
use Rattle.rules.specs.Table.{answer, step, start_verdict, start_answer, start_next, packet_message, packet_verdict, packet_answer, close_verdict, close_answer, close_next, page_entries, page_verdict, page_answer}
use Rattle.rules.specs.Verdict.{Verdict}
use Rattle.rules.specs.Answer.{Answer, wrote, page, answered}
use Rattle.distributor.specs.Outcomes.{Sends, Pages}
use Rattle.service.specs.Limits.{head_length, answer_limit, room}
use Rattle.service.specs.Request.{call}
use Rattle.service.specs.Reply.{Replies, Serves, frame_of, answer_octets}
use Rattle.service.specs.Sending.{behind_head, front}
use Rattle.service.proofs.SendingLaws.{lent, back, lent_length, sends_tell, pages_tell, sent_replied}

module _ (s l new : List ℕ) (size : length l ≡ answer_limit) (r : Result ℕ Refusal) where
  -- what the last step has written of the head, by the kind of the answer
  abbrev Headed : (kind : ℕ) (x : List ℕ) (to : ℕ) → Type 0
  Headed kind x to = (to ≡ head_length + behind_head r) × (x ≡ over (back l new) 0 (front kind r))

  -- with the room said by its name
  by_room : (P : Answer → (before after : List ℕ) → Result ℕ Refusal → Type 0) (a : ℕ → Answer) → P (a (length (lent l))) (lent l) new r → P (a room) (lent l) new r
  by_room P a h = subst (λ (n : ℕ). P (a n) (lent l) new r) (lent_length l size) h

  -- a message
  message_replied : (m : Message) (w : Verdict) → Sends (answered w 0 (wrote (encode m))) (lent l) new r → {x : List ℕ} {to : ℕ} → Headed 2 x to
      → Replies (frame_of (answer_octets [] (answered w 0 (wrote (encode m))))) l x to
  message_replied m w h o = sent_replied l new (encode m) size 2 (wrote (encode m)) refl w r (sends_tell (encode m) w (lent l) new r h) o

  module _ (list : List ℕ) (h : Sends (start_answer s list (length (lent l))) (lent l) new r) where
    pub start_served : {block x : List ℕ} {to : ℕ} → block ≡ start_next s list (length (lent l)) → Headed 2 x to
        → Serves (call (Call.start list room)) s block l x to
    unfolding answer step start_answer
    start_served n o = (
      message_replied (start_message list) (start_verdict s list room) (by_room Sends (start_answer s list) h) o,
      n ∙ ap (start_next s list) (lent_length l size),
    )

  module _ (identifier : List ℕ) (h : Sends (close_answer s identifier (length (lent l))) (lent l) new r) where
    pub close_served : {block x : List ℕ} {to : ℕ} → block ≡ close_next s identifier (length (lent l)) → Headed 2 x to
        → Serves (call (Call.close identifier room)) s block l x to
    unfolding answer step close_answer
    close_served n o = (
      message_replied (endpoint_disconnect identifier) (close_verdict s identifier room) (by_room Sends (close_answer s identifier) h) o,
      n ∙ ap (close_next s identifier) (lent_length l size),
    )

  module _ (endpoint : ℕ) (packet : List ℕ) (h : Sends (packet_answer s endpoint packet (length (lent l))) (lent l) new r) where
    pub packet_replied : {x : List ℕ} {to : ℕ} → Headed 2 x to
        → Replies (frame_of (answer_octets [] (answer s (Call.booth_packet endpoint packet room)))) l x to
    unfolding answer packet_answer
    packet_replied o = message_replied (packet_message s endpoint packet) (packet_verdict s endpoint packet room) (by_room Sends (packet_answer s endpoint packet) h) o

  module _ (h : Pages (page_answer s (length (lent l))) (lent l) new r) where
    pub page_replied : {x : List ℕ} {to : ℕ} → Headed 10 x to → Replies (frame_of (answer_octets [] (answer s (Call.write_page room)))) l x to
    unfolding answer page_answer
    page_replied o =
        sent_replied l new (layout (page_entries s)) size 10 (page (page_entries s)) refl (page_verdict s room) r
        (pages_tell (page_entries s) (page_verdict s room) (lent l) new r (by_room Pages (page_answer s) h)) o
