-- The record that Look gives is read as the association of its row.
use Prim.Native.Nat.{ℕ, ◌+◌, ◌≤◌}
use mathlib.Core.Path.{◌≡◌, refl, sym, ap, ap₂, subst, ◌∙◌}
use mathlib.Core.Bool.{Bool, true, false, cond}
use mathlib.Core.List.{List}
use native.Mathlib.Omega.{arith}
use borrow.Author.Tests.{eqb-true}
use lib.Dec.{eqb}
use lib.ListN.{length}
use Rattle.octets.specs.Number.{octet_at}
use Rattle.octets.specs.Part.{part}
use Rattle.octets.proofs.PartLaws.{part_length}
use Rattle.message.specs.Limits.{width, mki_limit, salt_limit}
use Rattle.rules.specs.Limits.{key_limit}
use Rattle.rules.specs.Layout.{row_length, state_at, identifier_at, mki_at, client_key_at, server_key_at, client_salt_at, server_salt_at, identifier_of, endpoint_of, keys_of}
use Rattle.rules.specs.Keys.{Keys}
use Rattle.rules.specs.Answer.{Answer, Association, opened, keyed, refused}
use Rattle.rules.specs.Table.{association_of}
use Rattle.std.specs.Prelude.{Option, Some, None, Result, Err, IfOk}
use Rattle.octets.specs.Refusal.{number_of}
use Rattle.octets.specs.declared.refusal.Refusal.{Refusal}
use Rattle.rows.specs.States.{state_in}
use Rattle.rows.specs.declared.state.State.{State}
use Rattle.distributor.specs.declared.looking.Record.{Record}
use Rattle.distributor.specs.declared.looking.RecordKeys.{RecordKeys}
use Rattle.distributor.specs.Record.{stretch, record_keys, keys_read, record_of, association_in, association_with, look_of}
use Rattle.rules.proofs.FieldLaws.{padded_whole}

-- with and without keys
by_both : (b : Bool) (i : List ℕ) (e : ℕ) (k : RecordKeys) (p q : Association) → opened i e ≡ p → keyed i e (keys_read k) ≡ q → association_with i e (cond b None (Some k)) ≡ cond b p q
by_both true i e k p q f g = f
by_both false i e k p q f g = g

module _ (r : List ℕ) (size : length r ≡ row_length) where
  -- a stretch within the row is the part itself
  within : (at n : ℕ) → at + n ≤ row_length → stretch r at n ≡ part r at (at + n)
  within at n h = padded_whole n (part r at (at + n)) (part_length r at (at + n) (omega arith) ∙ omega arith)

  keys_read_lem : keys_read (record_keys r) ≡ keys_of r
  unfolding record_keys keys_of
  keys_read_lem =
      rw (
        within (mki_at + 1) mki_limit (omega arith),
        within (client_key_at + 1) key_limit (omega arith),
        within (server_key_at + 1) key_limit (omega arith),
        within (client_salt_at + 1) salt_limit (omega arith),
        within (server_salt_at + 1) salt_limit (omega arith),
      )

  pub record_read : association_in (record_of r) ≡ association_of r
  unfolding record_of association_of identifier_of
  record_read =
      let i = within identifier_at width (omega arith) in
      by_both (eqb (octet_at r state_at) 1) _ _ _ _ _
      (ap (λ (x : List ℕ). opened x (endpoint_of r)) i)
      (ap₂ (λ (x : List ℕ) (k : Keys). keyed x (endpoint_of r) k) i keys_read_lem)

-- what is answered beside a refusal
pub look_refused : (a : Answer) (p : Record) (x : Result Record Refusal) (r : Refusal) → x ≡ Err r → refused (number_of r) 0 ≡ a → (look_of x ≡ a) × IfOk x (λ (y : Record). y ≡ p)
look_refused a p x r t h = subst (λ (z : Result Record Refusal). (look_of z ≡ a) × IfOk z (λ (y : Record). y ≡ p)) (sym t) (h, tt)

-- ---- by the state

state_open : (n : ℕ) → state_in n ≡ State.Open → eqb n 1 ≡ true
state_open n h = go (eqb n 0) (eqb n 1) h
  where
    go : (a b : Bool) → cond a State.Vacant (cond b State.Open State.Keyed) ≡ State.Open → b ≡ true
    go true b h = cc
    go false true h = refl
    go false false h = cc

state_other : (n : ℕ) → (state_in n ≡ State.Open → ⊥) → eqb n 1 ≡ false
state_other n h = go (eqb n 0) (eqb n 1) refl refl h
  where
    go : (a b : Bool) → eqb n 0 ≡ a → eqb n 1 ≡ b → (cond a State.Vacant (cond b State.Open State.Keyed) ≡ State.Open → ⊥) → b ≡ false
    go true true e f h = let x = eqb-true n 0 e in let y = eqb-true n 1 f in absurd (omega arith)
    go true false e f h = refl
    go false true e f h = absurd (h refl)
    go false false e f h = refl

module _ (r : List ℕ) (state : State) (s : state ≡ state_in (octet_at r state_at)) where
  pub open_keys : state ≡ State.Open → None ≡ cond (eqb (octet_at r state_at) 1) None (Some (record_keys r))
  open_keys e = rw (state_open (octet_at r state_at) (sym s ∙ e)) refl

  pub keyed_keys : (k : RecordKeys) → (state ≡ State.Open → ⊥) → k ≡ record_keys r → Some k ≡ cond (eqb (octet_at r state_at) 1) None (Some (record_keys r))
  keyed_keys k h e = rw (state_other (octet_at r state_at) (λ z. h (s ∙ z))) (ap Some e)

pub record_is : (r i : List ℕ) (e : ℕ) (k : Option RecordKeys) → i ≡ stretch r identifier_at width → e ≡ endpoint_of r → k ≡ cond (eqb (octet_at r state_at) 1) None (Some (record_keys r))
    → ◌≡◌ {A = Record} (record { identifier = i; endpoint = e; keys = k }) (record_of r)
unfolding record_of
record_is r i e k f g h = rw (f, g, h) refl
