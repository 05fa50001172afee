use mathlib.Core.Path.{refl}
use Rattle.std.specs.Prelude.{Ok, Err}
use Rattle.octets.specs.declared.refusal.Refusal.{Refusal}
use Rattle.rules.specs.Table as Spec
use Rattle.distributor.specs.declared.receiving.Received.{Received}
use Rattle.distributor.proofs.ReceivingLaws.{of_fields}
use Rattle.distributor.proofs.receiving.take_message.Goals as goal

pub returns-in-SupportedProfiles : goal.returns-in-SupportedProfiles
unfolding Spec.fields_answer Spec.fields_next
returns-in-SupportedProfiles c =
    let a = c.args in
    of_fields a.state.now a.s.now a.message.taken (Err (record { refusal = Refusal.WrongDirection; taken = a.message.taken })) c.in-SupportedProfiles.is (refl, refl)

pub returns-in-UnsupportedVersion : goal.returns-in-UnsupportedVersion
unfolding Spec.fields_answer Spec.fields_next
returns-in-UnsupportedVersion c =
    let a = c.args in
    of_fields a.state.now a.s.now a.message.taken (Ok (Received.Version c.in-UnsupportedVersion.version a.message.taken)) c.in-UnsupportedVersion.is (refl, c.put_down.ensures)

pub returns-in-MediaKeys : goal.returns-in-MediaKeys
returns-in-MediaKeys c =
    let a = c.args in
    of_fields a.state.now a.s.now a.message.taken _ c.in-MediaKeys.is c.take_keys.ensures

pub returns-in-TunneledDtls : goal.returns-in-TunneledDtls
returns-in-TunneledDtls c =
    let a = c.args in
    of_fields a.state.now a.s.now a.message.taken _ c.in-TunneledDtls.is c.deliver.ensures

pub returns-in-EndpointDisconnect : goal.returns-in-EndpointDisconnect
returns-in-EndpointDisconnect c =
    let a = c.args in
    of_fields a.state.now a.s.now a.message.taken _ c.in-EndpointDisconnect.is c.disconnect.ensures
