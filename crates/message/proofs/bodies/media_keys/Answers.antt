use Rattle.std.proofs.Common.{rules}
use Rattle.message.proofs.KeyEnds.{one_test, beyond}
use Rattle.message.proofs.bodies.media_keys.Goals as goal

pub returns-in_err-server_salt : goal.returns-in_err-server_salt
returns-in_err-server_salt c = search (rules, beyond)

pub returns-then-not-some-end : goal.returns-then-not-some-end
returns-then-not-some-end c = search (rules, one_test)
