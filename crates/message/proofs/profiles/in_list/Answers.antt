use Rattle.std.proofs.Common.{◌∙◌, rules, tests, nat_eq}
use Rattle.std.specs.Int.{w16, from_be_bytes}
use Rattle.std.proofs.lemmas.Iterator.{YieldsList-from_slice}
use Rattle.std.proofs.lemmas.Iterator.Search.{any_from_yields_List}
use Rattle.message.proofs.ProfileLaws.{found_in_pairs}
use Rattle.message.proofs.profiles.in_list.Goals as goal

pub returns : goal.returns
returns c =
    any_from_yields_List (λ e. nat_eq (from_be_bytes w16 e) c.args.profile) _ _ _ c.any.ensures.ran
    (YieldsList-from_slice _ cc) (λ x b q k. search (rules, tests))
    ∙ found_in_pairs c.args.profile c.args.list.now
