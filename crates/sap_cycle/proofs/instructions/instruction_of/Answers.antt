use Rattle.std.proofs.Common.{◌≡◌, [], length, arith, rules}
use Rattle.sap_cycle.proofs.Others.{within_more, last_step}
use Rattle.sap_cycle.proofs.instructions.instruction_of.Goals as goal

pub returns-in-Some-clause-within : goal.returns-in-Some-clause-within
returns-in-Some-clause-within c = within_more 0 (length c.args.others.now.items) c.in-Some.instruction (omega arith) (c.in-Some.ensures []).1

pub returns-in_ok-push-in-None-clause-step : goal.returns-in_ok-push-in-None-clause-step
returns-in_ok-push-in-None-clause-step c =
    let at : c.len-place.result ≡ length c.args.others.now.items = search rules in
    last_step c.args.others.now.items c.push.new.self.items c.args.step c.len-place.result c.in_ok-push-in-None.ensures.items at
