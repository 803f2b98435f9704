use Rattle.sap_fold.proofs.under.direct.Goals as goal

pub returns-in_ok-rest-in-Some : goal.returns-in_ok-rest-in-Some
returns-in_ok-rest-in-Some c = c.in_ok-rest-in-Some.ensures {u = tt} c.args.wires.now.list.items c.args.operand.now c.in-Some.ensures
