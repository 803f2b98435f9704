use Rattle.std.proofs.Common.{◌<◌, length, subst, arith}
use Rattle.sap_lattice.specs.Prelude.{Codes, Levels, order_of, Laws}
use Rattle.sap_check.specs.Checked.{levels_in, tree_in}
use Rattle.sap_resolved.specs.Fill.{program_of}
use Rattle.sap_trace.proofs.known.known.Goals as goal

pub returns-clause-codes : goal.returns-clause-codes
returns-clause-codes c = subst (λ (l : Levels). Codes (order_of l)) c.lattice.ensures c.lawful-2.ensures.codes

pub returns-clause-order : goal.returns-clause-order
returns-clause-order c = subst (λ (l : Levels). Laws (order_of l)) c.lattice.ensures c.lawful-2.ensures.order

pub returns-clause-some : goal.returns-clause-some
returns-clause-some c = subst (λ (l : Levels). 0 < length l.names) c.lattice.ensures (omega (arith, c.lawful-2.ensures.names.before.at_least_two))

pub returns-clause-numbering : goal.returns-clause-numbering
returns-clause-numbering c = c.sites_agree.ensures (levels_in c.args.checked.now) (tree_in c.args.checked.now) c.lawful.ensures

pub returns-clause-in_order : goal.returns-clause-in_order
returns-clause-in_order c = λ inputs s.
    let ls = levels_in c.args.checked.now in
    let d = tree_in c.args.checked.now in
    let order : Laws (order_of (levels_in c.args.checked.now)) = subst (λ (l : Levels). Laws (order_of l)) c.lattice.ensures c.lawful-2.ensures.order in
    (c.refusals_in_order.ensures (program_of ls d) (c.well_formed_serves.ensures.fine ls d order c.lawful.ensures) inputs s).0
