use Rattle.std.proofs.Common.{subst}
use Rattle.sap_check.specs.Checked.{levels_in, tree_in}
use Rattle.sap_lattice.specs.Prelude.{Codes, Levels, order_of, Laws}
use Rattle.sap_compile.proofs.Agreeing.{one_run, runs_agree, runs_look_alike}
use Rattle.sap_compile.proofs.module.runs.Goals as goal

pub returns-clause-one : goal.returns-clause-one
returns-clause-one c =
    one_run (levels_in c.args.checked.now) (tree_in c.args.checked.now) c.args.netlist.now c.one_run.ensures.some c.one_run.ensures.one c.requires

pub returns-clause-agree : goal.returns-clause-agree
returns-clause-agree c =
    let ls = levels_in c.args.checked.now in
    let laws : Laws (order_of ls) = subst (λ (x : Levels). Laws (order_of x)) c.lattice.ensures c.lawful-2.ensures.order in
    let codes : Codes (order_of ls) = subst (λ (x : Levels). Codes (order_of x)) c.lattice.ensures c.lawful-2.ensures.codes in
    runs_agree ls laws codes c.runs_agree.ensures.first c.states_keep.ensures.rest c.states_keep.ensures.fit c.well_formed_serves.ensures.fine
    (tree_in c.args.checked.now) c.args.netlist.now c.lawful.ensures c.requires

pub returns-clause-look_alike : goal.returns-clause-look_alike
returns-clause-look_alike c =
    let ls = levels_in c.args.checked.now in
    let laws : Laws (order_of ls) = subst (λ (x : Levels). Laws (order_of x)) c.lattice.ensures c.lawful-2.ensures.order in
    let codes : Codes (order_of ls) = subst (λ (x : Levels). Codes (order_of x)) c.lattice.ensures c.lawful-2.ensures.codes in
    runs_look_alike ls laws codes c.runs_agree.ensures.first c.states_keep.ensures.rest c.states_keep.ensures.fit c.well_formed_serves.ensures.fine
    (tree_in c.args.checked.now) c.args.netlist.now c.lawful.ensures c.requires
