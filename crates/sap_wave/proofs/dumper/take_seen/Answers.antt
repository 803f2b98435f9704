use Rattle.sap_lemmas.proofs.Common.{sym, ap, map, ◌∙◌, subst, arith, take_all}
use Rattle.sap_net.specs.Prelude.{Net, IsNetlist}
use Rattle.sap_cycle.specs.Running.{seen}
use Rattle.sap_wave.specs.declared.variable.Variable.{Variable}
use Rattle.sap_wave.proofs.Seen.{variable_is_register}
use Rattle.sap_wave.proofs.dumper.take_seen.Goals as goal

pub number-requires : goal.number-requires
number-requires c =
    let n = c.args.runner.now.net in
    let net : IsNetlist c.args.runner.now.net = subst (λ (m : Net). IsNetlist m) c.netlist.ensures c.rules.ensures in
    variable_is_register n net c.args.variables.now c.loop-k.k c.index-variables-k.result c.requires.variables c.loop-k-test.true

pub returns-clause-seen : goal.returns-clause-seen
returns-clause-seen c = λ cycle shows.
    let f = λ (x : Variable). (seen c.args.runner.now.net cycle).value x.name in
    sym (take_all c.loop-k.k c.loop-k.numbers (omega (arith, c.loop-k.auto.numbers, c.requires.count, c.loop-k-test.false)))
    ∙ c.loop-k.invariant cycle shows
    ∙ ap (map f) (take_all c.loop-k.k c.args.variables.now (omega (arith, c.loop-k-test.false)))
    ∙ ap (map f) c.requires.variables
