use Rattle.sap_lemmas.proofs.Common.{rules, map-append}
use Rattle.sap_net.specs.IsNetlist.{input_names, register_names}
use Rattle.sap_trim.specs.Walked.{itself}
use Rattle.sap_trim.proofs.walk.themselves.Goals as goal

pub returns : goal.returns
returns c =
    let n = c.args.netlist.now in
    let all = map-append itself (input_names n) (register_names n) in
    search (rules, all)
