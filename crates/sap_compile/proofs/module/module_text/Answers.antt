use Rattle.std.proofs.Common.{ℕ, List}
use Rattle.std.proofs.lemmas.Result.{IfOk-weaker}
use Rattle.sap_check.specs.Checked.{levels_in, tree_in}
use Rattle.sap_net.specs.Net.{Net}
use Rattle.sap_vtext.specs.Modules.{IsModule}
use Rattle.sap_compile.specs.Compiles.{IsModuleFor}
use Rattle.sap_compile.proofs.Texts.{with_text}
use Rattle.sap_compile.proofs.module.module_text.Goals as goal

pub returns : goal.returns
returns c =
    let ls = levels_in c.args.checked.now in
    let d = tree_in c.args.checked.now in
    let n = c.in_ok-netlist.netlist in
    IfOk-weaker c.print.result (λ (text : List ℕ). IsModule text n) (λ (text : List ℕ). (net : Net) × IsModuleFor ls d net text)
    (λ text is. (n, with_text ls d n text c.in_ok-netlist.ensures.compiled is)) c.print.ensures
