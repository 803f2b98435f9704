use Rattle.std.proofs.Common.{ℕ, List}
use Rattle.std.proofs.lemmas.Result.{IfOk-weaker}
use Rattle.sap_net.specs.Net.{Net}
use Rattle.sap_vtext.specs.Modules.{IsModule}
use Rattle.sap_linker.specs.Given.{designs_of}
use Rattle.sap_explain.specs.Explained.{IsExplained}
use Rattle.sap_explain.specs.Explanation.{system_explanation}
use Rattle.sap_commands.proofs.link.explained_text.Goals as goal

pub returns : goal.returns
returns c =
    let lines = system_explanation c.args.lattice.now (designs_of c.args.parts.now) in
    let plain = c.in_ok-plain.plain in
    let n = c.args.netlist.now in
    let is : IsModule plain n = c.in_ok-plain.ensures in
    IfOk-weaker c.explained_system.result (λ (text : List ℕ). (m : Net) → IsModule plain m → IsExplained lines text m) (λ (text : List ℕ). IsExplained lines text n)
    (λ text behind. behind n is) c.explained_system.ensures.module
