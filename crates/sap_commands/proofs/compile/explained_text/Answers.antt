use Rattle.std.proofs.Common.{ℕ, List}
use Rattle.std.proofs.lemmas.Result.{IfOk-weaker}
use Rattle.sap_check.specs.Checked.{levels_in, tree_in}
use Rattle.sap_net.specs.Net.{Net}
use Rattle.sap_vtext.specs.Modules.{IsModule}
use Rattle.sap_compile.proofs.Texts.{with_text}
use Rattle.sap_explain.specs.Explained.{IsExplained}
use Rattle.sap_explain.specs.Explanation.{explanation}
use Rattle.sap_commands.specs.Commands.{IsModuleText}
use Rattle.sap_commands.proofs.compile.explained_text.Goals as goal

pub returns : goal.returns
returns c =
    let ls = levels_in c.args.checked.now in
    let d = tree_in c.args.checked.now in
    let plain = c.in_ok-plain.plain in
    let (net, is) = c.in_ok-plain.ensures in
    IfOk-weaker c.explained.result (λ (text : List ℕ). (n : Net) → IsModule plain n → IsExplained (explanation ls d) text n) (λ (text : List ℕ). IsModuleText ls d text)
    (λ text behind. let e = behind net is.is_module in (net, with_text ls d net text (plain, is) e.same, e)) c.explained.ensures.module
