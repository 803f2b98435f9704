use Rattle.std.proofs.Common.{refl, sym, ap, ◌∙◌}
use Rattle.sap_vtext.specs.Modules.{netlist_of}
use Rattle.sap_vtext.proofs.OneFile.{one_file}
use Rattle.sap_vtext.proofs.OneLexing.{one_lexing}
use Rattle.sap_vtext.proofs.one_module.Goals as goal

pub returns : goal.returns
returns c = λ bytes m n a b.
    let tokens = one_lexing refl refl a.lexed b.lexed in
    sym a.netlist ∙ ap netlist_of (one_file tokens a.spelled b.spelled) ∙ b.netlist
