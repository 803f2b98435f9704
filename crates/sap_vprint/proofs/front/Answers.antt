use Rattle.sap_lemmas.proofs.Common.{◌++◌, ap, ◌∙◌, codes, joined_on_last}
use Rattle.sap_vprint.specs.Parts.{front_text}
use Rattle.sap_vprint.specs.Text.{text_of, head_pieces}
use Rattle.sap_vprint.proofs.WholeText.{front_grows}
use Rattle.sap_vprint.proofs.front.Goals as goal

pub returns : goal.returns
returns c =
    let name = c.in_ok-begin.ensures ∙ ap (λ z. c.args.out.now.items ++ text_of (head_pieces z)) c.module_name.ensures in
    joined_on_last c.extend_from_slice.result c.extend_from_slice.new.self.items c.ports.new.out.items (codes "\n);\n")
    (c.args.out.now.items ++ front_text c.args.netlist.now) c.extend_from_slice.ensures.items
    (front_grows c.args.netlist.now c.args.out.now.items c.begin.new.out.items c.ports.new.out.items name c.in_ok-ports.ensures)
