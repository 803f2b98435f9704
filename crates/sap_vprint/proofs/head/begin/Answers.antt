use Rattle.sap_lemmas.proofs.Common.{◌++◌, ap, ◌∙◌, codes, joined_on_last}
use Rattle.sap_vprint.specs.Text.{text_of, head_pieces}
use Rattle.sap_vprint.proofs.Texts.{begin_grows}
use Rattle.sap_vprint.proofs.head.begin.Goals as goal

pub returns : goal.returns
returns c =
    let name = c.in_ok-extend_from_slice-2.ensures.items ∙ ap (λ z. c.extend_from_slice.new.self.items ++ z) c.as_bytes.ensures in
    joined_on_last c.extend_from_slice-3.result c.extend_from_slice-3.new.self.items c.extend_from_slice-2.new.self.items
    (codes "(\n  input clk") (c.args.out.now.items ++ text_of (head_pieces c.args.module_name.now))
    c.extend_from_slice-3.ensures.items
    (begin_grows c.args.module_name.now c.args.out.now.items c.extend_from_slice.new.self.items c.extend_from_slice-2.new.self.items c.in_ok-extend_from_slice.ensures.items name)
