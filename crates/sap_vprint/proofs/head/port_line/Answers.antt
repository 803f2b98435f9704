use Rattle.sap_lemmas.proofs.Common.{◌++◌, ap, ◌∙◌, joined_on_last}
use Rattle.sap_vprint.specs.Printed.{port_of}
use Rattle.sap_vprint.specs.Text.{port_text}
use Rattle.sap_vprint.proofs.Texts.{port_grows}
use Rattle.sap_vprint.proofs.head.port_line.Goals as goal

pub returns : goal.returns
returns c =
    let direction = c.in_ok-extend_from_slice-2.ensures.items ∙ ap (λ z. c.extend_from_slice.new.self.items ++ z) c.direction.ensures in
    joined_on_last c.extend_from_slice-3.result c.extend_from_slice-3.new.self.items c.range.new.out.items c.as_bytes.result.now
    (c.args.out.now.items ++ port_text (port_of c.args.kind c.args.name.now c.args.width)) c.extend_from_slice-3.ensures.items
    (ap (λ z. c.range.new.out.items ++ z) c.as_bytes.ensures
    ∙ port_grows c.args.kind c.args.name.now c.args.width c.args.out.now.items c.extend_from_slice.new.self.items c.extend_from_slice-2.new.self.items c.range.new.out.items
    c.in_ok-extend_from_slice.ensures.items direction c.in_ok-range.ensures)
