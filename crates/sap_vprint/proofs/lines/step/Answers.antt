use Rattle.sap_lemmas.proofs.Common.{◌++◌, ap, ◌∙◌, [], ◌∷◌, joined_on_last}
use Rattle.sap_vprint.specs.Printed.{always_of}
use Rattle.sap_vprint.specs.Text.{item_text}
use Rattle.sap_vprint.proofs.Texts.{step_grows}
use Rattle.sap_vprint.proofs.lines.step.Goals as goal

pub returns : goal.returns
returns c =
    let name = c.in_ok-extend_from_slice.ensures.items ∙ ap (λ z. c.clocked.new.out.items ++ z) c.as_bytes.ensures in
    let whole = step_grows c.args.register.now c.args.out.now.items c.clocked.new.out.items c.extend_from_slice.new.self.items
    c.extend_from_slice-2.new.self.items c.operand.new.out.items
    c.in_ok-clocked.ensures name c.in_ok-extend_from_slice-2.ensures.items c.in_ok-operand.ensures in
    joined_on_last c.extend_from_slice-3.result c.extend_from_slice-3.new.self.items c.operand.new.out.items (59 ∷ 10 ∷ [])
    (c.args.out.now.items ++ item_text (always_of c.args.register.now))
    c.extend_from_slice-3.ensures.items whole
