use Rattle.sap_lemmas.proofs.Common.{◌++◌, ap, ◌∙◌, codes, decimal, joined_on_last}
use Rattle.sap_vprint.specs.Text.{loop_text}
use Rattle.sap_vprint.proofs.Texts.{loop_grows}
use Rattle.sap_vprint.proofs.lines.loop_head.Goals as goal

pub returns : goal.returns
returns c =
    joined_on_last c.extend_from_slice-2.result c.extend_from_slice-2.new.self.items c.push_number.new.out.items (codes "; i = i + 1) ")
    (c.args.out.now.items ++ loop_text c.args.depth)
    c.extend_from_slice-2.ensures.items
    (loop_grows c.args.depth c.args.out.now.items c.extend_from_slice.new.self.items c.push_number.new.out.items
    c.in_ok-extend_from_slice.ensures.items (c.in_ok-push_number.ensures.text ∙ ap (λ n. c.extend_from_slice.new.self.items ++ decimal n) c.from.ensures))
