use Rattle.std.proofs.Common.{◌++◌, ap, ◌∙◌}
use Rattle.sap_vprint.specs.Parts.{front_text}
use Rattle.sap_vprint.proofs.WholeText.{print_is}
use Rattle.sap_vprint.proofs.print.Goals as goal

pub returns : goal.returns
returns c =
    print_is c.args.netlist.now c.front.new.out.items c.inner.new.out.items c.new.result c.rules.ensures
    (c.in_ok-front.ensures ∙ ap (λ z. z ++ front_text c.args.netlist.now) c.new-out.ensures.items) c.in_ok-inner.ensures (c.new.ensures ∙ c.in_ok-body.ensures)
