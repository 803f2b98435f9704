use Rattle.std.proofs.Common.{◌∙◌, List, Bool, length, ap, ap₂, sym, subst}
use Rattle.sap_net.specs.declared.parts.Wire.{Wire}
use Rattle.sap_maps.specs.Scope.{find}
use Rattle.sap_share.specs.Sets.{holds}
use Rattle.sap_trim.specs.Needed.{MarksNeeded}
use Rattle.sap_trim.specs.Walked.{state_of}
use Rattle.sap_trim.specs.Built.{built}
use Rattle.sap_trim.proofs.Passes.{tidied_all}
use Rattle.sap_trim.proofs.trim.kept_wires.Goals as goal

pub settle_kept-requires-clause-long : goal.settle_kept-requires-clause-long
settle_kept-requires-clause-long c =
    ap (λ (bs : List Bool). length bs) c.deref.ensures.value ∙ c.requires.kept.long ∙ sym (ap (λ (ws : List Wire). length ws) c.wires.ensures)

pub returns : goal.returns
returns c =
    tidied_all c.args.netlist.now (holds c.args.lasting.now) c.deref.result.now (state_of c.args.walk) (state_of c.settle_kept.new.self)
    c.wires.result.now (built c.args.netlist.now c.made_by.result.wires.items (find c.made_by.result.stands)) c.rules.ensures
    c.requires.lasting (subst (MarksNeeded c.args.netlist.now) (sym c.deref.ensures.value) c.requires.kept) c.requires.begins c.wires.ensures c.in_ok-settle_kept.ensures.walked
    c.settle_kept.new.self.wires.numbers c.in_ok-settle_kept.ensures.orderly
    (ap₂ (λ (ws : List Wire) e. built c.args.netlist.now ws (find e)) c.made_by.ensures.wires c.made_by.ensures.stands)
