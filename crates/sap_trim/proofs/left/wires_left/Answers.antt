use Rattle.std.proofs.Common.{◌≡◌, List, filter, length, sym, ap, ◌∙◌, arith}
use Rattle.sap_net.specs.Names.{is_among}
use Rattle.sap_net.specs.declared.parts.Wire.{Wire}
use Rattle.sap_share.specs.Sets.{holds}
use Rattle.sap_fold.proofs.Lists.{filter_same}
use Rattle.sap_trim.specs.Few.{calculated}
use Rattle.sap_trim.specs.Names.{port_names, shown_wires}
use Rattle.sap_trim.proofs.Passes.{kept_wires}
use Rattle.sap_trim.proofs.left.wires_left.Goals as goal

pub count_calculated-requires : goal.count_calculated-requires
count_calculated-requires c = c.requires.kept.long ∙ sym (ap (λ (ws : List Wire). length ws) c.wires-wires.ensures)

pub returns : goal.returns
returns c =
    let n = c.args.netlist.now in
    let ws = c.wires-wires.result.now in
    let kept = kept_wires n c.args.kept.now ws c.wires-wires.ensures c.requires.kept in
    let shown : filter (λ (w : Wire). holds c.args.shown.now w.name) ws ≡ shown_wires n =
    ap (filter (λ (w : Wire). holds c.args.shown.now w.name)) c.wires-wires.ensures
    ∙ filter_same (λ (w : Wire). holds c.args.shown.now w.name) (λ (w : Wire). is_among w.name (port_names n)) n.wires (λ w. c.requires.shown w.name) in
    let a = c.count_calculated.ensures.same ∙ ap (λ (xs : List Wire). length (calculated xs)) kept in
    let b = c.count_shown.ensures.same ∙ ap (λ (xs : List Wire). length xs) shown in
    omega (arith, a, b)
