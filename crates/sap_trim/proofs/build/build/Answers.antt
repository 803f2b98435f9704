use Rattle.std.proofs.Common.{rules, ◌≡◌, filter, Bool, ap}
use mathlib.Core.Path.{fun_ext}
use Rattle.sap_maps.specs.Maps.{Name}
use Rattle.sap_net.specs.Names.{is_among}
use Rattle.sap_net.specs.declared.parts.Wire.{Wire}
use Rattle.sap_share.specs.Sets.{holds}
use Rattle.sap_trim.specs.Names.{lasting_names, shown_wires}
use Rattle.sap_trim.proofs.build.build.Goals as goal

pub returns : goal.returns
returns c =
    let n = c.args.netlist.now in
    let names : filter (holds c.args.lasting.now) n.names ≡ filter (λ x. is_among x (lasting_names n)) n.names =
    ap (λ (f : Name → Bool). filter f n.names) (fun_ext c.requires.lasting) in
    let ports : filter (λ (w : Wire). holds c.args.shown.now w.name) n.wires ≡ shown_wires n =
    ap (λ (f : Name → Bool). filter (λ (w : Wire). f w.name) n.wires) (fun_ext c.requires.shown) in
    search (rules, names, ports)
