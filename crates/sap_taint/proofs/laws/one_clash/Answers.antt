use Rattle.sap_taint.proofs.Clashes as clash
use Rattle.sap_taint.proofs.laws.one_clash.Goals as goal

pub returns : goal.returns
returns c =
    let n = c.args.netlist.now in
    record { some = clash.room_or_clash n c.rules.ensures; apart = clash.no_clash_with_room n; one = clash.one_clash n }
