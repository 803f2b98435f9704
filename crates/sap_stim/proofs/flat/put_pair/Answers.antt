use Rattle.sap_stim.proofs.Placed.{pair_there, two_set}
use Rattle.sap_stim.proofs.flat.put_pair.Goals as goal

pub returns-clause-text : goal.returns-clause-text
returns-clause-text c =
    let p = pair_there c.args.pair c.requires.pair in
    two_set c.args.bytes.now c.args.at _ _ _ _ c.requires.room p.0 p.1
