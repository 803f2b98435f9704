use Rattle.sap_explain.proofs.CommentLines.{levels_are}
use Rattle.sap_explain.proofs.laws.levels_are_comments.Goals as goal

pub returns : goal.returns
returns c = levels_are c.args.lattice.now c.lawful.ensures.names
