use Rattle.std.proofs.lemmas.Result.{err_from_is_err_and}
use Rattle.sap_tree.specs.Designs.{design_of}
use Rattle.sap_files.proofs.Ended.{gave, got, quiet_self, reading_ended, starved}
use Rattle.sap_commands.proofs.fmt.fmt.Goals as goal

pub returns-in_err-tree : goal.returns-in_err-tree
returns-in_err-tree g c =
    let p = err_from_is_err_and c.from_residual.result c.from_residual.ensures.1 in
    rw (p.1, p.2) (reading_ended c.in_err-tree.ensures)

pub returns-in_err-text : goal.returns-in_err-text
returns-in_err-text g c =
    let p = err_from_is_err_and c.from_residual-in_err-text.result c.from_residual-in_err-text.ensures.1 in
    rw (p.1, p.2) (got (design_of c.in_ok-tree.tree) c.in_ok-tree.ensures (starved _ (quiet_self _)))

pub returns : goal.returns
returns g c = got (design_of c.in_ok-tree.tree) c.in_ok-tree.ensures (gave c.in_ok-text.text c.in_ok-text.ensures.canonical c.put.ensures)
