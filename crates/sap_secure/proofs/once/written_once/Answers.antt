use Rattle.sap_resolved.specs.Fill.{program_of}
use Rattle.sap_secure.proofs.once.Reached.{writes_once}
use Rattle.sap_secure.proofs.once.Cells.{unwritten_stay, changes_one_cell}
use Rattle.sap_secure.proofs.once.written_once.Goals as goal

pub returns : goal.returns
returns c = record {
  steps = λ ls d laws formed. writes_once (program_of ls d) (c.well_formed_serves.ensures.fine ls d laws formed);
  unwritten = λ ls d laws formed. unwritten_stay (program_of ls d);
  cells = λ ls d laws formed. changes_one_cell (program_of ls d) (writes_once (program_of ls d) (c.well_formed_serves.ensures.fine ls d laws formed));
}
