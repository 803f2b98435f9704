use Rattle.sap_wave.proofs.Telling.{dumps_read_so}
use Rattle.sap_wave.proofs.dumps_read_line_by_line.Goals as goal

pub returns : goal.returns
returns c = dumps_read_so
