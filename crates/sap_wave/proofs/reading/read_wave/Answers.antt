use Rattle.sap_wave.proofs.Exact.{is_read, only_fault, only_wave}
use Rattle.sap_wave.proofs.reading.read_wave.Goals as goal

pub returns-clause-reading : goal.returns-clause-reading
returns-clause-reading c = is_read c.args.bytes.now c.read.result c.dumps_read_line_by_line.ensures c.read.ensures.reading

pub returns-clause-valid : goal.returns-clause-valid
returns-clause-valid c = λ w g.
    only_wave c.args.bytes.now c.read.result w c.one_wave_or_fault.ensures.one
    (is_read c.args.bytes.now c.read.result c.dumps_read_line_by_line.ensures c.read.ensures.reading) c.read.ensures.fault g

pub returns-clause-exact : goal.returns-clause-exact
returns-clause-exact c = λ line code g.
    only_fault c.args.bytes.now c.read.result line code c.one_wave_or_fault.ensures.one
    (is_read c.args.bytes.now c.read.result c.dumps_read_line_by_line.ensures c.read.ensures.reading) c.read.ensures.fault g
