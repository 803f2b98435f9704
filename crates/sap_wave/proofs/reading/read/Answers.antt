use Rattle.std.proofs.Common.{rules, arith}
use Rattle.sap_wave.specs.Steps.{state_of}
use Rattle.sap_wave.proofs.ReadUpTo.{goes_on, read_end_so, refused_so, shorter, stopped}
use Rattle.sap_wave.proofs.reading.read.Goals as goal

pub lines-preserved : goal.lines-preserved
lines-preserved c =
    let r = c.in_ok-reached.reached in
    let h = c.in-Some.halves in
    let less = shorter r.rest.text.now h.before.now h.behind.now c.in-Some.ensures.some in
    let read = c.in_ok-reached.ensures.read c.args.bytes.now c.lines.invariant.read in
    record {
      read = goes_on c.args.bytes.now r.rest.text.now h.before.now h.behind.now r.rest.line (state_of r.state) _ read c.in-Some.ensures.some c.in_ok-state.ensures.reached;
      indexed = c.in_ok-state.ensures.indexed;
      line = omega (arith, less, c.in_ok-reached.ensures.few, c.lines.invariant.line);
    }

pub returns-in_err-reached-clause-fault : goal.returns-in_err-reached-clause-fault
returns-in_err-reached-clause-fault c =
    refused_so c.args.bytes.now c.from_residual.result c.in_err-reached.field-0.0 (search rules)
    (λ other. c.in_err-reached.ensures.fault c.args.bytes.now c.lines.invariant.read)

pub returns-in_err-state-clause-fault : goal.returns-in_err-state-clause-fault
returns-in_err-state-clause-fault c =
    let r = c.in_ok-reached.reached in
    let h = c.in-Some.halves in
    let fault = c.in_err-state.field-0.0 in
    let read = c.in_ok-reached.ensures.read c.args.bytes.now c.lines.invariant.read in
    refused_so c.args.bytes.now c.from_residual-in_err-state.result fault (search rules)
    (stopped c.args.bytes.now r.rest.text.now h.before.now h.behind.now r.rest.line (state_of r.state) fault read c.in-Some.ensures.some c.in_err-state.ensures.fault)

pub returns-in_default-clause-reading : goal.returns-in_default-clause-reading
returns-in_default-clause-reading c =
    let r = c.in_ok-reached.reached in
    let read = c.in_ok-reached.ensures.read c.args.bytes.now c.lines.invariant.read in
    (read_end_so c.args.bytes.now r.rest.text.now r.rest.line (state_of r.state) c.read_end.result read c.in_default.ensures.none
    c.read_end.ensures.cut_off c.read_end.ensures.reading c.read_end.ensures.fault).0

pub returns-in_default-clause-fault : goal.returns-in_default-clause-fault
returns-in_default-clause-fault c =
    let r = c.in_ok-reached.reached in
    let read = c.in_ok-reached.ensures.read c.args.bytes.now c.lines.invariant.read in
    (read_end_so c.args.bytes.now r.rest.text.now r.rest.line (state_of r.state) c.read_end.result read c.in_default.ensures.none
    c.read_end.ensures.cut_off c.read_end.ensures.reading c.read_end.ensures.fault).1
