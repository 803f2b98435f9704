use Rattle.sap_lemmas.proofs.Common.{◌≡◌, ◌∙◌, List, sym, ap, subst, All, None, err_from_is_err_and}
use Rattle.sap_net.specs.Net.{Net}
use Rattle.sap_stim.specs.declared.field.Field.{Field}
use Rattle.sap_stim.specs.declared.stimulus.Parsed.{Parsed}
use Rattle.sap_stim.specs.Fits.{StreamFits}
use Rattle.sap_stim.specs.Line.{IsSized}
use Rattle.sap_stim.specs.Stimulus.{stimulus_of}
use Rattle.sap_sim.specs.Fields.{fields_of}
use Rattle.sap_wave_run.specs.Ready.{IsReady}
use Rattle.sap_commands.proofs.Waves.{dumped_as, reading_as}
use Rattle.sap_files.proofs.Ended.{got, quiet_self, reading_ended, starved}
use Rattle.sap_commands.proofs.wave.record.Goals as goal

pub returns-in_err-recording : goal.returns-in_err-recording
returns-in_err-recording g c =
    let p = err_from_is_err_and c.from_residual.result c.from_residual.ensures.1 in
    rw (p.1, p.2) (starved _ (quiet_self _))

pub lines_of_file-requires : goal.lines_of_file-requires
lines_of_file-requires g c = subst (λ (fs : List Field). All IsSized fs) (sym c.fields.ensures) c.in_ok-recording.ensures.planned.sized

pub returns-in_err-stream : goal.returns-in_err-stream
returns-in_err-stream g c =
    let p = err_from_is_err_and c.from_residual-in_err-stream.result c.from_residual-in_err-stream.ensures.1 in
    let k = c.args.lattice.now in
    let ready = c.in_ok-recording.ensures in
    let fields : c.fields.result.now ≡ fields_of k c.args.netlist = c.fields.ensures ∙ ready.planned.fields ∙ (λ i. fields_of k (ready.net i)) in
    rw (p.1, p.2)
    (reading_ended (reading_as 1 (stimulus_of k c.fields.result.now) (stimulus_of k (fields_of k c.args.netlist)) (ap (stimulus_of k) fields) c.in_err-stream.ensures))

pub write_dump-requires-clause-ready : goal.write_dump-requires-clause-ready
write_dump-requires-clause-ready g c =
    let ready = c.in_ok-recording.ensures in
    subst (λ (n : Net). IsReady c.args.lattice.now n c.in_ok-recording.recording) (sym ready.net) ready

pub write_dump-requires-clause-fits : goal.write_dump-requires-clause-fits
write_dump-requires-clause-fits g c =
    let k = c.args.lattice.now in
    let (bytes, reads, is) = c.in_ok-stream.ensures in
    subst (λ (fs : List Field). StreamFits k fs c.in_ok-stream.stream) c.fields.ensures
    (subst (λ (read : Parsed). StreamFits k c.fields.result.now read.stream) is (c.stimulus_fits.ensures k c.fields.result.now bytes c.lawful.ensures.order.bottom_is_level))

pub returns : goal.returns
returns g c =
    let k = c.args.lattice.now in
    let ready = c.in_ok-recording.ensures in
    let fields : c.fields.result.now ≡ fields_of k c.args.netlist = c.fields.ensures ∙ ready.planned.fields ∙ (λ i. fields_of k (ready.net i)) in
    let (bytes, reads, is) = c.in_ok-stream.ensures in
    got c.in_ok-stream.stream (bytes, reads, subst (λ (fs : List Field). stimulus_of k fs bytes ≡ record { stream = c.in_ok-stream.stream; fault = None }) fields is)
    (dumped_as k c.in_ok-stream.stream c.in_ok-recording.recording.simulation.runner.net c.args.netlist ready.net c.write_dump.ensures)
