use Rattle.std.proofs.Common.{◌∙◌, sym, ap, subst, arith}
use Rattle.sap_cycle.specs.Running.{Running}
use Rattle.sap_net.specs.Net.{Net}
use Rattle.sap_wave.specs.Prelude.{AddsBlock, StandAt, variables_of}
use Rattle.sap_wave_run.proofs.Going.{block_more}
use Rattle.sap_wave_run.proofs.dump.step.Goals as goal

pub step-requires-clause-planned : goal.step-requires-clause-planned
step-requires-clause-planned c = c.requires.1.planned

pub step-requires-clause-line : goal.step-requires-clause-line
step-requires-clause-line c = c.requires.1.fits.0

pub write_block_at-requires-clause-variables : goal.write_block_at-requires-clause-variables
write_block_at-requires-clause-variables c =
    sym (c.requires.1.variables ∙ ap variables_of (sym (ap (λ (r : Running). r.net) c.runner.ensures ∙ c.step.ensures.netlist)))

pub write_block_at-requires-clause-places : goal.write_block_at-requires-clause-places
write_block_at-requires-clause-places c =
    subst (λ (m : Net). StandAt m c.args.dumper.now.variables c.args.places.now) (sym (ap (λ (r : Running). r.net) c.runner.ensures ∙ c.step.ensures.netlist)) c.requires.1.stand

pub write_block_at-requires-clause-few : goal.write_block_at-requires-clause-few
write_block_at-requires-clause-few c = omega (arith, c.requires.1.few)

pub returns : goal.returns
returns c =
    let new = c.step.new.self in
    let adds : AddsBlock new.runner c.args.dumper.now c.write_block_at.new.self
    = subst (λ (r : Running). AddsBlock r c.args.dumper.now c.write_block_at.new.self) c.runner.ensures c.write_block_at.ensures.block in
    block_more c.args.lattice.now c.args.simulation.now new c.args.dumper.now c.write_block_at.new.self c.args.places.now c.args.line.now
    c.step.ensures.next c.step.ensures.netlist c.step.ensures.planned
    c.step.ensures.fields adds c.write_block_at.ensures.variables c.write_block_at.ensures.count
