use Rattle.sap_lemmas.proofs.Common.{ap, ◌∙◌, flat_map, map}
use Rattle.sap_vtext.specs.Modules.{net_port, port_input}
use Rattle.sap_vparse.specs.Views.{port_of}
use Rattle.sap_vread.specs.Build.Narrow.{narrow_port}
use Rattle.sap_vread.proofs.build.building.declared_in.Goals as goal

pub returns-clause-ports : goal.returns-clause-ports
returns-clause-ports c = c.in_ok-ports.ensures ∙ ap (λ ps. map (λ p. net_port (narrow_port (port_of p))) ps) c.as_slice.ensures.value

pub returns-clause-inputs : goal.returns-clause-inputs
returns-clause-inputs c = c.in_ok-inputs.ensures ∙ ap (λ ps. flat_map (λ p. port_input (narrow_port (port_of p))) ps) c.as_slice-2.ensures.value
