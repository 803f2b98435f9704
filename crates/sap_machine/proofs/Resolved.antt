-- The program of the design is the one written out, by computation.
use Rattle.std.proofs.Common.{◌≡◌, refl}
use Rattle.sap_lattice.specs.Prelude.{diamond, order_of, order_by}
use Rattle.sap_resolved.specs.Fill.{program_of}
use Rattle.sap_machine.specs.Design.{machine_design}
use Rattle.sap_machine.specs.Machine as the
use Rattle.sap_machine.proofs.Literal.{machine, machine_world, states, none}
use Rattle.sap_machine.proofs.Ordered.{order_is}

entities_are : (program_of diamond machine_design).world.entities ≡ machine_world.entities
unfolding diamond order_of order_by
entities_are = refl

children_are : (program_of diamond machine_design).world.children ≡ machine_world.children
unfolding diamond order_of order_by
children_are = refl

states_are : (program_of diamond machine_design).states ≡ states
unfolding diamond order_of order_by
states_are = refl

hang_is : (program_of diamond machine_design).hang ≡ none
unfolding diamond order_of order_by
hang_is = refl

pub program_is : program_of diamond machine_design ≡ machine
program_is = λ i. record { world = record { order = order_is i; entities = entities_are i; children = children_are i }; states = states_are i; hang = hang_is i }

pub machine_is : the.machine ≡ machine
unfolding the.machine
machine_is = program_is
