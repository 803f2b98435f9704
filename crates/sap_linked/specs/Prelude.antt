-- The definitions of linked designs that proofs name, each from the file in which it stands. Declares nothing.
pub use Rattle.sap_linked.specs.Designs.{IsNetOfDesign, LinkedDesignsAreNetlists, LinkedDesignsStand, named_system, NamedDesign, part_of, trees}
pub use Rattle.sap_linked.specs.Examples.{LinkedIsNetlist, p_and_q, PortsInOrder, simple_nets}
pub use Rattle.sap_linked.specs.Interface.{DeclaresLinkedPart, DeclaresSystem, fed_inputs, HasLinkedInterface, input_ports, is_fed_input, is_free}
pub use Rattle.sap_linked.specs.Interface.{IsPartName, linked_ports, ports_in, refusal_ports, register_ports}
pub use Rattle.sap_linked.specs.Laws.{AllNamesDiffer, InputsInOrder, LinkedNetDeclares, LinkedNetIsNetlist, LinkedNetLinks, LinkedNetsStand, NamesStayApart}
pub use Rattle.sap_linked.specs.Laws.{PartsKeepApart}
pub use Rattle.sap_linked.specs.Linking.{Carries, inputs_for, IsNetOf, LinksParts, through_level}
pub use Rattle.sap_linked.specs.Netlist.{below_at, copies_of, feeds, feeds_through, held_ports, inner_names, joined_at, linked_net, shown_names}
pub use Rattle.sap_linked.specs.Netlist.{without_fed}
pub use Rattle.sap_linked.specs.Parts.{has_no_underscore, in_part, NamedSystem, NamesFit, no_part, Part, part_at, system_of, tag_at, value_at}
pub use Rattle.sap_linked.specs.Standing.{names_of_inputs, RunsStand}
