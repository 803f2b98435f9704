-- The definitions of what a module's signals stand for that proofs of other crates name, each from the file in which it
-- stands. Declares nothing.
pub use Rattle.sap_interface.specs.Compiled.{coded, coded_stream, CyclesStand, NetStandsFor, NetStartsAs}
pub use Rattle.sap_interface.specs.Designs.{named_of, site_count_of, StandsForDesign}
pub use Rattle.sap_interface.specs.Interface.{declared_by, DeclaresInterface, DeclaresPart, HasInterface, HasSeat, pairs_of, ports_of, Shown, site_ports}
pub use Rattle.sap_interface.specs.InterfaceNames.{child_of, child_of_root, holds_numbers, IsInterfaceName, level_of, refusal_of, state_tag_of, tag_of}
pub use Rattle.sap_interface.specs.InterfaceNames.{value_of}
pub use Rattle.sap_interface.specs.StandsFor.{depth, IsRefused, IsRefusedAt, name, Named, StandsFor, world}
