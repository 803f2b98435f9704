-- The definitions of netlists that proofs of other crates name, each from the file in which it stands. Declares
-- nothing.
pub use Rattle.sap_net.specs.IsNetlist.{first_readable, input_names, is_input, IsNetlist, memory_names, names_of, PortShows, readable, register_names}
pub use Rattle.sap_net.specs.IsNetlist.{shapes, width_of, wire_names}
pub use Rattle.sap_net.specs.Laws.{AreSame, AreSameRuns, OneRun, SomeRun}
pub use Rattle.sap_net.specs.NameMaps.{at_name, AtPlaces, Indexes, NameMap, place_in, Puts}
pub use Rattle.sap_net.specs.Names.{AreDistinct, is_among, is_initial, is_inner, is_keyword, is_word, IsHelpingName}
unfoldable pub use Rattle.sap_net.specs.Names.{helper, is_name}
pub use Rattle.sap_net.specs.Net.{Net, net_of}
pub use Rattle.sap_net.specs.PortNames.{behind, is_number, refused_level_name, refused_name, root_seat, seat_name, tag_name, tag_of, top_name, value_name}
pub use Rattle.sap_net.specs.PortNames.{value_of}
pub use Rattle.sap_net.specs.Rules.{AreMemories, AreOperands, AreValues, AreWires, IsDepth, IsMemory, IsOperand, IsRegister, IsRight, IsWidth}
pub use Rattle.sap_net.specs.Rules.{readable_after, Shapes}
pub use Rattle.sap_net.specs.Runs.{AllFit, Begins, cell_after, initial, initial_cell, initial_number, InputsAre, InputsFit, IsCycle, IsRun, IsRunAfter}
pub use Rattle.sap_net.specs.Runs.{IsValuation, IsWithin, observed, value_after, written}
pub use Rattle.sap_net.specs.Shown.{has_tag, is_register, port_widths, register_ports, shown_among, shown_by}
pub use Rattle.sap_net.specs.Values.{Holds, operand_value, operand_width, operands_value, operands_width, right_value, ValuesBelow, WidthsAre}
