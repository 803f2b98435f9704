-- The definitions of simulations that proofs name, each from the file in which it stands. Declares nothing.
pub use Rattle.sap_sim.specs.Fields.{field_of, fields_of, input_widths, is_tag, is_tagged, tag_width, with_field}
pub use Rattle.sap_sim.specs.Labelled.Fields.{design_fields}
pub use Rattle.sap_sim.specs.Labelled.LabelledRows.{labelled_row, labelled_rows, register_shown, registers_shown, rows_of_run}
pub use Rattle.sap_sim.specs.Labelled.RunOf.{GivesRuns, IsRunOf, read_for}
pub use Rattle.sap_sim.specs.Layout.{ArePlaces, IsPlan, number_from, seen_at, source_of, source_place}
pub use Rattle.sap_sim.specs.Lookup.{Finds}
pub use Rattle.sap_sim.specs.Numbers.{field_names, given, nothing, number_for, numbers_of, place, value_for}
pub use Rattle.sap_sim.specs.Shown.{register_widths, row_of, rows_from, shown_registers}
pub use Rattle.sap_sim.specs.Simulated.{IsSimulated, Rows}
pub use Rattle.sap_sim.specs.Stepped.{HasMore, IsRunOn, Stepped}
pub use Rattle.sap_sim.specs.Stepping.{AreRows, HasRowMore, IsAfter, IsPlanned, rows_of, RowsAddUp}
