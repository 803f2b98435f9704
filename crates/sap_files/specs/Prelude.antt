-- The definitions of commands over files that proofs name, each from the file in which it stands. Declares nothing.
pub use Rattle.sap_files.specs.After.{Blames, Stands}
pub use Rattle.sap_files.specs.Asks.{AreLawful, Asks, with_the, Cause, end_of, EndsAtFile, file, Files, gives, IsCut, IsPrefix, Leaves, MayEnd, Output, prints}
pub use Rattle.sap_files.specs.Asks.{Shows, stops, writes, Written}
pub use Rattle.sap_files.specs.Contents.{Has, IsLatticeFile, IsWellFormedText, table_by}
pub use Rattle.sap_files.specs.DesignFaults.{IsDesignFault}
pub use Rattle.sap_files.specs.Designs.{design_ending, GetsDesign, IsChecked, ReadsDesign}
pub use Rattle.sap_files.specs.Ending.{asm_refused, design_refused, done, Ending, failed, inputs_apart, IsFree, lattice_refused, lengths_apart}
pub use Rattle.sap_files.specs.Ending.{level_refused, line, line_of, module_refused, no_command, no_memory, part_refused, Refusal, refused, status_of}
pub use Rattle.sap_files.specs.Ending.{status_of_refusal, stimulus_refused, system_refused, taint_refused, wave_refused, wires_refused}
pub use Rattle.sap_files.specs.Kinds.{assembly_file, design_file, design_text_file, IsLawful, IsRefused, Kind, lattice_file, module_file}
pub use Rattle.sap_files.specs.Kinds.{module_stream_file, part_file, stream_by, stream_file, system_file, wave_file}
pub use Rattle.sap_files.specs.Outside.{FullFile, FullOutput, IsUnreadable, OutsideOf}
pub use Rattle.sap_files.specs.Steps.{Counted, ending, ending_of, Ends, EndsReading, FaultRose, Gets, GetsChecked, Gives, HasWhole}
pub use Rattle.sap_files.specs.Steps.{lattice_failure, Left, module_failure, Moment, NotRead, OpensUnread, Quiet, read_failure, Reads, reason}
pub use Rattle.sap_files.specs.Steps.{Refuses, Same, seen, Stops, system_failure, wave_failure, whole}
pub use Rattle.sap_files.specs.StimulusTexts.{AreDesignRows, AreModuleRows, AreTraceLines, IsModuleStream, IsWholeStream}
pub use Rattle.sap_files.specs.Tainting.{HasTaintOf, IsTaintedText}
