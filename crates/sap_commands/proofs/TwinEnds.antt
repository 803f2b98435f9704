-- How `twin` ends, step by step, up to its streams.
use Rattle.std.proofs.Common.{◌≡◌, ℕ, List}
use Rattle.std.specs.Prelude.{Some, None}
use Rattle.sap_lattice.specs.Levels.{Levels, level_named}
use Rattle.sap_latfile.specs.OneLattice.{AreSame}
use Rattle.sap_check.specs.Checked.{tree_in}
use Rattle.sap_check.specs.declared.checked.Checked.{Checked}
use Rattle.sap_words.specs.Words.{twin}
use Rattle.sap_files.specs.Prelude.{Ending, level_refused, refused, IsLatticeFile, design_file, lattice_file, file, Ends, EndsReading, Moment, Reads, whole}
use Rattle.sap_files.proofs.Ended.{chosen, past, quiet_self, reading_ended, stopped_by}
use Rattle.sap_files.proofs.Lattices.{whole_same}
use Rattle.sap_files.proofs.Reading.{reading_in}
use Rattle.sap_commands.specs.Commands.{asks}
use Rattle.sap_commands.specs.Twin.{asks_streams}
use Rattle.sap_commands.proofs.CheckedDesigns.{HasDesign, checked_past}

module _ (lattice design first second word : List ℕ) (a b : Moment) where
  pub no_lattice : (e : Ending) → EndsReading lattice lattice_file e a b → Ends (asks (twin lattice design first second word)) e a b
  no_lattice e ends = reading_ended ends

  module _ (bytes : List ℕ) (l : Levels) (read_lattice : Reads lattice bytes a b) (lattice_is : IsLatticeFile bytes (whole l)) where
    same : AreSame l (whole l)
    same = whole_same bytes l lattice_is

    pub no_level : (e : Ending) → None ≡ level_named l.names word → e ≡ refused (level_refused word)
        → Ends (asks (twin lattice design first second word)) e a b
    no_level e none is = past (whole l) read_lattice lattice_is (chosen None none (stopped_by (level_refused word) e is (quiet_self b)))

    module _ (at : ℕ) (level_is : Some at ≡ level_named l.names word) where
      -- a level is named, and the rest is asked over it
      levelled : (e : Ending) (c : Moment) → Ends (file design (design_file (whole l)) (λ d. asks_streams (whole l) d first second word at)) e b c
          → Ends (asks (twin lattice design first second word)) e a c
      levelled e c rest = past (whole l) read_lattice lattice_is (chosen (Some at) level_is rest)

      pub no_design : (e : Ending) (c : Moment) → EndsReading design (design_file l) e b c → Ends (asks (twin lattice design first second word)) e a c
      no_design e c ends = levelled e c (reading_ended (reading_in l (whole l) same ends))

      -- the design stands, and its streams are asked
      pub designed : (checked : Checked) (c : Moment) → HasDesign l design checked b c → (e : Ending) (n : Moment)
          → Ends (asks_streams (whole l) (tree_in checked) first second word at) e c n → Ends (asks (twin lattice design first second word)) e a n
      designed checked c has e n rest = levelled e n (checked_past l (whole l) checked same has rest)
