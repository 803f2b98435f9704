-- What is noted of a whole file.
use Rattle.std.specs.Prelude.{◌≡◌, ℕ, List}
use Rattle.sap_vtext.specs.Items.{File}
use Rattle.sap_vtext.specs.Modules.{first_of}
use Rattle.sap_vread.specs.Build.Firsts.{number_of}
use Rattle.sap_vread.specs.Build.Noted.{all_noted, ports_noted}
use Rattle.sap_vread.specs.declared.build.noting.Noting.TheVariants.{Range, Start, Next, Write}
use Rattle.sap_vread.specs.declared.build.tables.Tables.{Tables}

-- The tables have, for each name, what the module's ports and items note first.
pub record AreNoted (t : Tables) (f : File) : Type 0 where
  pub ranges : (n : List ℕ) → number_of t.ranges n ≡ first_of (ports_noted n f.ports) (all_noted Range n 0 f.items)
  pub starts : (n : List ℕ) → number_of t.starts n ≡ all_noted Start n 0 f.items
  pub nexts : (n : List ℕ) → number_of t.nexts n ≡ all_noted Next n 0 f.items
  pub writes : (n : List ℕ) → number_of t.writes n ≡ all_noted Write n 0 f.items
