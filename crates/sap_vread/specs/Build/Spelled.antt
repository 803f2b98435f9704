-- Files that are spelled.
use Rattle.std.specs.Prelude.{ℕ, List}
use Rattle.sap_vtext.specs.Items.{File}
use Rattle.sap_vparse.specs.Text.{IsText}

-- Some text is this file.
pub record IsSpelled (f : File) : Type 0 where
  pub text : List ℕ
  pub is : IsText text f
