-- Texts of modules that begin with what explains them.
use Rattle.std.specs.Prelude.{◌≡◌, ℕ, List, ◌++◌}
use Rattle.sap_net.specs.Net.{Net}
use Rattle.sap_vtext.specs.Modules.{IsModule}

-- A text is some lines and then the text of a module, and with these lines it is the same module.
pub record IsExplained (lines text : List ℕ) (net : Net) : Type 0 where
  pub plain : List ℕ
  pub parts : text ≡ lines ++ plain
  pub is_module : IsModule plain net
  pub same : IsModule text net
