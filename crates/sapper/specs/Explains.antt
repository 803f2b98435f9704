-- What a `compile` and a `link` write explains itself: it begins with comment lines that tell the levels with their
-- codes, the groups of states and the check sites, and what follows them is the module.
use Rattle.std.specs.Prelude.{◌≡◌, ℕ, List, Some}
use Rattle.sap_desk.specs.Desk.{Told}
use Rattle.sap_lattice.specs.Levels.{Levels}
use Rattle.sap_tree.specs.Syntax.{DesignTree}
use Rattle.sap_net.specs.Net.{Net}
use Rattle.sap_explain.specs.Explained.{IsExplained}
use Rattle.sap_explain.specs.Explanation.{explanation, system_explanation}
use Rattle.sap_system.specs.Listing.{Listing}
use Rattle.sap_linked.specs.Designs.{NamedDesign}
use Rattle.sap_words.specs.Words.{command_of, compile, link}
use Rattle.sap_files.specs.Contents.{Has, IsLatticeFile, IsWellFormedText}
use Rattle.sapper.specs.Links.{AreForLink}

-- A `compile` or a `link` that is done wrote the lines that explain its design or its system, and then the text of a
-- module that is the same module with these lines.
pub record Explains (words : List (List ℕ)) (answer : ℕ) (t n : Told) : Type 0 where
  pub compiles : (lattice design out : List ℕ) → command_of words ≡ Some (compile lattice design out) → answer ≡ 0
      → (ls : Levels) (d : DesignTree) → Has t lattice IsLatticeFile ls → Has t design (IsWellFormedText ls) d
      → (text : List ℕ) × (n.files out ≡ Some text) × ((net : Net) × IsExplained (explanation ls d) text net)
  pub links : (lattice system out : List ℕ) → command_of words ≡ Some (link lattice system out) → answer ≡ 0
      → (ls : Levels) (s : Listing) (designs : List NamedDesign) → AreForLink lattice system t ls s designs
      → (text : List ℕ) × (n.files out ≡ Some text)
      × ((net : Net) × IsExplained (system_explanation ls designs) text net)
