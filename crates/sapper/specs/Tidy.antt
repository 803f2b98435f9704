-- What a `compile` and a `link` write is without needless wires, and within a bound on its size.
use Rattle.std.specs.Prelude.{◌≡◌, ◌≤◌, ◌+◌, ◌*◌, ℕ, List, length, Some}
use Rattle.sap_desk.specs.Desk.{Told}
use Rattle.sap_lattice.specs.Levels.{Levels}
use Rattle.sap_maps.specs.Maps.{Name}
use Rattle.sap_tree.specs.Syntax.{DesignTree}
use Rattle.sap_net.specs.Net.{Net}
use Rattle.sap_size.specs.Items.{items, most_items}
use Rattle.sap_trim.specs.Names.{port_names}
use Rattle.sap_vtext.specs.Modules.{IsModule}
use Rattle.sap_compile.specs.Tidy.{IsTidy}
use Rattle.sap_system.specs.Listing.{Listing}
use Rattle.sap_system.specs.declared.file.WireText.{WireText}
use Rattle.sap_link.specs.Systems.{Wire}
use Rattle.sap_linked.specs.Designs.{NamedDesign, named_system}
use Rattle.sap_linked.specs.Netlist.{shown_names}
use Rattle.sap_wiring.specs.Wiring.{AreWiresOf}
use Rattle.sap_linker.specs.Given.{surroundings}
use Rattle.sap_linker.specs.Sizes.{most_items_of}
use Rattle.sap_words.specs.Words.{command_of, compile, link}
use Rattle.sap_files.specs.Contents.{Has, IsLatticeFile, IsWellFormedText}
use Rattle.sapper.specs.Links.{AreForLink}

-- A text is that of a module that has no needless wire, if these names are shown, and at most this many items.
pub record IsWellMade (shown : Net → List Name) (most : ℕ) (text : List ℕ) : Type 0 where
  pub net : Net
  pub is_module : IsModule text net
  pub tidy : IsTidy (shown net) net
  pub small : items net ≤ most

-- A text is that of a module that is well made for designs and the wires between them that texts stand for: the ports
-- and the wires that stand for fed inputs are shown.
pub record IsWellMadeSystem (ls : Levels) (designs : List NamedDesign) (texts : List WireText)
    (text : List ℕ) : Type 0 where
  pub wires : List Wire
  pub of_texts : AreWiresOf (surroundings ls designs) texts wires
  pub made : IsWellMade (λ net. shown_names (named_system ls designs wires))
      (most_items_of ls designs + 5 * length texts) text

-- A `compile` or a `link` that is done wrote a module that is well made for what its files have.
pub record WritesWellMade (words : List (List ℕ)) (answer : ℕ) (t n : Told) : Type 0 where
  pub compiles : (lattice design out : List ℕ) → command_of words ≡ Some (compile lattice design out) → answer ≡ 0
      → (ls : Levels) (d : DesignTree) → Has t lattice IsLatticeFile ls → Has t design (IsWellFormedText ls) d
      → (text : List ℕ) × (n.files out ≡ Some text) × IsWellMade port_names (most_items ls d) text
  pub links : (lattice system out : List ℕ) → command_of words ≡ Some (link lattice system out) → answer ≡ 0
      → (ls : Levels) (s : Listing) (designs : List NamedDesign) → AreForLink lattice system t ls s designs
      → (text : List ℕ) × (n.files out ≡ Some text) × IsWellMadeSystem ls designs s.wires text
