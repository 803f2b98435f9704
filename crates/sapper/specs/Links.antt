-- Linked designs. A `link` is done exactly when the system breaks no rule and the design of each of its parts is well
-- formed; the module written, read by its grammar and clocked on any tagged input stream, has in every cycle what the
-- composite run has, part by part; and for two streams that agree at or below a level, the module's runs agree there
-- in every cycle, timing included.
use Rattle.std.specs.Prelude.{◌≡◌, ◌≢◌, ℕ, List, ◌++◌, ◌∷◌, codes, Some}
use Rattle.std.specs.List.{AllZip}
use Rattle.sap_text.specs.Places.{line}
use Rattle.sap_desk.specs.Desk.{Told}
use Rattle.sap_desk.specs.Whole.{Gained}
use Rattle.sap_lattice.specs.Levels.{Levels}
use Rattle.sap_tree.specs.Syntax.{DesignTree}
use Rattle.sap_net.specs.Net.{Net}
use Rattle.sap_vtext.specs.Modules.{IsModule}
use Rattle.sap_system.specs.FaultTexts.{wire_text}
use Rattle.sap_system.specs.Listing.{Listing}
use Rattle.sap_system.specs.SystemFile.{IsSystemOfFile}
use Rattle.sap_system.specs.Wires.{FirstLinkFault, KeepsWires}
use Rattle.sap_system.specs.declared.file.Part.{Part}
use Rattle.sap_system.specs.declared.file.WireText.{WireText}
use Rattle.sap_system.specs.declared.link_fault.LinkFault.{LinkFault}
use Rattle.sap_link.specs.Systems.{Wire}
use Rattle.sap_link.specs.Agree.{RunsOfStreamsAgree}
use Rattle.sap_linked.specs.Parts.{system_of}
use Rattle.sap_linked.specs.Designs.{NamedDesign, named_system}
use Rattle.sap_linked.specs.Standing.{NetStandsForSystem}
use Rattle.sap_linked_small.specs.Laws.{NetStartsAsSystem}
use Rattle.sap_linked_agree.specs.Agree.{SystemRunsAgree, SystemRunsLookAlike, SystemHasOneRun}
use Rattle.sap_wiring.specs.Wiring.{AreWiresOf}
use Rattle.sap_linker.specs.Given.{surroundings}
use Rattle.sap_words.specs.Words.{command_of, link}
use Rattle.sap_files.specs.Contents.{Has, IsLatticeFile, IsWellFormedText}

-- A text is the one module that means what designs do that are linked by the wires that texts stand for: cycle for
-- cycle, with runs that agree where streams do.
pub record MeansSystem (ls : Levels) (designs : List NamedDesign) (texts : List WireText) (text : List ℕ) : Type 0 where
  pub net : Net
  -- By the grammar of modules the text is this module, and no other.
  pub is_module : IsModule text net
  pub no_other : (other : Net) → IsModule text other → other ≡ net
  -- These are the wires.
  pub wires : List Wire
  pub of_texts : AreWiresOf (surroundings ls designs) texts wires
  -- Its interface is that of the parts, except that what a wire feeds is no port. Clocked on any stream that fits,
  -- it has in every cycle of each run what the composite run has, part by part.
  pub stands : NetStandsForSystem (named_system ls designs wires) net
  -- Its numbers before the first cycle stand for the parts' first states.
  pub starts : NetStartsAsSystem (named_system ls designs wires) net
  -- On any stream that fits the free inputs it has one run.
  pub one_run : SystemHasOneRun (named_system ls designs wires) net
  -- On streams that agree at or below a level the composite runs agree there in every cycle, part by part, in
  -- states and refusals.
  pub composites : RunsOfStreamsAgree (system_of (named_system ls designs wires))
  -- So do the module's runs, in states and refusals, and in plain numbers.
  pub agree : SystemRunsAgree (named_system ls designs wires) net
  pub look_alike : SystemRunsLookAlike (named_system ls designs wires) net

-- The file of a part has the bytes of a well-formed design, which has the part's name in the system.
pub record HasDesign (ls : Levels) (t : Told) (p : Part) (d : NamedDesign) : Type 0 where
  pub name : d.name ≡ p.name
  pub has : Has t p.file (IsWellFormedText ls) d.design

-- The files of a `link` are a lattice, a system, and for each part a well-formed design.
pub record AreForLink (lattice system : List ℕ) (t : Told) (ls : Levels) (s : Listing)
    (designs : List NamedDesign) : Type 0 where
  pub levels : Has t lattice IsLatticeFile ls
  pub lists : Has t system IsSystemOfFile s
  pub parts : AllZip (HasDesign ls t) s.parts designs

-- The part p has a file that isn't read as a design that is well formed; those before it have such designs.
pub record HasNoDesign (lattice system : List ℕ) (t : Told) (ls : Levels) (s : Listing) (p : Part) : Type 0 where
  pub levels : Has t lattice IsLatticeFile ls
  pub lists : Has t system IsSystemOfFile s
  pub before : List Part
  pub behind : List Part
  pub is_part : s.parts ≡ before ++ p ∷ behind
  pub designs : List NamedDesign
  pub parts : AllZip (HasDesign ls t) before designs
  pub source : List ℕ
  pub file : t.files p.file ≡ Some source
  pub none : (d : DesignTree) → ¬ IsWellFormedText ls source d

-- Which answer a `link` gives, by its files: `t` is what the desk reports before the call, and `n` after it.
pub record LinksExactly (lattice system out : List ℕ) (lost lost_now answer : ℕ) (t n : Told) : Type 0 where
  -- If it is done, the files are such, the wires break no rule, and what is written means the system.
  pub only : answer ≡ 0
      → (ls : Levels) × (s : Listing) × (designs : List NamedDesign)
      × AreForLink lattice system t ls s designs × KeepsWires (surroundings ls designs) s.wires
      × ((text : List ℕ) × (n.files out ≡ Some text) × MeansSystem ls designs s.wires text)
  -- If they are such and the wires break none, it is done, unless a call on the desk fails (6) or memory runs out
  -- (7).
  pub always : (ls : Levels) (s : Listing) (designs : List NamedDesign)
      → AreForLink lattice system t ls s designs → KeepsWires (surroundings ls designs) s.wires
      → answer ≢ 6 → answer ≢ 7 → answer ≡ 0
  -- If SYSTEM is no system, it is refused as one (9), unless one of these two comes.
  pub no_system : (ls : Levels) (bytes : List ℕ) → Has t lattice IsLatticeFile ls
      → t.files system ≡ Some bytes → ((s : Listing) → ¬ IsSystemOfFile bytes s)
      → answer ≢ 6 → answer ≢ 7 → answer ≡ 9
  -- If a part has a file that is no well-formed design, it is refused as a design (1).
  pub no_design : (ls : Levels) (s : Listing) (p : Part) → HasNoDesign lattice system t ls s p
      → answer ≢ 6 → answer ≢ 7 → answer ≡ 1
  -- If the wires break a rule, the system is refused (9), and the line tells the first.
  pub wires : (ls : Levels) (s : Listing) (designs : List NamedDesign) (fault : LinkFault)
      → AreForLink lattice system t ls s designs
      → FirstLinkFault (surroundings ls designs) s.wires fault → answer ≢ 6 → answer ≢ 7
      → (answer ≡ 9) × Gained (line (codes "system: " ++ wire_text fault)) lost lost_now t n

-- If the arguments are those of a `link`, `LinksExactly` holds of them.
abbrev pub Links : (words : List (List ℕ)) → (lost lost_now answer : ℕ) → Told → Told → Type 0
Links words lost lost_now answer t n =
    (lattice system out : List ℕ) → command_of words ≡ Some (link lattice system out)
    → LinksExactly lattice system out lost lost_now answer t n
