-- Taint. A `taint` writes a module with a tag for each name: clocked on any numbers and tags, names have in it the
-- numbers of the given module's run, and tags the taint of that run; and on streams that agree at or below a level
-- its runs agree there in every cycle.
use Rattle.std.specs.Prelude.{◌≡◌, ◌≢◌, ℕ, List, ◌++◌, codes, Some}
use Rattle.sap_text.specs.Places.{line}
use Rattle.sap_desk.specs.Desk.{Told}
use Rattle.sap_desk.specs.Whole.{Gained}
use Rattle.sap_lattice.specs.Levels.{Levels, order_of}
use Rattle.sap_net.specs.Net.{Net}
use Rattle.sap_vtext.specs.Modules.{IsModule}
use Rattle.sap_taint.specs.TagNames.{IsClash, HasRoomForTags}
use Rattle.sap_taint_pass.specs.FaultTexts.{taint_text}
use Rattle.sap_taint_pass.specs.declared.fault.TaintFault.TheVariants.{Clash}
use Rattle.sap_words.specs.Words.{command_of, taint}
use Rattle.sap_files.specs.Contents.{Has, IsLatticeFile}
use Rattle.sap_files.specs.Tainting.{HasTaintOf}

-- A text is the one module of a netlist with tags.
pub record TellsTaint (ls : Levels) (net : Net) (text : List ℕ) : Type 0 where
  pub tagged : Net
  -- By the grammar of modules the text is this module, and no other.
  pub is_module : IsModule text tagged
  pub no_other : (other : Net) → IsModule text other → other ≡ tagged
  -- It is the given one with tags, as wide as codes of levels: it has one run on what that takes, with any tags,
  -- and its tags there are the taint of that run.
  pub taint : HasTaintOf (order_of ls) net tagged

-- Which answer a `taint` gives, by its files: `t` is what the desk reports before the call, and `n` after it.
pub record TaintsExactly (lattice verilog out : List ℕ) (lost lost_now answer : ℕ) (t n : Told) : Type 0 where
  -- If it is done, the files are a lattice and a module in which each tag has a name of its own, and what is
  -- written is the module with tags.
  pub only : answer ≡ 0
      → (ls : Levels) × (net : Net) × Has t lattice IsLatticeFile ls × Has t verilog IsModule net × HasRoomForTags net
      × ((text : List ℕ) × (n.files out ≡ Some text) × TellsTaint ls net text)
  -- If they are so, it is done, unless a call on the desk fails (6) or memory runs out (7).
  pub always : (ls : Levels) (net : Net) → Has t lattice IsLatticeFile ls → Has t verilog IsModule net
      → HasRoomForTags net → answer ≢ 6 → answer ≢ 7 → answer ≡ 0
  -- If VERILOG is no module, it is refused as one (5), unless one of these two comes.
  pub no_module : (ls : Levels) (text : List ℕ) → Has t lattice IsLatticeFile ls
      → t.files verilog ≡ Some text → ((net : Net) → ¬ (IsModule text net))
      → answer ≢ 6 → answer ≢ 7 → answer ≡ 5
  -- If it is one with a name whose tag has none of its own, it is refused too (5), and the line tells the first
  -- such name.
  pub clashes : (ls : Levels) (net : Net) (x : List ℕ) → Has t lattice IsLatticeFile ls
      → Has t verilog IsModule net → IsClash net x → answer ≢ 6 → answer ≢ 7
      → (answer ≡ 5) × Gained (line (codes "module: " ++ taint_text (Clash x))) lost lost_now t n

-- If the arguments are those of a `taint`, `TaintsExactly` holds of them.
abbrev pub Taints : (words : List (List ℕ)) → (lost lost_now answer : ℕ) → Told → Told → Type 0
Taints words lost lost_now answer t n =
    (lattice verilog out : List ℕ) → command_of words ≡ Some (taint lattice verilog out)
    → TaintsExactly lattice verilog out lost lost_now answer t n
