-- The machine: the program of the design over the lattice of four levels, and what of it belongs to each user.
use Rattle.std.specs.Prelude.{◌≡◌, ℕ, List, codes, unwrap_or}
use Rattle.sap_lattice.specs.Diamond.{diamond, level_names}
use Rattle.sap_lattice.specs.Levels.{level_named}
use Rattle.sap_tree.specs.Syntax.{DesignTree}
use Rattle.sap_tree.specs.Bare.{bare}
use Rattle.sap_names.specs.Entities.{entities_of, entity_number}
use Rattle.sap_shape.specs.WellFormed.{WellFormed}
use Rattle.sap_meaning.specs.Program.{Program}
use Rattle.sap_resolved.specs.Fill.{program_of}
use Rattle.sap_machine.specs.declared.user.User.{User}
use Rattle.sap_machine.specs.declared.user.User.TheVariants.{A, B}
use Rattle.sap_machine.specs.Design.{machine_design}

-- The program of the machine's design, over the four levels of the diamond.
unfoldable pub machine : Program
machine = program_of diamond machine_design

-- A design that is the same as this one, places aside, is well formed, and its program is the machine.
abbrev pub PlacesDontCount : Type 0
PlacesDontCount = (tree : DesignTree) → bare tree ≡ bare machine_design → WellFormed diamond tree
    × (program_of diamond tree ≡ machine)

-- The number of the entity of this name.
abbrev pub entity : (name : List ℕ) → ℕ
entity name = entity_number (entities_of machine_design) name

-- The number of the level of this name.
abbrev pub level : (name : List ℕ) → ℕ
level name = unwrap_or (level_named level_names name) 0

-- The user's level; the input with its words, and the check site that writes them; the memories of its words and of its
-- cells; and the registers in which the kernel keeps its program counter and its accumulator.
pub record Part : Type 0 where
  pub level : ℕ
  pub input : ℕ
  pub site : ℕ
  pub words : ℕ
  pub cells : ℕ
  pub pc : ℕ
  pub acc : ℕ

-- What is a user's: the level, the input, the registers and the memories.
abbrev pub part : User → Part
part A = record {
  level = level (codes "a");
  input = entity (codes "wa");
  site = 1;
  words = entity (codes "pa");
  cells = entity (codes "da");
  pc = entity (codes "apc");
  acc = entity (codes "aacc");
}
part B = record {
  level = level (codes "b");
  input = entity (codes "wb");
  site = 2;
  words = entity (codes "pb");
  cells = entity (codes "db");
  pc = entity (codes "bpc");
  acc = entity (codes "bacc");
}
