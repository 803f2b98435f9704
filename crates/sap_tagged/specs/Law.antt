-- When a plain program stands for a design, and the laws of the plain programs of designs.
use Rattle.std.specs.Prelude.{ℕ, IsTrue, List, ◌++◌, map, if◌then◌else◌}
use Rattle.std.specs.List.{AllByRecursion}
use Rattle.sap_maps.specs.Maps.{Name}
use Rattle.sap_tree.specs.Syntax.{DesignTree}
use Rattle.sap_tree.specs.Whole.{is_whole}
use Rattle.sap_lattice.specs.Levels.{Levels, order_of}
use Rattle.sap_lattice.specs.Lawful.{IsLattice}
use Rattle.sap_lattice.specs.Codes.{width_of}
use Rattle.sap_shape.specs.WellFormed.{WellFormed}
use Rattle.sap_meaning.specs.Cycle.{Tagged}
use Rattle.sap_meaning.specs.State.{StreamFits, labelled_run}
use Rattle.sap_net.specs.Names.{is_among}
use Rattle.sap_net.specs.declared.parts.PortKind.{PortKind}
use Rattle.sap_net.specs.declared.parts.PortKind.TheVariants as kind
use Rattle.sap_ir.specs.declared.guarded.Var.{Var}
use Rattle.sap_ir.specs.Writes.{NumbersFit}
use Rattle.sap_ir.specs.Plain.Nested.{Nested}
use Rattle.sap_ir.specs.Plain.Does.{plain_run}
use Rattle.sap_ir.specs.Plain.IsPlain.{IsPlain}
use Rattle.sap_ir.specs.Plain.Writes.{PlainWritesOnce}
use Rattle.sap_interface.specs.StandsFor.{Named, world}
use Rattle.sap_interface.specs.Interface.{Shown, Declared, DeclaresInterface}
use Rattle.sap_interface.specs.Compiled.{coded_stream, CyclesStand}
use Rattle.sap_interface.specs.Designs.{named_of, site_count_of}
use Rattle.sap_tagged.specs.Plain.{plain_of}

-- What an output port shows.
abbrev pub shows : Nested → Name → PortKind
shows p n = if is_among n (map (λ x. x.name) p.registers) then kind.Register else kind.Wire

-- The ports that a plain program shows.
abbrev pub shown : Nested → List Shown
shown p = map (λ x. (x.name, kind.Input)) p.inputs ++ map (λ n. (n, shows p n)) p.ports

-- What a program declares.
abbrev pub declared_in : Nested → Declared
declared_in p =
    record {
      ports = shown p;
      inputs = map (λ x. (x.name, x.width)) p.inputs;
      wires = map (λ x. (x.name, x.width)) p.wires;
      registers = map (λ x. (x.name, x.width)) p.registers;
      memories = map (λ m. (m.name, (m.width, m.depth))) p.memories;
    }

-- Each list has one number for each input, within its width.
abbrev pub AllNumbersFit : List Var → List (List ℕ) → Type 0
AllNumbersFit xs lists = AllByRecursion (NumbersFit xs) lists

-- On every stream that fits the design, its levels given as codes, each cycle of the program stands for the same cycle
-- of the labelled run.
pub record RunStands (d : Named) (sites : ℕ) (p : Nested) : Type 0 where
  pub takes : (stream : List (List Tagged)) → StreamFits (world d) stream
      → AllNumbersFit p.inputs (coded_stream d.code stream)
  pub stands : (stream : List (List Tagged)) → StreamFits (world d) stream
      → CyclesStand d sites (plain_run p (coded_stream d.code stream)) (labelled_run d.program stream)

-- It declares the interface of a compiled module, and its runs stand for the design's; `tag` is the width of tags.
pub record PlainStandsFor (d : Named) (tag sites : ℕ) (p : Nested) : Type 0 where
  pub interface : DeclaresInterface d tag sites (declared_in p)
  pub run : RunStands d sites p

-- The plain program of a design.
abbrev pub plain_for : Levels → DesignTree → Nested
plain_for ls d = plain_of (named_of ls d) (width_of (order_of ls)) (site_count_of d)

-- A whole and well-formed design, over a lattice.
pub record IsSound (ls : Levels) (d : DesignTree) : Type 0 where
  pub lattice : IsLattice ls
  pub whole : IsTrue (is_whole d)
  pub formed : WellFormed ls d

-- It stands for the design.
abbrev pub PlainStandsForDesign : Levels → DesignTree → Nested → Type 0
PlainStandsForDesign ls d p = PlainStandsFor (named_of ls d) (width_of (order_of ls)) (site_count_of d) p

-- For each sound design, its plain program stands for it.
abbrev pub PlainStands : Type 0
PlainStands = (ls : Levels) (d : DesignTree) → IsSound ls d → PlainStandsForDesign ls d (plain_for ls d)

-- And keeps the rules of its type.
abbrev pub PlainsKeepRules : Type 0
PlainsKeepRules = (ls : Levels) (d : DesignTree) → IsSound ls d → IsPlain (plain_for ls d)

-- And writes no memory twice in a cycle.
abbrev pub PlainsWriteOnce : Type 0
PlainsWriteOnce = (ls : Levels) (d : DesignTree) → IsSound ls d → PlainWritesOnce (plain_for ls d)
