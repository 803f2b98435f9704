-- What the type of flat lists of assignments keeps.
use Rattle.std.specs.Prelude.{◌≡◌, ℕ, ◌+◌, ◌-◌, ◌^◌, ◌<◌, ◌≤◌, ◌==◌, ◌&&◌, Bool, true, false, List, ◌∷◌, ◌++◌, map, Some}
use Rattle.std.specs.Str.{byte}
use Rattle.std.specs.Char.{is_ascii_digit}
use Rattle.std.specs.List.{AllByRecursion, list_all}
use Rattle.sap_bits.specs.Arithmetic.{width1, width2}
use Rattle.sap_maps.specs.Maps.{Name}
use Rattle.sap_maps.specs.Scope.{Scope, find}
use Rattle.sap_maps.specs.Term.{Term, constant, read, cell, one, two, choose, join, part, CountFits}
use Rattle.sap_net.specs.Names.{is_name, is_among, AreDistinct}
use Rattle.sap_net.specs.Rules.{IsWidth, IsDepth, Shapes}
use Rattle.sap_ir.specs.declared.guarded.Var.{Var}
use Rattle.sap_ir.specs.declared.guarded.MemoryVariable.{MemoryVariable}
use Rattle.sap_ir.specs.Source.{Action, set, put, Command, Source, readable, shapes}

-- An expression of a width: its names are declared and used as what they are, and the widths of its parts fit.
abbrev pub TermFine : (memories : Shapes) (readable : Scope) (width : ℕ) → Term Name → Type 0
TermFine memories readable u (constant w n) = (w ≡ u) × (n < 2 ^ u)
TermFine memories readable u (read x) = find readable x ≡ Some u
TermFine memories readable u (cell m i) = (b : ℕ) × IsWidth b × (find memories m ≡ Some (u, 2 ^ b))
    × TermFine memories readable b i
TermFine memories readable u (one op a) = (w : ℕ) × IsWidth w × TermFine memories readable w a × (u ≡ width1 op w)
TermFine memories readable u (two op a b) =
    (w : ℕ) × (t : ℕ) × IsWidth w × IsWidth t × TermFine memories readable w a
    × TermFine memories readable t b × CountFits op w t × (u ≡ width2 op w)
TermFine memories readable u (choose c a b) =
    TermFine memories readable 1 c × TermFine memories readable u a × TermFine memories readable u b
TermFine memories readable u (join a b) =
    (w : ℕ) × (t : ℕ) × IsWidth w × IsWidth t × TermFine memories readable w a
    × TermFine memories readable t b × (u ≡ w + t)
TermFine memories readable u (part a hi lo) =
    (w : ℕ) × IsWidth w × TermFine memories readable w a × (lo ≤ hi) × (hi < w) × (u ≡ hi + 1 - lo)

-- What can be assigned, with its width.
abbrev pub assignable : Source → Scope
assignable s = map (λ x. (x.name, x.width)) s.registers ++ map (λ x. (x.name, x.width)) s.wires

-- An action assigns to a register or wire, or writes a memory, with terms of the right widths.
abbrev pub ActionFine : Source → Action → Type 0
ActionFine s (set x a) = (u : ℕ) × (find (assignable s) x ≡ Some u) × TermFine (shapes s) (readable s) u a
ActionFine s (put m i a) =
    (w : ℕ) × (b : ℕ) × IsWidth b × (find (shapes s) m ≡ Some (w, 2 ^ b))
    × TermFine (shapes s) (readable s) b i × TermFine (shapes s) (readable s) w a

-- A guarded command's guard has one bit and its action is fine.
abbrev pub CommandFine : Source → Command → Type 0
CommandFine s c = TermFine (shapes s) (readable s) 1 c.when × ActionFine s c.act

-- The names of variables.
abbrev pub variable_names : List Var → List Name
variable_names xs = map (λ x. x.name) xs

-- The names of memories.
abbrev pub memory_names : List MemoryVariable → List Name
memory_names ms = map (λ m. m.name) ms

-- All names.
abbrev pub declared : Source → List Name
declared s = variable_names s.inputs ++ (variable_names s.registers
    ++ (variable_names s.wires ++ memory_names s.memories))

-- An `n` and digits, which are the names of the wires that a netlist adds.
abbrev pub is_helping : Name → Bool
is_helping (c ∷ d ∷ ds) = c == byte "n" && list_all is_ascii_digit (d ∷ ds)
is_helping _ = false

-- Inputs and wires begin at 0.
abbrev pub IsPlainVar : Var → Type 0
IsPlainVar x = IsWidth x.width × (x.start ≡ 0)

-- A register's width is a width and its start fits it.
abbrev pub IsRegisterVar : Var → Type 0
IsRegisterVar x = IsWidth x.width × (x.start < 2 ^ x.width)

-- A depth of 2 to 4096, a power of two.
abbrev pub IsMemoryVariable : MemoryVariable → Type 0
IsMemoryVariable m = IsWidth m.width × ((b : ℕ) × IsDepth m.depth b) × (m.start < 2 ^ m.width)

-- A list of guarded commands is well formed: names are declared once and none is a helping wire's, starts fit, ports
-- are declared, and each command is fine.
pub record IsGuarded (s : Source) : Type 0 where
  -- names
  pub named : AllByRecursion (λ x. is_name x ≡ true) (declared s)
  pub not_helping : AllByRecursion (λ x. is_helping x ≡ false) (declared s)
  pub declared_once : AreDistinct (declared s)
  -- widths and first numbers
  pub inputs : AllByRecursion IsPlainVar s.inputs
  pub wires : AllByRecursion IsPlainVar s.wires
  pub registers : AllByRecursion IsRegisterVar s.registers
  pub memories : AllByRecursion IsMemoryVariable s.memories
  -- each port is a register or a wire, and no two are one
  pub ports_declared : AllByRecursion (λ x. is_among x
      (variable_names s.registers ++ variable_names s.wires) ≡ true) s.ports
  pub ports_once : AreDistinct s.ports
  -- assignments
  pub commands : AllByRecursion (CommandFine s) s.commands
