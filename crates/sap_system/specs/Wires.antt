-- The rules on the wires of a system, and the first that is broken.
use Rattle.std.specs.Prelude.{◌≡◌, ◌≢◌, ◌<◌, ◌+◌, ℕ, List, ◌++◌, codes, Some, slice_get, Contains}
use Rattle.sap_names.specs.Entities.{what_is}
use Rattle.sap_names.specs.declared.entity.Entity.{Entity}
use Rattle.sap_names.specs.declared.kind.Declared.{Declared}
use Rattle.sap_names.specs.declared.kind.Declared.TheVariants as what
use Rattle.sap_system.specs.declared.file.WireText.{WireText}
use Rattle.sap_system.specs.declared.link_fault.LinkCode.{LinkCode}
use Rattle.sap_system.specs.declared.link_fault.LinkCode.TheVariants.{K5, K6, K7, K8, K9}
use Rattle.sap_system.specs.declared.link_fault.LinkFault.{LinkFault}
use Rattle.sap_system.specs.declared.link_fault.LinkFault.TheVariants.{Rule, Memory}

-- A part's name, and what its design declares.
pub record NamedPart : Type 0 where
  pub name : List ℕ
  pub entities : List Entity

-- What wires are held against: the parts in order, and the names of the levels.
pub record Surroundings : Type 0 where
  pub parts : List NamedPart
  pub levels : List (List ℕ)

-- The text is P.X, where part i, from 0, has the name P, and X stands for this in its design.
pub record Names (u : Surroundings) (text : List ℕ) (i : ℕ) (entity : List ℕ) (declared : Declared) : Type 0 where
  pub part : NamedPart
  pub is_part : slice_get u.parts i ≡ Some part
  pub spelled : text ≡ part.name ++ codes "." ++ entity
  pub stands_for : what_is part.entities entity ≡ Some declared

-- It names a register, or an input, of this width.
abbrev pub NamesRegister : Surroundings → (text : List ℕ) (i : ℕ) (entity : List ℕ) (width : ℕ) → Type 0
NamesRegister u text i entity width = Names u text i entity (what.Register width)

-- The text names an input of this width.
abbrev pub NamesInput : Surroundings → (text : List ℕ) (i : ℕ) (entity : List ℕ) (width : ℕ) → Type 0
NamesInput u text i entity width = Names u text i entity (what.Input width)

-- K5: the first text names no register of a part.
abbrev pub NoRegister : Surroundings → WireText → Type 0
NoRegister u w = (i : ℕ) (entity : List ℕ) (width : ℕ) → ¬ NamesRegister u w.from i entity width

-- K6: the second names no input of a part.
abbrev pub NoInput : Surroundings → WireText → Type 0
NoInput u w = (i : ℕ) (entity : List ℕ) (width : ℕ) → ¬ NamesInput u w.to i entity width

-- K7: an earlier wire than that at place k feeds the input.
pub record FedBefore (u : Surroundings) (wires : List WireText) (k : ℕ) (w : WireText) : Type 0 where
  pub earlier : ℕ
  pub before : earlier < k
  pub other : WireText
  pub is_other : slice_get wires earlier ≡ Some other
  pub part : ℕ
  pub entity : List ℕ
  pub width : ℕ
  pub there : NamesInput u other.to part entity width
  pub here : NamesInput u w.to part entity width

-- K8: the register and the input differ in width.
pub record OtherWidth (u : Surroundings) (w : WireText) : Type 0 where
  pub from_part : ℕ
  pub register : List ℕ
  pub from_width : ℕ
  pub from : NamesRegister u w.from from_part register from_width
  pub to_part : ℕ
  pub input : List ℕ
  pub to_width : ℕ
  pub to : NamesInput u w.to to_part input to_width
  pub differ : from_width ≢ to_width

-- K9: there is a third text, and it is no level's name.
pub record NoLevel (u : Surroundings) (w : WireText) : Type 0 where
  pub level : List ℕ
  pub third : w.level ≡ Some level
  pub unknown : ¬ Contains u.levels level

-- The wire w at place k breaks a rule.
abbrev pub Breaks : Surroundings → List WireText → LinkCode → (k : ℕ) (w : WireText) → Type 0
Breaks u wires K5 k w = NoRegister u w
Breaks u wires K6 k w = NoInput u w
Breaks u wires K7 k w = FedBefore u wires k w
Breaks u wires K8 k w = OtherWidth u w
Breaks u wires K9 k w = NoLevel u w

-- The wire of this number breaks the rule of this code.
pub record Stands (u : Surroundings) (wires : List WireText) (code : LinkCode) (k : ℕ) : Type 0 where
  pub wire : WireText
  pub is_wire : slice_get wires k ≡ Some wire
  pub breaks : Breaks u wires code k wire

-- The number of a code.
abbrev pub number_of_code : LinkCode → ℕ
number_of_code K5 = 5
number_of_code K6 = 6
number_of_code K7 = 7
number_of_code K8 = 8
number_of_code K9 = 9

-- It is the first: no rule is broken by an earlier wire, and by this one none with a lower code.
pub record IsFirstBroken (u : Surroundings) (wires : List WireText) (code : LinkCode) (k : ℕ) : Type 0 where
  pub here : Stands u wires code k
  pub none_earlier : (other : LinkCode) (j : ℕ) → j < k → ¬ Stands u wires other j
  pub none_lower : (other : LinkCode) → number_of_code other < number_of_code code → ¬ Stands u wires other k

-- What each answer says: the first rule that is broken, and the wire, from 1.
abbrev pub FirstLinkFault : Surroundings → List WireText → LinkFault → Type 0
FirstLinkFault u wires (Rule code n) = (k : ℕ) × IsFirstBroken u wires code k × (n ≡ k + 1)
FirstLinkFault u wires Memory = ⊥

-- None is broken.
abbrev pub KeepsWires : Surroundings → List WireText → Type 0
KeepsWires u wires = (code : LinkCode) (k : ℕ) → ¬ Stands u wires code k

-- Wires have at most one first fault.
abbrev pub OneLinkFault : Type 0
OneLinkFault = (u : Surroundings) (wires : List WireText) (one other : LinkFault)
    → FirstLinkFault u wires one → FirstLinkFault u wires other → one ≡ other

-- And none where they keep the rules.
abbrev pub NoneWhereKept : Type 0
NoneWhereKept = (u : Surroundings) (wires : List WireText) (fault : LinkFault) → KeepsWires u wires
    → FirstLinkFault u wires fault → ⊥
