-- Worked examples of the first rule that wires break: part p has an input a and a register x, part q an input b and the
-- registers y and z. All are 8 bits wide but z, which is 4. The levels are low and high.
use Rattle.std.specs.Prelude.{ℕ, true, List, [], ◌∷◌, codes}
use Rattle.sap_tree.specs.Making.{named}
use Rattle.sap_names.specs.declared.entity.Entity.{Entity}
use Rattle.sap_names.specs.declared.kind.Declared.{Declared}
use Rattle.sap_names.specs.declared.kind.Declared.TheVariants as what
use Rattle.sap_system.specs.Examples.{wire, wire_through}
use Rattle.sap_system.specs.Wires.{NamedPart, Surroundings, FirstLinkFault, KeepsWires}
use Rattle.sap_system.specs.declared.link_fault.LinkCode.TheVariants.{K5, K6, K7, K8, K9}
use Rattle.sap_system.specs.declared.link_fault.LinkFault.TheVariants.{Rule}

-- A dynamic entity.
abbrev pub entity : (name : List ℕ) → Declared → Entity
entity name what = record { name = named name; what = what; dynamic = true }

-- The first part's input and register.
abbrev pub entities_of_p : List Entity
entities_of_p = entity (codes "a") (what.Input 8) ∷ entity (codes "x") (what.Register 8) ∷ []

-- The second part's input and registers.
abbrev pub entities_of_q : List Entity
entities_of_q = entity (codes "b") (what.Input 8) ∷ entity (codes "y") (what.Register 8)
    ∷ entity (codes "z") (what.Register 4) ∷ []

-- The first part.
abbrev pub part_p : NamedPart
part_p = record { name = codes "p"; entities = entities_of_p }

-- The second part.
abbrev pub part_q : NamedPart
part_q = record { name = codes "q"; entities = entities_of_q }

-- The two parts over two levels.
abbrev pub p_and_q : Surroundings
p_and_q = record { parts = part_p ∷ part_q ∷ []; levels = codes "low" ∷ codes "high" ∷ [] }

-- Each feeds the other, one through a level.
abbrev pub FeedEachOther : Type 0
FeedEachOther = KeepsWires p_and_q (wire (codes "p.x") (codes "q.b")
    ∷ wire_through (codes "q.y") (codes "p.a") (codes "low") ∷ [])

-- K5: an input isn't fed from an input; it comes before the other rules on that wire.
abbrev pub FromInput : Type 0
FromInput = FirstLinkFault p_and_q (wire (codes "p.a") (codes "q.b") ∷ []) (Rule K5 1)

-- A wire with three faults has the fault of the lowest code.
abbrev pub AllWrong : Type 0
AllWrong = FirstLinkFault p_and_q (wire_through (codes "p.a") (codes "q.y") (codes "mid") ∷ []) (Rule K5 1)

-- K6: no register is fed.
abbrev pub ToRegister : Type 0
ToRegister = FirstLinkFault p_and_q (wire (codes "p.x") (codes "q.y") ∷ []) (Rule K6 1)

-- K7: an input is fed twice.
abbrev pub FedTwice : Type 0
FedTwice = FirstLinkFault p_and_q (wire (codes "p.x") (codes "q.b") ∷ wire (codes "q.z") (codes "q.b") ∷ []) (Rule K7 2)

-- K8: a register is narrower than the input; it comes before the rule on the level.
abbrev pub Narrower : Type 0
Narrower = FirstLinkFault p_and_q (wire_through (codes "q.z") (codes "p.a") (codes "mid") ∷ []) (Rule K8 1)

-- K9: no level is called so.
abbrev pub UnknownLevel : Type 0
UnknownLevel = FirstLinkFault p_and_q (wire_through (codes "p.x") (codes "q.b") (codes "mid") ∷ []) (Rule K9 1)
