-- Linked designs whose composite runs are computed. Level 0 is low, level 1 is high.
use Rattle.std.specs.Prelude.{◌≡◌, ℕ, suc, List, [], ◌∷◌, codes, map, Option, Some, None}
use Rattle.sap_lattice.specs.Examples.{low_high}
use Rattle.sap_tree.specs.Bare.{nowhere, no_spot}
use Rattle.sap_tree.specs.Making.{named, numeral, number, read, enforced, state, states}
use Rattle.sap_tree.specs.declared.syntax.Numeral.{Numeral}
use Rattle.sap_tree.specs.declared.syntax.Kind.{Kind}
use Rattle.sap_tree.specs.declared.syntax.Kind.TheVariants.{Dynamic}
use Rattle.sap_tree.specs.declared.syntax.Decl.TheVariants.{Input, Register}
use Rattle.sap_tree.specs.declared.syntax.BinaryOperator.TheVariants.{Add}
use Rattle.sap_tree.specs.declared.version.Version.TheVariants.{One}
use Rattle.sap_tree.specs.Syntax.{Expression, binary_of, assign, go_to, lone, DesignTree}
use Rattle.sap_meaning.specs.Cycle.{Tagged}
use Rattle.sap_meaning.specs.Examples.{low, high}
use Rattle.sap_meaning.specs.Examples.{shown as shown_of_part}
use Rattle.sap_link.specs.Systems.{Wire, endpoint, free_inputs}
use Rattle.sap_link.specs.Composites.{CompositeAfter, composite_run}
use Rattle.sap_link.specs.Designs.{linked, WellLinked}

-- The text `input I : 8; reg R : 8 KIND, with a start or none; state S enforced low { R := e; goto S; }`.
abbrev pub design : (input register : List ℕ) → Kind → (start : Option Numeral) → Expression → DesignTree
design input register kind start e = record {
  version = One;
  declarations = Input nowhere (named input) (numeral 8)
      ∷ Register nowhere (named register) (numeral 8) kind start ∷ [];
  states = states (state (codes "S") (enforced (codes "low"))
      (lone (assign (named register) e) ∷ lone (go_to nowhere (named (codes "S"))) ∷ []) (states []) ∷ []);
}

-- The text `input a : 8; reg x : 8 dynamic; x := a + 1;`.
abbrev pub adds : DesignTree
adds = design (codes "a") (codes "x") (Dynamic nowhere) None (binary_of no_spot Add (read (codes "a")) (number 1))

-- The text `input b : 8; reg y : 8 dynamic; y := b;`.
abbrev pub copies : DesignTree
copies = design (codes "b") (codes "y") (Dynamic nowhere) None (read (codes "b"))

-- The same with a start.
abbrev pub copies_from : (start : ℕ) → DesignTree
copies_from start = design (codes "b") (codes "y") (Dynamic nowhere) (Some (numeral start)) (read (codes "b"))

-- The text `input a : 8; reg x : 8 enforced high = 7; x := a;`.
abbrev pub keeps_high : DesignTree
keeps_high = design (codes "a") (codes "x") (enforced (codes "high")) (Some (numeral 7)) (read (codes "a"))

-- From the register of one part to the input of another, through a level.
abbrev pub wire : (from to : ℕ) → Option ℕ → Wire
wire from to level = record { from = endpoint from 1; to = endpoint to 0; level = level }

-- A cycle as it shows: the register of each of so many parts.
abbrev pub registers_from : (i : ℕ) → List DesignTree → CompositeAfter → List Tagged
registers_from i [] a = []
registers_from i (d ∷ ds) a = (shown_of_part 1 (a i)).0 ∷ registers_from (suc i) ds a

-- The registers of a composite run, cycle by cycle.
abbrev pub shows : List DesignTree → List Wire → List (List Tagged) → List (List Tagged)
shows designs wires stream = map (registers_from 0 designs) (composite_run (linked low_high designs wires) stream)

-- `p`, which adds 1 to its input, feeds q, which copies its input.
abbrev pub p_and_q : List DesignTree
p_and_q = adds ∷ copies ∷ []

-- The stream `5@high`, `1@low`, `0@low`.
abbrev pub three_cycles : List (List Tagged)
three_cycles = (high 5 ∷ []) ∷ (low 1 ∷ []) ∷ (low 0 ∷ []) ∷ []

-- `p`'s input alone is free.
abbrev pub FreeInput : Type 0
FreeInput = free_inputs (linked low_high p_and_q (wire 0 1 None ∷ [])) ≡ endpoint 0 0 ∷ []

-- `q` has what p's register had before the cycle.
abbrev pub Fed : Type 0
Fed = shows p_and_q (wire 0 1 None ∷ []) three_cycles ≡ (high 6 ∷ low 0 ∷ []) ∷ (low 2 ∷ high 6 ∷ [])
    ∷ (low 1 ∷ low 2 ∷ []) ∷ []

-- Through low no number at high comes.
abbrev pub FedThroughLow : Type 0
FedThroughLow = shows p_and_q (wire 0 1 (Some 0) ∷ []) three_cycles ≡ (high 6 ∷ low 0 ∷ [])
    ∷ (low 2 ∷ low 0 ∷ []) ∷ (low 1 ∷ low 2 ∷ []) ∷ []

-- Through high every number comes, and is at high there.
abbrev pub FedThroughHigh : Type 0
FedThroughHigh = shows p_and_q (wire 0 1 (Some 1) ∷ []) three_cycles ≡ (high 6 ∷ high 0 ∷ [])
    ∷ (low 2 ∷ high 6 ∷ []) ∷ (low 1 ∷ high 2 ∷ []) ∷ []

-- A register that is always at high lets nothing through low, whatever its part's input gets.
abbrev pub NothingThrough : Type 0
NothingThrough = shows (keeps_high ∷ copies_from 3 ∷ []) (wire 0 1 (Some 0) ∷ []) three_cycles
    ≡ (high 5 ∷ low 0 ∷ []) ∷ (high 1 ∷ low 0 ∷ []) ∷ (high 0 ∷ low 0 ∷ []) ∷ []

-- A part that feeds itself counts: its input has what its register had before the cycle.
abbrev pub ToItself : Type 0
ToItself = shows (adds ∷ []) (wire 0 0 None ∷ []) ([] ∷ [] ∷ [] ∷ []) ≡ (low 1 ∷ []) ∷ (low 2 ∷ []) ∷ (low 3 ∷ []) ∷ []

-- Two parts that feed each other exchange their numbers: neither has the other's of after the cycle.
abbrev pub Exchanged : Type 0
Exchanged = shows (copies_from 3 ∷ copies_from 7 ∷ []) (wire 0 1 None ∷ wire 1 0 None ∷ [])
    ([] ∷ [] ∷ []) ≡ (low 7 ∷ low 3 ∷ []) ∷ (low 3 ∷ low 7 ∷ []) ∷ []

-- The stream gives to free inputs, parts in order: of three parts the first and the last, where the last feeds the
-- second.
abbrev pub FreeInOrder : Type 0
FreeInOrder = shows (copies ∷ copies ∷ copies ∷ []) (wire 2 1 None ∷ [])
    ((low 4 ∷ high 9 ∷ []) ∷ (low 5 ∷ low 8 ∷ []) ∷ [])
    ≡ (low 4 ∷ low 0 ∷ high 9 ∷ []) ∷ (low 5 ∷ high 9 ∷ low 8 ∷ []) ∷ []

-- `p` and q meet what the laws of composites ask for, through low too.
abbrev pub Formed : Type 0
Formed = WellLinked low_high p_and_q (wire 0 1 (Some 0) ∷ [])
