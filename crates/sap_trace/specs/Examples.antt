-- The traces of small designs, worked out.
use Rattle.std.specs.Prelude.{◌≡◌, ℕ, List, [], ◌∷◌, ◌++◌, None, codes}
use Rattle.sap_tree.specs.Bare.{nowhere, no_spot}
use Rattle.sap_tree.specs.Making.{named, numeral, number, read, enforced, block, state, states}
use Rattle.sap_tree.specs.declared.syntax.Decl.{Decl}
use Rattle.sap_tree.specs.declared.syntax.Decl.TheVariants.{Input, Register, Memory}
use Rattle.sap_tree.specs.declared.syntax.BinaryOperator.TheVariants as operator
use Rattle.sap_tree.specs.Syntax.{Expression, binary_of, assign, write, go_to, fall_to_child, Command, lone, try, if_else, with_else, no_state, DesignTree}
use Rattle.sap_tree.specs.declared.version.Version.TheVariants.{One}
use Rattle.sap_text.specs.Places.{line}
use Rattle.sap_lattice.specs.Examples.{low_high}
use Rattle.sap_sim.specs.Labelled.Examples.{given}
use Rattle.sap_trace.specs.Lines.{labelled_trace}

-- A `goto`.
abbrev pub goes : List ℕ → Command
goes name = lone (go_to nowhere (named name))

-- A read of input a.
abbrev pub reads_a : Expression
reads_a = read (codes "a")

-- The text `input a : WIDTH;`.
abbrev pub an_input : (width : ℕ) → Decl
an_input width = Input nowhere (named (codes "a")) (numeral width)

-- The text `input a : 2; mem k : 8[4] enforced low; reg y : 8 enforced low; state S enforced low { k[a] := 1 otherwise
-- { y := 9; } goto S; }`.
abbrev pub handled : DesignTree
handled = record {
  version = One;
  declarations = an_input 2
      ∷ Memory nowhere (named (codes "k")) (numeral 8) (numeral 4) (enforced (codes "low"))
      ∷ Register nowhere (named (codes "y")) (numeral 8) (enforced (codes "low")) None ∷ [];
  states = states (state (codes "S") (enforced (codes "low"))
      (try (write (named (codes "k")) reads_a (number 1)) nowhere
      (block (lone (assign (named (codes "y")) (number 9)) ∷ [])) ∷ goes (codes "S") ∷ []) no_state ∷ []);
}

-- On `3@high` the write is refused at the level of the index, and so is that of its handler.
abbrev pub InHandler : Type 0
InHandler = labelled_trace low_high handled (given 3 1 ∷ [])
    ≡ line (codes "cycle 1: site 1 write k at high") ++ line (codes "cycle 1: site 2 write y at high")

-- The text `if (a == 1) { .. } else { .. }`.
abbrev pub chooses : Command → Command → Command
chooses one other = if_else nowhere (binary_of no_spot operator.Eq reads_a (number 1))
    (block (one ∷ [])) (with_else (block (other ∷ [])))

-- The text `input a : 8; state S enforced low { if (a == 1) { goto T; } else { goto S; } } state T enforced high { goto
-- T; }`.
abbrev pub leaving : DesignTree
leaving = record {
  version = One;
  declarations = an_input 8 ∷ [];
  states = states
      (state (codes "S") (enforced (codes "low")) (chooses (goes (codes "T")) (goes (codes "S")) ∷ [])
      no_state ∷ state (codes "T") (enforced (codes "high")) (goes (codes "T") ∷ []) no_state ∷ []);
}

-- On `1@high`, then `0@low`, a `goto` is told by its target.
abbrev pub ByTarget : Type 0
ByTarget = labelled_trace low_high leaving (given 1 1 ∷ given 0 0 ∷ []) ≡ line (codes "cycle 1: site 1 goto T at high")

-- The text `input a : 8; state P enforced low { if (a == 1) { fall; } else { fall; } state C enforced low { goto C; }
-- }`.
abbrev pub falling : DesignTree
falling = record {
  version = One;
  declarations = an_input 8 ∷ [];
  states = states (state (codes "P") (enforced (codes "low"))
      (chooses (lone (fall_to_child nowhere)) (lone (fall_to_child nowhere)) ∷ [])
      (states (state (codes "C") (enforced (codes "low")) (goes (codes "C") ∷ []) no_state ∷ [])) ∷ []);
}

-- On `1@low`, then `1@high`, a `fall` is told by the state in whose body it stands.
abbrev pub ByOwnState : Type 0
ByOwnState = labelled_trace low_high falling (given 1 0 ∷ given 1 1 ∷ [])
    ≡ line (codes "cycle 2: site 1 fall P at high")
