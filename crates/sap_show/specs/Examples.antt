-- Worked examples of canonical texts.
use Rattle.std.specs.Prelude.{◌≡◌, ℕ, List, [], ◌∷◌, ◌++◌, Some, None, codes}
use Rattle.sap_tree.specs.Making.{named, numeral, number, read, enforced, block}
use Rattle.sap_tree.specs.Bare.{nowhere, no_spot}
use Rattle.sap_tree.specs.Syntax.{Expression, sized_literal, unary_of, binary_of, choice, slice, concat, zero_extend, no_part, and_part, level_of, tag_at, join_of, no_tag, and_tag, assign, write, set_cell_tag, go_to, fall_to_child, Command, lone, try, if_else, try_then, case_of, last_arm, and_arm, with_else, state_node, no_state, and_state, DesignTree}
use Rattle.sap_tree.specs.declared.syntax.BinaryOperator.TheVariants as b
use Rattle.sap_tree.specs.declared.syntax.Decl.TheVariants as d
use Rattle.sap_tree.specs.declared.syntax.Kind.TheVariants as k
use Rattle.sap_tree.specs.declared.syntax.UnaryOperator.TheVariants as u
use Rattle.sap_tree.specs.declared.version.Version.TheVariants.{One, Two}
use Rattle.sap_show.specs.Canonical.{canonical_text}

-- The text `input a:8;reg x:8 dynamic;state S enforced low{x:=(a+1)&(a|x);goto S;}`.
abbrev pub adder : DesignTree
adder = record {
  version = One;
  declarations = d.Input nowhere (named (codes "a")) (numeral 8)
      ∷ d.Register nowhere (named (codes "x")) (numeral 8) (k.Dynamic nowhere) None ∷ [];
  states = and_state (state_node nowhere (named (codes "S")) (enforced (codes "low"))
      (block (lone (assign (named (codes "x"))
      (binary_of no_spot b.And (binary_of no_spot b.Add (read (codes "a")) (number 1))
      (binary_of no_spot b.Or (read (codes "a")) (read (codes "x")))))
      ∷ lone (go_to nowhere (named (codes "S"))) ∷ []))
      no_state) no_state;
}

-- The canonical text of a design of one input, one register and one state.
abbrev pub Adder : Type 0
Adder = canonical_text adder ≡ codes "input a : 8;\nreg x : 8 dynamic;\nstate S enforced low {\n  x := a + 1 & (a | x);\n  goto S;\n}\n"

-- The four low bits of x.
abbrev pub low_bits : Expression
low_bits = slice no_spot (read (codes "x")) 3 0

-- A command that stores a cell, and one that chooses, with an empty handler.
abbrev pub stores : Command
stores = lone (write (named (codes "m")) (read (codes "i")) (zero_extend no_spot low_bits 8))

-- An assignment with a choice, a concatenation and a double negation, and an empty handler.
abbrev pub chooses : Command
chooses = try
    (assign (named (codes "x")) (choice no_spot (read (codes "i"))
    (concat no_spot (and_part (sized_literal no_spot 4 1) (and_part low_bits no_part)))
    (unary_of no_spot u.Neg (unary_of no_spot u.Neg (read (codes "x"))))))
    nowhere (block [])

-- A retagging of a cell by a join of two levels, with a handler that falls.
abbrev pub retags : Command
retags = try
    (set_cell_tag nowhere (named (codes "m")) (number 0)
    (join_of nowhere (and_tag (level_of (named (codes "high"))) (and_tag (tag_at nowhere (read (codes "x"))) no_tag))))
    nowhere (block (lone (fall_to_child nowhere) ∷ []))

-- A design of version 1 with each kind of declaration and a state below a state.
abbrev pub nested : DesignTree
nested = record {
  version = One;
  declarations = d.Input nowhere (named (codes "i")) (numeral 8)
      ∷ d.Register nowhere (named (codes "x")) (numeral 8)
      (k.Enforced (named (codes "low")) (Some (record { place = nowhere; level = named (codes "low") })))
      (Some (numeral 7))
      ∷ d.Memory nowhere (named (codes "m")) (numeral 8) (numeral 4) (k.Dynamic nowhere) ∷ [];
  states = and_state (state_node nowhere (named (codes "S")) (k.Dynamic nowhere)
      (block (if_else nowhere (binary_of no_spot b.Lt (read (codes "i")) (number 3))
      (block (stores ∷ [])) (with_else (block (chooses ∷ []))) ∷ retags ∷ []))
      (and_state (state_node nowhere (named (codes "T")) (enforced (codes "high"))
      (block (lone (go_to nowhere (named (codes "T"))) ∷ [])) no_state) no_state))
      no_state;
}

-- Each line with its end.
abbrev pub lines : List (List ℕ) → List ℕ
lines [] = []
lines (line ∷ rest) = line ++ (codes "\n" ++ lines rest)

-- The canonical text of the nested design.
abbrev pub Nested : Type 0
Nested = canonical_text nested
    ≡ lines
    (codes "input i : 8;"
    ∷ codes "reg x : 8 enforced low under low = 7;"
    ∷ codes "mem m : 8[4] dynamic;"
    ∷ codes "state S dynamic {"
    ∷ codes "  if (i < 3) {"
    ∷ codes "    m[i] := zext(x[3:0], 8);"
    ∷ codes "  } else {"
    ∷ codes "    x := i ? {4'd1, x[3:0]} : --x otherwise {"
    ∷ codes "    }"
    ∷ codes "  }"
    ∷ codes "  setTag(m[0], join(high, tag(x))) otherwise {"
    ∷ codes "    fall;"
    ∷ codes "  }"
    ∷ codes "  state T enforced high {"
    ∷ codes "    goto T;"
    ∷ codes "  }"
    ∷ codes "}"
    ∷ [])

-- A command of the second version that stores, and one that looks at a number, in a block of the first.
abbrev pub looks : Command
looks = case_of nowhere (read (codes "a"))
    (and_arm (and_part (number 0) (and_part (sized_literal no_spot 2 3) no_part))
    (block (lone (assign (named (codes "x")) (number 7)) ∷ []))
    (and_arm (and_part (number 1) no_part) (block [])
    (last_arm (block (lone (go_to nowhere (named (codes "S"))) ∷ [])))))

-- An assignment with a block for each outcome.
abbrev pub decides : Command
decides = try_then (assign (named (codes "y")) (read (codes "a"))) nowhere (block (looks ∷ []))
    (block (lone (fall_to_child nowhere) ∷ []))

-- A design of version 2 with the two commands that version 1 hasn't.
abbrev pub second : DesignTree
second = record {
  version = Two;
  declarations = d.Input nowhere (named (codes "a")) (numeral 2) ∷ [];
  states = and_state (state_node nowhere (named (codes "S")) (enforced (codes "low"))
      (block (decides ∷ [])) no_state) no_state;
}

-- The canonical text of the design of version 2.
abbrev pub Second : Type 0
Second = canonical_text second
    ≡ lines
    (codes "sapper 2;"
    ∷ codes "input a : 2;"
    ∷ codes "state S enforced low {"
    ∷ codes "  y := a then {"
    ∷ codes "    case (a) {"
    ∷ codes "      0, 2'd3: {"
    ∷ codes "        x := 7;"
    ∷ codes "      }"
    ∷ codes "      1: {"
    ∷ codes "      }"
    ∷ codes "      else {"
    ∷ codes "        goto S;"
    ∷ codes "      }"
    ∷ codes "    }"
    ∷ codes "  } otherwise {"
    ∷ codes "    fall;"
    ∷ codes "  }"
    ∷ codes "}"
    ∷ [])
