-- The reports of small designs, worked out.
use Rattle.std.specs.Prelude.{◌≡◌, [], ◌∷◌, ◌++◌, None, true, false, codes}
use Rattle.sap_text.specs.Places.{line}
use Rattle.sap_lattice.specs.Levels.{Levels}
use Rattle.sap_tree.specs.Making.{on, spot, mention, numeral_at}
use Rattle.sap_tree.specs.declared.syntax.Kind.TheVariants.{Dynamic, Enforced}
use Rattle.sap_tree.specs.declared.syntax.Decl.TheVariants.{Input, Register}
use Rattle.sap_tree.specs.declared.syntax.BinaryOperator.TheVariants as operator
use Rattle.sap_tree.specs.Syntax.{literal, variable, binary_of, assign, go_to, Command, lone, if_else, command_block, no_else, no_command, and_command, state_node, no_state, and_state, DesignTree}
use Rattle.sap_tree.specs.declared.version.Version.TheVariants.{One}
use Rattle.sap_report.specs.Report.{report_text}

-- `a` and b between low and high.
abbrev pub four_levels : Levels
four_levels = record {
  names = codes "low" ∷ codes "a" ∷ codes "b" ∷ codes "high" ∷ [];
  table = (true ∷ true ∷ true ∷ true ∷ []) ∷ (false ∷ true ∷ false ∷ true ∷ [])
      ∷ (false ∷ false ∷ true ∷ true ∷ []) ∷ (false ∷ false ∷ false ∷ true ∷ []) ∷ [];
}

-- The text `if (a == 1) { x := 1; }`.
abbrev pub choosing : Command
choosing =
    if_else (on 4 3) (binary_of (record { first = on 4 7; at = on 4 9 }) operator.Eq
    (variable (spot (on 4 7)) (codes "a")) (literal (spot (on 4 12)) 1))
    (command_block (and_command (lone (assign (mention (on 4 17) (codes "x")) (literal (spot (on 4 22)) 1))) no_command)
    (on 4 25)) no_else

-- The text `On six lines: input a : 8; reg x : 8 dynamic; state S enforced low { if (a == 1) { x := 1; } goto S; }`.
abbrev pub assigns_under_if : DesignTree
assigns_under_if = record {
  version = One;
  declarations = Input (on 1 1) (mention (on 1 7) (codes "a")) (numeral_at (on 1 11) 8)
      ∷ Register (on 2 1) (mention (on 2 5) (codes "x")) (numeral_at (on 2 9) 8) (Dynamic (on 2 11)) None ∷ [];
  states = and_state (state_node (on 3 1) (mention (on 3 7) (codes "S"))
      (Enforced (mention (on 3 18) (codes "low")) None)
      (command_block (and_command choosing (and_command
      (lone (go_to (on 5 3) (mention (on 5 8) (codes "S")))) no_command)) (on 6 1)) no_state) no_state;
}

-- The report of a design with one `if`.
abbrev pub OnePoint : Type 0
OnePoint = report_text four_levels assigns_under_if
    ≡ line (codes "level low 0") ++ line (codes "level a 2") ++ line (codes "level b 1") ++ line (codes "level high 3")
    ++ line (codes "if 4:3 hangs x") ++ line (codes "site 1 5:3 goto S")

-- Bot below p below q below top, and r between bot and top.
abbrev pub five_levels : Levels
five_levels = record {
  names = codes "bot" ∷ codes "p" ∷ codes "q" ∷ codes "r" ∷ codes "top" ∷ [];
  table = (true ∷ true ∷ true ∷ true ∷ true ∷ []) ∷ (false ∷ true ∷ true ∷ false ∷ true ∷ [])
      ∷ (false ∷ false ∷ true ∷ false ∷ true ∷ [])
      ∷ (false ∷ false ∷ false ∷ true ∷ true ∷ []) ∷ (false ∷ false ∷ false ∷ false ∷ true ∷ []) ∷ [];
}

-- The text `state S enforced bot { goto S; }`.
abbrev pub staying : DesignTree
staying = record {
  version = One;
  declarations = [];
  states = and_state (state_node (on 1 1) (mention (on 1 7) (codes "S"))
      (Enforced (mention (on 1 18) (codes "bot")) None)
      (command_block (and_command (lone (go_to (on 1 24) (mention (on 1 29) (codes "S")))) no_command)
      (on 1 32)) no_state) no_state;
}

-- The report of a design over five levels.
abbrev pub FiveLevels : Type 0
FiveLevels = report_text five_levels staying
    ≡ line (codes "level bot 0") ++ line (codes "level p 4") ++ line (codes "level q 5")
    ++ line (codes "level r 3") ++ line (codes "level top 7")
    ++ line (codes "site 1 1:24 goto S")
