-- The lines that explain the modules of small designs and of a system, worked out.
use Rattle.std.specs.Prelude.{◌≡◌, ℕ, List, [], ◌∷◌, ◌++◌, None, codes}
use Rattle.sap_text.specs.Places.{line}
use Rattle.sap_tree.specs.Making.{on, mention}
use Rattle.sap_tree.specs.declared.syntax.Kind.TheVariants.{Enforced}
use Rattle.sap_tree.specs.Syntax.{SimpleCommand, fall_to_child, go_to, lone, CommandBlock, command_block, and_command, no_command, state_node, no_state, and_state, DesignTree}
use Rattle.sap_tree.specs.declared.version.Version.TheVariants.{One}
use Rattle.sap_report.specs.Examples.{four_levels, assigns_under_if}
use Rattle.sap_linked.specs.Designs.{NamedDesign}
use Rattle.sap_explain.specs.Explanation.{design_comments, explanation, system_explanation}

-- What explains the module of a design with one state and one check site, over four levels.
abbrev pub OneState : Type 0
OneState = explanation four_levels assigns_under_if
    ≡ line (codes "// level low 0") ++ line (codes "// level a 2") ++ line (codes "// level b 1")
    ++ line (codes "// level high 3") ++ line (codes "// s_0: 0 S") ++ line (codes "// c_1: 5:3 goto S")

-- A body of one command.
abbrev pub only : SimpleCommand → CommandBlock
only command = command_block (and_command (lone command) no_command) (on 9 1)

-- The text `state P enforced low { fall; state A enforced low { goto B; } state B enforced low { goto A; } }`, on nine
-- lines.
abbrev pub two_children : DesignTree
two_children = record {
  version = One;
  declarations = [];
  states = and_state (state_node (on 1 1) (mention (on 1 7) (codes "P"))
      (Enforced (mention (on 1 18) (codes "low")) None) (only (fall_to_child (on 2 3)))
      (and_state (state_node (on 3 3) (mention (on 3 9) (codes "A"))
      (Enforced (mention (on 3 20) (codes "low")) None) (only (go_to (on 4 5) (mention (on 4 10) (codes "B")))) no_state)
      (and_state (state_node (on 6 3) (mention (on 6 9) (codes "B"))
      (Enforced (mention (on 6 20) (codes "low")) None) (only (go_to (on 7 5) (mention (on 7 10) (codes "A")))) no_state)
      no_state))) no_state;
}

-- The lines of a design with a state that has two children, alone and as the part q of a system.
abbrev pub TwoChildren : Type 0
TwoChildren =
    (design_comments [] two_children
    ≡ line (codes "// s_0: 0 P") ++ line (codes "// s_P: 0 A, 1 B") ++ line (codes "// c_1: 2:3 fall P")
    ++ line (codes "// c_2: 4:5 goto B") ++ line (codes "// c_3: 7:5 goto A"))
    × (design_comments (codes "q") two_children
    ≡ line (codes "// s_q_0: 0 P") ++ line (codes "// s_q_P: 0 A, 1 B") ++ line (codes "// c_q_1: 2:3 fall P")
    ++ line (codes "// c_q_2: 4:5 goto B") ++ line (codes "// c_q_3: 7:5 goto A"))

-- A design under a name.
abbrev pub as_part : (name : List ℕ) → DesignTree → NamedDesign
as_part name d = record { name = name; design = d }

-- What explains the module of a system with two parts over four levels: p has one state, and q one with two children.
abbrev pub TwoParts : Type 0
TwoParts =
    system_explanation four_levels (as_part (codes "p") assigns_under_if ∷ as_part (codes "q") two_children ∷ [])
    ≡ line (codes "// level low 0") ++ line (codes "// level a 2") ++ line (codes "// level b 1")
    ++ line (codes "// level high 3") ++ line (codes "// s_p_0: 0 S") ++ line (codes "// c_p_1: 5:3 goto S")
    ++ line (codes "// s_q_0: 0 P") ++ line (codes "// s_q_P: 0 A, 1 B") ++ line (codes "// c_q_1: 2:3 fall P")
    ++ line (codes "// c_q_2: 4:5 goto B") ++ line (codes "// c_q_3: 7:5 goto A")
