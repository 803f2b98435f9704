-- What hangs on the commands of small designs.
use Rattle.std.specs.Prelude.{◌≡◌, ℕ, List, [], ◌∷◌, None, codes}
use Rattle.sap_tree.specs.Bare.{nowhere, no_spot}
use Rattle.sap_tree.specs.Making.{named, numeral, number, read, enforced, block, state}
use Rattle.sap_tree.specs.declared.syntax.Kind.{Kind}
use Rattle.sap_tree.specs.declared.syntax.Kind.TheVariants.{Dynamic}
use Rattle.sap_tree.specs.declared.syntax.Decl.TheVariants.{Input, Register}
use Rattle.sap_tree.specs.declared.syntax.BinaryOperator.TheVariants as operator
use Rattle.sap_tree.specs.Syntax.{Expression, binary_of, SimpleCommand, assign, go_to, fall_to_child, lone, try, if_else, no_else, with_else, StateTree, StateList, no_state, and_state, DesignTree}
use Rattle.sap_tree.specs.declared.version.Version.TheVariants.{One}
use Rattle.sap_lattice.specs.Examples.{low_high}
use Rattle.sap_resolved.specs.Kept.Hangs.{at_if, at_otherwise, at_fall, hang_table, hang_at_root}

-- The kind `enforced low`.
abbrev pub low : Kind
low = enforced (codes "low")

-- A group of one state.
abbrev pub only : StateTree → StateList
only s = and_state s no_state

-- The text `a == 1`.
abbrev pub a_is_one : Expression
a_is_one = binary_of no_spot operator.Eq (read (codes "a")) (number 1)

-- The text `x := 1`.
abbrev pub set_x : SimpleCommand
set_x = assign (named (codes "x")) (number 1)

-- A `goto`.
abbrev pub go : List ℕ → SimpleCommand
go name = go_to nowhere (named name)

-- The text `input a : 8; reg x : 8 dynamic;` with the given states.
abbrev pub design : StateList → DesignTree
design states = record {
  version = One;
  declarations = Input nowhere (named (codes "a")) (numeral 8)
      ∷ Register nowhere (named (codes "x")) (numeral 8) (Dynamic nowhere) None ∷ [];
  states = states;
}

-- The text `state S enforced low { if (a == 1) { x := 1; } goto S; }`.
abbrev pub assigns_under_if : DesignTree
assigns_under_if = design (only (state (codes "S") low
    (if_else nowhere a_is_one (block (lone set_x ∷ [])) no_else ∷ lone (go (codes "S")) ∷ []) no_state))

-- What is assigned in a branch hangs on the `if`.
abbrev pub OnBranches : Type 0
OnBranches = hang_table low_high assigns_under_if ≡ at_if (codes "x" ∷ []) ∷ []

-- The text `state P enforced low { if (a == 1) { fall; } else { fall; } state C enforced low { x := 1; goto C; } }`.
abbrev pub falls_under_if : DesignTree
falls_under_if =
    design (only (state (codes "P") low (if_else nowhere a_is_one
    (block (lone (fall_to_child nowhere) ∷ [])) (with_else (block (lone (fall_to_child nowhere) ∷ []))) ∷ [])
    (only (state (codes "C") low (lone set_x ∷ lone (go (codes "C")) ∷ []) no_state))))

-- What is assigned in the bodies below hangs on each `fall`, and so on the `if`.
abbrev pub OnFalls : Type 0
OnFalls = (hang_table low_high falls_under_if ≡ at_if (codes "x" ∷ []) ∷ at_fall (codes "x" ∷ [])
    ∷ at_fall (codes "x" ∷ []) ∷ [])
    × (hang_at_root low_high falls_under_if ≡ codes "x" ∷ [])

-- The text `state P enforced low { fall otherwise { goto P; } state C dynamic { if (a == 1) { goto C; } else { goto D;
-- } } state D dynamic { goto C; state E dynamic { x := 1; goto E; } } }`.
abbrev pub dynamic_children : DesignTree
dynamic_children =
    design (only (state (codes "P") low (try (fall_to_child nowhere) nowhere (block (lone (go (codes "P")) ∷ [])) ∷ [])
    (and_state (state (codes "C") (Dynamic nowhere)
    (if_else nowhere a_is_one (block (lone (go (codes "C")) ∷ []))
    (with_else (block (lone (go (codes "D")) ∷ []))) ∷ []) no_state)
    (only (state (codes "D") (Dynamic nowhere) (lone (go (codes "C")) ∷ [])
    (only (state (codes "E") (Dynamic nowhere) (lone set_x ∷ lone (go (codes "E")) ∷ []) no_state)))))))

-- The dynamic children hang on a `fall`, but no state further below, and what is assigned anywhere below; the state in
-- whose body a `goto` stands hangs on what the `goto` stands in, if it is dynamic.
abbrev pub OnDynamicStates : Type 0
OnDynamicStates = hang_table low_high dynamic_children
    ≡ at_fall (codes "x" ∷ codes "C" ∷ codes "D" ∷ [])
    ∷ at_otherwise (codes "x" ∷ codes "C" ∷ codes "D" ∷ []) ∷ at_if (codes "C" ∷ []) ∷ []
