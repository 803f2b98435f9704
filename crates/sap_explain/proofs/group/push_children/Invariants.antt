use Rattle.std.proofs.Common.{◌≡◌, ◌++◌, drop}
use Rattle.sap_tree.specs.Trees.{states_of}
use Rattle.sap_explain.specs.Explanation.{children_text}
use Rattle.sap_explain.proofs.group.push_children.Given as goal

-- with the states that are left
abbrev pub invariant-loop-n : goal.invariant-loop-n
invariant-loop-n l = l.out.items ++ children_text l.n (states_of (drop l.n l.children)) ≡ l.fn.out.items ++ children_text 0 (states_of l.children)
