use Rattle.std.proofs.Common.{◌≡◌, ◌++◌, drop}
use Rattle.sap_explain.specs.Explanation.{level_comments}
use Rattle.sap_explain.proofs.level.push_levels.Given as goal

-- with the levels that are left
abbrev pub invariant-loop-place : goal.invariant-loop-place
invariant-loop-place l = l.out.items ++ level_comments l.lattice l.place (drop l.place l.lattice.names) ≡ l.fn.out.items ++ level_comments l.lattice 0 l.lattice.names
