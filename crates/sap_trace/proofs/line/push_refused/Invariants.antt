use Rattle.sap_lemmas.proofs.Common.{◌≡◌, ◌≤◌, ◌*◌, ◌++◌, ℕ, Option, vec_capacity}
use Rattle.sap_maps.specs.Maps.{Valuation}
use Rattle.sap_check.specs.Checked.{levels_in, tree_in}
use Rattle.sap_cycle.specs.Running.{Shows, seen}
use Rattle.sap_sim.specs.Stepped.{HasMore}
use Rattle.sap_trace.specs.Rooms.{HoldsLine}
use Rattle.sap_trace.specs.Seen.{seen_lines}
use Rattle.sap_trace.proofs.line.push_refused.Given as goal

-- with the sites so far
abbrev pub invariant-loop-k : goal.invariant-loop-k
invariant-loop-k l = record {
  text : (shown : Option Valuation) → Shows l.runner shown
      → l.out.items ≡ l.fn.out.items ++ seen_lines (levels_in l.checked) (tree_in l.checked) l.cycle 1 l.k (seen l.runner.net shown);
  room : vec_capacity l.fn.out ≤ vec_capacity l.out;
  more : (line : ℕ) → HoldsLine (levels_in l.checked) (tree_in l.checked) line → HasMore (l.k * line) l.fn.out.items l.out.items;
}
