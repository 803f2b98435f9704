use Rattle.std.proofs.Common.{◌≡◌, ◌<◌, ◌≤◌, ℕ, get_or}
use Rattle.sap_lattice.specs.Rows.{passed}
use Rattle.sap_lattice.proofs.relation.Relation.pass_through.Given as goal

abbrev pub invariant-loop-row : goal.invariant-loop-row
invariant-loop-row l = record {
  done : (x : ℕ) → x < l.row-index → get_or l.row-items x 0 ≡ passed l.middle l.next (get_or l.initial.row-items x 0);
  rest : (x : ℕ) → l.row-index ≤ x → get_or l.row-items x 0 ≡ get_or l.initial.row-items x 0;
}
