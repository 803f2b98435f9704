use Rattle.std.proofs.Common.{◌≡◌, ◌<◌, ◌^◌, ℕ, get_or, length}
use Rattle.sap_lattice.proofs.relation.Relation.equality.Given as goal

abbrev pub invariant-loop-place : goal.invariant-loop-place
invariant-loop-place l = record {
  count : length l.rows.items ≡ l.place;
  single : (x : ℕ) → x < l.place → get_or l.rows.items x 0 ≡ 2 ^ x;
}
