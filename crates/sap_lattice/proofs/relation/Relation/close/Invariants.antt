use Rattle.std.proofs.Common.{◌≡◌, ◌<◌, ℕ, true, length}
use Rattle.sap_lattice.specs.Rows.{tells, Reaches}
use Rattle.sap_lattice.proofs.relation.Relation.close.Given as goal

abbrev pub invariant-loop-middle : goal.invariant-loop-middle
invariant-loop-middle l = record {
  count : length l.self ≡ length l.initial.self;
  kept : (x y : ℕ) → tells l.initial.self x y ≡ true → tells l.self x y ≡ true;
  only : (x y : ℕ) → tells l.self x y ≡ true → Reaches l.initial.self x y;
  through : (m x y : ℕ) → m < l.middle → tells l.self x m ≡ true → tells l.self m y ≡ true → tells l.self x y ≡ true;
}
