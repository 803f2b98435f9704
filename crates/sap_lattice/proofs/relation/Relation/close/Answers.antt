use Rattle.std.proofs.Common.{ℕ, List, length, inl, inr, arith}
use Rattle.std.proofs.lemmas.Bool.{cases_lt, both_ways}
use Rattle.sap_lattice.specs.Rows.{tells}
use Rattle.sap_lattice.specs.Rows.Reaches.{step}
use Rattle.sap_lattice.proofs.RowLemmas.{passed_kept, passed_reaches, passed_through, tells_past}
use Rattle.sap_lattice.proofs.relation.Relation.close.Goals as goal

pub loop-middle-init : goal.loop-middle-init
loop-middle-init c = record {
  count = omega arith;
  kept = λ x y h. h;
  only = λ x y h. step h;
  through = λ m x y low. absurd (omega arith);
}

pub loop-middle-preserved : goal.loop-middle-preserved
loop-middle-preserved c =
    let before = c.loop-middle.invariant in
    let old : List ℕ = c.loop-middle.self in
    let new : List ℕ = c.pass_through.new.self in
    let k : ℕ = c.loop-middle.middle in
    let through = c.pass_through.ensures.through in
    record {
      count = omega arith;
      kept = λ x y h. passed_kept old new k through x y (before.kept x y h);
      only = passed_reaches old new k through c.args.self.now before.only;
      through = passed_through old new k through before.through;
    }

-- nothing leads on from what is no row
pub returns-clause-transitive : goal.returns-clause-transitive
returns-clause-transitive c = λ x y z a b.
    let rows : List ℕ = c.loop-middle.self in
    elim (cases_lt y (length rows)) [
      | inl low ↦ c.loop-middle.invariant.through y x z (omega arith) a b
      | inr high ↦ absurd (both_ways (tells rows y z) (tells_past rows y z high) b)
    ]
