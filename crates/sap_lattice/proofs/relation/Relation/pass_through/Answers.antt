use Rattle.std.proofs.Common.{ap, ap₂, sym, ◌∙◌, ◌≡◌, ◌||◌, ◌&&◌, ◌<◌, ℕ, List, length, get_or, drop, arith}
use Rattle.std.proofs.lemmas.List.{get_or_read, take_at}
use Rattle.sap_lattice.specs.Rows.{tells, passed}
use Rattle.sap_lattice.proofs.RowLemmas.{tells_passed}
use Rattle.sap_lattice.proofs.relation.Relation.pass_through.Goals as goal

pub returns-clause-through : goal.returns-clause-through
returns-clause-through c = λ x y.
    let old : List ℕ = c.self.inside.rows.items in
    let new : List ℕ = c.loop-row.row-items in
    let k : ℕ = c.args.middle in
    let same : old ≡ c.args.self.now = c.self.view_is in
    let low : k < length old = rw same c.requires in
    let slice = c.deref_mut-row-items.ensures in
    let length_new : length new ≡ length old = c.loop-row.auto.row-items ∙ ap length slice.value in
    let next_is = get_or_read old k c.index-next.result.now low c.index-next.ensures 0 in
    let rows = λ (z : ℕ) (h : z < length old).
    c.loop-row.invariant.done z (let l : length old ≡ length c.deref_mut-row-items.result.now = sym (ap length slice.value) in omega arith)
    ∙ ap₂ (λ (r : ℕ) (rs : List ℕ). passed k r (get_or rs z 0)) next_is slice.value in
    ap (λ rs. tells rs x y) (take_at new (drop (length new) old) c.self.inside.rows.len (c.loop-row.auto.row-items ∙ slice.len))
    ∙ tells_passed old new k length_new rows x y
    ∙ ap (λ rs. tells rs x y || (tells rs x k && tells rs k y)) same
