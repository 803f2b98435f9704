use Rattle.std.proofs.Common.{ap, ◌∙◌, ◌≡◌, ◌<◌, ◌^◌, ◌||◌, ◌&&◌, ◌==◌, ℕ, List, length, set}
use Rattle.std.specs.Prelude.{bit_or}
use Rattle.std.proofs.lemmas.List.{get_or_read}
use Rattle.sap_lattice.specs.Rows.{tells}
use Rattle.sap_lattice.proofs.RowLemmas.{tells-set}
use Rattle.sap_lattice.proofs.relation.Relation.relate.Goals as goal

pub returns-clause-both : goal.returns-clause-both
returns-clause-both c = λ u v.
    let old : List ℕ = c.self.inside.rows.items in
    let x : ℕ = c.args.x in
    let y : ℕ = c.args.y in
    let same : old ≡ c.args.self.now = c.self.view_is in
    let low : x < length old = rw same c.requires.left in
    let read = get_or_read old x c.index.result.now low c.index.ensures 0 in
    ap (λ r. tells (set old x r) u v) (c.with.ensures ∙ ap (λ r. bit_or r (2 ^ y)) read)
    ∙ tells-set old x y u v low
    ∙ ap (λ rs. tells rs u v || (u == x && v == y)) same
