use Rattle.std.proofs.Common.{ap, ◌∙◌, ◌≡◌, ℕ, List, length, ◌<◌, get_or}
use Rattle.std.proofs.lemmas.List.{get_or_read}
use Rattle.sap_lattice.specs.Rows.{tells, holds}
use Rattle.sap_lattice.proofs.relation.Relation.tells.Goals as goal

pub returns : goal.returns
unfolding tells
returns c =
    let rows : List ℕ = c.self.inside.rows.items in
    let same : rows ≡ c.args.self.now = c.self.view_is in
    let low : c.args.x < length rows = rw same c.requires.left in
    c.contains.ensures
    ∙ ap (λ r. holds r c.args.y) (get_or_read rows c.args.x c.index.result.now low c.index.ensures 0)
    ∙ ap (λ rs. holds (get_or rs c.args.x 0) c.args.y) same
