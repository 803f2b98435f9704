use Rattle.std.proofs.Common.{ap, sym, ◌≡◌, ◌∙◌, ◌&&◌, ℕ, Bool, true, not}
use Rattle.std.specs.List.{list_any}
use Rattle.sap_lattice.specs.Levels.{numbers}
use Rattle.sap_lattice.specs.Order.{Order}
use Rattle.sap_lattice.specs.Codes.{is_strictly_below}
use Rattle.sap_lattice.specs.Rows.{order_in}
use Rattle.sap_lattice.proofs.RowLemmas.{order_in-count}
use Rattle.sap_lattice.proofs.codes.is_upper_cover.Goals as goal

pub returns-then-is_strictly_below : goal.returns-then-is_strictly_below
returns-then-is_strictly_below c =
    let o : Order = order_in c.args.order.now in
    let between : ℕ → Bool = λ z. is_strictly_below o c.args.x z && is_strictly_below o z c.args.y in
    let strictly : is_strictly_below o c.args.x c.args.y ≡ true = sym c.is_strictly_below.ensures ∙ c.if-is_strictly_below.true in
    ap not (c.has_between.ensures ∙ ap (λ n. list_any between (numbers n)) (sym (order_in-count c.args.order.now)))
    ∙ ap (λ b. b && not (list_any between (numbers o.count))) (sym strictly)
