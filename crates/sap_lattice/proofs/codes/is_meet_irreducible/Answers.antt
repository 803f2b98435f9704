use Rattle.std.proofs.Common.{ap, sym, ◌≡◌, ◌∙◌, ◌&&◌, ◌==◌, ℕ, false, not, length}
use Rattle.std.specs.Prelude.{filter}
use Rattle.std.proofs.lemmas.Bool.{ne_eqb}
use Rattle.sap_lattice.specs.Levels.{numbers}
use Rattle.sap_lattice.specs.Order.{Order}
use Rattle.sap_lattice.specs.Codes.{is_upper_cover}
use Rattle.sap_lattice.specs.Rows.{order_in}
use Rattle.sap_lattice.proofs.RowLemmas.{order_in-count}
use Rattle.sap_lattice.proofs.codes.is_meet_irreducible.Goals as goal

pub returns-then-x-top : goal.returns-then-x-top
returns-then-x-top c =
    let o : Order = order_in c.args.order.now in
    let x : ℕ = c.args.x in
    let apart : (x == o.top) ≡ false = ne_eqb x o.top (λ e. c.if-x-top.true (e ∙ sym c.requires.top)) in
    ap (λ n. n == 1) (c.upper_cover_count.ensures ∙ ap (λ n. length (filter (is_upper_cover o x) (numbers n))) (sym (order_in-count c.args.order.now)))
    ∙ ap (λ b. not b && (length (filter (is_upper_cover o x) (numbers o.count)) == 1)) (sym apart)
