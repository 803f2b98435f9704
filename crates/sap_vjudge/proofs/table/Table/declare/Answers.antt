use Rattle.sap_lemmas.proofs.Common.{◌∙◌, ap, Some, option_or, on_ok}
use Rattle.sap_vjudge.specs.Entries.{entry_shape, entry_set}
use Rattle.sap_vjudge.specs.Shapes.{shape_of}
use Rattle.sap_vjudge.proofs.Tabled.{known_declared}
use Rattle.sap_vjudge.proofs.table.Table.declare.Goals as goal

pub returns : goal.returns
returns c =
    on_ok c.put.result _ _ (λ entries.
    known_declared c.args.self.now c.put.new.self c.args.name.now c.declared-entry.result entries c.put.ensures.integer (shape_of c.args.shape)
    (c.declared-entry.ensures.shape ∙ ap (λ o. option_or (entry_shape o) (Some (shape_of c.args.shape))) c.entry.ensures)
    (λ t. c.declared-entry.ensures.set t ∙ ap (λ o. entry_set o t) c.entry.ensures)) c.put.ensures.entries
