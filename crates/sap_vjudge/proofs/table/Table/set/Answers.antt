use Rattle.sap_lemmas.proofs.Common.{◌∙◌, ap, ◌||◌, on_ok}
use Rattle.sap_vtext.specs.Names.{same_setting}
use Rattle.sap_vjudge.specs.Entries.{entry_shape, entry_set}
use Rattle.sap_vjudge.specs.Shapes.{setting_of}
use Rattle.sap_vjudge.proofs.Tabled.{known_set}
use Rattle.sap_vjudge.proofs.table.Table.set.Goals as goal

pub returns : goal.returns
returns c =
    on_ok c.put.result _ _ (λ entries.
    known_set c.args.self.now c.put.new.self c.args.name.now c.set-entry.result entries c.put.ensures.integer (setting_of c.args.setting)
    (c.set-entry.ensures.shape ∙ ap entry_shape c.entry.ensures)
    (λ t. c.set-entry.ensures.set t ∙ ap (λ o. entry_set o t || same_setting t (setting_of c.args.setting)) c.entry.ensures)) c.put.ensures.entries
