use Rattle.sap_lemmas.proofs.Common.{◌≡◌, List, [], get_or, sym, ◌∙◌, ap, IfOk-weaker}
use Rattle.sap_check.specs.Checked.{tree_in}
use Rattle.sap_names.specs.declared.entity.Entity.{Entity}
use Rattle.sap_commands.specs.Twin.{input_name, input_names}
use Rattle.sap_commands.proofs.InputNames.{input_here, input_later, input_not_here}
use Rattle.sap_commands.proofs.twin.input_name.Goals as goal
use Rattle.sap_commands.proofs.twin.input_name.Goals.{then-is_input+else-left-eq0, else-is_input}

pub returns-then-left-eq0 : goal.returns-then-left-eq0
returns-then-left-eq0 c =
    IfOk-weaker c.copy.result (λ name. name ≡ c.entity-entity.result.now.name.name) (λ name. name ≡ input_name (tree_in c.args.checked.now) c.args.place)
    (λ name is.
    is
    ∙ sym (input_here c.names-names.result.now c.loop-number.number c.entity-entity.result.now c.entity-entity.ensures c.loop-number.left
    (sym c.if-is_input.ensures) c.if-left-eq0.true)
    ∙ c.loop-number.invariant
    ∙ ap (λ (es : List Entity). get_or (input_names es) c.args.place []) c.names-names.ensures)
    c.copy.ensures

pub loop-number-preserved : goal.loop-number-preserved
loop-number-preserved c = elim c.if-is_input.branch [
  | then-is_input+else-left-eq0 w ↦
      rw w.left-is
      (sym (input_later c.names-names.result.now c.loop-number.number c.entity-entity.result.now c.entity-entity.ensures c.loop-number.left
      (sym w.if-is_input.ensures) w.if-left-eq0.false)
      ∙ c.loop-number.invariant)
  | else-is_input w ↦
      rw w.left-is
      (sym (input_not_here c.names-names.result.now c.loop-number.number c.entity-entity.result.now c.entity-entity.ensures c.loop-number.left (sym w.if-is_input.ensures))
      ∙ c.loop-number.invariant)
]
