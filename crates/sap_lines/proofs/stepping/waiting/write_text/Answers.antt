use Rattle.std.proofs.Common.{◌≡◌, []}
use Rattle.sap_desk.specs.Desk.{added}
use Rattle.sap_desk.proofs.Steps.{option_map-id}
use Rattle.sap_lines.proofs.stepping.Going.{added_none, no_bytes}
use Rattle.sap_lines.proofs.stepping.waiting.write_text.Goals as goal

pub returns-then-is_empty-clause-told : goal.returns-then-is_empty-clause-told
returns-then-is_empty-clause-told g c =
    let none : c.args.text.now ≡ [] = no_bytes c.args.text.now c.is_empty.result c.is_empty.ensures c.if-is_empty.true in
    option_map-id (added 1 c.args.text.now) (g.D.Desk.told c.args.desk.now) (λ t. added_none c.args.text.now t none)
