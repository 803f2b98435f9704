use Rattle.std.proofs.Common.{◌∙◌}
use Rattle.sap_cpu.proofs.Texts.{both_lines}
use Rattle.sap_cpu.proofs.text.users_text.Goals as goal

pub returns : goal.returns
returns c =
    c.new.ensures
    ∙ both_lines c.args.a.now c.args.b.now c.args.slices c.run-cpu.result c.new-out.result.items c.push_user.new.out.items c.push_user-2.new.out.items
    c.run-cpu.ensures c.new-out.ensures.items c.in_ok-push_user.ensures c.in_ok-push_user-2.ensures
