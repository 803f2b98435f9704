use Rattle.std.proofs.Common.{◌≡◌, ◌∙◌, ap, rules}
use Rattle.sap_net.specs.declared.parts.Register.{Register}
use Rattle.sap_build.specs.Writing.{registered}
use Rattle.sap_taint_pass.specs.Tainted.{write_by, memory_tag}
use Rattle.sap_taint_pass.specs.Helping.{helping_name}
use Rattle.sap_taint_pass.specs.Helped.{help_from}
use Rattle.sap_taint_pass.proofs.Helped.{all_added, named_writes}
use Rattle.sap_taint_pass.proofs.writes.add_memory.Goals as goal

pub returns : goal.returns
returns c = λ n k h.
    let w = c.args.width in
    let x = c.args.memory.now in
    let m = c.args.writer.now in
    let names = c.in_ok-names.names in
    let e = c.in_ok-names.ensures {u = tt} in
    let tag : c.in_ok-memory_tag.field-0 ≡ memory_tag w x names.all = search rules in
    all_added n k 4 (write_by w x names.kept names.new names.chosen names.all) (memory_tag w x names.all) m c.write_names.new.writer
    c.register.new.self c.add_write.new.writer (e.declared n k h)
    (c.in_ok-register.ensures {u = tt} ∙ ap (λ (r : Register). registered r c.write_names.new.writer) tag) (c.in_ok-add_write.ensures {u = tt})
    ∙ named_writes (helping_name n) k w x names.kept names.new names.chosen names.all (help_from n k 4) m (e.names n k h)
