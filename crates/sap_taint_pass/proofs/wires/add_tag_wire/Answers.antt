use Rattle.std.proofs.Common.{◌≡◌, ◌∙◌, [], List, ap₂, rules}
use Rattle.sap_maps.specs.Maps.{Name}
use Rattle.sap_build.specs.Writing.{grown}
use Rattle.sap_taint.specs.TagNames.{name_of_tag}
use Rattle.sap_taint_pass.specs.Tainted.{joined, tags_read, help_for}
use Rattle.sap_taint_pass.specs.Helping.{helping_name}
use Rattle.sap_taint_pass.specs.Helped.{help_from}
use Rattle.sap_taint_pass.proofs.wires.add_tag_wire.Goals as goal

pub returns : goal.returns
returns c = λ n k h.
    let name : c.in_ok-name.name ≡ name_of_tag c.args.wire.now.name = search rules in
    let tags : c.in_ok-tags.tags.items ≡ tags_read c.args.wire.now = search rules in
    c.in_ok-add_joined.ensures {u = tt} n k h
    ∙ ap₂ (λ (x : Name) (ts : List Name). grown (help_from n k (help_for ts)) (joined (helping_name n) c.args.width k x ts) [] c.args.writer.now) name tags
