use Rattle.std.proofs.Common.{◌≡◌, ◌∙◌, List, false, sym, ap, rules}
use Rattle.sap_maps.specs.Maps.{Name}
use Rattle.sap_share.specs.Fronts.{front, is_marked}
use Rattle.sap_share.specs.Sets.{holds}
use Rattle.sap_share.proofs.Fronts.{unmarked}
use Rattle.sap_share.proofs.name_set.NameSet.has.Goals as goal

pub returns-then-is_marked : goal.returns-then-is_marked
returns-then-is_marked c = c.contains.ensures ∙ ap (λ (ns : List Name). holds ns c.args.name.now) c.self.view_is

pub returns-else-is_marked : goal.returns-else-is_marked
returns-else-is_marked c =
    let n = c.args.name.now in
    let marks = c.self.inside.fronts in
    let f : is_marked marks (front n) ≡ false = search rules in
    let r : c.is_marked.result ≡ false = search rules in
    r ∙ sym (unmarked marks c.self.inside.names.keys n c.self.invariant f) ∙ ap (λ (ns : List Name). holds ns n) c.self.view_is
