use Rattle.std.proofs.Common.{◌≡◌, ◌∷◌, ◌++◌, [], List, map, take, true, false, ap, subst, ◌∙◌, rules, arith}
use Rattle.sap_maps.specs.Maps.{Name}
use Rattle.sap_net.specs.Names.{is_among}
use Rattle.sap_taint.specs.TagNames.{name_of_tag, clashes, IsClash}
use Rattle.sap_taint_pass.proofs.Clashing.{is_clash, none_more, room_at_end, tags_more}
use Rattle.sap_taint_pass.proofs.names.index_tags.Goals as goal

pub returns-then-holds-clause-clash : goal.returns-then-holds-clause-clash
returns-then-holds-clause-clash c =
    let n = c.args.netlist.now in
    let ns = c.names-names.result.now in
    let k = c.loop-name.name-index in
    let x = c.name-item.result in
    let taken = n.module_name ∷ n.names ++ map name_of_tag (take k ns) in
    let tag : c.in_ok-tag.tag ≡ name_of_tag x = search rules in
    let found : is_among c.in_ok-tag.tag c.loop-name.taken ≡ true = search rules in
    let t : clashes n (take k ns) x ≡ true =
    subst (λ (y : Name). is_among y taken ≡ true) tag (subst (λ (xs : List Name). is_among c.in_ok-tag.tag xs ≡ true) c.loop-name.invariant.0 found) in
    let same : x ≡ c.in_ok-copy.field-0 = search rules in
    λ other. subst (IsClash n) same (is_clash n ns c.names-names.ensures k x (omega arith) c.name-item.is c.loop-name.invariant.1 t)

pub loop-name-preserved : goal.loop-name-preserved
loop-name-preserved c =
    let n = c.args.netlist.now in
    let ns = c.names-names.result.now in
    let k = c.loop-name.name-index in
    let x = c.name-item.result in
    let taken = n.module_name ∷ n.names ++ map name_of_tag (take k ns) in
    let tag : c.in_ok-tag.tag ≡ name_of_tag x = search rules in
    let not_found : is_among c.in_ok-tag.tag c.loop-name.taken ≡ false = search rules in
    let f : clashes n (take k ns) x ≡ false =
    subst (λ (y : Name). is_among y taken ≡ false) tag (subst (λ (xs : List Name). is_among c.in_ok-tag.tag xs ≡ false) c.loop-name.invariant.0 not_found) in
    let added : c.add.new.self ≡ c.loop-name.taken ++ c.in_ok-tag.tag ∷ [] = search rules in (
      added
          ∙ ap (λ (xs : List Name). xs ++ c.in_ok-tag.tag ∷ []) c.loop-name.invariant.0
          ∙ ap (λ (y : Name). taken ++ y ∷ []) tag
          ∙ tags_more ns k x (omega arith) c.name-item.is (n.module_name ∷ n.names),
      none_more n ns k x (omega arith) c.name-item.is c.loop-name.invariant.1 f,
    )

pub returns-clause-room : goal.returns-clause-room
returns-clause-room c = room_at_end c.args.netlist.now c.names-names.result.now c.rules.ensures c.names-names.ensures c.loop-name.name-index (omega arith) c.loop-name.invariant.1
