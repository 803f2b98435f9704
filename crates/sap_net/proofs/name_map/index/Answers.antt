use Rattle.std.proofs.Common.{◌≡◌, ◌∙◌, ap, sym}
use Rattle.sap_lemmas.proofs.Options.{none_of_test}
use Rattle.sap_net.specs.NameMaps.{at_name}
use Rattle.sap_net.proofs.Places.{added_new, added_old, is_there}
use Rattle.sap_net.proofs.name_map.index.Goals as goal

pub returns-in_ok-put : goal.returns-in_ok-put
returns-in_ok-put c = λ names l is.
    let m = c.args.places.now in
    let y = c.args.name.now in
    let found : at_name m y ≡ c.at_name.result = sym (c.at_name.ensures ∙ ap (at_name m) c.as_bytes.ensures) in
    added_new m c.put.new.map names y c.args.place (found ∙ none_of_test c.at_name.result c.if-is_none.ensures) (c.in_ok-put.ensures {u = tt}) l is

pub returns-else-is_none : goal.returns-else-is_none
returns-else-is_none c = λ names l is.
    let m = c.args.places.now in
    let y = c.args.name.now in
    let found : at_name m y ≡ c.at_name.result = sym (c.at_name.ensures ∙ ap (at_name m) c.as_bytes.ensures) in
    let t = is_there c.at_name.result c.if-is_none.ensures in
    added_old m names y t.0 (found ∙ t.1) is
