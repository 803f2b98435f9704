use Rattle.sap_lemmas.proofs.Common.{◌∙◌, ap, keys_of}
use Rattle.sap_net.specs.NameMaps.{place_in}
use Rattle.sap_share.proofs.table.Table.place.Goals as goal

pub returns : goal.returns
returns g c =
    let n = c.args.name.now in
    c.at_name.ensures ∙ c.self.invariant n ∙ ap (λ xs. place_in (keys_of xs) n) c.self.view_is
