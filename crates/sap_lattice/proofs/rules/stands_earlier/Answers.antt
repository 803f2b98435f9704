use Rattle.std.proofs.Common.{◌∙◌, ℕ, List, []}
use Rattle.std.proofs.lemmas.List.{get_or_read}
use Rattle.sap_lattice.proofs.NameLemmas.{stands_cases}
use Rattle.sap_lattice.proofs.rules.stands_earlier.Goals as goal

pub returns : goal.returns
returns c =
    let names : List (List ℕ) = c.args.names.now in
    let name : List ℕ = c.as_bytes.result.now in
    let same = c.as_bytes.ensures ∙ get_or_read names c.args.k c.index-names-k.result c.requires c.index-names-k.is [] in
    stands_cases names c.args.k name c.place_of.result c.is_some.result c.requires same c.place_of.ensures c.is_some.ensures
