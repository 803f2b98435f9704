use Rattle.std.proofs.Common.{◌∙◌, ap}
use Rattle.std.specs.Prelude.{position}
use Rattle.std.specs.Str.{bytes_eq}
use Rattle.sap_lattice.proofs.NameLemmas.{place_cases}
use Rattle.sap_lattice.proofs.lattice.Lattice.find.Goals as goal

pub returns : goal.returns
returns c =
    place_cases c.args.self.now.names c.args.name.now c.level_named.result
    (c.level_named.ensures ∙ ap (λ name. position (λ n. bytes_eq n name) c.args.self.now.names) c.as_bytes.ensures.value)
