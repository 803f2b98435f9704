use Rattle.sap_lemmas.proofs.Common.{◌∙◌, ap, ap₂, ℕ, List, Option, unwrap_or}
use Rattle.sap_lattice.specs.Levels.{level_named}
use Rattle.sap_resolve.proofs.names.level_named.Goals as goal

pub returns : goal.returns
returns c =
    c.unwrap_or.ensures
    ∙ ap₂ (λ (o : Option ℕ) (n : ℕ). unwrap_or o n)
    (c.level_named.ensures ∙ ap (λ (name : List ℕ). level_named c.args.lattice.now.names name) c.as_bytes.ensures)
    (c.new-behind.ensures ∙ c.count.ensures.names)
