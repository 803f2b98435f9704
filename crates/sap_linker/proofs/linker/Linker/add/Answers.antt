use Rattle.std.proofs.Common.{◌∷◌, ◌++◌, [], List, ◌∙◌, ap, refl}
use Rattle.sap_linker.specs.Adding.{Adding}
use Rattle.sap_linker.specs.declared.parts.AddedPart.{AddedPart}
use Rattle.sap_linker.proofs.linker.Linker.add.Goals as goal

pub returns-clause-added : goal.returns-clause-added
returns-clause-added c =
    let part : AddedPart = record { checked = c.args.checked; netlist = c.args.netlist } in
    record {
      part = part;
      design = refl;
      net = refl;
      added =
          ap (λ (parts : List AddedPart). record { system = c.self.inside.system; levels = c.self.inside.lattice.now; parts = parts }) c.in_ok-push.ensures.items
          ∙ ap (λ (a : Adding). record { system = a.system; levels = a.levels; parts = a.parts ++ part ∷ [] }) c.self.view_is;
    }
