-- Parts as they are handed on have the designs and netlists of those that were loaded.
use Rattle.sap_lemmas.proofs.Common.{◌≡◌, List, [], ◌∷◌, map, refl, sym, ◌∙◌, ap, subst, AllByRecursion}
use Rattle.sap_lattice.specs.Levels.{Levels}
use Rattle.sap_net.specs.Net.{Net}
use Rattle.sap_shape.specs.WellFormed.{WellFormed}
use Rattle.sap_size.specs.Items.{IsSmall}
use Rattle.sap_share.specs.Copying.{CopiesPorts}
use Rattle.sap_linked.specs.Designs.{IsNetOfDesign, NamedDesign}
use Rattle.sap_linker.specs.Given.{AreOver, design_with_net, designs_of}
use Rattle.sap_linker.specs.declared.parts.LinkedPart.{LinkedPart}
use Rattle.sap_commands.specs.Link.{HasNet, loaded_designs, loaded_net}
use Rattle.sap_commands.specs.declared.link.LoadedPart.{LoadedPart}
use Rattle.sap_commands.proofs.SmallSystems.{AreSmall}

abbrev Pair : Type 0
Pair = NamedDesign × Net

abbrev designs : List Pair → List NamedDesign
designs ps = map (λ (p : Pair). p.0) ps

pub record Stands (ls : Levels) (p : Pair) : Type 0 where
  pub formed : WellFormed ls p.0.design
  pub net : IsNetOfDesign ls p.0.design p.1
  pub small : IsSmall ls p.0.design p.1
  pub copies : CopiesPorts p.1

of_linked : (parts : List LinkedPart) → designs_of parts ≡ designs (map design_with_net parts)
of_linked [] = refl
of_linked (p ∷ ps) = ap (λ (ds : List NamedDesign). (design_with_net p).0 ∷ ds) (of_linked ps)

of_loaded : (parts : List LoadedPart) → designs (map loaded_net parts) ≡ loaded_designs parts
of_loaded [] = refl
of_loaded (p ∷ ps) = ap (λ (ds : List NamedDesign). (loaded_net p).0 ∷ ds) (of_loaded ps)

pub designs_same : (parts : List LinkedPart) (loaded : List LoadedPart) → map design_with_net parts ≡ map loaded_net loaded → designs_of parts ≡ loaded_designs loaded
designs_same parts loaded same = of_linked parts ∙ ap designs same ∙ of_loaded loaded

module _ (ls : Levels) where
  stand : (loaded : List LoadedPart) → AllByRecursion (HasNet ls) loaded → AllByRecursion (Stands ls) (map loaded_net loaded)
  stand [] nets = tt
  stand (p ∷ ps) (net, nets) = (record { formed = net.formed; net = net.net; small = net.small; copies = net.copies }, stand ps nets)

  over : (parts : List LinkedPart) → AllByRecursion (Stands ls) (map design_with_net parts) → AreOver ls parts
  over [] stands = tt
  over (p ∷ ps) (one, others) = (record { formed = one.formed; net = one.net }, over ps others)

  small : (parts : List LinkedPart) → AllByRecursion (Stands ls) (map design_with_net parts) → AreSmall ls parts
  small [] stands = tt
  small (p ∷ ps) (one, others) = ((one.small, one.copies), small ps others)

  module _ (parts : List LinkedPart) (loaded : List LoadedPart) (same : map design_with_net parts ≡ map loaded_net loaded) (nets : AllByRecursion (HasNet ls) loaded) where
    all_stand : AllByRecursion (Stands ls) (map design_with_net parts)
    all_stand = subst (λ (ps : List Pair). AllByRecursion (Stands ls) ps) (sym same) (stand loaded nets)

    pub all_over : AreOver ls parts
    all_over = over parts all_stand

    pub all_small : AreSmall ls parts
    all_small = small parts all_stand
