-- What was added for parts, under their names.
use Rattle.sap_lemmas.proofs.Common.{◌≡◌, ℕ, ◌≤◌, List, [], ◌∷◌, ◌++◌, map, length, drop, refl, sym, ap, ◌∙◌, subst, arith, AllByRecursion, append-nil, drop_past}
use Rattle.sap_lattice.specs.Levels.{Levels}
use Rattle.sap_net.specs.Net.{Net}
use Rattle.sap_system.specs.Listing.{Listing}
use Rattle.sap_system.specs.Rules.{part_names}
use Rattle.sap_system.specs.declared.file.Part.{Part}
use Rattle.sap_linked.specs.Designs.{NamedDesign}
use Rattle.sap_linker.specs.declared.parts.AddedPart.{AddedPart}
use Rattle.sap_linker.specs.declared.parts.LinkedPart.{LinkedPart}
use Rattle.sap_linker.specs.Given.{AreOver, HasNetlist, design_names, designs_of, design_with_net, nets_of}
use Rattle.sap_linker.specs.Adding.{Adding, AreAddedOver, added_designs, added_nets, under_names}

abbrev Pair : Type 0
Pair = NamedDesign × Net

abbrev designs : List Pair → List NamedDesign
designs ps = map (λ (p : Pair). p.0) ps

abbrev nets : List Pair → List Net
nets ps = map (λ (p : Pair). p.1) ps

-- ---- lists of both

none_added : (listed : List Part) → under_names listed [] ≡ []
none_added [] = refl
none_added (l ∷ ls) = refl

-- behind the last that was added
pub all_made : (made : List Pair) (listed : List Part) (added : List AddedPart) (k : ℕ) → length added ≤ k
    → made ++ under_names (drop k listed) (drop k added) ≡ under_names listed added → made ≡ under_names listed added
all_made made listed added k past so_far =
    sym (append-nil made)
    ∙ ap (λ (rest : List Pair). made ++ rest) (sym (ap (under_names (drop k listed)) (drop_past added k past) ∙ none_added (drop k listed)))
    ∙ so_far

-- ---- parts as they are handed on

of_linked : (made : List LinkedPart) → designs_of made ≡ designs (map design_with_net made)
of_linked [] = refl
of_linked (p ∷ ps) = ap (λ (ds : List NamedDesign). (design_with_net p).0 ∷ ds) (of_linked ps)

nets_linked : (made : List LinkedPart) → nets_of made ≡ nets (map design_with_net made)
nets_linked [] = refl
nets_linked (p ∷ ps) = ap (λ (ns : List Net). p.netlist.now ∷ ns) (nets_linked ps)

module _ (made : List LinkedPart) (listed : List Part) (added : List AddedPart) (same : map design_with_net made ≡ under_names listed added) where
  pub designs_same : designs_of made ≡ designs (under_names listed added)
  designs_same = of_linked made ∙ ap designs same

  pub nets_same : nets_of made ≡ nets (under_names listed added)
  nets_same = nets_linked made ∙ ap nets same

  names_listed : (listed : List Part) (added : List AddedPart) → length added ≡ length listed → design_names (designs (under_names listed added)) ≡ part_names listed
  names_listed [] added all = refl
  names_listed (l ∷ ls) [] all = absurd (omega (arith, all))
  names_listed (l ∷ ls) (p ∷ ps) all = ap (λ (ns : List (List ℕ)). l.name ∷ ns) (names_listed ls ps (omega (arith, all)))

  pub names_same : length added ≡ length listed → design_names (designs_of made) ≡ part_names listed
  names_same all = ap design_names designs_same ∙ names_listed listed added all

  module _ (ls : Levels) where
    abbrev Stands : Pair → Type 0
    Stands p = HasNetlist ls p.0.design p.1

    stand : (listed : List Part) (added : List AddedPart) → AreAddedOver ls added → AllByRecursion Stands (under_names listed added)
    stand [] added over = tt
    stand (l ∷ ls) [] over = tt
    stand (l ∷ ls) (p ∷ ps) over = (over.0, stand ls ps over.1)

    all_over : (made : List LinkedPart) → AllByRecursion Stands (map design_with_net made) → AreOver ls made
    all_over [] stands = tt
    all_over (p ∷ ps) stands = (stands.0, all_over ps stands.1)

    pub over : AreAddedOver ls added → AreOver ls made
    over all = all_over made (subst (λ (ps : List Pair). AllByRecursion Stands ps) (sym same) (stand listed added all))

-- what holds of parts as they are handed on, said of what was added
pub carried : (P : Levels → List NamedDesign → List Net → Listing → Type 0) (made : List LinkedPart) (a b : Adding)
    → map design_with_net made ≡ under_names a.system.parts a.parts → a ≡ b
    → P a.levels (designs_of made) (nets_of made) a.system → P b.levels (added_designs b) (added_nets b) b.system
carried P made a b same is holds =
    subst (λ (x : Adding). P x.levels (added_designs x) (added_nets x) x.system) is
    (subst (λ (ns : List Net). P a.levels (added_designs a) ns a.system) (nets_same made a.system.parts a.parts same)
    (subst (λ (ds : List NamedDesign). P a.levels ds (nets_of made) a.system) (designs_same made a.system.parts a.parts same) holds))
