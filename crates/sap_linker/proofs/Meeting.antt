-- What is given of a system, over its designs.
use Rattle.sap_lemmas.proofs.Common.{◌≡◌, ℕ, zero, suc, ◌<◌, List, [], ◌∷◌, map, length, get_or, Option, Some, None, slice_get, option_map, refl, sym, ap, ap₂, ◌∙◌, subst, AllByRecursion, AllZip, slice_get-map, slice_get_within, get_or_from_slice_get, slice_get-get_or, same_Some, none-some, length_map}
use Rattle.sap_maps.specs.Maps.{Name}
use Rattle.sap_tree.specs.Syntax.{DesignTree}
use Rattle.sap_lattice.specs.Prelude.{Levels, order_of, code_of}
use Rattle.sap_names.specs.Entities.{declared_width, entities_of, find as find_entity}
use Rattle.sap_names.specs.declared.entity.Entity.{Entity}
use Rattle.sap_names.specs.declared.kind.Declared.{Declared}
use Rattle.sap_names.specs.declared.kind.Declared.TheVariants as what
use Rattle.sap_names.proofs.Numbers.{find_some}
use Rattle.sap_shape.specs.WellFormed.{WellFormed}
use Rattle.sap_meaning.specs.Program.{Program, nothing, width, Entity as ProgramEntity}
use Rattle.sap_resolved.specs.Fill.{program_of}
use Rattle.sap_resolved.specs.Worlds.{world_of}
use Rattle.sap_resolved.proofs.Lookup.{AllMatch, Stands, entities_match}
use Rattle.sap_interface.specs.Prelude.{name, named_of}
use Rattle.sap_system.specs.Wires.{NamedPart, Surroundings}
use Rattle.sap_system.specs.declared.file.WireText.{WireText}
use Rattle.sap_link.specs.Systems.{Endpoint, Wire, width_at}
use Rattle.sap_linked.specs.Prelude.{Part, part_at, system_of, NamedDesign, part_of, named_system, trees}
use Rattle.sap_wiring.specs.Laws.{AreOfDesigns}
use Rattle.sap_wiring.specs.Wiring.{AreWiresOf, IsEndpoint, names_in}
use Rattle.sap_joined.specs.Joined.{Feed}
use Rattle.sap_joined.specs.Systems.{feed_of}
use Rattle.sap_linker.specs.declared.parts.LinkedPart.{LinkedPart}
use Rattle.sap_linker.specs.Laws.{names_of}
use Rattle.sap_linker.specs.Given.{named_design, designs_of, design_names, declares, surroundings, AreOver, IsThere, WiresMeet}

-- ---- entities of designs

width_of_match : (w : Declared) (g : ProgramEntity) → Stands w g → g.width ≡ declared_width w
width_of_match (what.Input u) g s = s.1
width_of_match (what.Register u) g s = s.1
width_of_match (what.Memory u depth) g s = s.1
width_of_match what.State g s = s.1

width_matched : (es : List Entity) (gs : List ProgramEntity) → AllMatch es gs → (x u : ℕ)
    → option_map (λ (e : Entity). declared_width e.what) (slice_get es x) ≡ Some u → (get_or gs x nothing).width ≡ u
width_matched [] gs a x u h = absurd (none-some u h)
width_matched (e ∷ es) [] a x u h = absurd a
width_matched (e ∷ es) (g ∷ gs) a zero u h = width_of_match e.what g a.0.what ∙ same_Some (declared_width e.what) u h
width_matched (e ∷ es) (g ∷ gs) a (suc x) u h = width_matched es gs a.1 x u h

name_here : (ls : Levels) (d : DesignTree) (x : ℕ) (called : Name)
    → option_map (λ (e : Entity). e.name.name) (slice_get (entities_of d) x) ≡ Some called → name (named_of ls d) x ≡ called
name_here ls d x called h =
    get_or_from_slice_get (map (λ (e : Entity). e.name.name) (entities_of d)) x called [] (slice_get-map (λ (e : Entity). e.name.name) (entities_of d) x ∙ h)

-- ---- parts of systems

module _ (ls : Levels) (ds : List NamedDesign) (wires : List Wire) where
  part_here : (i : ℕ) (d : NamedDesign) → slice_get ds i ≡ Some d → part_at (named_system ls ds wires) i ≡ part_of ls d
  part_here i d h = get_or_from_slice_get (map (part_of ls) ds) i (part_of ls d) _ (slice_get-map (part_of ls) ds i ∙ ap (λ o. option_map (part_of ls) o) h)

  width_here : (e : Endpoint) (d : NamedDesign) → slice_get ds e.part ≡ Some d → width_at (system_of (named_system ls ds wires)) e ≡ width (world_of ls d.design) e.entity
  width_here e d h =
      let parts = map (part_of ls) ds in
      let there = slice_get-map (λ (p : Part). p.design.program) parts e.part
      ∙ ap (λ o. option_map (λ (p : Part). p.design.program) o) (slice_get-map (part_of ls) ds e.part ∙ ap (λ o. option_map (part_of ls) o) h) in
      ap (λ (p : Program). width p.world e.entity) (get_or_from_slice_get (map (λ (p : Part). p.design.program) parts) e.part (program_of ls d.design) _ there)

-- a wire by the names of what it joins
pub feed_is : (ls : Levels) (ds : List NamedDesign) (w : Wire) (f : Feed) (from to : NamedDesign) → slice_get ds w.from.part ≡ Some from → slice_get ds w.to.part ≡ Some to
    → f.from_part ≡ from.name → option_map (λ (e : Entity). e.name.name) (slice_get (entities_of from.design) w.from.entity) ≡ Some f.from
    → f.to_part ≡ to.name → option_map (λ (e : Entity). e.name.name) (slice_get (entities_of to.design) w.to.entity) ≡ Some f.to
    → option_map (λ (e : Entity). declared_width e.what) (slice_get (entities_of to.design) w.to.entity) ≡ Some f.width
    → f.level ≡ option_map (code_of (order_of ls)) w.level → f ≡ feed_of (named_system ls ds []) w
feed_is ls ds w f from to from_at to_at a b c d e g =
    let s = named_system ls ds [] in
    let source = part_here ls ds [] w.from.part from from_at in
    let target = part_here ls ds [] w.to.part to to_at in
    let from_part : f.from_part ≡ (part_at s w.from.part).name = a ∙ ap (λ (p : Part). p.name) (sym source) in
    let from_name : f.from ≡ name (part_at s w.from.part).design w.from.entity = sym (name_here ls from.design w.from.entity f.from b)
    ∙ ap (λ (p : Part). name p.design w.from.entity) (sym source) in
    let to_part : f.to_part ≡ (part_at s w.to.part).name = c ∙ ap (λ (p : Part). p.name) (sym target) in
    let to_name : f.to ≡ name (part_at s w.to.part).design w.to.entity = sym (name_here ls to.design w.to.entity f.to d)
    ∙ ap (λ (p : Part). name p.design w.to.entity) (sym target) in
    let wide : f.width ≡ width_at (system_of s) w.to =
    sym (width_matched (entities_of to.design) (world_of ls to.design).entities (entities_match ls to.design) w.to.entity f.width e) ∙ sym (width_here ls ds [] w.to to to_at) in
    λ i. record { from_part = from_part i; from = from_name i; to_part = to_part i; to = to_name i; width = wide i; level = g i }

-- ---- parts as the code has them

-- the part that has been taken is that of the number
pub placed : (parts : List LinkedPart) (i j : ℕ) (p : LinkedPart) (d : NamedDesign) → slice_get (designs_of parts) j ≡ Some d → i ≡ j → p ≡ get_or parts i p
    → slice_get (designs_of parts) j ≡ Some (named_design p)
placed parts i j p d at same is =
    let low : j < length parts = subst (λ n. j < n) (length_map named_design parts) (slice_get_within (designs_of parts) j d at) in
    let there : slice_get parts i ≡ Some p = slice_get-get_or parts i p (subst (λ n. n < length parts) (sym same) low) ∙ ap Some (sym is) in
    ap (slice_get (designs_of parts)) (sym same) ∙ slice_get-map named_design parts i ∙ ap (λ o. option_map named_design o) there

pub name_at : (es others : List Entity) (x y : ℕ) (called : Name) → es ≡ others → x ≡ y → option_map (λ (e : Entity). e.name.name) (slice_get es x) ≡ Some called
    → option_map (λ (e : Entity). e.name.name) (slice_get others y) ≡ Some called
name_at es others x y called same number h = ap₂ (λ (gs : List Entity) z. option_map (λ (e : Entity). e.name.name) (slice_get gs z)) (sym same) (sym number) ∙ h

pub width_at_number : (es others : List Entity) (x y u : ℕ) → es ≡ others → x ≡ y → option_map (λ (e : Entity). declared_width e.what) (slice_get es x) ≡ Some u
    → option_map (λ (e : Entity). declared_width e.what) (slice_get others y) ≡ Some u
width_at_number es others x y u same number h =
    ap₂ (λ (gs : List Entity) z. option_map (λ (e : Entity). declared_width e.what) (slice_get gs z)) (sym same) (sym number) ∙ h

pub named_as_given : (ls : Levels) (parts : List LinkedPart) → map declares parts ≡ (surroundings ls (designs_of parts)).parts
named_as_given ls [] = refl
named_as_given ls (p ∷ parts) = ap (λ (ps : List NamedPart). declares p ∷ ps) (named_as_given ls parts)

-- what texts are held against, for parts that declare so
abbrev pub around : Levels → List NamedPart → Surroundings
around ls ps = record { parts = ps; levels = ls.names }

pub names_given : (ls : Levels) (ds : List NamedDesign) → names_in (surroundings ls ds) ≡ design_names ds
names_given ls [] = refl
names_given ls (d ∷ ds) = ap (λ (xs : List Name). d.name ∷ xs) (names_given ls ds)

pub names_same : (ls : Levels) (ds : List NamedDesign) (wires : List Wire) → names_of (named_system ls ds wires) ≡ names_in (surroundings ls ds)
names_same ls [] wires = refl
names_same ls (d ∷ ds) wires = ap (λ (xs : List Name). d.name ∷ xs) (names_same ls ds wires)

pub designs_formed : (ls : Levels) (parts : List LinkedPart) → AreOver ls parts → AllByRecursion (WellFormed ls) (trees (designs_of parts))
designs_formed ls [] a = tt
designs_formed ls (p ∷ parts) a = (a.0.formed, designs_formed ls parts a.1)

pub are_of_designs : (ls : Levels) (ds : List NamedDesign) → AreOfDesigns ls (trees ds) (surroundings ls ds)
are_of_designs ls ds = record { parts = each ds; levels = refl }
  where
    each : (ds : List NamedDesign) → AllZip (λ (p : NamedPart) (d : DesignTree). p.entities ≡ entities_of d)
        (map (λ (d : NamedDesign). record { name = d.name; entities = entities_of d.design }) ds) (trees ds)
    each [] = tt
    each (d ∷ ds) = (refl, each ds)

-- ---- wires of texts

found : (o : Option Entity) (d : Declared) → option_map (λ (e : Entity). e.what) o ≡ Some d → (e : Entity) × (o ≡ Some e)
found None d h = absurd (none-some d h)
found (Some e) d h = (e, refl)

mapped : (f : NamedDesign → NamedPart) (o : Option NamedDesign) (p : NamedPart) → option_map f o ≡ Some p → (d : NamedDesign) × (o ≡ Some d) × (f d ≡ p)
mapped f None p h = absurd (none-some p h)
mapped f (Some d) p h = (d, refl, same_Some (f d) p h)

module _ (ls : Levels) (ds : List NamedDesign) where
  there : (text : List ℕ) (d : Declared) (e : Endpoint) → IsEndpoint (surroundings ls ds) text d e → IsThere ds e
  there text d e is =
      let part = is.names.part in
      let f : NamedDesign → NamedPart = λ (d : NamedDesign). record { name = d.name; entities = entities_of d.design } in
      let (design, at, same) = mapped f (slice_get ds e.part) part (sym (slice_get-map f ds e.part) ∙ is.names.is_part) in
      let (here, is_here) = found (find_entity part.entities is.entity) d is.names.stands_for in
      let within : e.entity < length part.entities = slice_get_within part.entities e.entity here (find_some part.entities is.entity e.entity (sym is.number) ∙ is_here) in
      record { design = design; is_design = at; entity = subst (λ (p : NamedPart). e.entity < length p.entities) (sym same) within }

  pub wires_meet : (texts : List WireText) (wires : List Wire) → AreWiresOf (surroundings ls ds) texts wires → WiresMeet ds wires
  wires_meet [] [] a = tt
  wires_meet [] (w ∷ ws) a = absurd a
  wires_meet (t ∷ ts) [] a = absurd a
  wires_meet (t ∷ ts) (w ∷ ws) a = (
    record {
      from = there t.from (what.Register a.0.width) w.from a.0.from;
      to =
          there t.to (what.Input a.0.width) w.to a.0.to;
    },
    wires_meet ts ws a.1,
  )
