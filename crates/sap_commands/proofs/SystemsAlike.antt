-- Two lattices that are the same have the same systems.
use Rattle.sap_lemmas.proofs.Common.{◌≡◌, ℕ, ◌+◌, ◌*◌, ◌≤◌, List, [], ◌∷◌, ◌++◌, length, map, sum_by, take, refl, ap, ap₂, subst, inl, inr, Option, Result, Ok, Err, AllZip, all_follow}
use Rattle.sap_desk.specs.Desk.{Told}
use Rattle.sap_lattice.specs.Prelude.{Levels, Order}
use Rattle.sap_latfile.specs.OneLattice.{AreSame}
use Rattle.sap_tree.specs.Syntax.{DesignTree}
use Rattle.sap_names.specs.Entities.{entities_of}
use Rattle.sap_shape.specs.WellFormed.{WellFormed}
use Rattle.sap_net.specs.Net.{Net}
use Rattle.sap_compile.specs.Tidy.{IsTidy}
use Rattle.sap_size.specs.Items.{items}
use Rattle.sap_size.specs.Trees.{design_nodes, entity_count}
use Rattle.sap_meaning.specs.Program.{Program}
use Rattle.sap_resolved.specs.Fill.{program_of}
use Rattle.sap_interface.specs.Prelude.{Named, site_count_of}
use Rattle.sap_system.specs.Wires.{FirstLinkFault, KeepsWires, Surroundings}
use Rattle.sap_system.specs.declared.file.Part.{Part}
use Rattle.sap_system.specs.declared.file.WireText.{WireText}
use Rattle.sap_link.specs.Systems.{Wire, WiresFit}
use Rattle.sap_link.specs.Agree.{RunsOfStreamsAgree}
use Rattle.sap_link.specs.Designs.{WellLinked, linked}
use Rattle.sap_linked.specs.Prelude.{NamedDesign, named_system, part_of, shown_names, system_of, trees, NamedSystem, Part as SystemPart}
use Rattle.sap_linked_small.specs.Laws.{IsNetOfSystem}
use Rattle.sap_linked_agree.specs.Agree.{SystemRunsAgree, SystemRunsLookAlike, SystemHasOneRun}
use Rattle.sap_wiring.specs.Wiring.{AreWiresOf}
use Rattle.sap_linker.specs.Given.{surroundings}
use Rattle.sap_linker.specs.Linking.{IsLinked}
use Rattle.sap_linker.specs.Modules.{IsModuleOfSystem}
use Rattle.sap_linker.specs.Sizes.{IsSmallSystem}
use Rattle.sap_explain.specs.Explained.{IsExplained}
use Rattle.sap_explain.specs.Explanation.{part_comments, system_explanation}
use Rattle.sap_files.specs.Prelude.{Ending, EndsReading, Moment, Refuses}
use Rattle.sap_files.specs.declared.failure.Failure.{Failure}
use Rattle.sap_files.proofs.Alike.{named_in}
use Rattle.sap_files.proofs.Designs.{fault_in, text_in, well_formed_in}
use Rattle.sap_files.proofs.Programs.{program_in}
use Rattle.sap_files.specs.Kinds.{part_file}
use Rattle.sap_commands.specs.Link.{EndsAtPart, HasPart, Links, ReadsParts, stop_of}
use Rattle.sap_commands.proofs.ModulesAlike.{level_lines_in}
use Rattle.sap_files.specs.declared.failure.DesignFailure.{DesignFailure}

module _ (l m : Levels) (same : AreSame l m) where
  -- files of parts

  have_in : (told : Option Told) (ps : List Part) (ds : List NamedDesign) → AllZip (HasPart l told) ps ds → AllZip (HasPart m told) ps ds
  have_in told [] [] have = tt
  have_in told [] (d ∷ ds) have = have
  have_in told (p ∷ ps) [] have = have
  have_in told (p ∷ ps) (d ∷ ds) (has, have) =
      (record { name = has.name; bytes = has.bytes; file = has.file; stands = text_in l m has.bytes d.design same has.stands }, have_in told ps ds have)

  pub reads_in : {ps : List Part} {ds : List NamedDesign} {a b : Moment} → ReadsParts l ps ds a b → ReadsParts m ps ds a b
  reads_in {ps = ps} {ds = ds} {a = a} reads = record { quiet = reads.quiet; have = have_in a.told ps ds reads.have }

  refuses_in : (part source : List ℕ) (e : Ending) → Refuses (part_file l part) source e → Refuses (part_file m part) source e
  refuses_in part source e (inl is) = inl is
  refuses_in part source e (inr (why, is, (fault, was, first))) = inr (why, is, (fault, was, fault_in l m source fault same first))

  reading_in : (name part : List ℕ) (e : Ending) (a b : Moment) → EndsReading name (part_file l part) e a b → EndsReading name (part_file m part) e a b
  reading_in name part e a b (inl stops) = inl stops
  reading_in name part e a b (inr (bytes, reads, refuted)) = inr (bytes, reads, refuses_in part bytes e refuted)

  pub ends_in : {ps : List Part} {place : ℕ} {why : DesignFailure} {a b : Moment} → EndsAtPart l ps place why a b → EndsAtPart m ps place why a b
  ends_in {ps = ps} {place = place} {why = why} {a = a} {b = b} at = record {
    part = at.part;
    is_part = at.is_part;
    designs = at.designs;
    have = have_in a.told (take place ps) at.designs at.have;
    ends = reading_in at.part.file at.part.name (stop_of at.part why) a b at.ends;
  }

  -- systems

  surroundings_in : (ds : List NamedDesign) → surroundings l ds ≡ surroundings m ds
  surroundings_in ds = ap (λ (names : List (List ℕ)). record {
    parts =
        map (λ (d : NamedDesign). record { name = d.name; entities = entities_of d.design }) ds;
    levels = names;
  }) same.names

  part_same : (d : NamedDesign) → part_of l d ≡ part_of m d
  part_same d = ap (λ (n : Named). record { name = d.name; design = n; sites = site_count_of d.design }) (named_in l m same d.design)

  parts_same : (ds : List NamedDesign) → map (part_of l) ds ≡ map (part_of m) ds
  parts_same [] = refl
  parts_same (d ∷ ds) = ap₂ (λ (p : SystemPart) (ps : List SystemPart). p ∷ ps) (part_same d) (parts_same ds)

  system_same : (ds : List NamedDesign) (wires : List Wire) → named_system l ds wires ≡ named_system m ds wires
  system_same ds wires =
      ap₂ (λ (o : Order) (ps : List SystemPart). record { order = o; parts = ps; wires = wires }) same.order (parts_same ds)

  programs_same : (ds : List DesignTree) → map (program_of l) ds ≡ map (program_of m) ds
  programs_same [] = refl
  programs_same (d ∷ ds) = ap₂ (λ (p : Program) (ps : List Program). p ∷ ps) (program_in l m same d) (programs_same ds)

  linked_same : (ds : List DesignTree) (wires : List Wire) → linked l ds wires ≡ linked m ds wires
  linked_same ds wires =
      ap₂ (λ (o : Order) (ps : List Program). record { order = o; parts = ps; wires = wires }) same.order (programs_same ds)

  well_linked_in : (ds : List DesignTree) (wires : List Wire) → WellLinked l ds wires → WellLinked m ds wires
  well_linked_in ds wires well = record {
    designs_formed = all_follow (WellFormed l) (WellFormed m) ds (λ d formed. well_formed_in l m d same formed) well.designs_formed;
    wires_fit = subst WiresFit (linked_same ds wires) well.wires_fit;
  }

  module_in : (ds : List NamedDesign) (wires : List Wire) (n : Net) → IsModuleOfSystem l ds wires n → IsModuleOfSystem m ds wires n
  module_in ds wires n is =
      let alike : named_system l ds wires ≡ named_system m ds wires = system_same ds wires in
      record {
        linked = well_linked_in (trees ds) wires is.linked;
        composites = subst (λ (s : NamedSystem). RunsOfStreamsAgree (system_of s)) alike is.composites;
        stands = subst (λ (s : NamedSystem). IsNetOfSystem s n) alike is.stands;
        one_run = subst (λ (s : NamedSystem). SystemHasOneRun s n) alike is.one_run;
        agree = subst (λ (s : NamedSystem). SystemRunsAgree s n) alike is.agree;
        look_alike = subst (λ (s : NamedSystem). SystemRunsLookAlike s n) alike is.look_alike;
        tidy = subst (λ (s : NamedSystem). IsTidy (shown_names s) n) alike is.tidy;
      }

  linked_in : (ds : List NamedDesign) (texts : List WireText) (n : Net) → IsLinked l ds texts n → IsLinked m ds texts n
  linked_in ds texts n is = record {
    wires = is.wires;
    of_texts = subst (λ (u : Surroundings). AreWiresOf u texts is.wires) (surroundings_in ds) is.of_texts;
    is_module = module_in ds is.wires n is.is_module;
  }

  small_in : (ds : List NamedDesign) (wires : ℕ) (n : Net) → IsSmallSystem l ds wires n → IsSmallSystem m ds wires n
  small_in ds wires n = subst
      (λ (names : List (List ℕ)). items n ≤ sum_by (λ (d : NamedDesign). 8 * (1 + design_nodes d.design) * (1 + entity_count d.design + length names)) ds + 5 * wires)
      same.names

  explained_in : (ds : List NamedDesign) (text : List ℕ) (n : Net) → IsExplained (system_explanation l ds) text n → IsExplained (system_explanation m ds) text n
  explained_in ds text n =
      subst (λ (lines : List ℕ). IsExplained lines text n) (ap (λ (lines : List ℕ). lines ++ part_comments ds) (level_lines_in l m same))

  pub links_in : (ds : List NamedDesign) (texts : List WireText) (r : Result (List ℕ) Failure) → Links l ds texts r → Links m ds texts r
  links_in ds texts (Ok text) (keeps, (n, is_module, is, small, explained)) = (
    subst (λ (u : Surroundings). KeepsWires u texts) (surroundings_in ds) keeps,
    (n, is_module, linked_in ds texts n is, small_in ds (length texts) n small, explained_in ds text n explained),
  )
  links_in ds texts (Err e) (inl is) = inl is
  links_in ds texts (Err e) (inr (fault, first, is)) =
      inr (fault, subst (λ (u : Surroundings). FirstLinkFault u texts fault) (surroundings_in ds) first, is)
