-- Linked designs that are well formed have what the laws ask for.
use Rattle.std.proofs.Common.{◌≡◌, ℕ, zero, suc, ◌<◌, List, [], ◌∷◌, length, map, get_or, Some, ap, subst, refl, arith}
use Rattle.std.specs.Prelude.{slice_get}
use Rattle.std.specs.List.{AllByRecursion}
use Rattle.sap_tree.specs.Syntax.{DesignTree}
use Rattle.sap_lattice.specs.Prelude.{Laws, Levels, order_of}
use Rattle.sap_shape.specs.WellFormed.{WellFormed}
use Rattle.sap_meaning.specs.Prelude.{Program, labelled_run, StreamFits as StreamFitsPart, FineProgram, SizedProgram}
use Rattle.sap_resolved.specs.Fill.{program_of}
use Rattle.sap_resolved.specs.Premises.Premises.{ProgramsAreFine}
use Rattle.sap_resolved.specs.Sized.Sound.{SizesFit}
use Rattle.sap_link.specs.Systems.{no_part}
use Rattle.sap_link.specs.Composites.{first_states, composite_run, run_of_part, stream_of_part}
use Rattle.sap_link.specs.Laws.{CompositesFit, PartsRunAlone, StreamsOfPartsFit, LaterCompositesAgree, CompositesOfStreamsAgree}
use Rattle.sap_link.specs.Designs.{linked, LinkedDesignsServe, LaterLinkedRunsAgree, LinkedRunsAgree, PartsOfLinkedRun}

module _ (fine : ProgramsAreFine) (sizes : SizesFit) (ls : Levels) (laws : Laws (order_of ls)) where
  fine_part : (ds : List DesignTree) → AllByRecursion (WellFormed ls) ds → (i : ℕ) → i < length (map (program_of ls) ds)
      → FineProgram (get_or (map (program_of ls) ds) i (no_part (order_of ls)))
  fine_part [] formed i low = absurd (omega arith)
  fine_part (d ∷ ds) formed zero low = fine ls d laws formed.0
  fine_part (d ∷ ds) formed (suc i) low = fine_part ds formed.1 i (omega arith)

  sized_part : (ds : List DesignTree) → AllByRecursion (WellFormed ls) ds → (i : ℕ) → i < length (map (program_of ls) ds)
      → SizedProgram (get_or (map (program_of ls) ds) i (no_part (order_of ls)))
  sized_part [] formed i low = absurd (omega arith)
  sized_part (d ∷ ds) formed zero low = sizes ls d laws formed.0.names
  sized_part (d ∷ ds) formed (suc i) low = sized_part ds formed.1 i (omega arith)

one_order : (ls : Levels) (ds : List DesignTree) (i : ℕ) → (get_or (map (program_of ls) ds) i (no_part (order_of ls))).world.order ≡ order_of ls
one_order ls [] zero = refl
one_order ls [] (suc i) = refl
one_order ls (d ∷ ds) zero = refl
one_order ls (d ∷ ds) (suc i) = one_order ls ds i

pub designs_serve : ProgramsAreFine → SizesFit → LinkedDesignsServe
designs_serve fine sizes ls ds wires laws well = (
  record {
    parts = λ i is. fine_part fine sizes ls laws ds well.designs_formed i is;
    order = λ i is. one_order ls ds i;
    wires = well.wires_fit;
  },
  λ i is. sized_part fine sizes ls laws ds well.designs_formed i is,
)

pub later_linked_runs_agree : LinkedDesignsServe → LaterCompositesAgree → LaterLinkedRunsAgree
later_linked_runs_agree serve law ls ds wires laws well l s t rs rt same a b streams = law (linked ls ds wires) (serve ls ds wires laws well).0 l s t rs rt same a b streams

pub linked_runs_agree : LinkedDesignsServe → CompositesOfStreamsAgree → LinkedRunsAgree
linked_runs_agree serve law ls ds wires laws well l a b streams = law (linked ls ds wires) (serve ls ds wires laws well).0 l a b streams

-- the program of the design that is part i
part_is : (ls : Levels) (ds : List DesignTree) (i : ℕ) (d : DesignTree) → slice_get ds i ≡ Some d → (i < length (map (program_of ls) ds))
    × (get_or (map (program_of ls) ds) i (no_part (order_of ls)) ≡ program_of ls d)
part_is ls [] zero d is = cc
part_is ls [] (suc i) d is = cc
part_is ls (e ∷ ds) zero d is = let same : e ≡ d = cc in (omega arith, ap (program_of ls) same)
part_is ls (e ∷ ds) (suc i) d is = let later = part_is ls ds i d is in let low = later.0 in (omega arith, later.1)

pub parts_of_linked_run : LinkedDesignsServe → CompositesFit → PartsRunAlone → StreamsOfPartsFit → PartsOfLinkedRun
parts_of_linked_run serve within alone fit ls ds wires laws well stream fits i d is =
    let y = linked ls ds wires in
    let s = serve ls ds wires laws well in
    let firsts = (within y s.0 s.1).0 in
    let it = part_is ls ds i d is in
    let received = stream_of_part y (first_states y) stream i in (
      subst (λ p. run_of_part i (composite_run y stream) ≡ labelled_run p received) it.1 (alone y (first_states y) stream i),
      subst (λ (p : Program). StreamFitsPart p.world received) it.1 (fit y s.0 s.1 (first_states y) firsts stream fits i it.0),
    )
