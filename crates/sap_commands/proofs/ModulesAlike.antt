-- Two lattices that are the same have the same modules for a design.
use Rattle.std.proofs.Common.{◌≡◌, ℕ, ◌+◌, ◌*◌, ◌≤◌, List, [], ◌∷◌, ◌++◌, length, codes, refl, ap, ◌∙◌, subst}
use Rattle.std.specs.List.{AllZip}
use Rattle.sap_lattice.specs.Prelude.{Levels, order_of, Order, code_of, width_of}
use Rattle.sap_latfile.specs.OneLattice.{AreSame}
use Rattle.sap_maps.specs.Maps.{Valuation}
use Rattle.sap_meaning.specs.Prelude.{StreamsAgree, Tagged, StreamFits}
use Rattle.sap_tree.specs.Syntax.{DesignTree}
use Rattle.sap_net.specs.Prelude.{Net, IsRun, observed}
use Rattle.std.specs.Prelude.{map}
use Rattle.sap_size.specs.Items.{items}
use Rattle.sap_size.specs.Trees.{design_nodes, entity_count}
use Rattle.sap_interface.specs.Prelude.{NetStandsFor, NetStartsAs, coded_stream, named_of, site_count_of, Named, world}
use Rattle.sap_compile.specs.Agree.{CyclesAgree, CyclesLookAlike}
use Rattle.sap_compile.specs.Compiles.{IsModuleFor}
use Rattle.sap_compile.specs.Runs.{HasOneRun}
use Rattle.sap_report.specs.Report.{level_line}
use Rattle.sap_explain.specs.Explained.{IsExplained}
use Rattle.sap_explain.specs.Explanation.{level_comments, design_comments, explanation}
use Rattle.sap_files.proofs.Alike.{named_in}
use Rattle.sap_files.proofs.Designs.{well_formed_in}
use Rattle.sap_commands.specs.Commands.{IsModuleText}

-- what is seen of the netlist's runs on agreeing streams, by the order and the names alone
abbrev OnStreams : Named → Order → Net → ((l : ℕ) → Valuation → Valuation → Type 0) → Type 0
OnStreams d o n Pair =
    (l : ℕ) (a b : List (List Tagged)) → StreamFits (world d) a → StreamFits (world d) b → StreamsAgree o l a b
    → (vs us : List Valuation) → IsRun n (coded_stream d.code a) vs → IsRun n (coded_stream d.code b) us
    → AllZip (Pair l) (map (observed n) vs) (map (observed n) us)

module _ (l m : Levels) (same : AreSame l m) (d : DesignTree) (n : Net) where
  pub module_in : (text : List ℕ) → IsModuleFor l d n text → IsModuleFor m d n text
  module_in text is =
      let sites : ℕ = site_count_of d in
      let x : Named = named_of l d in
      record {
        well_formed = well_formed_in l m d same is.well_formed;
        is_module = is.is_module;
        stands =
            subst (λ (y : Named). NetStandsFor y (width_of (order_of m)) sites n) (named_in l m same d)
            (subst (λ (o : Order). NetStandsFor x (width_of o) sites n) same.order is.stands);
        starts = subst (λ (y : Named). NetStartsAs y sites n) (named_in l m same d) is.starts;
        has_one_run =
            subst (λ (y : Named). (stream : List (List Tagged)) → StreamFits (world y) stream → HasOneRun n (coded_stream y.code stream)) (named_in l m same d)
            is.has_one_run;
        agrees =
            subst (λ (y : Named). OnStreams y (order_of m) n (CyclesAgree y sites)) (named_in l m same d)
            (subst (λ (o : Order). OnStreams x o n (CyclesAgree x sites)) same.order is.agrees);
        looks_alike =
            subst (λ (y : Named). OnStreams y (order_of m) n (CyclesLookAlike y sites)) (named_in l m same d)
            (subst (λ (o : Order). OnStreams x o n (CyclesLookAlike x sites)) same.order is.looks_alike);
        tidy = is.tidy;
        small = subst (λ (ns : List (List ℕ)). items n ≤ 8 * (1 + design_nodes d) * (1 + entity_count d + length ns)) same.names is.small;
      }

-- the same lines explain it
levels_in : (l m : Levels) → AreSame l m → (k : ℕ) (names : List (List ℕ)) → level_comments l k names ≡ level_comments m k names
levels_in l m same k [] = refl
levels_in l m same k (name ∷ names) =
    ap (λ (o : Order). codes "// " ++ level_line name (code_of o k) ++ level_comments l (k + 1) names) same.order
    ∙ ap (λ (text : List ℕ). codes "// " ++ level_line name (code_of (order_of m) k) ++ text) (levels_in l m same (k + 1) names)

pub level_lines_in : (l m : Levels) → AreSame l m → level_comments l 0 l.names ≡ level_comments m 0 m.names
level_lines_in l m same = levels_in l m same 0 l.names ∙ ap (λ (names : List (List ℕ)). level_comments m 0 names) same.names

explanation_in : (l m : Levels) → AreSame l m → (d : DesignTree) → explanation l d ≡ explanation m d
explanation_in l m same d = ap (λ (text : List ℕ). text ++ design_comments [] d) (level_lines_in l m same)

pub text_in : (l m : Levels) → AreSame l m → (d : DesignTree) (text : List ℕ) → IsModuleText l d text → IsModuleText m d text
text_in l m same d text (net, is, explained) =
    (net, module_in l m same d net text is, subst (λ (lines : List ℕ). IsExplained lines text net) (explanation_in l m same d) explained)
