-- The program of a checked design serves a machine.
use Rattle.sap_lemmas.proofs.Common.{◌≡◌, ℕ, ◌<◌, ◌^◌, length, sym, ap, subst, ◌∙◌, arith, IsTrue}
use Rattle.sap_tree.proofs.SyntaxLemmas.{tree_of_whole}
use Rattle.sap_tree.specs.Prelude.{DesignTree, is_whole}
use Rattle.sap_lattice.specs.Prelude.{Laws, Levels, order_of}
use Rattle.sap_names.specs.Entities.{entities_of}
use Rattle.sap_shape.specs.WellFormed.{WellFormed}
use Rattle.sap_meaning.specs.Prelude.{Program, entity, root, width, FineProgram, ExactProgram, program_sites, numbers_from}
use Rattle.sap_resolved.specs.Premises.Premises.{ProgramsAreFine}
use Rattle.sap_resolved.specs.Fill.{program_of}
use Rattle.sap_resolved.proofs.Lookup.{entities_length}
use Rattle.sap_resolved.specs.Sized.Sound.{SizesFit, WidthsInRange}
use Rattle.sap_check.specs.Sites.{sites_of}
use Rattle.sap_shape.specs.Sites.{check_sites}
use Rattle.sap_program.specs.Design.{IsProgramOf}
use Rattle.sap_program.specs.declared.program.Program as code
use Rattle.sap_store.specs.Able.{AbleGroup}
use Rattle.sap_sem.specs.Sound.{IsSound, meant}
use Rattle.sap_sem.proofs.Programs.{able_program}

pub serves : (ls : Levels) (d : DesignTree) → ProgramsAreFine → SizesFit → WidthsInRange → Laws (order_of ls) → WellFormed ls d
    → IsTrue (is_whole d) → length (entities_of d) < 2 ^ 32
    → AbleGroup (program_of ls d).world (program_of ls d).states
serves ls d fine sized ranged laws formed whole few =
    able_program (program_of ls d) (fine ls d laws formed) (sized ls d laws formed.names) (ranged ls d (tree_of_whole d whole) formed.names)
    (let e : root (program_of ls d).world ≡ length (entities_of d) = entities_length ls d in omega (arith, e, few))

-- a program that is the design's, over levels that are those
module _ (ls ks : Levels) (d : DesignTree) (p : code.Program) (same : ks ≡ ls) (of : IsProgramOf ls d p) where
  meant_is : meant ks p ≡ program_of ls d
  meant_is = ap (λ (l : Levels). meant l p) same ∙ of.program

  pub fine_as : FineProgram (program_of ls d) → FineProgram (meant ks p)
  fine_as f = subst (λ (q : Program). FineProgram q) (sym meant_is) f

  pub initials_as : ((x : ℕ) → (entity (program_of ls d).world x).initial < 2 ^ width (program_of ls d).world x)
      → (x : ℕ) → (entity (meant ks p).world x).initial < 2 ^ width (meant ks p).world x
  initials_as f = subst (λ (q : Program). (x : ℕ) → (entity q.world x).initial < 2 ^ width q.world x) (sym meant_is) f

  pub sound_as : AbleGroup (program_of ls d).world (program_of ls d).states → FineProgram (program_of ls d) → ExactProgram (program_of ls d)
      → program_sites (program_of ls d) ≡ numbers_from 1 (length (sites_of d)) → length (check_sites d) ≡ length (sites_of d) → IsSound ks p
  sound_as able fine exact sites count = record {
    able = subst (λ (q : Program). AbleGroup q.world q.states) (sym meant_is) able;
    fine = fine_as fine;
    exact = subst (λ (q : Program). ExactProgram q) (sym meant_is) exact;
    sites = ap program_sites meant_is ∙ sites ∙ ap (λ (n : ℕ). numbers_from 1 n) (sym (of.sites ∙ count));
  }
