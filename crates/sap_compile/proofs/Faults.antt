-- A lattice file and a design that are taken have no fault, and the other way round.
use Rattle.sap_lemmas.proofs.Common.{◌≡◌, ◌≢◌, ◌⊎◌, ℕ, List, [], inl, inr, refl, sym, ap, ◌∙◌, subst, Ok, IsErrOf}
use Rattle.sap_check.proofs.FaultsLemmas.{no_check_fault}
use Rattle.sap_latfile.specs.LatticeFile.{IsLatticeOfFile, FirstFault}
use Rattle.sap_latfile.specs.OneLattice.{AreSame, OneLattice}
use Rattle.sap_latfile.specs.declared.fault.LatFileFault.{LatFileFault}
use Rattle.sap_latfile.specs.declared.fault.LatFileFault.TheVariants as lattice_fault
use Rattle.sap_lattice.specs.Prelude.{Levels, order_of, Order}
use Rattle.sap_names.specs.NameFaults.{design_name_faults}
use Rattle.sap_names.specs.declared.fault.CheckFault.{CheckFault}
use Rattle.sap_names.specs.declared.kind.Code.{Code}
use Rattle.sap_names.specs.declared.fault.CheckFault.TheVariants as check
use Rattle.sap_parse.specs.Text.{IsText, IsReadFault}
use Rattle.sap_lex.specs.declared.fault.ReadFault.{ReadFault}
use Rattle.sap_lex.specs.declared.fault.ReadFault.TheVariants as read
use Rattle.sap_shape.specs.WellFormed.{WellFormed, IsFirstFault}
use Rattle.sap_tree.specs.Syntax.{DesignTree}
use Rattle.sap_text.specs.declared.place.Place.{Place}
use Rattle.sap_compile.specs.Failures.{read_failure, check_failure}
use Rattle.sap_compile.specs.Faults.{IsCompileFault}
use Rattle.sap_compile.specs.declared.fault.CompileFault.{CompileFault}
use Rattle.sap_compile.specs.declared.fault.CompileFault.TheVariants.{Lattice, Read, Check, Memory}

-- what is well formed over the levels of a file is so over all levels that the file has

pub same_formed : (ls ms : Levels) (d : DesignTree) → AreSame ls ms → WellFormed ls d → WellFormed ms d
same_formed ls ms d same w = record {
  names = subst (λ (o : Order). design_name_faults ms.names o.le d ≡ []) same.order
      (subst (λ (n : List (List ℕ)). design_name_faults n (order_of ls).le d ≡ []) same.names w.names);
  shape = w.shape;
}

abbrev pub OneDesign : Type 0
OneDesign = (text : List ℕ) (one other : DesignTree) → IsText text one → IsText text other → one ≡ other

abbrev pub NotBoth : Type 0
NotBoth = (text : List ℕ) (design : DesignTree) (fault : ReadFault) → IsText text design → IsReadFault text fault → ⊥

pub formed_over : OneLattice → OneDesign → (lattice design : List ℕ) (ls ms : Levels) (d e : DesignTree) → IsLatticeOfFile lattice ls → IsLatticeOfFile lattice ms
    → IsText design d → IsText design e → WellFormed ls d → WellFormed ms e
formed_over one_lattice one_design lattice design ls ms d e l m t u w =
    same_formed ls ms e (one_lattice lattice ls ms l m) (subst (λ (x : DesignTree). WellFormed ls x) (one_design design d e t u) w)

-- a well-formed design has no fault

-- what is read has no fault of reading

pub no_err : (ls : Levels) (f : LatFileFault) → IsErrOf (Ok ls) f ⊎ IsErrOf (Ok ls) lattice_fault.Memory → ⊥
no_err ls f (inl e) = cc
no_err ls f (inr e) = cc

module _ (one_lattice : OneLattice) (one_design : OneDesign) (not_both : NotBoth) (lattice design : List ℕ) (ls : Levels) (d : DesignTree)
    (is_lattice : IsLatticeOfFile lattice ls) (is_text : IsText design d) (formed : WellFormed ls d)
    (sound : (f : LatFileFault) → FirstFault lattice f → ⊥) where
  pub no_fault : (fault : CompileFault) → IsCompileFault lattice design fault → ⊥
  no_fault (Lattice f) h = sound f h
  no_fault (Read f) h = not_both design d f is_text h.2
  no_fault (Check f) h =
      no_check_fault h.0 h.1 f (formed_over one_lattice one_design lattice design ls h.0 d h.1 is_lattice h.2 is_text h.3 formed) h.4
  no_fault Memory h = h

-- what is refused

pub unread : (f : ReadFault) → (f ≢ read.Memory → ⊥) → read_failure f ≡ Memory
unread (read.E1 place) h = absurd (h (λ e. cc))
unread (read.E2 place) h = absurd (h (λ e. cc))
unread (read.E18 place limit) h = absurd (h (λ e. cc))
unread read.Memory h = refl

checked : (lattice design : List ℕ) (ls : Levels) (d : DesignTree) (f : CheckFault) → IsLatticeOfFile lattice ls → IsText design d
    → ((code : Code) (place : Place) → f ≡ check.Rule code place → IsFirstFault ls d (record { code = code; place = place }))
    → check_failure f ≢ Memory → IsCompileFault lattice design (check_failure f)
checked lattice design ls d (check.Rule code place) l t first n = (ls, d, l, t, first code place refl)
checked lattice design ls d check.Memory l t first n = absurd (n refl)

pub refused : (lattice design : List ℕ) (ls : Levels) (d : DesignTree) (f : CheckFault) (e : CompileFault) → e ≡ check_failure f
    → IsLatticeOfFile lattice ls → IsText design d
    → ((code : Code) (place : Place) → f ≡ check.Rule code place → IsFirstFault ls d (record { code = code; place = place }))
    → e ≢ Memory → IsCompileFault lattice design e
refused lattice design ls d f e is l t first =
    subst (λ (x : CompileFault). x ≢ Memory → IsCompileFault lattice design x) (sym is) (checked lattice design ls d f l t first)

pub memory_alone : (f : CheckFault) (e : CompileFault) → e ≡ check_failure f → f ≡ check.Memory → e ≡ Memory
memory_alone f e is m = is ∙ ap (λ (x : CheckFault). check_failure x) m
