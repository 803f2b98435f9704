-- The text of a design has at most one fault, and none where the design is well formed.
use Rattle.std.proofs.Common.{◌≡◌, ℕ, List, ap, subst}
use Rattle.sap_check.proofs.FaultsLemmas.{no_check_fault}
use Rattle.sap_check.proofs.OneFault.{one_first_fault}
use Rattle.sap_check.specs.Faults.{IsCheckFault}
use Rattle.sap_names.specs.declared.fault.CheckFault.{CheckFault}
use Rattle.sap_names.specs.declared.fault.Fault.{Fault}
use Rattle.sap_names.specs.declared.fault.CheckFault.TheVariants as check
use Rattle.sap_lattice.specs.Levels.{Levels}
use Rattle.sap_tree.specs.Syntax.{DesignTree}
use Rattle.sap_parse.specs.Text.{IsText, IsReadFault}
use Rattle.sap_lex.specs.declared.fault.ReadFault.{ReadFault}
use Rattle.sap_shape.specs.WellFormed.{WellFormed}
use Rattle.sap_files.specs.DesignFaults.{IsDesignFault}
use Rattle.sap_files.specs.declared.fault.DesignFault.{DesignFault}
use Rattle.sap_files.specs.declared.fault.DesignFault.TheVariants.{Read, Check}

abbrev OneDesign : Type 0
OneDesign = (text : List ℕ) (one other : DesignTree) → IsText text one → IsText text other → one ≡ other

abbrev OneReadFault : Type 0
OneReadFault = (text : List ℕ) (one other : ReadFault) → IsReadFault text one → IsReadFault text other → one ≡ other

abbrev pub NotBoth : Type 0
NotBoth = (text : List ℕ) (design : DesignTree) (fault : ReadFault) → IsText text design → IsReadFault text fault → ⊥

module _ (one : OneDesign) (both : NotBoth) (ls : Levels) (source : List ℕ) (d : DesignTree) (is : IsText source d) (w : WellFormed ls d) where
  pub no_fault : (fault : DesignFault) → IsDesignFault ls source fault → ⊥
  no_fault (Read fault) h = both source d fault is h
  no_fault (Check fault) h = no_check_fault ls h.0 fault (subst (λ (x : DesignTree). WellFormed ls x) (one source d h.0 is h.1) w) h.2

one_check_fault : (ls : Levels) (d : DesignTree) (one other : CheckFault) → IsCheckFault ls d one → IsCheckFault ls d other → one ≡ other
one_check_fault ls d (check.Rule code place) (check.Rule code' place') h k =
    let f : Fault = record { code = code; place = place } in
    let g : Fault = record { code = code'; place = place' } in
    ap (λ (x : Fault). check.Rule x.code x.place) (one_first_fault ls d f g h k)
one_check_fault ls d check.Memory other h k = absurd h
one_check_fault ls d one check.Memory h k = absurd k

module _ (one : OneDesign) (one_read : OneReadFault) (both : NotBoth) (ls : Levels) (source : List ℕ) where
  pub one_fault : (fault other : DesignFault) → IsDesignFault ls source fault → IsDesignFault ls source other → fault ≡ other
  one_fault (Read f) (Read g) h k = ap Read (one_read source f g h k)
  one_fault (Read f) (Check g) h k = absurd (both source k.0 f k.1 h)
  one_fault (Check f) (Read g) h k = absurd (both source h.0 g h.1 k)
  one_fault (Check f) (Check g) h k =
      let P : DesignTree → Type 0 = λ d. IsCheckFault ls d g in
      ap Check (one_check_fault ls h.0 f g h.2 (subst P (one source k.0 h.0 k.1 h.1) k.2))
