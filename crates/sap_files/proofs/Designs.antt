-- Design files: a text is at most one design, and what reading and checking one come to.
use Rattle.std.proofs.Common.{◌≡◌, ◌≢◌, ℕ, List, [], refl, sym, ◌∙◌, ap, subst, inl, inr, ◌⊎◌, Some, Err}
use Rattle.sap_lattice.specs.Prelude.{Levels, order_of, Order}
use Rattle.sap_latfile.specs.OneLattice.{AreSame}
use Rattle.sap_tree.specs.Syntax.{DesignTree}
use Rattle.sap_text.specs.declared.place.Place.{Place}
use Rattle.sap_parse.specs.Text.{IsText, IsReadFault}
use Rattle.sap_lex.specs.declared.fault.ReadFault.{ReadFault}
use Rattle.sap_lex.specs.declared.fault.ReadFault.TheVariants as read
use Rattle.sap_parse.proofs.OneReading as reading
use Rattle.sap_names.specs.Prelude.{First, design_name_faults}
use Rattle.sap_names.specs.declared.fault.Fault.{Fault}
use Rattle.sap_names.specs.declared.fault.CheckFault.{CheckFault}
use Rattle.sap_names.specs.declared.kind.Code.{Code}
use Rattle.sap_names.specs.declared.fault.CheckFault.TheVariants as check
use Rattle.sap_shape.specs.ShapeFaults.{IsFirstShapeFault}
use Rattle.sap_shape.specs.WellFormed.{WellFormed, IsFirstFault}
use Rattle.sap_files.specs.declared.fault.DesignFault.{DesignFault}
use Rattle.sap_files.specs.declared.fault.DesignFault.TheVariants as design
use Rattle.sap_files.specs.Prelude.{IsDesignFault, Ending, design_refused, IsLawful, IsWellFormedText, design_file, design_text_file, design_ending, IsChecked, Refuses, ending, read_failure}
use Rattle.sap_files.specs.Designs.{unchecked}
use Rattle.sap_files.specs.Designs.{unread as not_read}
use Rattle.sap_files.specs.declared.failure.Failure.{Failure}
use Rattle.sap_files.specs.declared.failure.DesignFailure.{DesignFailure}
use Rattle.sap_files.specs.declared.failure.DesignFailure.TheVariants as failure
use Rattle.sap_files.proofs.DesignFaults.{no_fault, one_fault}

-- the kinds are lawful

pub text_lawful : IsLawful design_text_file
text_lawful = record {
  one_value = reading.one_design;
  one_reason = λ source why other (fault, is, first) (fault', was, first').
      is ∙ ap (λ (f : ReadFault). design_refused (design.Read f)) (reading.one_fault source fault fault' first first') ∙ sym was;
  not_both = λ source d why stands (fault, is, first). reading.not_both source d fault stands first;
}

pub design_lawful : (ls : Levels) → IsLawful (design_file ls)
design_lawful ls = record {
  one_value = λ source v w a b. reading.one_design source v w a.is_text b.is_text;
  one_reason = λ source why other (fault, is, first) (fault', was, first').
      is ∙ ap design_refused (one_fault reading.one_design reading.one_fault reading.not_both ls source fault fault' first first') ∙ sym was;
  not_both = λ source d why stands (fault, is, first). no_fault reading.one_design reading.not_both ls source d stands.is_text stands.well_formed fault first;
}

-- two lattices that are the same judge a design alike

same_faults : (l m : Levels) (d : DesignTree) → AreSame l m
    → design_name_faults l.names (order_of l).le d ≡ design_name_faults m.names (order_of m).le d
same_faults l m d s =
    ap (λ (names : List (List ℕ)). design_name_faults names (order_of l).le d) s.names
    ∙ ap (λ (o : Order). design_name_faults m.names o.le d) s.order

pub well_formed_in : (l m : Levels) (d : DesignTree) → AreSame l m → WellFormed l d → WellFormed m d
well_formed_in l m d s w = record { names = sym (same_faults l m d s) ∙ w.names; shape = w.shape }

pub text_in : (l m : Levels) (source : List ℕ) (d : DesignTree) → AreSame l m → IsWellFormedText l source d → IsWellFormedText m source d
text_in l m source d s w = record { is_text = w.is_text; well_formed = well_formed_in l m d s w.well_formed }

first_fault_in : (l m : Levels) (d : DesignTree) (f : Fault) → AreSame l m → IsFirstFault l d f → IsFirstFault m d f
first_fault_in l m d f s first =
    let P : List Fault → Type 0 = λ faults. First (Some f) faults ⊎ ((faults ≡ []) × IsFirstShapeFault d f) in
    subst P (same_faults l m d s) first

pub fault_in : (l m : Levels) (source : List ℕ) (fault : DesignFault) → AreSame l m → IsDesignFault l source fault → IsDesignFault m source fault
fault_in l m source (design.Read f) s h = h
fault_in l m source (design.Check (check.Rule code place)) s h = (h.0, h.1, first_fault_in l m h.0 (record { code = code; place = place }) s h.2)
fault_in l m source (design.Check check.Memory) s h = absurd h.2

pub refuses_in : (l m : Levels) (source : List ℕ) (e : Ending) → AreSame l m → Refuses (design_file l) source e → Refuses (design_file m) source e
refuses_in l m source e s (inl is) = inl is
refuses_in l m source e s (inr (why, is, (fault, was, first))) = inr (why, is, (fault, was, fault_in l m source fault s first))

-- reading a design without a lattice

unread : (source : List ℕ) (fault : ReadFault) → (fault ≢ read.Memory → IsReadFault source fault)
    → Refuses design_text_file source (ending (read_failure fault))
unread source read.Memory is = inl refl
unread source (read.E1 place) is = inr (design_refused (design.Read (read.E1 place)), refl, (read.E1 place, refl, is (λ e. cc)))
unread source (read.E2 place) is = inr (design_refused (design.Read (read.E2 place)), refl, (read.E2 place, refl, is (λ e. cc)))
unread source (read.E18 place limit) is = inr (design_refused (design.Read (read.E18 place limit)), refl, (read.E18 place limit, refl, is (λ e. cc)))

pub text_unread : (source : List ℕ) (fault : ReadFault) (failure : Failure) → failure ≡ read_failure fault → (fault ≢ read.Memory → IsReadFault source fault)
    → Refuses design_text_file source (ending failure)
text_unread source fault failure same is = subst (λ (f : Failure). Refuses design_text_file source (ending f)) (sym same) (unread source fault is)

-- checking one over a lattice

pub design_unread : (ls : Levels) (source : List ℕ) (fault : ReadFault) → (fault ≢ read.Memory → IsReadFault source fault)
    → IsChecked ls source (Err (not_read fault))
design_unread ls source read.Memory is = tt
design_unread ls source (read.E1 place) is = is (λ e. cc)
design_unread ls source (read.E2 place) is = is (λ e. cc)
design_unread ls source (read.E18 place limit) is = is (λ e. cc)

not_checked : (ls : Levels) (source : List ℕ) (d : DesignTree) (fault : CheckFault) → IsText source d
    → ((code : Code) (place : Place) → fault ≡ check.Rule code place → IsFirstFault ls d (record { code = code; place = place }))
    → IsChecked ls source (Err (unchecked fault))
not_checked ls source d check.Memory is first = tt
not_checked ls source d (check.Rule code place) is first = (d, is, first code place refl)

pub design_unchecked : (ls : Levels) (source : List ℕ) (d : DesignTree) (fault : CheckFault) (failure : DesignFailure) → failure ≡ unchecked fault → IsText source d
    → ((code : Code) (place : Place) → fault ≡ check.Rule code place → IsFirstFault ls d (record { code = code; place = place }))
    → IsChecked ls source (Err failure)
design_unchecked ls source d fault failure same is first =
    subst (λ (f : DesignFailure). IsChecked ls source (Err f)) (sym same) (not_checked ls source d fault is first)

-- so the bytes are refused, or there was no memory
pub design_refuses : (ls : Levels) (name source : List ℕ) (failure : DesignFailure) → IsChecked ls source (Err failure)
    → Refuses (design_file ls) source (design_ending name failure)
design_refuses ls name source (failure.Refused fault) is = inr (design_refused fault, refl, (fault, refl, is))
design_refuses ls name source failure.Failed is = absurd is
design_refuses ls name source failure.Memory is = inl refl
