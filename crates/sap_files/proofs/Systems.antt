-- The files of a system are lawful, and what reading its own comes to.
use Rattle.std.proofs.Common.{◌≡◌, ◌≢◌, ℕ, List, refl, sym, ◌∙◌, ap, subst, inl, inr}
use Rattle.sap_lattice.specs.Levels.{Levels}
use Rattle.sap_parse.proofs.OneReading as reading
use Rattle.sap_system.specs.SystemFile.{FirstFault}
use Rattle.sap_system.specs.declared.fault.SysFault.{SysFault}
use Rattle.sap_system.specs.declared.fault.SysFault.TheVariants as system
use Rattle.sap_system.proofs.Answered.{one_system, one_fault as one_system_fault, not_both as not_system_and_fault}
use Rattle.sap_files.specs.Prelude.{design_refused, part_refused, system_refused, IsLawful, Refuses, ending}
use Rattle.sap_files.specs.declared.failure.Failure.{Failure}
use Rattle.sap_files.proofs.DesignFaults.{one_fault}
use Rattle.sap_files.proofs.Designs.{design_lawful}
use Rattle.sap_files.specs.Kinds.{system_file, part_file}
use Rattle.sap_files.specs.Steps.{system_failure}

pub system_lawful : IsLawful system_file
system_lawful = record {
  one_value = one_system;
  one_reason = λ bytes why other (fault, is, first) (fault', was, first').
      is ∙ ap system_refused (one_system_fault bytes fault fault' first first') ∙ sym was;
  not_both = λ bytes s why stands (fault, is, first). not_system_and_fault bytes s fault stands first;
}

pub part_lawful : (ls : Levels) (part : List ℕ) → IsLawful (part_file ls part)
part_lawful ls part = record {
  one_value = (design_lawful ls).one_value;
  one_reason = λ source why other (fault, is, first) (fault', was, first').
      is ∙ ap (part_refused part) (one_fault reading.one_design reading.one_fault reading.not_both ls source fault fault' first first') ∙ sym was;
  not_both = λ source d why stands (fault, is, first). (design_lawful ls).not_both source d (design_refused fault) stands (fault, refl, first);
}

-- reading a system file

unread : (bytes : List ℕ) (fault : SysFault) → (fault ≢ system.Memory → FirstFault bytes fault) → Refuses system_file bytes (ending (system_failure fault))
unread bytes system.Memory first = inl refl
unread bytes (system.Rule code n) first = inr (system_refused (system.Rule code n), refl, (system.Rule code n, refl, first (λ e. cc)))

pub system_unread : (bytes : List ℕ) (fault : SysFault) (failure : Failure) → failure ≡ system_failure fault → (fault ≢ system.Memory → FirstFault bytes fault)
    → Refuses system_file bytes (ending failure)
system_unread bytes fault failure is first = subst (λ (f : Failure). Refuses system_file bytes (ending f)) (sym is) (unread bytes fault first)
