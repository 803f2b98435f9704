-- Module files: a text is at most one module, and what reading one comes to.
use Rattle.std.proofs.Common.{◌≡◌, ◌≢◌, ℕ, List, refl, sym, ◌∙◌, ap, subst, inl, inr}
use Rattle.sap_net.specs.Net.{Net}
use Rattle.sap_vtext.specs.Modules.{IsModule, netlist_of}
use Rattle.sap_vtext.proofs.OneFile.{one_file}
use Rattle.sap_vtext.proofs.OneLexing.{one_lexing}
use Rattle.sap_vparse.proofs.OneReading as reading
use Rattle.sap_vread.specs.ModuleFault.{IsModuleFault}
use Rattle.sap_vread.specs.declared.fault.ModFault.{ModFault}
use Rattle.sap_vread.specs.declared.fault.ModFault.TheVariants as verilog
use Rattle.sap_vread.proofs.Faults.{not_both, one_fault}
use Rattle.sap_files.specs.Prelude.{module_refused, IsLawful, module_file, Refuses, ending, module_failure}
use Rattle.sap_files.specs.declared.failure.Failure.{Failure}

pub one_module : (text : List ℕ) (one other : Net) → IsModule text one → IsModule text other → one ≡ other
one_module text one other a b =
    let tokens = one_lexing refl refl a.lexed b.lexed in
    sym a.netlist ∙ ap netlist_of (one_file tokens a.spelled b.spelled) ∙ b.netlist

pub module_lawful : IsLawful module_file
module_lawful = record {
  one_value = one_module;
  one_reason = λ text why other (fault, is, first) (fault', was, first').
      is ∙ ap module_refused (one_fault reading.one_text reading.one_fault reading.not_both text fault fault' first first') ∙ sym was;
  not_both = λ text net why stands (fault, is, first). not_both reading.one_text reading.one_fault reading.not_both text net fault stands first;
}

-- reading one

unread : (text : List ℕ) (fault : ModFault) → (fault ≢ verilog.Memory → IsModuleFault text fault) → Refuses module_file text (ending (module_failure fault))
unread text verilog.Memory is = inl refl
unread text (verilog.Rule code place) is =
    let ne : verilog.Rule code place ≢ verilog.Memory = λ e. cc in
    inr (module_refused (verilog.Rule code place), refl, (verilog.Rule code place, refl, is ne))

pub module_unread : (text : List ℕ) (fault : ModFault) (failure : Failure) → failure ≡ module_failure fault
    → (fault ≢ verilog.Memory → IsModuleFault text fault) → Refuses module_file text (ending failure)
module_unread text fault failure same is = subst (λ (f : Failure). Refuses module_file text (ending f)) (sym same) (unread text fault is)
