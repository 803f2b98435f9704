-- What comes of a module to which tags are added.
use Rattle.sap_lemmas.proofs.Common.{◌≡◌, ◌≢◌, ◌⊎◌, List, ℕ, sym, subst, inl, inr, refl, Option, Some}
use Rattle.sap_lattice.specs.Prelude.{Levels, Order}
use Rattle.sap_latfile.specs.OneLattice.{AreSame}
use Rattle.sap_net.specs.Net.{Net}
use Rattle.sap_taint.specs.TagNames.{IsClash}
use Rattle.sap_taint_pass.specs.FaultTexts.{IsTaintFault}
use Rattle.sap_taint_pass.specs.declared.fault.TaintFault.{TaintFault}
use Rattle.sap_taint_pass.specs.declared.fault.TaintFault.TheVariants.{Clash, Memory}
use Rattle.sap_files.specs.Prelude.{Ending, refused, no_memory, taint_refused, HasTaintOf, IsTaintedText, with_the, Ends, Moment, ending}
use Rattle.sap_commands.specs.Taint.{FirstClash, tagged_or_refused, taint_failure}
use Rattle.sap_files.specs.declared.failure.Failure.{Failure}
use Rattle.sap_files.proofs.Ended.{chosen, quiet_self, starved, stopped_by}

-- why there are no tags
abbrev pub Untagged : Net → Ending → Type 0
Untagged n e = (e ≡ no_memory) ⊎ ((x : List ℕ) × IsClash n x × (e ≡ refused (taint_refused (Clash x))))

untagged_by : (n : Net) (fault : TaintFault) → (fault ≢ Memory → IsTaintFault n fault) → Untagged n (ending (taint_failure fault))
untagged_by n (Clash x) is = let other : Clash x ≢ Memory = λ e. cc in inr (x, is other, refl)
untagged_by n Memory is = inl refl

pub untagged : (n : Net) (fault : TaintFault) (failure : Failure) → failure ≡ taint_failure fault → (fault ≢ Memory → IsTaintFault n fault) → Untagged n (ending failure)
untagged n fault failure same is = subst (λ (f : Failure). Untagged n (ending f)) (sym same) (untagged_by n fault is)

-- so the command ends there
pub untagged_ended : (ls : Levels) (n : Net) (out : List ℕ) (e : Ending) (m : Moment) → Untagged n e
    → Ends (with_the (Option (List ℕ)) (FirstClash n) (tagged_or_refused ls n out)) e m m
untagged_ended ls n out e m (inl is) =
    subst (λ (f : Ending). Ends (with_the (Option (List ℕ)) (FirstClash n) (tagged_or_refused ls n out)) f m m) (sym is)
    (starved (with_the (Option (List ℕ)) (FirstClash n) (tagged_or_refused ls n out)) (quiet_self m))
untagged_ended ls n out e m (inr (x, clash, is)) = chosen (Some x) clash (stopped_by (taint_refused (Clash x)) e is (quiet_self m))

-- two lattices that are the same give the same tags
pub tainted_in : (l m : Levels) → AreSame l m → (n : Net) (text : List ℕ) → IsTaintedText l n text → IsTaintedText m n text
tainted_in l m same n text is =
    record { tagged = is.tagged; is_module = is.is_module; taint = subst (λ (o : Order). HasTaintOf o n is.tagged) same.order is.taint }
