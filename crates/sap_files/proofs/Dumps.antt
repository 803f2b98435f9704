-- Dumps: what reading one comes to, what writing one whole comes to, and that two lattices that are the same ask for the same.
use Rattle.sap_lemmas.proofs.Common.{◌≡◌, ◌≢◌, ℕ, List, refl, sym, ◌∙◌, ap, ap₂, subst, inl, inr}
use Rattle.sap_wave.specs.declared.fault.WaveFault.{WaveFault}
use Rattle.sap_wave.specs.declared.fault.WaveFault.TheVariants.{Rule, Memory}
use Rattle.sap_wave.specs.Prelude.{IsReading, IsWaveFault, Wave}
use Rattle.sap_wave.proofs.Once.{one_wave_or_fault}
use Rattle.sap_files.specs.Prelude.{wave_refused, IsLawful, wave_file, Refuses, ending, wave_failure}
use Rattle.sap_files.specs.declared.failure.Failure.{Failure}

-- the kind is lawful

same_fault : (bytes : List ℕ) (one other : WaveFault) → IsWaveFault bytes one → IsWaveFault bytes other → one ≡ other
same_fault bytes (Rule c i) (Rule d j) a b = let same = one_wave_or_fault.one_fault bytes i j c d a b in ap₂ Rule same.1 same.0
same_fault bytes (Rule c i) Memory a b = absurd b
same_fault bytes Memory other a b = absurd a

no_fault : (bytes : List ℕ) (w : Wave) (fault : WaveFault) → IsReading bytes w → IsWaveFault bytes fault → ⊥
no_fault bytes w (Rule code line) reads is = one_wave_or_fault.not_both bytes w line code reads is
no_fault bytes w Memory reads is = is

pub wave_lawful : IsLawful wave_file
wave_lawful = record {
  one_value = one_wave_or_fault.one_wave;
  one_reason = λ bytes why other (fault, is, stands) (fault', was, stands').
      is ∙ ap wave_refused (same_fault bytes fault fault' stands stands') ∙ sym was;
  not_both = λ bytes w why reads (fault, is, stands). no_fault bytes w fault reads stands;
}

-- reading one

unread : (bytes : List ℕ) (fault : WaveFault) → (fault ≢ Memory → IsWaveFault bytes fault) → Refuses wave_file bytes (ending (wave_failure fault))
unread bytes Memory is = inl refl
unread bytes (Rule code line) is =
    let other : Rule code line ≢ Memory = λ e. cc in
    inr (wave_refused (Rule code line), refl, (Rule code line, refl, is other))

pub wave_unread : (bytes : List ℕ) (fault : WaveFault) (failure : Failure) → failure ≡ wave_failure fault → (fault ≢ Memory → IsWaveFault bytes fault)
    → Refuses wave_file bytes (ending failure)
wave_unread bytes fault failure same is = subst (λ (f : Failure). Refuses wave_file bytes (ending f)) (sym same) (unread bytes fault is)
