-- What a reader answers is the only answer.
use Rattle.std.proofs.Common.{◌≡◌, ◌≢◌, ℕ, List, Result, Ok, Err, refl, ap, ◌∙◌}
use Rattle.std.specs.Prelude.{IfErr, IfOk, MatchResult}
use Rattle.sap_wave.specs.declared.fault.WaveCode.{WaveCode}
use Rattle.sap_wave.specs.declared.fault.WaveFault.{WaveFault}
use Rattle.sap_wave.specs.declared.fault.WaveFault.TheVariants.{Rule, Memory}
use Rattle.sap_wave.specs.Prelude.{Wave, IsReading, ReadsSo, IsFault, IsWaveFault, DumpsReadSo, OneWaveOrFault}

not_memory : (code : WaveCode) (line : ℕ) → Rule code line ≢ Memory
not_memory code line e = let f : ⊥ = cc in f

-- where there is a reading
pub only_wave : (bytes : List ℕ) (r : Result Wave WaveFault) (w : Wave) → OneWaveOrFault → IfOk r (IsReading bytes)
    → IfErr r (λ fault. fault ≢ Memory → IsWaveFault bytes fault) → IsReading bytes w → MatchResult r (λ v. v ≡ w) (λ fault. fault ≡ Memory)
only_wave bytes (Ok v) w one h against g = one.one_wave bytes v w h g
only_wave bytes (Err (Rule code line)) w one h against g = absurd (one.not_both bytes w line code g (against (not_memory code line)))
only_wave bytes (Err Memory) w one h against g = refl

-- where there is a fault
pub only_fault : (bytes : List ℕ) (r : Result Wave WaveFault) (line : ℕ) (code : WaveCode) → OneWaveOrFault → IfOk r (IsReading bytes)
    → IfErr r (λ fault. fault ≢ Memory → IsWaveFault bytes fault) → IsFault bytes line code → MatchResult r (λ v. ⊥) (λ fault. fault ≢ Memory → fault ≡ Rule code line)
only_fault bytes (Ok v) line code one h against g = absurd (one.not_both bytes v line code h g)
only_fault bytes (Err (Rule other at)) line code one h against g = λ k.
    let same = one.one_fault bytes at line other code (against (not_memory other at)) g in
    ap (λ (z : ℕ). Rule other z) same.0 ∙ ap (λ (z : WaveCode). Rule z line) same.1
only_fault bytes (Err Memory) line code one h against g = λ k. absurd (k refl)

-- what reads so line by line is read
pub is_read : (bytes : List ℕ) (r : Result Wave WaveFault) → DumpsReadSo → IfOk r (ReadsSo bytes) → IfOk r (IsReading bytes)
is_read bytes (Ok w) law h = (law bytes w).1 h
is_read bytes (Err fault) law h = tt
