-- How far a text is read.
use Rattle.sap_lemmas.proofs.Common.{◌≡◌, ◌≢◌, ℕ, ◌+◌, ◌<◌, List, [], ◌∷◌, true, false, Result, Ok, Err, length, length-append, refl, sym, ap, ◌∙◌, arith, subst, inl, inr, IfErr, IfOk, list_all, true_is_not_false}
use Rattle.sap_wave.specs.declared.fault.WaveCode.{WaveCode}
use Rattle.sap_wave.specs.declared.fault.WaveCode.TheVariants.{Y1}
use Rattle.sap_wave.specs.declared.fault.WaveFault.{WaveFault}
use Rattle.sap_wave.specs.declared.fault.WaveFault.TheVariants.{Rule, Memory}
use Rattle.sap_wave.specs.declared.state.Stop.{Stop}
use Rattle.sap_wave.specs.declared.state.Stop.TheVariants as stop
use Rattle.sap_text.specs.Lines.{Line, lines_of}
use Rattle.sap_wave.specs.Prelude.{ended, IsCut, is_not, Wave, State, before_timescale, Reads, Ends, ReadsSo, IsLeast, Stands, no_form, StandsAtEnd, StopsFrom, IsFault, IsFaultAt, IsWaveFault, ReadUpTo, fault_at, IsSound, LineRead, Reaches}
use Rattle.sap_wave.proofs.Each.{one_least}
use Rattle.sap_wave.proofs.Lined.{line_last, lines_cut, lines_none}
use Rattle.sap_wave.proofs.Sounding.{sound_after}

pub begins : (bytes : List ℕ) → ReadUpTo bytes bytes 1 before_timescale
begins bytes = record { reads = λ t r. r; stops = λ line code r. r; sound = tt }

line_first : (rest before behind : List ℕ) → IsCut 10 rest before behind → lines_of rest ≡ ended before ∷ lines_of behind
line_first rest before behind c = ap lines_of c.whole ∙ lines_cut before behind c.first

pub goes_on : (bytes rest before behind : List ℕ) (n : ℕ) (s t : State) → ReadUpTo bytes rest n s → IsCut 10 rest before behind → Reaches s (ended before) t
    → ReadUpTo bytes behind (n + 1) t
goes_on bytes rest before behind n s t a c r =
    let lines = line_first rest before behind c in
    record {
      reads =
          λ u more.
          a.reads u
          (subst (λ (ls : List Line). Reads s ls u) (sym lines) (r.form, r.is_line, r.takes, subst (λ (z : State). Reads z (lines_of behind) u) r.reached more));
      stops =
          λ line code more.
          a.stops line code
          (subst (λ (ls : List Line). StopsFrom n s ls line code) (sym lines)
          (inr (r.form, r.is_line, r.takes, subst (λ (z : State). StopsFrom (n + 1) z (lines_of behind) line code) r.reached more)));
      sound = subst IsSound (sym r.reached) (sound_after s r.form r.is_line.formed a.sound r.takes);
    }

pub stops_here : (bytes rest before behind : List ℕ) (n : ℕ) (s : State) (code : WaveCode) → ReadUpTo bytes rest n s → IsCut 10 rest before behind
    → IsLeast (Stands s (ended before)) code → IsFault bytes n code
stops_here bytes rest before behind n s code a c least =
    record { stops = a.stops n code (subst (λ (ls : List Line). StopsFrom n s ls n code) (sym (line_first rest before behind c)) (inl (refl, least))) }

pub not_ended : (bytes rest : List ℕ) (n : ℕ) (s : State) → ReadUpTo bytes rest n s → 0 < length rest → list_all (is_not 10) rest ≡ true → IsFault bytes n Y1
not_ended bytes rest n s a some none =
    let last : Line = record { text = rest; ended = false } in
    let least : IsLeast (Stands s last) Y1 =
    record { stands = no_form refl (λ f h. absurd (true_is_not_false (sym h.ended))); least = λ d k. one_least d } in
    record { stops = a.stops n Y1 (subst (λ (ls : List Line). StopsFrom n s ls n Y1) (sym (line_last rest some none)) (inl (refl, least))) }

no_lines : (rest : List ℕ) → length rest ≡ 0 → lines_of rest ≡ []
no_lines [] e = lines_none
no_lines (b ∷ bs) e = absurd (omega (arith, e))

pub ends : (bytes rest : List ℕ) (n : ℕ) (s : State) (w : Wave) → ReadUpTo bytes rest n s → length rest ≡ 0 → Ends s w → ReadsSo bytes w
ends bytes rest n s w a e h =
    record { last = s; lines = a.reads s (subst (λ (ls : List Line). Reads s ls s) (sym (no_lines rest e)) refl); ends = h }

pub stops_at_end : (bytes rest : List ℕ) (n : ℕ) (s : State) (line : ℕ) (code : WaveCode) → ReadUpTo bytes rest n s → length rest ≡ 0 → line ≡ n
    → IsLeast (StandsAtEnd s) code → IsFault bytes line code
stops_at_end bytes rest n s line code a e l least =
    record { stops = a.stops line code (subst (λ (ls : List Line). StopsFrom n s ls line code) (sym (no_lines rest e)) (l, least)) }

-- a line takes a byte or more
pub shorter : (rest before behind : List ℕ) → IsCut 10 rest before behind → length behind < length rest
shorter rest before behind c = let e = ap length c.whole in let l = length-append before (10 ∷ behind) in omega (arith, e, l)

-- why a line is not read, and the line
pub fault_so : (s : State) (text : List ℕ) (line : ℕ) (why : Stop) (fault : WaveFault) → fault ≡ fault_at line why → LineRead s text (Err why)
    → IsFaultAt (Stands s (ended text)) line fault
fault_so s text line (stop.Code code) fault e h = subst (IsFaultAt (Stands s (ended text)) line) (sym e) (refl, h)
fault_so s text line stop.Memory fault e h = subst (IsFaultAt (Stands s (ended text)) line) (sym e) tt

-- what is answered at a line
pub stopped : (bytes rest before behind : List ℕ) (n : ℕ) (s : State) (fault : WaveFault) → ReadUpTo bytes rest n s → IsCut 10 rest before behind
    → IsFaultAt (Stands s (ended before)) n fault → fault ≢ Memory → IsWaveFault bytes fault
stopped bytes rest before behind n s (Rule code line) a c h other = subst (λ (k : ℕ). IsFault bytes k code) (sym h.0) (stops_here bytes rest before behind n s code a c h.1)
stopped bytes rest before behind n s Memory a c h other = absurd (other refl)

-- and at the end
pub ended_so : (bytes rest : List ℕ) (n : ℕ) (s : State) (r : Result Wave WaveFault) → ReadUpTo bytes rest n s → length rest ≡ 0
    → IfOk r (Ends s) → IfErr r (IsFaultAt (StandsAtEnd s) n)
    → IfOk r (ReadsSo bytes) × IfErr r (λ fault. fault ≢ Memory → IsWaveFault bytes fault)
ended_so bytes rest n s (Ok w) a e h against = (ends bytes rest n s w a e h, tt)
ended_so bytes rest n s (Err (Rule code line)) a e h against = (tt, λ other. stops_at_end bytes rest n s line code a e against.0 against.1)
ended_so bytes rest n s (Err Memory) a e h against = (tt, λ other. absurd (other refl))

pub read_end_so : (bytes rest : List ℕ) (n : ℕ) (s : State) (r : Result Wave WaveFault) → ReadUpTo bytes rest n s → list_all (is_not 10) rest ≡ true
    → (0 < length rest → r ≡ Err (Rule Y1 n)) → (length rest ≡ 0 → IfOk r (Ends s)) → (length rest ≡ 0 → IfErr r (IsFaultAt (StandsAtEnd s) n))
    → IfOk r (ReadsSo bytes) × IfErr r (λ fault. fault ≢ Memory → IsWaveFault bytes fault)
read_end_so bytes [] n s r a none cut h against = ended_so bytes [] n s r a refl (h refl) (against refl)
read_end_so bytes (b ∷ bs) n s r a none cut h against =
    let more : 0 < length (b ∷ bs) = omega arith in
    let fault = not_ended bytes (b ∷ bs) n s a more none in
    subst (λ (z : Result Wave WaveFault). IfOk z (ReadsSo bytes) × IfErr z (λ e. e ≢ Memory → IsWaveFault bytes e)) (sym (cut more)) (tt, λ other. fault)

pub refused_so : (bytes : List ℕ) (r : Result Wave WaveFault) (fault : WaveFault) → r ≡ Err fault → (fault ≢ Memory → IsWaveFault bytes fault)
    → IfErr r (λ f. f ≢ Memory → IsWaveFault bytes f)
refused_so bytes r fault e h = subst (λ (z : Result Wave WaveFault). IfErr z (λ f. f ≢ Memory → IsWaveFault bytes f)) (sym e) h

pub err_so : {T : Type 0} (P : WaveFault → Type 0) (r : Result T WaveFault) (fault : WaveFault) → r ≡ Err fault → P fault → IfErr r P
err_so {T} P r fault e h = subst (λ (z : Result T WaveFault). IfErr z P) (sym e) h
