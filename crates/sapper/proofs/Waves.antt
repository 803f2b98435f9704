-- The clauses of `wave` and of `unwave` follow from what they ask.
use Rattle.sap_lemmas.proofs.Common.{◌≡◌, ◌≢◌, ℕ, List, ◌++◌, refl, sym, ◌∙◌, ap, ap₂, subst, inl, inr, ◌⊎◌, map, Option, Some, None, IfSome, some_unique}
use Rattle.sap_desk.specs.Desk.{Told}
use Rattle.sap_desk.specs.Whole.{Between, Gained}
use Rattle.sap_desk.proofs.Steps.{at_name-same}
use Rattle.sap_lattice.specs.Levels.{Levels}
use Rattle.sap_meaning.specs.Cycle.{Tagged}
use Rattle.sap_net.specs.Prelude.{IsNetlist, Net}
use Rattle.sap_vtext.specs.Modules.{IsModule}
use Rattle.sap_stim.specs.declared.stimulus.Parsed.{Parsed}
use Rattle.sap_sim.specs.Prelude.{numbers_of, IsRunOn}
use Rattle.sap_wave.specs.declared.fault.WaveCode.{WaveCode}
use Rattle.sap_wave.specs.declared.fault.WaveFault.{WaveFault}
use Rattle.sap_wave.specs.declared.fault.WaveFault.TheVariants.{Rule, Memory}
use Rattle.sap_wave.specs.Prelude.{IsReading, IsFault, IsWaveFault, run_wave, Wave}
use Rattle.sap_wave.proofs.Once.{one_wave_or_fault}
use Rattle.sap_wave.proofs.Running.{runs_read_back}
use Rattle.sap_wave_rows.specs.Rows.{rows_of_wave}
use Rattle.sap_wave_rows.proofs.RowsOfRuns.{rows_of_runs}
use Rattle.sap_wave_run.specs.Dumped.{IsDumpOn}
use Rattle.sap_words.specs.Words.{Words, wave, unwave}
use Rattle.sap_files.specs.Prelude.{Ending, Refusal, done, refused, wave_refused, status_of, line_of, Kind, Has, IsLatticeFile, IsLawful, IsModuleStream, lattice_file, module_file, module_stream_file, wave_file, Asks, file, gives, writes, Cause, Files, Leaves, Output, Shows, Written, AreModuleRows}
use Rattle.sap_commands.specs.Commands.{asks, asks_for, asks_if}
use Rattle.sap_files.proofs.Lattices.{lattice_lawful}
use Rattle.sap_files.proofs.Lawful.{not_both, one_value}
use Rattle.sap_files.proofs.Modules.{module_lawful}
use Rattle.sap_files.proofs.Netlists.{module_netlist}
use Rattle.sapper.specs.Answers.{Answers}
use Rattle.sapper.specs.Exact.{Exact}
use Rattle.sapper.specs.Waves.{AreForRun, TellsRun, Unwaves, Waves}
use Rattle.sapper.proofs.Headline.{by_cause, done_alone}

-- ---- a cause, file by file

module _ (t : Told) (name : List ℕ) (k : Kind) (rest : k.Value → Asks) (e : Ending) where
  -- behind a file that stands for a value
  pub past_file : IsLawful k → (v : k.Value) → Has t name k.Stands v → Cause (file name k rest) t e → Cause (rest v) t e
  past_file law v has (inl (why, ends, is)) = absurd (not_both k law t name v why has is)
  past_file law v has (inr (w, had, cause)) =
      let P : k.Value → Type 0 = λ x. Cause (rest x) t e in
      subst P (one_value k law t name w v had has) cause

  -- at one that stands for none
  pub refused_at : (bytes : List ℕ) → t.files name ≡ Some bytes → ((v : k.Value) → ¬ (k.Stands bytes v)) → Cause (file name k rest) t e
      → (why : Refusal) × (e ≡ refused why) × k.Refused bytes why
  refused_at bytes there none (inl (why, ends, is)) =
      let P : List ℕ → Type 0 = λ b. k.Refused b why in
      (why, ends, subst P (some_unique (t.files name) is.bytes bytes is.file there) is.refused)
  refused_at bytes there none (inr (v, has, cause)) =
      let P : List ℕ → Type 0 = λ b. k.Stands b v in
      absurd (none v (subst P (some_unique (t.files name) has.bytes bytes has.file there) has.stands))

pub zero_of : (answer : ℕ) → (answer ≡ 0) ⊎ ((answer ≡ 6) ⊎ (answer ≡ 7)) → answer ≢ 6 → answer ≢ 7 → answer ≡ 0
zero_of answer (inl zero) no_failure no_want = zero
zero_of answer (inr (inl six)) no_failure no_want = absurd (no_failure six)
zero_of answer (inr (inr seven)) no_failure no_want = absurd (no_want seven)

-- ---- `wave`

tells : (ls : Levels) (net : Net) (stream : List (List Tagged)) (text : List ℕ) → IsNetlist net → IsDumpOn net (numbers_of ls net) stream text → TellsRun ls net stream text
tells ls net stream text rules d =
    let reads : IsReading text (run_wave net d.run)
    = subst (λ (x : List ℕ). IsReading x (run_wave net d.run)) (sym d.is_dump) (runs_read_back net (map (numbers_of ls net) stream) d.run rules d.is_run) in
    record {
      run = d.run;
      is_run = d.is_run;
      reads = reads;
      no_other = λ other is. one_wave_or_fault.one_wave text other (run_wave net d.run) is reads;
    }

module _ (lattice verilog stimulus out : List ℕ) (answer : ℕ) (t n : Told) where
  -- what is asked behind LATTICE, and behind VERILOG
  abbrev behind_module : Levels → Net → Asks
  behind_module ls net = file stimulus (module_stream_file ls net) (λ stream. writes out (IsDumpOn net (numbers_of ls net) stream))

  abbrev behind_lattice : Levels → Asks
  behind_lattice ls = file verilog module_file (λ net. behind_module ls net)

  abbrev IsCaused : Ending → Type 0
  IsCaused e = Cause (asks (wave lattice verilog stimulus out)) t e

  written : Written (asks (wave lattice verilog stimulus out)) t n.files
      → (ls : Levels) × (net : Net) × (stream : List (List Tagged)) × AreForRun lattice verilog stimulus t ls net stream
      × ((text : List ℕ) × (n.files out ≡ Some text) × TellsRun ls net stream text)
  written (ls, has, (net, is, (stream, lines, (text, dump, files)))) = (
    ls,
    net,
    stream,
    record { levels = has; is_module = is; lines = lines },
    (text, ap (λ (fs : Files). fs out) files ∙ at_name-same out (Some text) t.files, tells ls net stream text (module_netlist is.bytes net is.stands) dump),
  )

  always : ((e : Ending) → IsCaused e → (answer ≡ status_of e) ⊎ ((answer ≡ 6) ⊎ (answer ≡ 7)))
      → (ls : Levels) (net : Net) (stream : List (List Tagged)) → AreForRun lattice verilog stimulus t ls net stream → answer ≢ 6 → answer ≢ 7 → answer ≡ 0
  always exact ls net stream are = zero_of answer (exact done (inr (ls, are.levels, inr (net, are.is_module, inr (stream, are.lines, refl)))))

  no_module : (e : Ending) × IsCaused e × (answer ≡ status_of e) → (ls : Levels) (text : List ℕ) → Has t lattice IsLatticeFile ls → t.files verilog ≡ Some text
      → ((net : Net) → ¬ (IsModule text net)) → answer ≡ 5
  no_module (e, cause, is) ls text has there none =
      let behind : Cause (behind_lattice ls) t e = past_file t lattice lattice_file behind_lattice e lattice_lawful ls has cause in
      let r = refused_at t verilog module_file (behind_module ls) e text there none behind in
      is ∙ ap status_of r.1 ∙ ap (λ (w : Refusal). status_of (refused w)) r.2.1

  no_stimulus : (e : Ending) × IsCaused e × (answer ≡ status_of e) → (ls : Levels) (net : Net) (bytes : List ℕ) → Has t lattice IsLatticeFile ls → Has t verilog IsModule net
      → t.files stimulus ≡ Some bytes → ((stream : List (List Tagged)) → ¬ (IsModuleStream ls net bytes stream)) → answer ≡ 4
  no_stimulus (e, cause, is) ls net bytes has had there none =
      let behind : Cause (behind_lattice ls) t e = past_file t lattice lattice_file behind_lattice e lattice_lawful ls has cause in
      let further : Cause (behind_module ls net) t e = past_file t verilog module_file (behind_module ls) e module_lawful net had behind in
      let r = refused_at t stimulus (module_stream_file ls net) (λ stream. writes out (IsDumpOn net (numbers_of ls net) stream)) e bytes there none further in
      is ∙ ap status_of r.1 ∙ ap (λ (w : Refusal). status_of (refused w)) r.2.1

waves : (words : List (List ℕ)) (lost now answer : ℕ) (t n : Told) → Answers words lost now answer t n → Exact words t answer → Waves words answer t n
waves words lost now answer t n a exact = λ lattice verilog stimulus out is.
    let only = λ (no_failure : answer ≢ 6) (no_want : answer ≢ 7).
    subst (λ (c : Option Words). (e : Ending) × Cause (asks_if c) t e × (answer ≡ status_of e)) is (exact.only no_failure no_want) in
    record {
      only = λ zero.
          let ended : a.ending ≡ done = done_alone a.ending (sym zero ∙ a.status) in
          let left : Leaves (asks_for words) t n.files done = subst (λ (e : Ending). Leaves (asks_for words) t n.files e) ended a.leaves in
          written lattice verilog stimulus out answer t n (subst (λ (c : Option Words). Written (asks_if c) t n.files) is left);
      always = always lattice verilog stimulus out answer t n
          (subst (λ (c : Option Words). (e : Ending) → Cause (asks_if c) t e → (answer ≡ status_of e) ⊎ ((answer ≡ 6) ⊎ (answer ≡ 7))) is exact.always);
      no_module = λ ls text has there none no_failure no_want. no_module lattice verilog stimulus out answer t n (only no_failure no_want) ls text has there none;
      no_stimulus = λ ls net bytes has had there none no_failure no_want.
          no_stimulus lattice verilog stimulus out answer t n (only no_failure no_want) ls net bytes has had there none;
    }

-- ---- `unwave`

module _ (lattice dump : List ℕ) (t : Told) where
  abbrev rows_asked : Levels → Asks
  rows_asked ls = file dump wave_file (λ wave. gives (λ text. text ≡ rows_of_wave ls wave))

  shown : (gained : List ℕ) → Shows (asks (unwave lattice dump)) t done gained
      → (ls : Levels) × (w : Wave) × Has t lattice IsLatticeFile ls × Has t dump IsReading w × (gained ≡ rows_of_wave ls w)
  shown gained (inl ((why, is, at), none)) = absurd (cc)
  shown gained (inr (ls, has, inl ((why, is, at), none))) = absurd (cc)
  shown gained (inr (ls, has, inr (w, had, (is, text)))) = (ls, w, has, had, text)

  -- the first fault, and the status and the line that tell it
  first_fault : (e : Ending) → Cause (asks (unwave lattice dump)) t e → (ls : Levels) (bytes : List ℕ) → Has t lattice IsLatticeFile ls → t.files dump ≡ Some bytes
      → ((w : Wave) → ¬ (IsReading bytes w)) → (line : ℕ) × (code : WaveCode) × IsFault bytes line code × (e ≡ refused (wave_refused (Rule code line)))
  first_fault e cause ls bytes has there none =
      let behind : Cause (rows_asked ls) t e = past_file t lattice lattice_file rows_asked e lattice_lawful ls has cause in
      let r = refused_at t dump wave_file (λ wave. gives (λ text. text ≡ rows_of_wave ls wave)) e bytes there none behind in
      of_fault r.2.0 r.2.2 (r.1 ∙ ap refused r.2.1)
    where
      of_fault : (fault : WaveFault) → IsWaveFault bytes fault → e ≡ refused (wave_refused fault)
          → (line : ℕ) × (code : WaveCode) × IsFault bytes line code × (e ≡ refused (wave_refused (Rule code line)))
      of_fault (Rule code line) stands is = (line, code, stands, is)
      of_fault Memory stands is = absurd stands

-- what is read of the dump of a run has the rows that `sim` writes
module _ (ls other : Levels) (net : Net) (bytes text : List ℕ) (stream : List (List Tagged)) (w : Wave) (same : other ≡ ls) (reads : IsReading text w)
    (stands : IsModuleStream ls net bytes stream) (told : TellsRun ls net stream text) where
  rows_back : AreModuleRows ls net bytes (rows_of_wave other w)
  rows_back = (
    None,
    record {
      fault = sym (ap (λ (p : Parsed). p.fault) stands);
      run = told.run;
      is_run = subst (λ (p : Parsed). IsRunOn net (numbers_of ls net) p.stream told.run) (sym stands) told.is_run;
      text = ap₂ rows_of_wave same (told.no_other w reads) ∙ rows_of_runs ls net told.run;
    },
  )

unwaves : (words : List (List ℕ)) (lost now answer : ℕ) (t n : Told) → Answers words lost now answer t n → Exact words t answer → Unwaves words lost now answer t n
unwaves words lost now answer t n a exact = λ lattice dump is.
    let gives = λ (zero : answer ≡ 0).
    let ended : a.ending ≡ done = done_alone a.ending (sym zero ∙ a.status) in
    let shows : Output (asks_for words) t a.gained done = subst (λ (e : Ending). Output (asks_for words) t a.gained e) ended a.shows in
    shown lattice dump t a.gained (subst (λ (c : Option Words). Shows (asks_if c) t done a.gained) is shows) in
    record {
      only = λ zero.
          let (ls, w, has, had, rows) = gives zero in
          (ls, w, has, had, a.output ∙ ap (λ (text : List ℕ). t.written 1 ++ text) rows);
      always = λ ls w has had.
          zero_of answer
          ((subst (λ (c : Option Words). (e : Ending) → Cause (asks_if c) t e → (answer ≡ status_of e) ⊎ ((answer ≡ 6) ⊎ (answer ≡ 7))) is exact.always) done
          (inr (ls, has, inr (w, had, refl))));
      refuses = λ ls bytes has there none no_failure no_want.
          let caused : Cause (asks_for words) t a.ending = by_cause words t answer a.ending a.status a.cause no_failure no_want in
          let (line, code, fault, ends) = first_fault lattice dump t a.ending (subst (λ (c : Option Words). Cause (asks_if c) t a.ending) is caused) ls bytes has there none in
          (a.status ∙ ap status_of ends, (line, code, fault, subst (λ (e : Ending). Gained (line_of e) lost now t n) ends a.line));
      gives_back = λ zero ls net bytes text stream has there stands told.
          let (other, w, had, reads, rows) = gives zero in
          let same : other ≡ ls = one_value lattice_file lattice_lawful t lattice other ls had has in
          let P : List ℕ → Type 0 = λ b. IsReading b w in
          let is_read : IsReading text w = subst P (some_unique (t.files dump) reads.bytes text reads.file there) reads.stands in (
            rows_of_wave other w,
            a.output ∙ ap (λ (x : List ℕ). t.written 1 ++ x) rows,
            rows_back ls other net bytes text stream w same is_read stands told,
          );
    }

-- ---- between what a desk tells before and after

pub waves_told : (words : List (List ℕ)) (lost now answer : ℕ) (old new : Option Told) → Between old new (Answers words lost now answer)
    → IfSome old (λ t. Exact words t answer) → Between old new (Waves words answer)
waves_told words lost now answer None new a exact = tt
waves_told words lost now answer (Some t) None a exact = absurd a
waves_told words lost now answer (Some t) (Some n) a exact = waves words lost now answer t n a exact

pub unwaves_told : (words : List (List ℕ)) (lost now answer : ℕ) (old new : Option Told) → Between old new (Answers words lost now answer)
    → IfSome old (λ t. Exact words t answer) → Between old new (Unwaves words lost now answer)
unwaves_told words lost now answer None new a exact = tt
unwaves_told words lost now answer (Some t) None a exact = absurd a
unwaves_told words lost now answer (Some t) (Some n) a exact = unwaves words lost now answer t n a exact
