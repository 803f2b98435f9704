-- The clauses of `machine`, `asm`, `cpu`, and of `run` on what the first two write, follow from what they ask.
use Rattle.sap_lemmas.proofs.Common.{◌≡◌, ◌≢◌, ℕ, List, ◌++◌, refl, sym, ◌∙◌, ap, ap₂, subst, inl, inr, ◌⊎◌, Option, Some, None, Result, Ok, Err, some_unique}
use Rattle.sap_desk.specs.Desk.{Told}
use Rattle.sap_desk.specs.Whole.{Between, Gained}
use Rattle.sap_lattice.specs.Diamond.{diamond}
use Rattle.sap_lattice.specs.Levels.{Levels}
use Rattle.sap_tree.specs.Bare.{bare}
use Rattle.sap_parse.specs.Text.{IsText}
use Rattle.sap_show.specs.Canonical.{canonical_text}
use Rattle.sap_sim.specs.Labelled.LabelledRows.{labelled_rows}
use Rattle.sap_sim.specs.Labelled.RunOf.{read_for}
use Rattle.sap_machine.specs.Assembly.{Assembled, assembled}
use Rattle.sap_machine.specs.Design.{machine_design}
use Rattle.sap_machine.specs.DesignText.{machine_text}
use Rattle.sap_machine.specs.Text.{refusal_text as assembly_text, in_file, of_both, stimulus_text, users_text}
use Rattle.sap_machine.specs.declared.fault.AsmFault.{AsmFault}
use Rattle.sap_machine.proofs.Sound.{text_is}
use Rattle.sap_cpu.specs.Ends.{EndsAsPrinted}
use Rattle.sap_cpu.proofs.Canonical.{machine_read, read_is_machine}
use Rattle.sap_cpu.proofs.Ends.{runs_end_as_printed}
use Rattle.sap_words.specs.Words.{Words, command_of, run, machine, asm, cpu}
use Rattle.sap_files.specs.Prelude.{Ending, done, refused, asm_refused, line, status_of, line_of, end_of, Cause, Has, IsWellFormedText, Output, Shows, lattice_file}
use Rattle.sap_commands.specs.Commands.{asks_programs, asks, asks_for, asks_if}
use Rattle.sap_commands.proofs.CommandLaws.{one_cause_lem}
use Rattle.sap_files.proofs.Lattices.{lattice_lawful}
use Rattle.sap_files.proofs.Lawful.{one_value}
use Rattle.sapper.specs.Answers.{Answers}
use Rattle.sapper.specs.Machines.{AreForMachine, GivesOfBoth, Machines}
use Rattle.sapper.proofs.Headline.{by_cause, done_alone}

-- ---- what two texts give

-- words and words, or the fault of the first that has one
module _ (gives : (a b : List ℕ) → List ℕ) where
  abbrev of_words : Assembled → Assembled → Result (List ℕ) (List ℕ)
  of_words r s = in_file 1 r (λ a. in_file 2 s (λ b. Ok (gives a b)))

  both : (r s : Assembled) (a b : List ℕ) → r ≡ Ok a → s ≡ Ok b → of_words r s ≡ Ok (gives a b)
  both r s a b one other = ap (λ (x : Assembled). of_words x s) one ∙ ap (λ (x : Assembled). in_file 2 x (λ b. Ok (gives a b))) other

  have_words : (r s : Assembled) (text : List ℕ) → of_words r s ≡ Ok text → (a : List ℕ) × (b : List ℕ) × (r ≡ Ok a) × (s ≡ Ok b)
  have_words (Ok a) (Ok b) text is = (a, b, refl, refl)
  have_words (Ok a) (Err f) text is = absurd (cc)
  have_words (Err f) s text is = absurd (cc)

  -- the first is refused, or it has words and the second is
  have_fault : (r s : Assembled) (why : List ℕ) → of_words r s ≡ Err why
      → ((f : AsmFault) × (r ≡ Err f) × (assembly_text 1 f ≡ why)) ⊎ ((a : List ℕ) × (f : AsmFault) × (r ≡ Ok a) × (s ≡ Err f) × (assembly_text 2 f ≡ why))
  have_fault (Ok a) (Ok b) why is = absurd (cc)
  have_fault (Ok a) (Err f) why is = let same : assembly_text 2 f ≡ why = cc in inr (a, f, refl, refl, same)
  have_fault (Err f) s why is = let same : assembly_text 1 f ≡ why = cc in inl (f, refl, same)

-- ---- what is asked of them

module _ (gives : (a b : List ℕ) → List ℕ) (first second : List ℕ) (t : Told) where
  shown : (gained : List ℕ) → Shows (asks_programs gives first second) t done gained
      → (x : List ℕ) × (y : List ℕ) × (t.files first ≡ Some x) × (t.files second ≡ Some y) × (of_both gives x y ≡ Ok gained)
  shown gained (inl ((why, is, at), none)) = absurd (cc)
  shown gained (inr (a, has, inl ((why, is, at), none))) = absurd (cc)
  shown gained (inr (a, has, inr (b, had, (is, text)))) = (
    has.bytes,
    had.bytes,
    has.file,
    had.file,
    both gives (assembled has.bytes) (assembled had.bytes) a b has.stands had.stands ∙ ap Ok (sym text),
  )

  module _ (x y : List ℕ) (there : t.files first ≡ Some x) (too : t.files second ≡ Some y) where
    done_of : (text : List ℕ) → of_both gives x y ≡ Ok text → Cause (asks_programs gives first second) t done
    done_of text is =
        let (a, b, one, other) = have_words gives (assembled x) (assembled y) text is in
        inr (a, record { bytes = x; file = there; stands = one }, inr (b, record { bytes = y; file = too; stands = other }, refl))

    -- it is refused with status 11, by this line
    refused_of : (why : List ℕ) → of_both gives x y ≡ Err why
        → (e : Ending) × Cause (asks_programs gives first second) t e × (status_of e ≡ 11) × (line_of e ≡ line why)
    refused_of why is = elim (have_fault gives (assembled x) (assembled y) why is) [
      | inl (f, one, same) ↦ (
        refused (asm_refused 1 f),
        inl (asm_refused 1 f, refl, record { bytes = x; file = there; refused = (f, refl, one) }),
        refl,
        ap line same,
      )
      | inr (a, f, one, other, same) ↦ (
        refused (asm_refused 2 f),
        inr (a, record { bytes = x; file = there; stands = one }, inl (asm_refused 2 f, refl, record { bytes = y; file = too; refused = (f, refl, other) })),
        refl,
        ap line same,
      )
    ]

-- ---- a `run` on what `machine` and `asm` write

module _ (lattice design stimulus : List ℕ) (t : Told) (x y : List ℕ) (slices : ℕ) (given : AreForMachine lattice design stimulus t x y slices) where
  shows_end : (gained : List ℕ) → Shows (asks (run lattice design stimulus)) t done gained → EndsAsPrinted x y slices gained
  shows_end gained (inl ((why, is, at), none)) = absurd (cc)
  shows_end gained (inr (ls, has, inl ((why, is, at), none))) = absurd (cc)
  shows_end gained (inr (ls, has, inr (d, is, (bytes, there, ends, (fault, rows))))) =
      let levels : ls ≡ diamond = one_value lattice_file lattice_lawful t lattice ls diamond has given.levels in
      let source : is.bytes ≡ machine_text = some_unique (t.files design) is.bytes (canonical_text machine_design) is.file given.machine ∙ text_is in
      let same : bare d ≡ bare machine_design = read_is_machine d (subst (λ (b : List ℕ). IsText b d) source is.stands.is_text) in
      let text : bytes ≡ given.text = some_unique (t.files stimulus) bytes given.text there given.file in
      let shown : gained ≡ labelled_rows diamond d (read_for diamond d given.text).stream =
      rows.text ∙ ap₂ (λ (l : Levels) (b : List ℕ). labelled_rows l d (read_for l d b).stream) levels text in
      subst (EndsAsPrinted x y slices) (sym shown) (runs_end_as_printed d x y given.text slices same given.of_asm given.count).1

  run_done : Cause (asks (run lattice design stimulus)) t done
  run_done =
      let (d, is_text, formed, same) = machine_read in
      let is : Has t design (IsWellFormedText diamond) d = record {
        bytes = canonical_text machine_design;
        file = given.machine;
        stands = record { is_text = subst (λ (b : List ℕ). IsText b d) (sym text_is) is_text; well_formed = formed };
      } in
      let taken = (runs_end_as_printed d x y given.text slices same given.of_asm given.count).0 in
      inr (diamond, given.levels, inr (d, is, (given.text, given.file, ap end_of (sym taken))))

-- ---- of a call

module _ (words : List (List ℕ)) (lost now answer : ℕ) (t n : Told) (a : Answers words lost now answer t n) where
  -- it ends as it has a cause to, but for a failed call and want of memory
  ends_as : (c : Words) → command_of words ≡ Some c → (e : Ending) → Cause (asks c) t e → answer ≢ 6 → answer ≢ 7 → a.ending ≡ e
  ends_as c is e cause no_failure no_want =
      let caused : Cause (asks_for words) t a.ending = by_cause words t answer a.ending a.status a.cause no_failure no_want in
      one_cause_lem c t a.ending e (subst (λ (o : Option Words). Cause (asks_if o) t a.ending) is caused) cause

  -- what channel 1 gained where it is done
  gained_by : (c : Words) → command_of words ≡ Some c → answer ≡ 0 → Shows (asks c) t done a.gained
  gained_by c is zero =
      let ended : a.ending ≡ done = done_alone a.ending (sym zero ∙ a.status) in
      let shows : Output (asks_for words) t a.gained done = subst (λ (e : Ending). Output (asks_for words) t a.gained e) ended a.shows in
      subst (λ (o : Option Words). Shows (asks_if o) t done a.gained) is shows

  of_programs : (gives : (a b : List ℕ) → List ℕ) (first second : List ℕ) (c : Words) → command_of words ≡ Some c
      → ((e : Ending) → Cause (asks_programs gives first second) t e → Cause (asks c) t e)
      → (Shows (asks c) t done a.gained → Shows (asks_programs gives first second) t done a.gained)
      → GivesOfBoth (of_both gives) first second lost now answer t n
  of_programs gives first second c is causes shows = record {
    only = λ zero.
        let (x, y, there, too, text) = shown gives first second t a.gained (shows (gained_by c is zero)) in
        (x, y, a.gained, there, too, text, a.output);
    always = λ x y text there too given no_failure no_want.
        let cause : Cause (asks c) t done = causes done (done_of gives first second t x y there too text given) in
        a.status ∙ ap status_of (ends_as c is done cause no_failure no_want);
    refuses = λ x y why there too given no_failure no_want.
        let (e, cause, status, told) = refused_of gives first second t x y there too why given in
        let ends : a.ending ≡ e = ends_as c is e (causes e cause) no_failure no_want in
        (a.status ∙ ap status_of ends ∙ status, subst (λ (l : List ℕ). Gained l lost now t n) (ap line_of ends ∙ told) a.line);
  }

  machines : Machines words lost now answer t n
  machines = record {
    design = λ is. record {
      only = λ zero. a.output ∙ ap (λ (text : List ℕ). t.written 1 ++ text) ((gained_by machine is zero).1 ∙ sym text_is);
      always = λ no_failure no_want. a.status ∙ ap status_of (ends_as machine is done refl no_failure no_want);
    };
    stimulus = λ first second slices is.
        of_programs (λ a b. stimulus_text a b slices) first second (asm first second slices) is (λ e cause. cause) (λ shows. shows);
    users = λ first second slices is.
        of_programs (λ a b. users_text a b slices) first second (cpu first second slices) is (λ e cause. cause) (λ shows. shows);
    runs = λ lattice design stimulus is. record {
      only = λ zero x y slices given.
          (a.gained, a.output, shows_end lattice design stimulus t x y slices given a.gained (gained_by (run lattice design stimulus) is zero));
      always = λ x y slices given no_failure no_want.
          a.status ∙ ap status_of (ends_as (run lattice design stimulus) is done (run_done lattice design stimulus t x y slices given) no_failure no_want);
    };
  }

-- between what a desk tells before and after

pub machines_told : (words : List (List ℕ)) (lost now answer : ℕ) (old new : Option Told) → Between old new (Answers words lost now answer)
    → Between old new (Machines words lost now answer)
machines_told words lost now answer None new a = tt
machines_told words lost now answer (Some t) None a = absurd a
machines_told words lost now answer (Some t) (Some n) a = machines words lost now answer t n a
