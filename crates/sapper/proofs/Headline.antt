-- The headline follows from what a `compile` asks.
use Rattle.sap_lemmas.proofs.Common.{◌≡◌, ◌≢◌, ℕ, List, refl, sym, ◌∙◌, ap, subst, inl, inr, ◌⊎◌, arith, Option, Some, None, IfSome, some_unique}
use Rattle.sap_desk.specs.Desk.{Told}
use Rattle.sap_desk.specs.Whole.{Between}
use Rattle.sap_desk.proofs.Steps.{at_name-same}
use Rattle.sap_lattice.specs.Levels.{Levels}
use Rattle.sap_tree.specs.Syntax.{DesignTree}
use Rattle.sap_words.specs.Words.{Words, compile}
use Rattle.sap_files.specs.Prelude.{Has, IsLatticeFile, IsWellFormedText, lattice_file, design_file, Ending, Refusal, done, refused, failed, no_memory, no_command, lattice_refused, design_refused, part_refused, system_refused, wires_refused, stimulus_refused, module_refused, taint_refused, level_refused, lengths_apart, inputs_apart, wave_refused, asm_refused, status_of, IsFree, file, writes, Cause, Files, Leaves, Written}
use Rattle.sap_commands.specs.Commands.{IsModuleText, asks, asks_for, asks_if}
use Rattle.sapper.specs.Answers.{Answers}
use Rattle.sapper.specs.Exact.{Exact}
use Rattle.sapper.specs.Headline.{Headline, MeansDesign}
use Rattle.sap_files.proofs.Lattices.{lattice_lawful}
use Rattle.sap_files.proofs.Lawful.{not_both, one_value}
use Rattle.sap_files.proofs.Modules.{one_module}

-- a text of a module for the design means it
means : (ls : Levels) (d : DesignTree) (text : List ℕ) → IsModuleText ls d text → MeansDesign ls d text
means ls d text (net, is, explained) = record {
  net = net;
  is_module = is.is_module;
  no_other = λ other other_is. one_module text other net other_is is.is_module;
  interface = is.stands.interface;
  starts = is.starts;
  one_run = is.has_one_run;
  means = is.stands.stands;
  agree = is.agrees;
  look_alike = is.looks_alike;
}

-- the status 0 is that of a call that is done alone
pub done_alone : (e : Ending) → 0 ≡ status_of e → e ≡ done
done_alone done is = refl
done_alone (refused (design_refused fault)) is = absurd (omega (arith, is))
done_alone (refused no_command) is = absurd (omega (arith, is))
done_alone (refused (level_refused word)) is = absurd (omega (arith, is))
done_alone (refused (lattice_refused fault)) is = absurd (omega (arith, is))
done_alone (refused (part_refused part fault)) is = absurd (omega (arith, is))
done_alone (refused (system_refused fault)) is = absurd (omega (arith, is))
done_alone (refused (wires_refused fault)) is = absurd (omega (arith, is))
done_alone (refused (stimulus_refused place fault)) is = absurd (omega (arith, is))
done_alone (refused (module_refused fault)) is = absurd (omega (arith, is))
done_alone (refused (taint_refused fault)) is = absurd (omega (arith, is))
done_alone (refused (lengths_apart one other)) is = absurd (omega (arith, is))
done_alone (refused (inputs_apart cycle name)) is = absurd (omega (arith, is))
done_alone (refused (wave_refused fault)) is = absurd (omega (arith, is))
done_alone (refused (asm_refused place fault)) is = absurd (omega (arith, is))
done_alone (failed name) is = absurd (omega (arith, is))
done_alone no_memory is = absurd (omega (arith, is))

-- an ending without a cause has the status 6 or 7
pub free_status : (e : Ending) → IsFree e → (status_of e ≡ 6) ⊎ (status_of e ≡ 7)
free_status done free = absurd free
free_status (refused why) free = absurd free
free_status (failed name) free = inl refl
free_status no_memory free = inr refl

-- and where it has neither it has a cause
pub by_cause : (words : List (List ℕ)) (t : Told) (answer : ℕ) (e : Ending) → answer ≡ status_of e → IsFree e ⊎ Cause (asks_for words) t e → answer ≢ 6 → answer ≢ 7
    → Cause (asks_for words) t e
by_cause words t answer e status (inl free) no_failure no_want = elim (free_status e free) [
  | inl six ↦ absurd (no_failure (status ∙ six))
  | inr seven ↦ absurd (no_want (status ∙ seven))
]
by_cause words t answer e status (inr cause) no_failure no_want = cause

module _ (lattice design out : List ℕ) (answer : ℕ) (t n : Told) where
  written : Written (asks (compile lattice design out)) t n.files
      → (ls : Levels) × (d : DesignTree) × Has t lattice IsLatticeFile ls × Has t design (IsWellFormedText ls) d
      × ((text : List ℕ) × (n.files out ≡ Some text) × MeansDesign ls d text)
  written (ls, has, (d, is, (text, module_for, files))) =
      (ls, d, has, is, (text, ap (λ (fs : Files). fs out) files ∙ at_name-same out (Some text) t.files, means ls d text module_for))

  always : ((e : Ending) → Cause (asks (compile lattice design out)) t e → (answer ≡ status_of e) ⊎ ((answer ≡ 6) ⊎ (answer ≡ 7)))
      → (ls : Levels) (d : DesignTree) → Has t lattice IsLatticeFile ls → Has t design (IsWellFormedText ls) d → answer ≢ 6 → answer ≢ 7 → answer ≡ 0
  always exact ls d has is no_failure no_want = elim (exact done (inr (ls, has, inr (d, is, refl)))) [
    | inl zero ↦ zero
    | inr (inl six) ↦ absurd (no_failure six)
    | inr (inr seven) ↦ absurd (no_want seven)
  ]

-- a file that is there and stands for no well-formed design
module _ (lattice design out : List ℕ) (t : Told) (ls : Levels) (source : List ℕ) (there : t.files design ≡ Some source)
    (none : (d : DesignTree) → ¬ (IsWellFormedText ls source d)) where
  at_design : (e : Ending) → Cause (file design (design_file ls) (λ d. writes out (IsModuleText ls d))) t e → 1 ≡ status_of e
  at_design e (inl (why, ends, is)) = sym (ap status_of ends ∙ ap (λ (w : Refusal). status_of (refused w)) is.refused.1)
  at_design e (inr (d, has, is)) =
      absurd (none d (subst (λ (bytes : List ℕ). IsWellFormedText ls bytes d) (some_unique (t.files design) has.bytes source has.file there) has.stands))

  at_lattice : Has t lattice IsLatticeFile ls → (e : Ending) → Cause (asks (compile lattice design out)) t e → 1 ≡ status_of e
  at_lattice has e (inl (why, ends, is)) = absurd (not_both lattice_file lattice_lawful t lattice ls why has is)
  at_lattice has e (inr (other, had, rest)) =
      let P : Levels → Type 0 = λ l. Cause (file design (design_file l) (λ d. writes out (IsModuleText l d))) t e in
      at_design e (subst P (one_value lattice_file lattice_lawful t lattice other ls had has) rest)

  told : (answer : ℕ) → Has t lattice IsLatticeFile ls → (e : Ending) × Cause (asks (compile lattice design out)) t e × (answer ≡ status_of e) → answer ≡ 1
  told answer has (e, cause, is) = is ∙ sym (at_lattice has e cause)

headline : (words : List (List ℕ)) (lost now answer : ℕ) (t n : Told) → Answers words lost now answer t n → Exact words t answer → Headline words answer t n
headline words lost now answer t n a exact = λ lattice design out is. record {
  only = λ zero.
      let ended : a.ending ≡ done = done_alone a.ending (sym zero ∙ a.status) in
      let left : Leaves (asks_for words) t n.files done = subst (λ (e : Ending). Leaves (asks_for words) t n.files e) ended a.leaves in
      written lattice design out answer t n (subst (λ (c : Option Words). Written (asks_if c) t n.files) is left);
  always = always lattice design out answer t n
      (subst (λ (c : Option Words). (e : Ending) → Cause (asks_if c) t e → (answer ≡ status_of e) ⊎ ((answer ≡ 6) ⊎ (answer ≡ 7))) is exact.always);
  refuses = λ ls source has there none no_failure no_want.
      told lattice design out t ls source there none answer has
      (subst (λ (c : Option Words). (e : Ending) × Cause (asks_if c) t e × (answer ≡ status_of e)) is (exact.only no_failure no_want));
}

pub headline_told : (words : List (List ℕ)) (lost now answer : ℕ) (old new : Option Told) → Between old new (Answers words lost now answer)
    → IfSome old (λ t. Exact words t answer) → Between old new (Headline words answer)
headline_told words lost now answer None new a exact = tt
headline_told words lost now answer (Some t) None a exact = absurd a
headline_told words lost now answer (Some t) (Some n) a exact = headline words lost now answer t n a exact
