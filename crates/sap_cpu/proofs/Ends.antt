-- The rows of a run on the text that `asm` gives end with what `cpu` prints.
use Rattle.sap_lemmas.proofs.Common.{◌≡◌, ℕ, zero, suc, ◌+◌, ◌*◌, Some, None, Ok, List, [], ◌∷◌, ◌++◌, length, get_or, map, map-map, refl, sym, ap, ap₂, subst, ◌∙◌, arith, codes, decimal, append_assoc, append-nil}
use Rattle.std.proofs.Math.Path.{fun_ext}
use Rattle.sap_text.specs.Places.{line}
use Rattle.sap_lattice.specs.Codes.{code_of}
use Rattle.sap_lattice.specs.Diamond.{diamond}
use Rattle.sap_lattice.specs.Levels.{order_of}
use Rattle.sap_tree.specs.Bare.{bare}
use Rattle.sap_tree.specs.Syntax.{DesignTree}
use Rattle.sap_names.specs.Entities.{entities_of}
use Rattle.sap_meaning.specs.Prelude.{Program, Store, After, Tagged, cycle, first, labelled_run, own, run_from, stay, StreamFits}
use Rattle.sap_resolved.specs.Fill.{program_of}
use Rattle.sap_layout.proofs.Entities.{aside_entity, entities_aside}
use Rattle.sap_layout.proofs.Programs.{one_program}
use Rattle.sap_interface.specs.StandsFor.{Named}
use Rattle.sap_stim.specs.declared.field.Field.{Field}
use Rattle.sap_stim.specs.declared.field.Field.TheVariants as field
use Rattle.sap_stim.specs.declared.stimulus.Parsed.{Parsed}
use Rattle.sap_stim.specs.Rows.{Shown, all_shown, shown_text}
use Rattle.sap_stim.specs.Stimulus.{stimulus_of}
use Rattle.sap_sim.specs.Labelled.Fields.{design_fields}
use Rattle.sap_sim.specs.Labelled.LabelledRows.{labelled_row, labelled_rows, register_shown, registers_shown, rows_of_run}
use Rattle.sap_sim.specs.Labelled.RunOf.{read_for}
use Rattle.sap_sim.specs.Told.{told_from}
use Rattle.sap_sim.proofs.labelled.DesignFields.{by_widths}
use Rattle.sap_meaning.specs.State.{input_widths}
use Rattle.sap_machine.specs.declared.user.User.{User}
use Rattle.sap_machine.specs.declared.user.User.TheVariants.{A, B}
use Rattle.sap_machine.specs.Assembly.{assembled}
use Rattle.sap_machine.specs.Design.{machine_design}
use Rattle.sap_machine.specs.Laws.{after_cycles, Keeps, RunsTheTable, word}
use Rattle.sap_machine.specs.Machine as the
use Rattle.sap_machine.specs.Slices.{after_slices}
use Rattle.sap_machine.specs.Table.{UserState}
use Rattle.sap_machine.specs.Text.{cpu_text, in_file, user_after, user_line, users_text}
use Rattle.sap_machine.proofs.Literal.{machine, machine_world}
use Rattle.sap_machine.proofs.Resolved.{machine_is, program_is}
use Rattle.sap_machine.proofs.Rows.{turn}
use Rattle.sap_machine.proofs.Run.{reached, runs_the_table, words_in}
use Rattle.sap_machine.proofs.View.{Numbers, store_of}
use Rattle.sap_machine.proofs.Whole.{At, boots, first_kernel, starts, runs, leaves}
use Rattle.sap_cpu.specs.Ends.{kept_text, RunsEndAsPrinted}
use Rattle.sap_cpu.specs.Streams.{BringsPrograms}
use Rattle.sap_cpu.proofs.Streams.{asm_brings_programs}

-- ---- a design that is the machine's, places aside

abbrev names_of : DesignTree → List (List ℕ)
names_of d = map (λ e. e.name.name) (entities_of d)

names_aside : (d : DesignTree) → names_of (bare d) ≡ names_of d
names_aside d = ap (map (λ e. e.name.name)) (entities_aside d) ∙ map-map (λ e. e.name.name) aside_entity (entities_of d)

abbrev with_names : Program → List (List ℕ) → Named
with_names p names = record { program = p; names = names; code = code_of (order_of diamond) }

abbrev rows_with : Program → List (List ℕ) → (stream : List (List Tagged)) → List ℕ
rows_with p names stream = rows_of_run diamond (with_names p names) 1 (labelled_run p stream)

module _ (design : DesignTree) (same : bare design ≡ bare machine_design) where
  program_alike : program_of diamond design ≡ program_of diamond machine_design
  program_alike = one_program diamond design machine_design same

  names_alike : names_of design ≡ names_of machine_design
  names_alike = sym (names_aside design) ∙ ap names_of same ∙ names_aside machine_design

  rows_alike : (stream : List (List Tagged)) → labelled_rows diamond design stream ≡ labelled_rows diamond machine_design stream
  rows_alike stream = ap₂ (λ p names. rows_with p names stream) program_alike names_alike

  read_alike : (text : List ℕ) → read_for diamond design text ≡ read_for diamond machine_design text
  read_alike text =
      let fields : design_fields design ≡ design_fields machine_design =
      by_widths diamond design ∙ ap (λ (p : Program). map (λ (w : ℕ). field.Tagged w) (input_widths p.world.entities)) program_alike ∙ sym (by_widths diamond machine_design) in
      ap (λ (fs : List Field). stimulus_of diamond fs text) fields

-- ---- the last row

module _ {X : Type 0} (tell : (cycle : ℕ) → X → List ℕ) (d : X) where
  last_told : (c k : ℕ) (xs : List X) → length xs ≡ suc k → (before : List ℕ) × (told_from tell c xs ≡ before ++ tell (c + k) (get_or xs k d))
  last_told c k [] long = absurd (omega (arith, long))
  last_told c zero (x ∷ []) long = ([], append-nil (tell c x) ∙ ap (λ (n : ℕ). tell n x) (let e : c ≡ c + 0 = omega arith in e))
  last_told c zero (x ∷ (y ∷ ys)) long = absurd (omega (arith, long))
  last_told c (suc k) (x ∷ xs) long =
      let (before, is) = last_told (c + 1) k xs (omega (arith, long)) in (
        tell c x ++ before,
        ap (λ (l : List ℕ). tell c x ++ l) is
            ∙ sym (append_assoc (tell c x) before (tell (c + 1 + k) (get_or xs k d)))
            ∙ ap (λ (n : ℕ). (tell c x ++ before) ++ tell n (get_or xs k d)) (let e : c + 1 + k ≡ c + suc k = omega arith in e),
      )

run_long : (p : Program) (s : Store) (stream : List (List Tagged)) → length (run_from p s stream) ≡ length stream
run_long p s [] = refl
run_long p s (inputs ∷ rest) = ap suc (run_long p (cycle p inputs s).store rest)

texts : List Shown → List ℕ
texts [] = []
texts (s ∷ ss) = shown_text s ++ texts ss

shown_parts : (ss ts : List Shown) → all_shown (ss ++ ts) ≡ texts ss ++ all_shown ts
unfolding texts
shown_parts [] ts = refl
shown_parts (s ∷ ss) ts = ap (λ (l : List ℕ). shown_text s ++ l) (shown_parts ss ts) ∙ sym (append_assoc (shown_text s) (texts ss) (all_shown ts))

abbrev names : List (List ℕ)
names = names_of machine_design

abbrev named : Named
named = with_names machine names

abbrev shown_at : Store → (x : ℕ) → Shown
shown_at s x = register_shown diamond named s x

-- the registers of the pipeline and of its turns, and those in which the kernel keeps both users
abbrev pipeline : Store → List Shown
pipeline s = shown_at s 2 ∷ shown_at s 3 ∷ shown_at s 4 ∷ shown_at s 5 ∷ shown_at s 6 ∷ shown_at s 7 ∷ []

abbrev kept : Store → List Shown
kept s = shown_at s 8 ∷ shown_at s 9 ∷ shown_at s 10 ∷ shown_at s 11 ∷ []

all_registers : (s : Store) → registers_shown diamond named s 0 machine_world.entities ≡ pipeline s ++ kept s
all_registers s = refl

abbrev kept_numbers : (p q r t : ℕ) → List ℕ
kept_numbers p q r t =
    line (codes " apc=" ++ decimal p ++ codes "@a aacc=" ++ decimal q ++ codes "@a bpc=" ++ decimal r ++ codes "@b bacc=" ++ decimal t ++ codes "@b")

-- a register at the level of this name
abbrev held : (name level : List ℕ) → (value tag : ℕ) → Shown
held name level value tag = record { name = name; value = value; level = Some level; tag = tag }

six_parts : (a b c d e f rest : List ℕ) → (a ++ b ++ c ++ d ++ e ++ f) ++ rest ≡ a ++ (b ++ (c ++ (d ++ (e ++ (f ++ rest)))))
six_parts a b c d e f rest = simp append_assoc

nine_parts : (a b c d e f g h i rest : List ℕ) → (a ++ b ++ c ++ d ++ e ++ f ++ g ++ h ++ i) ++ rest ≡ a ++ (b ++ (c ++ (d ++ (e ++ (f ++ (g ++ (h ++ (i ++ rest))))))))
nine_parts a b c d e f g h i rest = simp append_assoc

-- NAME=DIGITS@LEVEL behind a space, and the rest of a row
abbrev with_rest : (name level digits rest : List ℕ) → List ℕ
with_rest name level digits rest = (codes " " ++ name ++ codes "=" ++ digits ++ codes "@" ++ level) ++ rest

rest_last : (name level digits rest : List ℕ) → with_rest name level digits rest ≡ codes " " ++ (name ++ (codes "=" ++ (digits ++ (codes "@" ++ (level ++ rest)))))
rest_last name level digits rest = six_parts (codes " ") name (codes "=") digits (codes "@") level rest

joined : (p q r t : List ℕ)
    → with_rest (codes "apc") (codes "a") p (with_rest (codes "aacc") (codes "a") q (with_rest (codes "bpc") (codes "b") r (with_rest (codes "bacc") (codes "b") t (10 ∷ []))))
    ≡ line (codes " apc=" ++ p ++ codes "@a aacc=" ++ q ++ codes "@a bpc=" ++ r ++ codes "@b bacc=" ++ t ++ codes "@b")
joined p q r t =
    rest_last (codes "apc") (codes "a") p _
    ∙ ap (λ (l : List ℕ). codes " apc=" ++ (p ++ (codes "@a" ++ l))) (rest_last (codes "aacc") (codes "a") q _)
    ∙ ap (λ (l : List ℕ). codes " apc=" ++ (p ++ (codes "@a aacc=" ++ (q ++ (codes "@a" ++ l))))) (rest_last (codes "bpc") (codes "b") r _)
    ∙ ap (λ (l : List ℕ). codes " apc=" ++ (p ++ (codes "@a aacc=" ++ (q ++ (codes "@a bpc=" ++ (r ++ (codes "@b" ++ l))))))) (rest_last (codes "bacc") (codes "b") t (10 ∷ []))
    ∙ sym (nine_parts (codes " apc=") p (codes "@a aacc=") q (codes "@a bpc=") r (codes "@b bacc=") t (codes "@b") (10 ∷ []))

four_shown : (p q r t : ℕ) (g h : ℕ)
    → all_shown (held (codes "apc") (codes "a") p g ∷ held (codes "aacc") (codes "a") q g ∷ held (codes "bpc") (codes "b") r h ∷ held (codes "bacc") (codes "b") t h ∷ [])
    ≡ kept_numbers p q r t
four_shown p q r t g h = joined (decimal p) (decimal q) (decimal r) (decimal t)

kept_shown : (u : User) (x y : ℕ) (v : Numbers) → all_shown (kept (store_of (turn u x y) v)) ≡ kept_numbers (v (own 8)) (v (own 9)) (v (own 10)) (v (own 11))
unfolding diamond
kept_shown u x y v = four_shown (v (own 8)) (v (own 9)) (v (own 10)) (v (own 11)) (code_of (order_of diamond) 1) (code_of (order_of diamond) 2)

-- what stands in a row before the registers in which the kernel keeps both users
abbrev front : (cycle : ℕ) → Store → List ℕ
front n s = codes "cycle " ++ decimal n ++ codes ":" ++ texts (pipeline s)

regrouped : (c d e t k : List ℕ) → c ++ d ++ e ++ (t ++ k) ≡ (c ++ d ++ e ++ t) ++ k
regrouped c d e t k = simp append_assoc

row_ends : (n : ℕ) (s : Store) → labelled_row diamond named n s ≡ front n s ++ all_shown (kept s)
row_ends n s = ap (λ (l : List ℕ). codes "cycle " ++ decimal n ++ codes ":" ++ l) (shown_parts (pipeline s) (kept s))
    ∙ regrouped (codes "cycle ") (decimal n) (codes ":") (texts (pipeline s)) (all_shown (kept s))

-- the kernel's state behind a slice
record Switched (s : Store) : Type 0 where
  user : User
  first_level : ℕ
  second_level : ℕ
  numbers : Numbers
  is : s ≡ store_of (turn user first_level second_level) numbers

switched : (words : User → ℕ → ℕ) (n c : ℕ) (s : Store) → c ≡ 17 + 6 * n → At words c s → Switched s
switched words n c s e (boots x y v early is now) = let no : ⊥ = omega arith in elim no [ ]
switched words n c s e (first_kernel x y v is_c is now) = let no : ⊥ = omega arith in elim no [ ]
switched words n c s e (starts m x y v ec is now) = record { user = _; first_level = x; second_level = y; numbers = v; is = is }
switched words n c s e (runs m r d x y v full ec is now) = let no : ⊥ = omega arith in elim no [ ]
switched words n c s e (leaves m x y v ec is now) = let no : ⊥ = omega arith in elim no [ ]

kept_ends : (n : ℕ) (s : Store) (a b : UserState) → Switched s → Keeps A a s → Keeps B b s → (before : List ℕ) × (labelled_row diamond named n s ≡ before ++ kept_text a b)
kept_ends n s a b w keeps_a keeps_b = (
  front n s,
  row_ends n s
      ∙ ap (λ (l : List ℕ). front n s ++ l)
      (ap (λ (z : Store). all_shown (kept z)) w.is
      ∙ kept_shown w.user w.first_level w.second_level w.numbers
      ∙ ap (λ (z : Store). kept_numbers (z.number (own 8)) (z.number (own 9)) (z.number (own 10)) (z.number (own 11))) (sym w.is)
      ∙ ap₂ (λ (p q : ℕ). kept_numbers p q (s.number (own 10)) (s.number (own 11))) keeps_a.pc keeps_a.acc
      ∙ ap₂ (λ (r t : ℕ). kept_numbers a.pc a.acc r t) keeps_b.pc keeps_b.acc),
)

-- ---- the run

-- the rows of a program on a stream end with two users, as it keeps them behind the last cycle
abbrev EndsWith : (a b : UserState) → (stream : List (List Tagged)) → Program → Type 0
EndsWith a b stream p = (before : List ℕ) × (rows_with p names stream ≡ before ++ kept_text a b)

module _ (a b : UserState) (n : ℕ) (stream : List (List Tagged)) (fit : StreamFits machine_world stream) (long : length stream ≡ 17 + 6 * n) where
  abbrev last : Store
  last = (after_cycles machine (suc (16 + 6 * n)) stream).store

  literal_ends : Keeps A a last → Keeps B b last → EndsWith a b stream machine
  literal_ends keeps_a keeps_b =
      let k : ℕ = 16 + 6 * n in
      let at : Switched last = switched (words_in stream) n (suc k) last (omega arith) (reached stream fit k (omega (arith, long))).1 in
      let run : List After = labelled_run machine stream in
      let size : length run ≡ suc k = run_long machine (first machine_world) stream ∙ long ∙ (let e : 17 + 6 * n ≡ suc k = omega arith in e) in
      let (before, is) = last_told (λ c (x : After). labelled_row diamond named c x.store) (stay (first machine_world)) 1 k run size in
      let (row, ends) = kept_ends (1 + k) last a b at keeps_a keeps_b in
      (before ++ row, is ∙ ap (λ (l : List ℕ). before ++ l) ends ∙ sym (append_assoc before row (kept_text a b)))

-- the words that a stream brings decide what is kept
keeps_words : (u : User) (words : List ℕ) (n : ℕ) (stream : List (List Tagged)) → StreamFits the.machine.world stream → length stream ≡ 17 + 6 * n
    → ((i : ℕ) → word the.machine.world u stream i ≡ get_or words i 0) → Keeps u (user_after u words n) (after_cycles the.machine (17 + 6 * n) stream).store
keeps_words u words n stream fit long of_words =
    let table : RunsTheTable the.machine = subst RunsTheTable (sym machine_is) runs_the_table in
    subst (λ (f : ℕ → ℕ). Keeps u (after_slices u f n) (after_cycles the.machine (17 + 6 * n) stream).store) (fun_ext of_words)
    (table stream fit n (omega (arith, long)) u)

stream_ends : (a b : List ℕ) (n : ℕ) (stream : List (List Tagged)) → BringsPrograms a b n stream
    → EndsWith (user_after A a n) (user_after B b n) stream (program_of diamond machine_design)
stream_ends a b n stream brought =
    let x : UserState = user_after A a n in
    let y : UserState = user_after B b n in
    let e : 17 + 6 * n ≡ suc (16 + 6 * n) = omega arith in
    let moved = λ (u : User) (state : UserState) (keeps : Keeps u state (after_cycles the.machine (17 + 6 * n) stream).store).
    subst (λ p. Keeps u state (after_cycles p (suc (16 + 6 * n)) stream).store) machine_is
    (subst (λ (c : ℕ). Keeps u state (after_cycles the.machine c stream).store) e keeps) in
    let fit : StreamFits machine_world stream = subst (λ p. StreamFits p.world stream) machine_is brought.fits in
    subst (EndsWith x y stream) (sym program_is)
    (literal_ends x y n stream fit brought.cycles
    (moved A x (keeps_words A a n stream brought.fits brought.cycles brought.words_of_a))
    (moved B y (keeps_words B b n stream brought.fits brought.cycles brought.words_of_b)))

-- ---- what `cpu` prints

printed : (first second a b : List ℕ) (n : ℕ) → assembled first ≡ Ok a → assembled second ≡ Ok b
    → cpu_text first second n ≡ Ok (user_line (codes "a") (user_after A a n) ++ user_line (codes "b") (user_after B b n))
unfolding users_text
printed first second a b n one other =
    ap (λ r. in_file 1 r (λ x. in_file 2 (assembled second) (λ y. Ok (users_text x y n)))) one ∙ ap (λ r. in_file 2 r (λ y. Ok (users_text a y n))) other

pub runs_end_as_printed : RunsEndAsPrinted
runs_end_as_printed design first second text n same gives count =
    let (a, b, stream, one, other, read, brought) = asm_brings_programs first second text n gives count in
    let whole : read_for diamond design text ≡ record { stream = stream; fault = None } = read_alike design same text ∙ read in
    let rows : labelled_rows diamond design (read_for diamond design text).stream ≡ labelled_rows diamond machine_design stream =
    ap (λ (p : Parsed). labelled_rows diamond design p.stream) whole ∙ rows_alike design same stream in
    let (before, ends) = stream_ends a b n stream brought in (
      ap (λ (p : Parsed). p.fault) whole,
      record {
        a = a;
        b = b;
        words_of_a = one;
        words_of_b = other;
        prints = printed first second a b n one other;
        stream = stream;
        cycles = brought.cycles;
        of_run = rows;
        keeps_a = keeps_words A a n stream brought.fits brought.cycles brought.words_of_a;
        keeps_b = keeps_words B b n stream brought.fits brought.cycles brought.words_of_b;
        before = before;
        ends = rows ∙ ends;
      },
    )
