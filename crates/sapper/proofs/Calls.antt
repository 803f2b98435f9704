-- From the end of a command and its line to the answer of the call.
use Rattle.sap_lemmas.proofs.Common.{◌≡◌, ◌≢◌, ℕ, List, [], ◌++◌, length, take, arith, refl, sym, ◌∙◌, ap, subst, inl, inr, ◌⊎◌, Option, Some, None, IfSome, unwrap_or, Result, append-nil}
use Rattle.sap_desk.specs.Desk.{Told, Use}
use Rattle.sap_desk.specs.Cause.{counted}
use Rattle.sap_desk.specs.Whole.{Between, Gained, LostAtMostOne}
use Rattle.sap_stim.specs.declared.fault.StimFault.{StimFault}
use Rattle.sap_words.specs.Words.{Words, IsTwin, command_of}
use Rattle.sap_files.specs.Prelude.{Ending, Refusal, done, refused, failed, no_memory, no_command, lattice_refused, design_refused, part_refused, system_refused, wires_refused, stimulus_refused, module_refused, taint_refused, level_refused, lengths_apart, inputs_apart, wave_refused, asm_refused, status_of, status_of_refusal, line_of, IsFree, Asks, file, with_the, gives, prints, writes, stops, AreLawful, Cause, Files, Shows, end_of, Blames, Stands, FullFile, FullOutput, OutsideOf, Counted, Ends, FaultRose, Left, Moment, ending, ending_of}
use Rattle.sap_commands.specs.Commands.{asks, asks_for}
use Rattle.sap_files.specs.declared.failure.Failure.{Failure}
use Rattle.sap_files.specs.declared.failure.Failure.TheVariants.{Refused, Desk, PartFile, Memory}
use Rattle.sapper.specs.Answers.{Answers, MayAnswer}
use Rattle.sapper.specs.Exact.{Exact}
use Rattle.sapper.specs.Outside.{FullLines, Outside}
use Rattle.sapper.specs.Lines.{Reports, TakesMemory, Tells, ToldLine}
use Rattle.sap_commands.proofs.CommandLaws.{two_if}
use Rattle.sap_files.proofs.Lawful.{one_cause}
use Rattle.sap_files.proofs.Ended.{between_map, quiet_self, stopped_here}
use Rattle.sapper.proofs.Headline.{done_alone, free_status}

-- what words ask

pub named : (words : List (List ℕ)) (c : Words) (e : Ending) (a b : Moment) → command_of words ≡ Some c → Ends (asks c) e a b → Ends (asks_for words) e a b
named words c e a b is ended = rw is ended

-- an ending by its result
pub same_end : (words : List (List ℕ)) (r s : Result (Unit {0}) Failure) (a b : Moment) → r ≡ s → Ends (asks_for words) (ending_of r) a b → Ends (asks_for words) (ending_of s) a b
same_end words r s a b is ended = subst (λ x. Ends (asks_for words) (ending_of x) a b) is ended

-- nothing is told

silent_line : (t : Told) (lost : ℕ) (F : Type 0) → (F → ⊥) → ToldLine [] lost lost F t t
silent_line t lost F never = record {
  gained = inl (refl, sym (append-nil (t.written 2)));
  files = refl;
  blame = refl;
  output = refl;
  uses = refl;
  room = refl;
  full = λ rose. absurd (never rose);
}

silent_between : (lost : ℕ) (F : Type 0) (old : Option Told) → (F → ⊥) → Between old old (ToldLine [] lost lost F)
silent_between lost F None never = tt
silent_between lost F (Some t) never = silent_line t lost F never

pub silent : (m : Moment) → Tells [] m m
silent m = record {
  told = silent_between m.lost ((m.lost ≢ m.lost) × m.sure) m.told (λ (changed, sure). changed refl);
  faults = refl;
  lost = inl refl;
  sure = λ s. s;
}

-- words that are no command

pub no_words : (words : List (List ℕ)) (m : Moment) → command_of words ≡ None → Ends (asks_for words) (refused no_command) m m
no_words words m is = rw is (stopped_here no_command (quiet_self m))

-- a refusal for whose line there was no memory: it ended for want of memory

-- nothing is written before a refusal but that of a stimulus
none_shown : (a : Asks) (t : Told) (why : Refusal) (gained : List ℕ) → TakesMemory why → Shows a t (refused why) gained → gained ≡ []
none_shown (file name k rest) t why gained takes (inl (at, none)) = none
none_shown (file name k rest) t why gained takes (inr (v, has, shown)) = none_shown (rest v) t why gained takes shown
none_shown (with_the V Holds rest) t why gained takes (v, holds, shown) = none_shown (rest v) t why gained takes shown
none_shown (gives text) t why gained takes (is, shown) = cc
none_shown (prints name text fault) t why gained takes (bytes, there, is, shown) = absurd (never (fault bytes) is) where
  never : (o : Option StimFault) → refused why ≡ end_of o → ⊥
  never None e = cc
  never (Some f) e = let same : why ≡ stimulus_refused 1 f = cc in subst TakesMemory same takes
none_shown (writes name text) t why gained takes shown = shown.1
none_shown (stops other) t why gained takes shown = shown.1

starved_left : (a : Asks) (why : Refusal) (F : Type 0) (t n : Told) → TakesMemory why → Left a (refused why) F t n → Left a no_memory F t n
starved_left a why F t n takes l = record {
  leaves = l.leaves;
  gained = l.gained;
  output = l.output;
  shows = none_shown a t why l.gained takes l.shows;
  blames = l.blames;
  stands = l.stands;
  same = l.same;
  cause = inl tt;
  outside = l.outside;
}

starved_end : (a : Asks) (why : Refusal) (b c : Moment) → TakesMemory why → Ends a (refused why) b c → Ends a no_memory b c
starved_end a why b c takes ended = record {
  told =
      let F : Type 0 = FaultRose b c in
      between_map (Left a (refused why) F) (Left a no_memory F) b.told c.told (λ t n l. starved_left a why F t n takes l) ended.told;
  faults = ended.faults;
  lost = ended.lost;
  sure = ended.sure;
  may = inl tt;
}

-- an ending told as it is
pub told_as : (e : Ending) (answer : ℕ) (text : List ℕ) (b c : Moment) → answer ≡ status_of e → text ≡ line_of e → Tells text b c → Reports e answer b c
told_as e answer text b c status is tells = record {
  as_told = e;
  is_it = inl refl;
  status = status;
  line = subst (λ (l : List ℕ). Tells l b c) is tells;
}

pub told_end : (a : Asks) (e : Ending) (answer : ℕ) (b c d : Moment) → Ends a e b c → (r : Reports e answer c d) → Ends a r.as_told b c
told_end a e answer b c d ended r = elim r.is_it [
  | inl is ↦ subst (λ (f : Ending). Ends a f b c) (sym is) ended
  | inr starved ↦
      let (is, (why, was, takes)) = starved in
      subst (λ (f : Ending). Ends a f b c) (sym is) (starved_end a why b c takes (subst (λ (f : Ending). Ends a f b c) was ended))
]

-- no failure is told as done

not_done : (f : Failure) → done ≡ ending f → ⊥
not_done (Refused why) is = cc
not_done (Desk name) is = cc
not_done (PartFile name) is = cc
not_done Memory is = cc

pub told_not_done : (f : Failure) (answer : ℕ) (b c : Moment) → Reports (ending f) answer b c → answer ≢ 0
told_not_done f answer b c r zero =
    let is : r.as_told ≡ done = done_alone r.as_told (sym zero ∙ r.status) in
    elim r.is_it [
      | inl same ↦ not_done f (sym is ∙ same)
      | inr starved ↦ not_done Memory (sym is ∙ starved.0)
    ]

-- a failed call is counted, and nothing else is

not_six : (why : Refusal) → status_of_refusal why ≡ 6 → ⊥
not_six (design_refused fault) is = omega (arith, is)
not_six (part_refused part fault) is = omega (arith, is)
not_six no_command is = omega (arith, is)
not_six (level_refused word) is = omega (arith, is)
not_six (lattice_refused fault) is = omega (arith, is)
not_six (stimulus_refused place fault) is = omega (arith, is)
not_six (module_refused fault) is = omega (arith, is)
not_six (taint_refused fault) is = omega (arith, is)
not_six (lengths_apart one other) is = omega (arith, is)
not_six (inputs_apart cycle name) is = omega (arith, is)
not_six (system_refused fault) is = omega (arith, is)
not_six (wires_refused fault) is = omega (arith, is)
not_six (wave_refused fault) is = omega (arith, is)
not_six (asm_refused place fault) is = omega (arith, is)

pub failed_counts : (before now : ℕ) (e : Ending) → status_of e ≡ 6 → Counted before now e → now ≡ counted before
failed_counts before now done is rose = absurd (omega (arith, is))
failed_counts before now (refused why) is rose = absurd (not_six why is)
failed_counts before now (failed name) is rose = rose
failed_counts before now no_memory is rose = absurd (omega (arith, is))

pub others_keep : (before now : ℕ) (e : Ending) → (status_of e ≢ 6) → Counted before now e → now ≡ before
others_keep before now done is rose = rose
others_keep before now (refused why) is rose = rose
others_keep before now (failed name) is rose = absurd (is refl)
others_keep before now no_memory is rose = rose

-- which answers there may be

pub may_answer : (words : List (List ℕ)) (e : Ending) (answer : ℕ) (a b : Moment) → answer ≡ status_of e → Ends (asks_for words) e a b → MayAnswer words answer
may_answer words e answer a b status ended = record { ending = e; status = status; may = ended.may }

-- status 2: the words are no command, or `twin` names no level
pub two_words : (words : List (List ℕ)) (answer : ℕ) → MayAnswer words answer → answer ≡ 2 → (command_of words ≡ None) ⊎ IsTwin (command_of words)
two_words words answer m two = two_if (command_of words) m.ending m.may (sym m.status ∙ two)

-- the line after what was on channel 2 before

gained_from : (text : List ℕ) (mid lost now : ℕ) (t m n : Told) → m.written 2 ≡ t.written 2 → mid ≡ lost → Gained text mid now m n → Gained text lost now t n
gained_from text mid lost now t m n same is g = elim g [
  | inl whole ↦ inl (whole.0 ∙ is, whole.1 ∙ ap (λ (l : List ℕ). l ++ text) same)
  | inr cut ↦ inr (cut.0 ∙ ap counted is, (cut.1.0, cut.1.1, cut.1.2 ∙ ap (λ (l : List ℕ). l ++ take cut.1.0 text) same))
]

-- where a fault comes from

full_file : (name : List ℕ) (t m n : Told) → n.files ≡ m.files → n.room ≡ m.room → FullFile name t m → FullFile name t n
full_file name t m n files room full = ap (λ (files : Files). length (unwrap_or (files name) [])) files ∙ full ∙ sym room

full_output : (t m n : Told) → n.written 1 ≡ m.written 1 → n.room ≡ m.room → FullOutput t m → FullOutput t n
full_output t m n output room full = λ open_now. ap length output ∙ full open_now ∙ sym room

outside_after : (a : Asks) (t m n : Told) → n.files ≡ m.files → n.written 1 ≡ m.written 1 → n.room ≡ m.room → OutsideOf a t m → OutsideOf a t n
outside_after (file name k rest) t m n files output room (inl missing) = inl missing
outside_after (file name k rest) t m n files output room (inr (v, has, h)) = inr (v, has, outside_after (rest v) t m n files output room h)
outside_after (with_the V Holds rest) t m n files output room (v, holds, h) = (v, holds, outside_after (rest v) t m n files output room h)
outside_after (gives text) t m n files output room h = full_output t m n output room h
outside_after (prints name text fault) t m n files output room (inl missing) = inl missing
outside_after (prints name text fault) t m n files output room (inr full) = inr (full_output t m n output room full)
outside_after (writes name text) t m n files output room h = full_file name t m n files room h
outside_after (stops why) t m n files output room h = h

-- the whole call: a command ended so, and then its line was told

module _ (words : List (List ℕ)) (e : Ending) where
  answer_told : (answer lost mid now : ℕ) (F G : Type 0) (t m n : Told) → answer ≡ status_of e → mid ≡ lost → Left (asks_for words) e F t m
      → ToldLine (line_of e) mid now G m n → Answers words lost now answer t n
  answer_told answer lost mid now F G t m n status same l w = record {
    ending = e;
    status = status;
    line = gained_from (line_of e) mid lost now t m n l.same.lines same w.gained;
    leaves = rw w.files l.leaves;
    gained = l.gained;
    output = w.output ∙ l.output;
    shows = l.shows;
    blames = subst (λ (blame : List ℕ). Blames t.blame blame e) (sym w.blame) l.blames;
    stands = subst (λ (uses : ℕ → Use). Stands (asks_for words) t e l.gained t.uses uses) (sym w.uses) l.stands;
    room = w.room ∙ l.same.room;
    cause = l.cause;
  }

  answers_between : (answer lost mid now : ℕ) (F G : Type 0) (old one new : Option Told) → answer ≡ status_of e → mid ≡ lost
      → Between old one (Left (asks_for words) e F) → Between one new (ToldLine (line_of e) mid now G) → Between old new (Answers words lost now answer)
  answers_between answer lost mid now F G None one new status same o w = tt
  answers_between answer lost mid now F G (Some t) None new status same o w = absurd o
  answers_between answer lost mid now F G (Some t) (Some m) None status same o w = absurd w
  answers_between answer lost mid now F G (Some t) (Some m) (Some n) status same o w = answer_told answer lost mid now F G t m n status same o w

  pub answers : (answer : ℕ) (a b c : Moment) → answer ≡ status_of e → Ends (asks_for words) e a b → Tells (line_of e) b c
      → Between a.told c.told (Answers words a.lost c.lost answer)
  answers answer a b c status ended tells =
      answers_between answer a.lost b.lost c.lost (FaultRose a b) ((c.lost ≢ b.lost) × b.sure) a.told b.told c.told status ended.lost ended.told tells.told

  outside_between : (F G : Type 0) (mid now : ℕ) (old one new : Option Told) → F → Between old one (Left (asks_for words) e F)
      → Between one new (ToldLine (line_of e) mid now G) → Between old new (Outside words)
  outside_between F G mid now None one new rose o w = tt
  outside_between F G mid now (Some t) None new rose o w = absurd o
  outside_between F G mid now (Some t) (Some m) None rose o w = absurd w
  outside_between F G mid now (Some t) (Some m) (Some n) rose o w = outside_after (asks_for words) t m n w.files w.output w.room (o.outside rose)

  pub outside : (a b c : Moment) → Ends (asks_for words) e a b → Tells (line_of e) b c → (c.faults ≢ a.faults) → a.sure
      → Between a.told c.told (Outside words)
  outside a b c ended tells changed sure =
      outside_between (FaultRose a b) ((c.lost ≢ b.lost) × b.sure) b.lost c.lost a.told b.told c.told
      ((λ stands. changed (tells.faults ∙ stands)), sure) ended.told tells.told

  -- where a call on channel 2 failed

  full_told : (F G : Type 0) (mid now : ℕ) (t m n : Told) → G → Left (asks_for words) e F t m → ToldLine (line_of e) mid now G m n → FullLines t n
  full_told F G mid now t m n rose l w = λ open_now. w.full rose (l.same.lines_use ∙ open_now)

  full_between : (F G : Type 0) (mid now : ℕ) (old one new : Option Told) → G → Between old one (Left (asks_for words) e F)
      → Between one new (ToldLine (line_of e) mid now G) → Between old new FullLines
  full_between F G mid now None one new rose o w = tt
  full_between F G mid now (Some t) None new rose o w = absurd o
  full_between F G mid now (Some t) (Some m) None rose o w = absurd w
  full_between F G mid now (Some t) (Some m) (Some n) rose o w = full_told F G mid now t m n rose o w

  -- the count of failed calls on channel 2
  pub lost_once : (a b c : Moment) → Ends (asks_for words) e a b → Tells (line_of e) b c → LostAtMostOne a.lost c.lost
  lost_once a b c ended tells = subst (λ (k : ℕ). LostAtMostOne k c.lost) ended.lost tells.lost

  pub full_lines : (a b c : Moment) → Ends (asks_for words) e a b → Tells (line_of e) b c → (c.lost ≢ a.lost) → a.sure → Between a.told c.told FullLines
  full_lines a b c ended tells changed sure =
      full_between (FaultRose a b) ((c.lost ≢ b.lost) × b.sure) b.lost c.lost a.told b.told c.told
      ((λ stands. changed (stands ∙ ended.lost)), ended.sure sure) ended.told tells.told

  -- when each answer comes

  exact_told : (law : AreLawful (asks_for words)) (answer : ℕ) (t : Told) → answer ≡ status_of e → IsFree e ⊎ Cause (asks_for words) t e → Exact words t answer
  exact_told law answer t status (inl free) =
      let either : (answer ≡ 6) ⊎ (answer ≡ 7) = elim (free_status e free) [ inl six ↦ inl (status ∙ six) | inr seven ↦ inr (status ∙ seven) ] in
      record {
        only = λ no_six no_seven. absurd (elim either [ inl six ↦ no_six six | inr seven ↦ no_seven seven ]);
        always = λ f cause. inr either;
      }
  exact_told law answer t status (inr cause) = record {
    only = λ no_six no_seven. (e, cause, status);
    always = λ f other. inl (status ∙ ap status_of (one_cause (asks_for words) law t e f cause other));
  }

  exact_between : (law : AreLawful (asks_for words)) (answer : ℕ) (F : Type 0) (old new : Option Told) → answer ≡ status_of e
      → Between old new (Left (asks_for words) e F) → IfSome old (λ t. Exact words t answer)
  exact_between law answer F None new status o = tt
  exact_between law answer F (Some t) None status o = absurd o
  exact_between law answer F (Some t) (Some n) status o = exact_told law answer t status o.cause

  pub exact : AreLawful (asks_for words) → (answer : ℕ) (a b : Moment) → answer ≡ status_of e → Ends (asks_for words) e a b
      → IfSome a.told (λ t. Exact words t answer)
  exact law answer a b status ended = exact_between law answer (FaultRose a b) a.told b.told status ended.told
