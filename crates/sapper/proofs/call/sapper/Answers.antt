use Rattle.sap_lemmas.proofs.Common.{refl, sym, ◌∙◌, subst, inl, map, string_bytes}
use Rattle.sap_desk.specs.Whole.{LostAtMostOne}
use Rattle.sap_files.specs.Prelude.{done, no_command, refused, line_of, ending, seen}
use Rattle.sapper.specs.Lines.{Tells}
use Rattle.sapper.proofs.Calls.{answers, exact, failed_counts, full_lines, lost_once, may_answer, no_words, others_keep, outside, same_end, silent, told_end, told_not_done, two_words}
use Rattle.sapper.proofs.Headline.{headline_told}
use Rattle.sapper.proofs.Links.{links_told}
use Rattle.sapper.proofs.Machines.{machines_told}
use Rattle.sapper.proofs.Taints.{taints_told}
use Rattle.sapper.proofs.Tidy.{explains_told, tidy_told}
use Rattle.sapper.proofs.Waves.{unwaves_told, waves_told}
use Rattle.sap_commands.proofs.CommandLaws.{lawful_words}
use Rattle.sapper.proofs.call.sapper.Goals as goal

pub returns-in-Some-Ok-clause-answers : goal.returns-in-Some-Ok-clause-answers
returns-in-Some-Ok-clause-answers g c =
    answers (map string_bytes c.args.words.now) done 0 _ _ _ refl
    (same_end (map string_bytes c.args.words.now) _ _ _ _ c.in-Some-Ok.field-0-is c.in-Some-Ok.ensures.asked) (silent _)

pub returns-in-Some-Ok-clause-exact : goal.returns-in-Some-Ok-clause-exact
returns-in-Some-Ok-clause-exact g c =
    exact (map string_bytes c.args.words.now) done (lawful_words (map string_bytes c.args.words.now)) 0 _ _ refl
    (same_end (map string_bytes c.args.words.now) _ _ _ _ c.in-Some-Ok.field-0-is c.in-Some-Ok.ensures.asked)

pub returns-in-Some-Err-clause-answers : goal.returns-in-Some-Err-clause-answers
returns-in-Some-Err-clause-answers g c =
    let words = map string_bytes c.args.words.now in
    let ended = same_end words _ _ _ _ c.in-Some-Err.field-0-is c.in-Some-Err.ensures.asked in
    let told = c.report.ensures in
    answers words told.as_told c.report.result _ _ _ told.status (told_end _ (ending c.in-Some-Err.failure) c.report.result _ _ _ ended told) told.line

pub returns-in-Some-Err-clause-exact : goal.returns-in-Some-Err-clause-exact
returns-in-Some-Err-clause-exact g c =
    let words = map string_bytes c.args.words.now in
    let ended = same_end words _ _ _ _ c.in-Some-Err.field-0-is c.in-Some-Err.ensures.asked in
    let told = c.report.ensures in
    exact words told.as_told (lawful_words words) c.report.result _ _ told.status (told_end _ (ending c.in-Some-Err.failure) c.report.result _ _ _ ended told)

pub returns-in-Some-Err-clause-outside : goal.returns-in-Some-Err-clause-outside
returns-in-Some-Err-clause-outside g c = λ changed sure.
    let words = map string_bytes c.args.words.now in
    let ended = same_end words _ _ _ _ c.in-Some-Err.field-0-is c.in-Some-Err.ensures.asked in
    let told = c.report.ensures in
    outside words told.as_told _ _ _ (told_end _ (ending c.in-Some-Err.failure) c.report.result _ _ _ ended told) told.line changed sure

pub returns-in-Some-Err-clause-channel_2_full : goal.returns-in-Some-Err-clause-channel_2_full
returns-in-Some-Err-clause-channel_2_full g c = λ changed sure.
    let words = map string_bytes c.args.words.now in
    let ended = same_end words _ _ _ _ c.in-Some-Err.field-0-is c.in-Some-Err.ensures.asked in
    let told = c.report.ensures in
    full_lines words told.as_told _ _ _ (told_end _ (ending c.in-Some-Err.failure) c.report.result _ _ _ ended told) told.line changed sure

pub returns-in-Some-Err-clause-failed : goal.returns-in-Some-Err-clause-failed
returns-in-Some-Err-clause-failed g c = λ six.
    let words = map string_bytes c.args.words.now in
    let ended = same_end words _ _ _ _ c.in-Some-Err.field-0-is c.in-Some-Err.ensures.asked in
    let told = c.report.ensures in
    told.line.faults
    ∙ failed_counts _ _ told.as_told (sym told.status ∙ six) (told_end _ (ending c.in-Some-Err.failure) c.report.result _ _ _ ended told).faults

pub returns-in-Some-Err-clause-counted : goal.returns-in-Some-Err-clause-counted
returns-in-Some-Err-clause-counted g c = λ other.
    let words = map string_bytes c.args.words.now in
    let ended = same_end words _ _ _ _ c.in-Some-Err.field-0-is c.in-Some-Err.ensures.asked in
    let told = c.report.ensures in
    told.line.faults
    ∙ others_keep _ _ told.as_told (λ six. other (told.status ∙ six)) (told_end _ (ending c.in-Some-Err.failure) c.report.result _ _ _ ended told).faults

pub returns-in-Some-Ok-clause-lost : goal.returns-in-Some-Ok-clause-lost
returns-in-Some-Ok-clause-lost g c = inl (same_end (map string_bytes c.args.words.now) _ _ _ _ c.in-Some-Ok.field-0-is c.in-Some-Ok.ensures.asked).lost

pub returns-in-Some-Err-clause-lost : goal.returns-in-Some-Err-clause-lost
returns-in-Some-Err-clause-lost g c =
    let words = map string_bytes c.args.words.now in
    let ended = same_end words _ _ _ _ c.in-Some-Err.field-0-is c.in-Some-Err.ensures.asked in
    let told = c.report.ensures in
    lost_once words told.as_told _ _ _ (told_end _ (ending c.in-Some-Err.failure) c.report.result _ _ _ ended told) told.line

pub returns-in-Some-Ok-clause-silent : goal.returns-in-Some-Ok-clause-silent
returns-in-Some-Ok-clause-silent g c = λ zero. (same_end (map string_bytes c.args.words.now) _ _ _ _ c.in-Some-Ok.field-0-is c.in-Some-Ok.ensures.asked).lost

pub returns-in-Some-Err-clause-silent : goal.returns-in-Some-Err-clause-silent
returns-in-Some-Err-clause-silent g c = λ zero. absurd (told_not_done c.in-Some-Err.failure c.report.result _ _ c.report.ensures zero)

pub returns-in-None-clause-lost : goal.returns-in-None-clause-lost
returns-in-None-clause-lost g c = subst (λ d. LostAtMostOne (g.D.Desk.lost d) (g.D.Desk.lost c.tell.new.desk)) (c.in-None.ensures.nothing refl) c.tell.ensures.lost

pub returns-in-None-clause-answers : goal.returns-in-None-clause-answers
returns-in-None-clause-answers g c =
    let at = seen g.D.Desk.told g.D.Desk.faults g.D.Desk.lost g.D.Desk.sure in
    let told : Tells (line_of (refused no_command)) (at c.args.desk.now) (at c.tell.new.desk) =
    subst (λ d. Tells (line_of (refused no_command)) (at d) (at c.tell.new.desk)) (c.in-None.ensures.nothing refl) c.tell.ensures in
    answers (map string_bytes c.args.words.now) (refused no_command) 2 _ _ _ refl (no_words (map string_bytes c.args.words.now) _ (c.in-None.ensures.none refl)) told

pub returns-in-None-clause-exact : goal.returns-in-None-clause-exact
returns-in-None-clause-exact g c =
    let before = seen g.D.Desk.told g.D.Desk.faults g.D.Desk.lost g.D.Desk.sure c.args.desk.now in
    exact (map string_bytes c.args.words.now) (refused no_command) (lawful_words (map string_bytes c.args.words.now)) 2 before before refl
    (no_words (map string_bytes c.args.words.now) before (c.in-None.ensures.none refl))

pub returns-in-Some-Ok-clause-possible : goal.returns-in-Some-Ok-clause-possible
returns-in-Some-Ok-clause-possible g c =
    may_answer (map string_bytes c.args.words.now) done 0 _ _ refl
    (same_end (map string_bytes c.args.words.now) _ _ _ _ c.in-Some-Ok.field-0-is c.in-Some-Ok.ensures.asked)

pub returns-in-Some-Err-clause-possible : goal.returns-in-Some-Err-clause-possible
returns-in-Some-Err-clause-possible g c =
    let words = map string_bytes c.args.words.now in
    let ended = same_end words _ _ _ _ c.in-Some-Err.field-0-is c.in-Some-Err.ensures.asked in
    let told = c.report.ensures in
    may_answer words told.as_told c.report.result _ _ told.status (told_end _ (ending c.in-Some-Err.failure) c.report.result _ _ _ ended told)

pub returns-in-Some-Err-clause-words : goal.returns-in-Some-Err-clause-words
returns-in-Some-Err-clause-words g c = two_words (map string_bytes c.args.words.now) c.report.result (returns-in-Some-Err-clause-possible g c)

pub returns-in-None-clause-possible : goal.returns-in-None-clause-possible
returns-in-None-clause-possible g c =
    let before = seen g.D.Desk.told g.D.Desk.faults g.D.Desk.lost g.D.Desk.sure c.args.desk.now in
    may_answer (map string_bytes c.args.words.now) (refused no_command) 2 before before refl
    (no_words (map string_bytes c.args.words.now) before (c.in-None.ensures.none refl))

pub returns-in-Some-Ok-clause-headline : goal.returns-in-Some-Ok-clause-headline
returns-in-Some-Ok-clause-headline g c =
    headline_told (map string_bytes c.args.words.now) _ _ 0 _ _ (returns-in-Some-Ok-clause-answers g c) (returns-in-Some-Ok-clause-exact g c)

pub returns-in-Some-Err-clause-headline : goal.returns-in-Some-Err-clause-headline
returns-in-Some-Err-clause-headline g c =
    headline_told (map string_bytes c.args.words.now) _ _ c.report.result _ _ (returns-in-Some-Err-clause-answers g c) (returns-in-Some-Err-clause-exact g c)

pub returns-in-None-clause-headline : goal.returns-in-None-clause-headline
returns-in-None-clause-headline g c =
    headline_told (map string_bytes c.args.words.now) _ _ 2 _ _ (returns-in-None-clause-answers g c) (returns-in-None-clause-exact g c)

pub returns-in-Some-Ok-clause-waves : goal.returns-in-Some-Ok-clause-waves
returns-in-Some-Ok-clause-waves g c =
    waves_told (map string_bytes c.args.words.now) _ _ 0 _ _ (returns-in-Some-Ok-clause-answers g c) (returns-in-Some-Ok-clause-exact g c)

pub returns-in-Some-Err-clause-waves : goal.returns-in-Some-Err-clause-waves
returns-in-Some-Err-clause-waves g c =
    waves_told (map string_bytes c.args.words.now) _ _ c.report.result _ _ (returns-in-Some-Err-clause-answers g c) (returns-in-Some-Err-clause-exact g c)

pub returns-in-None-clause-waves : goal.returns-in-None-clause-waves
returns-in-None-clause-waves g c =
    waves_told (map string_bytes c.args.words.now) _ _ 2 _ _ (returns-in-None-clause-answers g c) (returns-in-None-clause-exact g c)

pub returns-in-Some-Ok-clause-unwaves : goal.returns-in-Some-Ok-clause-unwaves
returns-in-Some-Ok-clause-unwaves g c =
    unwaves_told (map string_bytes c.args.words.now) _ _ 0 _ _ (returns-in-Some-Ok-clause-answers g c) (returns-in-Some-Ok-clause-exact g c)

pub returns-in-Some-Err-clause-unwaves : goal.returns-in-Some-Err-clause-unwaves
returns-in-Some-Err-clause-unwaves g c =
    unwaves_told (map string_bytes c.args.words.now) _ _ c.report.result _ _ (returns-in-Some-Err-clause-answers g c) (returns-in-Some-Err-clause-exact g c)

pub returns-in-None-clause-unwaves : goal.returns-in-None-clause-unwaves
returns-in-None-clause-unwaves g c =
    unwaves_told (map string_bytes c.args.words.now) _ _ 2 _ _ (returns-in-None-clause-answers g c) (returns-in-None-clause-exact g c)

pub returns-in-Some-Ok-clause-machines : goal.returns-in-Some-Ok-clause-machines
returns-in-Some-Ok-clause-machines g c = machines_told (map string_bytes c.args.words.now) _ _ 0 _ _ (returns-in-Some-Ok-clause-answers g c)

pub returns-in-Some-Err-clause-machines : goal.returns-in-Some-Err-clause-machines
returns-in-Some-Err-clause-machines g c = machines_told (map string_bytes c.args.words.now) _ _ c.report.result _ _ (returns-in-Some-Err-clause-answers g c)

pub returns-in-None-clause-machines : goal.returns-in-None-clause-machines
returns-in-None-clause-machines g c = machines_told (map string_bytes c.args.words.now) _ _ 2 _ _ (returns-in-None-clause-answers g c)

pub returns-in-Some-Ok-clause-links : goal.returns-in-Some-Ok-clause-links
returns-in-Some-Ok-clause-links g c =
    links_told (map string_bytes c.args.words.now) _ _ 0 _ _ (returns-in-Some-Ok-clause-answers g c) (returns-in-Some-Ok-clause-exact g c)

pub returns-in-Some-Err-clause-links : goal.returns-in-Some-Err-clause-links
returns-in-Some-Err-clause-links g c =
    links_told (map string_bytes c.args.words.now) _ _ c.report.result _ _ (returns-in-Some-Err-clause-answers g c) (returns-in-Some-Err-clause-exact g c)

pub returns-in-None-clause-links : goal.returns-in-None-clause-links
returns-in-None-clause-links g c =
    links_told (map string_bytes c.args.words.now) _ _ 2 _ _ (returns-in-None-clause-answers g c) (returns-in-None-clause-exact g c)

pub returns-in-Some-Ok-clause-taints : goal.returns-in-Some-Ok-clause-taints
returns-in-Some-Ok-clause-taints g c =
    taints_told (map string_bytes c.args.words.now) _ _ 0 _ _ (returns-in-Some-Ok-clause-answers g c) (returns-in-Some-Ok-clause-exact g c)

pub returns-in-Some-Err-clause-taints : goal.returns-in-Some-Err-clause-taints
returns-in-Some-Err-clause-taints g c =
    taints_told (map string_bytes c.args.words.now) _ _ c.report.result _ _ (returns-in-Some-Err-clause-answers g c) (returns-in-Some-Err-clause-exact g c)

pub returns-in-None-clause-taints : goal.returns-in-None-clause-taints
returns-in-None-clause-taints g c =
    taints_told (map string_bytes c.args.words.now) _ _ 2 _ _ (returns-in-None-clause-answers g c) (returns-in-None-clause-exact g c)

pub returns-in-Some-Ok-clause-tidy : goal.returns-in-Some-Ok-clause-tidy
returns-in-Some-Ok-clause-tidy g c = tidy_told (map string_bytes c.args.words.now) _ _ 0 _ _ (returns-in-Some-Ok-clause-answers g c)

pub returns-in-Some-Err-clause-tidy : goal.returns-in-Some-Err-clause-tidy
returns-in-Some-Err-clause-tidy g c = tidy_told (map string_bytes c.args.words.now) _ _ c.report.result _ _ (returns-in-Some-Err-clause-answers g c)

pub returns-in-None-clause-tidy : goal.returns-in-None-clause-tidy
returns-in-None-clause-tidy g c = tidy_told (map string_bytes c.args.words.now) _ _ 2 _ _ (returns-in-None-clause-answers g c)

pub returns-in-Some-Ok-clause-explains : goal.returns-in-Some-Ok-clause-explains
returns-in-Some-Ok-clause-explains g c = explains_told (map string_bytes c.args.words.now) _ _ 0 _ _ (returns-in-Some-Ok-clause-answers g c)

pub returns-in-Some-Err-clause-explains : goal.returns-in-Some-Err-clause-explains
returns-in-Some-Err-clause-explains g c = explains_told (map string_bytes c.args.words.now) _ _ c.report.result _ _ (returns-in-Some-Err-clause-answers g c)

pub returns-in-None-clause-explains : goal.returns-in-None-clause-explains
returns-in-None-clause-explains g c = explains_told (map string_bytes c.args.words.now) _ _ 2 _ _ (returns-in-None-clause-answers g c)
