use Rattle.std.proofs.Common.{sym, subst}
use Rattle.sap_lattice.specs.Diamond.{diamond}
use Rattle.sap_secure.specs.Laws.{LabelledAgree}
use Rattle.sap_resolved.specs.Fill.{program_of}
use Rattle.sap_machine.specs.Design.{machine_design}
use Rattle.sap_machine.specs.Laws.{WordsDecide, OthersDontCount, OthersWordsDontCount}
use Rattle.sap_machine.proofs.Literal.{machine}
use Rattle.sap_machine.proofs.Ordered.{lattice_lawful}
use Rattle.sap_machine.proofs.Sound.{well_formed}
use Rattle.sap_machine.proofs.Resolved.{program_is, machine_is}
use Rattle.sap_machine.proofs.Apart.{words_decide}
use Rattle.sap_machine.proofs.Seen.{others_dont_count, others_words_dont_count}
use Rattle.sap_machine.proofs.users_are_apart.Goals as goal

others_dont : LabelledAgree (program_of diamond machine_design) → OthersDontCount machine
others_dont agree = others_dont_count (subst LabelledAgree program_is agree)

pub returns : goal.returns
returns c =
    let agree : LabelledAgree (program_of diamond machine_design) = c.runs_agree.ensures.first diamond machine_design lattice_lawful well_formed in
    record {
      words = subst WordsDecide (sym machine_is) words_decide;
      agreeing = subst OthersDontCount (sym machine_is) (others_dont agree);
      differing = subst OthersWordsDontCount (sym machine_is) (others_words_dont_count (others_dont agree));
    }
