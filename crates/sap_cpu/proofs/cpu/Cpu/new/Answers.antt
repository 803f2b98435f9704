use Rattle.std.proofs.Common.{refl, ◌∙◌, sym}
use Rattle.sap_machine.specs.declared.user.User.TheVariants.{A, B}
use Rattle.sap_cpu.specs.Views.{word_at}
use Rattle.sap_machine.proofs.InTurn.{no_slice}
use Rattle.sap_cpu.proofs.cpu.Cpu.new.Goals as goal

pub returns : goal.returns
returns c = record {
  first = c.new.ensures ∙ sym (no_slice A (word_at c.args.a.now));
  second = c.new-2.ensures ∙ sym (no_slice B (word_at c.args.b.now));
  next = refl;
}
