use Rattle.sap_lemmas.proofs.Common.{◌≡◌, ◌∙◌, ◌||◌, [], get_or, ap, ap₂, false, true, arith, Bor}
use Rattle.clap.specs.Words.{Rule, Text, rule_of, with_rule}
use Rattle.clap.specs.declared.builder.arg.Arg.{Arg}
use Rattle.sap_words.specs.Parser.{operand}
use Rattle.sap_words.proofs.Operands.{all_operands, one_more}
use Rattle.sap_words.proofs.parser.command.Goals as goal

pub loop-operand-preserved : goal.loop-operand-preserved
loop-operand-preserved c =
    let at = c.loop-operand in
    let d : Bor Text = record { ref_ptr = (0, 0); now = [] } in
    let rule_is : rule_of c.required.result ≡ operand (get_or c.args.operands.now at.operand-index d).now =
    ap rule_of c.required.ensures ∙ ap (λ (r : Rule). record r { required = true }) c.new.ensures.rule in
    let own : c.required.result.global ≡ false = ap (λ (a : Arg). a.global) c.required.ensures ∙ c.new.ensures.optional.1 in
    let added = c.in_ok-command.ensures in (
      added.shape own ∙ ap₂ with_rule at.invariant.0 rule_is ∙ one_more _ c.args.operands.now at.operand-index d c.loop-operand-test.true,
      added.globals ∙ ap₂ ◌||◌ at.invariant.1 own,
    )

pub returns : goal.returns
returns c = record {
  shape = c.loop-operand.invariant.0 ∙ all_operands _ c.args.operands.now c.loop-operand.operand-index (omega arith);
  local = c.loop-operand.invariant.1;
}
