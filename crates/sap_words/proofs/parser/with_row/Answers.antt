use Rattle.sap_lemmas.proofs.Common.{◌∙◌, ap, IfOk-weaker}
use Rattle.clap.specs.Words.{App, app_of, with_subcommand}
use Rattle.sap_words.proofs.parser.with_row.Goals as goal

pub returns : goal.returns
returns c =
    let made = c.in_ok-command.ensures in
    IfOk-weaker c.subcommand.result _ _ (λ r h. h.shape made.local ∙ ap (λ (a : App). with_subcommand (app_of c.args.line) a.top) made.shape) c.subcommand.ensures
