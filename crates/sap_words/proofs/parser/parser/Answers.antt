use Rattle.std.proofs.Common.{◌∙◌, ap, true}
use Rattle.clap.specs.Words.{App}
use Rattle.clap.specs.Simple.{app_of_fields}
use Rattle.sap_words.proofs.parser.parser.Goals as goal

pub with_rows-requires-clause-bare : goal.with_rows-requires-clause-bare
with_rows-requires-clause-bare c =
    let named = c.new.ensures.app in
    let first = ap app_of_fields c.no_binary_name.ensures ∙ ap (λ (a : App). record a { top = record a.top { no_binary_name = true } }) named in
    let second = ap app_of_fields c.disable_help_flag.ensures ∙ ap (λ (a : App). record a { top = record a.top { disable_help_flag = true } }) first in
    ap app_of_fields c.disable_help_subcommand-line.ensures ∙ ap (λ (a : App). record a { top = record a.top { disable_help_subcommand = true } }) second
