use Rattle.std.proofs.Common.{◌∙◌, ap, map, string_bytes}
use Rattle.std.proofs.lemmas.Result.{IfErr-weaker, IfOk-weaker}
use Rattle.clap.specs.Words.{App, is_simple, subcommand_of, takes}
use Rattle.sap_words.proofs.Commands.{taken}
use Rattle.sap_words.proofs.Parses.{simple}
use Rattle.sap_words.proofs.parser.parse.Goals as goal

pub returns : goal.returns
returns c =
    let words = map string_bytes c.args.words.now in
    let line = c.in_ok-parser.ensures in
    let got = c.try_get_matches_from in
    record {
      read = IfOk-weaker got.result _ _ (λ m h. (h (ap is_simple line ∙ simple)).1 ∙ ap (λ (a : App). subcommand_of a words) line) got.ensures.matches;
      refuses_none = IfErr-weaker got.result _ _ (λ e h. h (ap (λ (a : App). takes a words) line ∙ taken words c.requires)) got.ensures.passes;
    }
