use Rattle.sap_lemmas.proofs.Common.{◌≡◌, ap, sym, rules, Some, is_some, map, string_bytes}
use Rattle.sap_words.specs.Words.{words_of, command_of as words_for}
use Rattle.sap_commands.specs.Commands.{asks_for}
use Rattle.sap_files.specs.Steps.{ending_of}
use Rattle.sap_files.proofs.Ended.{quiet_self, starved}
use Rattle.sapper.proofs.Calls.{named}
use Rattle.sapper.proofs.call.ask.Goals as goal

pub returns-in-Err-clause-command : goal.returns-in-Err-clause-command
returns-in-Err-clause-command g c =
    let words = map string_bytes c.args.words.now in
    let found = c.in-Err.ensures.no_memory in
    let is : words_for words ≡ Some found.0 = (c.in-Err.ensures.table found.0).1 found.1 in
    ap is_some (sym is)

pub returns-in-Err-clause-asked : goal.returns-in-Err-clause-asked
returns-in-Err-clause-asked g c = starved (asks_for (map string_bytes c.args.words.now)) (quiet_self _)

pub returns-in-Ok-Some-clause-asked : goal.returns-in-Ok-Some-clause-asked
returns-in-Ok-Some-clause-asked g c =
    named (map string_bytes c.args.words.now) (words_of c.in-Ok-Some.command) (ending_of c.perform.result) _ _ (search rules) c.perform.ensures.ends
