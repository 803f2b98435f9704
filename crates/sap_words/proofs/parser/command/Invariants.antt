use Rattle.std.proofs.Common.{◌≡◌, take, map, false}
use Rattle.clap.specs.Words.{app_of}
use Rattle.clap.specs.declared.builder.command.Command.TheViews.{out-Command}
use Rattle.sap_words.specs.Parser.{alone, command}
use Rattle.sap_words.proofs.parser.command.Given as goal

abbrev pub invariant-loop-operand : goal.invariant-loop-operand
invariant-loop-operand l = (app_of l.command ≡ alone (command l.fn.name (map (λ o. o.now) (take l.operand-index l.operands))))
    × ((out-Command l.command).has_globals ≡ false)
