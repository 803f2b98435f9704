use Rattle.std.proofs.Common.{◌≡◌, rules, sym, ap, ◌∙◌}
use Rattle.sap_vparse.specs.Reading.{ahead_of}
use Rattle.sap_vparse.specs.declared.cursor.Ahead.TheVariants as a
use Rattle.sap_vparse.proofs.Fronts.{nothing_left}
use Rattle.sap_vparse.proofs.cursor.Cursor.at_end.Goals as goal

pub returns-clause-yes : goal.returns-clause-yes
returns-clause-yes c = λ yes.
    let same : c.peek.result ≡ a.Nothing = search rules in
    nothing_left c.args.self.now (sym c.peek.ensures ∙ ap ahead_of same)
