use Rattle.std.proofs.Common.{sym, ◌∙◌}
use Rattle.sap_vparse.proofs.Single.{name_is, name_read, name_refused, some_name}
use Rattle.sap_vparse.proofs.cursor.Cursor.name.Goals as goal

pub pass-place-requires : goal.pass-place-requires
pass-place-requires c = some_name c.args.self.now c.in-Some.name (sym c.in_ok-name.ensures ∙ c.in-Some.is)

pub returns-in-Some-clause-goes : goal.returns-in-Some-clause-goes
returns-in-Some-clause-goes c =
    name_read c.args.self.now c.pass-place.new.self c.pass-place.result c.in-Some.name (sym c.in_ok-name.ensures ∙ c.in-Some.is) c.pass-place.ensures

pub returns-in-Some-clause-tree : goal.returns-in-Some-clause-tree
returns-in-Some-clause-tree c =
    name_is c.args.self.now c.pass-place.new.self c.pass-place.result c.in-Some.name (sym c.in_ok-name.ensures ∙ c.in-Some.is) c.pass-place.ensures

pub returns-in-None-clause-goes : goal.returns-in-None-clause-goes
returns-in-None-clause-goes c = λ known. name_refused c.args.self.now (sym c.in_ok-name.ensures ∙ c.in-None.is)
