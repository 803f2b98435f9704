use Rattle.std.proofs.Common.{◌∙◌, sym}
use Rattle.sap_vparse.specs.Views.{file_of}
use Rattle.sap_vjudge.proofs.Judged.{first_is, faultless_none, none_stands}
use Rattle.sap_vjudge.proofs.judging.judge.Goals as goal

pub returns-in-Some-clause-first : goal.returns-in-Some-clause-first
returns-in-Some-clause-first c = λ known. first_is (file_of c.args.file.now) c.in-Some.fault (sym c.in-Some.is ∙ c.in_ok-fault.ensures)

pub returns-in-Some-clause-accepted : goal.returns-in-Some-clause-accepted
returns-in-Some-clause-accepted c = λ faultless. absurd (faultless_none (file_of c.args.file.now) c.in-Some.fault (sym c.in-Some.is ∙ c.in_ok-fault.ensures) faultless)

pub returns-in-None-clause-faultless : goal.returns-in-None-clause-faultless
returns-in-None-clause-faultless c = none_stands (file_of c.args.file.now) (sym c.in-None.is ∙ c.in_ok-fault.ensures)
