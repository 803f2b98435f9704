use Rattle.std.proofs.Common.{ℕ}
use Rattle.sap_net.specs.Net.{Net}
use Rattle.sap_taint_pass.specs.Helped.{Helped}
use Rattle.sap_taint_pass.proofs.Helped.{FourNames, four}
use Rattle.sap_taint_pass.proofs.writes.write_names.Goals as goal
use Rattle.sap_taint_pass.proofs.writes.write_names.Goals.{In_ok-all}

all : (c : In_ok-all) (n : Net) (k : ℕ) → Helped n k c.args.writer.now
    → FourNames n k c.args.writer.now c.helper-4.new.self c.in_ok-kept.kept c.in_ok-new.new c.in_ok-chosen.chosen c.in_ok-all.all
all c n k h =
    let a = c.in_ok-kept.ensures {u = tt} in
    let b = c.in_ok-new.ensures {u = tt} in
    let d = c.in_ok-chosen.ensures {u = tt} in
    let e = c.in_ok-all.ensures {u = tt} in
    four n k c.args.writer.now c.helper.new.self c.helper-2.new.self c.helper-3.new.self c.helper-4.new.self c.in_ok-kept.kept
    c.in_ok-new.new c.in_ok-chosen.chosen c.in_ok-all.all h
    a.fresh a.declared b.fresh b.declared d.fresh d.declared e.fresh e.declared

pub returns-clause-names : goal.returns-clause-names
returns-clause-names c = λ n k h. (all (goal.at.returns-clause-names c).In_ok-all n k h).named

pub returns-clause-declared : goal.returns-clause-declared
returns-clause-declared c = λ n k h. (all (goal.at.returns-clause-declared c).In_ok-all n k h).adds
