use Rattle.sap_desk.specs.MemoryCalls.{with_file}
use Rattle.sap_desk.specs.Told.{shown}
use Rattle.sap_desk.proofs.Steps.{on_err}
use Rattle.sap_desk.proofs.Shown.{stepped, same_told}
use Rattle.sap_desk.proofs.memory.MemoryDesk.put_file.Goals as goal

pub returns-clause-ok : goal.returns-clause-ok
returns-clause-ok c =
    let told = stepped c.args.self.now.store c.put_file.new.self c.args.self.now.failures.blame (with_file c.args.name.now c.args.bytes.now)
    c.args.self.now.blame_stands c.put_file.ensures.names c.in_ok-put_file.ensures.told in
    λ i. record (shown c.args.self.now) { told = told i; given = c.put_file.ensures.given i }

pub returns-in_err-put_file-clause-err : goal.returns-in_err-put_file-clause-err
returns-in_err-put_file-clause-err c =
    let told = stepped c.args.self.now.store c.put_file.new.self c.args.self.now.failures.blame (λ t. t) c.args.self.now.blame_stands
    c.put_file.ensures.names c.in_err-put_file.ensures.err.told in
    on_err c.from_residual.result (same_told (shown c.args.self.now) _ _ told c.put_file.ensures.given)
