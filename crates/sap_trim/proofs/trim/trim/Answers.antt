use Rattle.sap_lemmas.proofs.Common.{◌≡◌, subst, sym, arith, IfOk-weaker}
use Rattle.sap_net.specs.Net.{Net}
use Rattle.sap_trim.specs.Alike.{DeclaresAlike, RunsAlike}
use Rattle.sap_trim.specs.Few.{NeedsNoMore}
use Rattle.sap_trim.specs.Unwritten.{read_net}
use Rattle.sap_trim.proofs.Compose.{declares_both, runs_both}
use Rattle.sap_trim.proofs.Unread.{read_alike, read_declares, read_few}
use Rattle.sap_trim.proofs.trim.trim.Goals as goal

pub returns-clause-declares : goal.returns-clause-declares
returns-clause-declares c =
    let n = c.args.netlist in
    let r = c.in_ok-read.read in
    let e : r ≡ read_net n = c.in_ok-read.ensures {u = tt} in
    let d = subst (λ (m : Net). DeclaresAlike n m) (sym e) (read_declares n c.rules.ensures) in
    IfOk-weaker c.fold.result _ _ (λ trimmed h. declares_both n r trimmed d h) c.fold.ensures.declares

pub returns-clause-same : goal.returns-clause-same
returns-clause-same c =
    let n = c.args.netlist in
    let r = c.in_ok-read.read in
    let e : r ≡ read_net n = c.in_ok-read.ensures {u = tt} in
    let d = subst (λ (m : Net). DeclaresAlike n m) (sym e) (read_declares n c.rules.ensures) in
    let a = subst (λ (m : Net). RunsAlike n m) (sym e) (read_alike n c.rules.ensures) in
    IfOk-weaker c.fold.result _ _ (λ trimmed h. runs_both n r trimmed c.rules-2.ensures d a h) c.fold.ensures.same

pub returns-clause-few : goal.returns-clause-few
returns-clause-few c =
    let n = c.args.netlist in
    let few = subst (λ (m : Net). NeedsNoMore n m) (sym (c.in_ok-read.ensures {u = tt})) (read_few n) in
    IfOk-weaker c.fold.result _ _ (λ trimmed h. omega (arith, h, few)) c.fold.ensures.few
