use Rattle.std.proofs.Common.{◌≡◌, ◌+◌, ◌∷◌, ◌++◌, [], List, sym, subst, ap, ◌∙◌, rules, arith}
use Rattle.sap_maps.specs.Maps.{Name}
use Rattle.sap_net.specs.Prelude.{Net, helper}
use Rattle.sap_build.specs.Writing.{taken, AreTaken, IsFree}
use Rattle.sap_build.proofs.Writing.{counted, next_taken, is_fresh}
use Rattle.sap_build.proofs.writer.Writer.helper.Goals as goal

pub invariant_of-self-2 : goal.invariant_of-self-2
invariant_of-self-2 c =
    let m = c.self.inside in
    let k = c.in_ok-number.number in
    let next = counted _ c.checked_add.result k c.in_ok-next.next c.checked_add.ensures c.in_ok-next.ensures.value in
    let least : IsFree (taken c.args.self.now) k = c.in_ok-number.ensures {u = tt} in
    let below : AreTaken (m.module_name ∷ m.names) k = subst (λ (n : Net). AreTaken (taken n) k) (sym c.self.view_is) least.least in
    let copied : c.in_ok-copy.field-0 ≡ helper k = search rules in
    let names : c.add.new.self ≡ m.names ++ c.in_ok-copy.field-0 ∷ [] = search rules in
    let all : AreTaken (m.module_name ∷ (m.names ++ helper k ∷ [])) (k + 1) = next_taken (m.module_name ∷ m.names) k below in
    let same : c.add.new.self ≡ m.names ++ helper k ∷ [] = names ∙ ap (λ (x : Name). m.names ++ x ∷ []) copied in (
      omega (arith, next.0),
      subst (λ (xs : List Name). AreTaken (m.module_name ∷ xs) c.in_ok-next.next) (sym same)
          (subst (AreTaken (m.module_name ∷ (m.names ++ helper k ∷ []))) (sym next.0) all),
    )

pub returns-clause-fresh : goal.returns-clause-fresh
returns-clause-fresh c =
    let k = c.in_ok-number.number in
    let next = counted _ c.checked_add.result k c.in_ok-next.next c.checked_add.ensures c.in_ok-next.ensures.value in
    let named : c.helper_name-name.result ≡ helper k = search rules in
    is_fresh (taken c.args.self.now) k c.helper_name-name.result (omega (arith, next.0, next.1)) named (c.in_ok-number.ensures {u = tt})
