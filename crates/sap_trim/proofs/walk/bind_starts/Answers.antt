use Rattle.sap_lemmas.proofs.Common.{◌≡◌, ◌∙◌, ◌+◌, ◌++◌, [], ◌∷◌, List, take, sym, ap, subst, refl, inl, arith, take_more, take_all}
use Rattle.sap_net.specs.declared.parts.Register.{Register}
use Rattle.sap_maps.specs.Scope.{find}
use Rattle.sap_trim.specs.Walked.{Starts}
use Rattle.sap_trim.proofs.Loops.{starts_push}
use Rattle.sap_trim.proofs.walk.bind_starts.Goals as goal

pub loop-register-init : goal.loop-register-init
loop-register-init c = λ ws h x. inl refl

pub loop-register-preserved : goal.loop-register-preserved
loop-register-preserved c =
    let xs = c.args.registers.now in
    let k = c.loop-register.register-index in
    let y = c.register-item.result in
    let e : take (k + 1) xs ≡ take k xs ++ y ∷ [] = take_more xs k y (omega arith) ∙ ap (λ z. take k xs ++ z ∷ []) (sym c.register-item.is) in
    λ ws h x.
    let a = find c.args.stands.now x in
    let b = find c.loop-register.stands x in
    let d = find c.bind_start.new.stands x in
    subst (λ (rs : List Register). Starts ws rs x a d) (sym e)
    (starts_push ws (take k xs) x a b d y (c.loop-register.invariant ws h x) (c.in_ok-bind_start.ensures {u = tt} ws h x))

pub returns : goal.returns
returns c = λ ws h x.
    let e = take_all c.loop-register.register-index c.args.registers.now c.loop-register-test.false in
    subst (λ (rs : List Register). Starts ws rs x (find c.args.stands.now x) (find c.loop-register.stands x)) e (c.loop-register.invariant ws h x)
