use Rattle.sap_lemmas.proofs.Common.{[], ◌∷◌, ◌∙◌, sym, on_ok_weaker}
use Rattle.sap_maps.specs.Scope.{find}
use Rattle.sap_trim.proofs.Staying.{wire_stays, all_stay_more}
use Rattle.sap_trim.proofs.stays.put_wire.Goals as goal

pub returns-in-Some : goal.returns-in-Some
returns-in-Some c =
    on_ok_weaker c.put.result
    (λ b ws h. wire_stays ws c.args.wire.now (find c.args.stays.now) (find c.put.new.self) c.in-Some.stay h (sym (c.in_ok-stay.ensures {u = tt}) ∙ c.in-Some.is) b)
    c.put.ensures

pub returns-in-None : goal.returns-in-None
returns-in-None c = λ ws h. all_stay_more ws (c.args.wire.now ∷ []) (find c.args.stays.now) h
