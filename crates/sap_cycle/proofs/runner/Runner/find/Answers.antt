use Rattle.sap_lemmas.proofs.Common.{◌≡◌, ◌<◌, None, length, subst, slice_get_within}
use Rattle.sap_maps.specs.Scope.{find}
use Rattle.sap_net.specs.Prelude.{readable}
use Rattle.sap_cycle.specs.Running.{Running, value_names, IsPlaceOf}
use Rattle.sap_cycle.proofs.Found.{looked_up}
use Rattle.sap_cycle.proofs.Looked.{covers_readable, missing}
use Rattle.sap_cycle.proofs.runner.Runner.find.Goals as goal

pub returns-in-None-clause-found : goal.returns-in-None-clause-found
returns-in-None-clause-found c =
    let n = c.self.inside.netlist in
    let f = looked_up c.self.inside.places c.as_bytes.ensures.value c.at_name.ensures c.in-None.is in
    subst (λ (r : Running). find (readable r.net) c.args.name.now ≡ None) c.self.view_is
    (missing c.self.inside.places (value_names n) c.self.invariant.values_found (readable n) (covers_readable n) c.args.name.now f)

pub returns-in-Some-clause-found : goal.returns-in-Some-clause-found
returns-in-Some-clause-found c =
    let f = looked_up c.self.inside.places c.as_bytes.ensures.value c.at_name.ensures c.in-Some.is in
    subst (λ (r : Running). IsPlaceOf r.net c.args.name.now c.in-Some.index) c.self.view_is (c.self.invariant.values_found.found c.args.name.now c.in-Some.index f)

pub returns-in-Some-clause-within : goal.returns-in-Some-clause-within
returns-in-Some-clause-within c =
    let f = looked_up c.self.inside.places c.as_bytes.ensures.value c.at_name.ensures c.in-Some.is in
    subst (λ (r : Running). c.in-Some.index < length (value_names r.net)) c.self.view_is
    (slice_get_within (value_names c.self.inside.netlist) c.in-Some.index c.args.name.now (c.self.invariant.values_found.found c.args.name.now c.in-Some.index f))
