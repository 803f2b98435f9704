use Rattle.sap_lemmas.proofs.Common.{◌≡◌, true, false, Some, None, length, sym, ap, ◌∙◌, subst, refl, rules, slice_get, ◌||◌, slice_get_within, length-map}
use Rattle.sap_cycle.specs.Running.{Running, GivesValue, value_names, seen, can_be_seen}
use Rattle.sap_cycle.proofs.Found.{looked_up}
use Rattle.sap_cycle.proofs.Looked.{is_register, seen_there, seen_nowhere, number_there}
use Rattle.sap_cycle.proofs.runner.Runner.value.Goals as goal

pub index-requires : goal.index-requires
index-requires c =
    let i = c.self.invariant in
    let n = c.self.inside.netlist in
    let f = looked_up c.self.inside.places c.as_bytes.ensures.value c.at_name.ensures c.in-Some.is in
    let h : slice_get (value_names n) c.in-Some.place ≡ Some c.args.name.now = i.values_found.found c.args.name.now c.in-Some.place f in
    let l : length c.self.inside.values.items ≡ length (value_names n) = ap length i.shown.2.values ∙ length-map (value_names n) (seen n i.shown.0).value in
    let k = slice_get_within (value_names n) c.in-Some.place c.args.name.now h in
    search rules

pub returns-in-None : goal.returns-in-None
returns-in-None c =
    let i = c.self.invariant in
    let n = c.self.inside.netlist in
    let f = looked_up c.self.inside.places c.as_bytes.ensures.value c.at_name.ensures c.in-None.is in
    subst (λ (r : Running). GivesValue r c.args.name.now None) c.self.view_is
    (λ cycle shows. rw (seen_nowhere n c.self.inside.places i.values_found c.args.name.now f cycle) refl)

pub returns-then-is_shown : goal.returns-then-is_shown
returns-then-is_shown c =
    let i = c.self.invariant in
    let n = c.self.inside.netlist in
    let x = c.args.name.now in
    let place = c.in-Some.place in
    let f = looked_up c.self.inside.places c.as_bytes.ensures.value c.at_name.ensures c.in-Some.is in
    let h : slice_get (value_names n) place ≡ Some x = i.values_found.found x place f in
    let t : (c.self.inside.stepped || is_register n place) ≡ true = rw (c.inputs.ensures, c.registers.ensures) at (sym c.is_shown.ensures ∙ c.if-is_shown.true) in
    subst (λ (r : Running). GivesValue r x (Some c.index.result.now)) c.self.view_is
    (λ cycle shows.
    let s : can_be_seen n cycle x ≡ true = seen_there n i.rules x place h cycle c.self.inside.stepped shows.stepped ∙ t in
    rw s (ap Some (c.index.ensures ∙ number_there (seen n cycle).value (value_names n) c.self.inside.values.items place x c.index.result.now shows.values h)))

pub returns-else-is_shown : goal.returns-else-is_shown
returns-else-is_shown c =
    let i = c.self.invariant in
    let n = c.self.inside.netlist in
    let x = c.args.name.now in
    let place = c.in-Some.place in
    let f = looked_up c.self.inside.places c.as_bytes.ensures.value c.at_name.ensures c.in-Some.is in
    let h : slice_get (value_names n) place ≡ Some x = i.values_found.found x place f in
    let t : (c.self.inside.stepped || is_register n place) ≡ false = rw (c.inputs.ensures, c.registers.ensures) at (sym c.is_shown.ensures ∙ c.if-is_shown.false) in
    subst (λ (r : Running). GivesValue r x None) c.self.view_is
    (λ cycle shows.
    let s : can_be_seen n cycle x ≡ false = seen_there n i.rules x place h cycle c.self.inside.stepped shows.stepped ∙ t in
    rw s refl)
