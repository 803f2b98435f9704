use Rattle.std.proofs.Common.{◌≡◌, ◌∙◌, ◌<◌, [], ◌∷◌, ◌++◌, map, Option, get_or, sym, ap, length, arith, rules, append-nil}
use Rattle.sap_net.specs.NameMaps.{place_in}
use Rattle.sap_net.specs.declared.parts.Register.{Register}
use Rattle.sap_lower.specs.Lowered.{register_of, in_front}
use Rattle.sap_ir.specs.declared.guarded.Var.{Var}
use Rattle.sap_share.proofs.Lookups.{item_found, item_missing}
use Rattle.sap_lower.proofs.declare.port_register.Goals as goal

pub bounds-registers-k : goal.bounds-registers-k
bounds-registers-k c =
    let e = ap (λ ns. place_in ns c.args.port.now) (sym c.requires) ∙ sym c.place.ensures ∙ c.in-Some.is in
    (item_found {X = Var} (λ (x : Var). x.name) (λ x. x) c.args.registers.now c.args.port.now c.in-Some.k e).0

pub offset_bounds-registers-k : goal.offset_bounds-registers-k
offset_bounds-registers-k c =
    let e = ap (λ ns. place_in ns c.args.port.now) (sym c.requires) ∙ sym c.place.ensures ∙ c.in-Some.is in
    let l : c.in-Some.k < length c.args.registers.now = (item_found {X = Var} (λ (x : Var). x.name) (λ x. x) c.args.registers.now c.args.port.now c.in-Some.k e).0 in
    omega arith

pub returns-in_ok-push-in-Some : goal.returns-in_ok-push-in-Some
returns-in_ok-push-in-Some c =
    let rs = c.args.registers.now in
    let es = c.args.entries.now in
    let made = c.args.made.now.items in
    let x = get_or rs c.in-Some.k c.index-registers-k.result in
    let e = ap (λ ns. place_in ns c.args.port.now) (sym c.requires) ∙ sym c.place.ensures ∙ c.in-Some.is in
    let g = (item_found {X = Var} (λ (x : Var). x.name) (λ x. x) rs c.args.port.now c.in-Some.k e).1 c.index-registers-k.result in
    let p : c.push.new.self.items ≡ made ++ c.in_ok-next-in-Some.next ∷ [] = search rules in
    let n : c.in_ok-next-in-Some.next ≡ register_of es x = c.in_ok-next-in-Some.ensures ∙ ap (λ (v : Var). register_of es v) c.index-registers-k.is in
    p ∙ ap (λ (r : Register). made ++ r ∷ []) n ∙ sym (ap (λ (o : Option Var). made ++ map (register_of es) (in_front o [])) g)

pub returns-in-None : goal.returns-in-None
returns-in-None c =
    let rs = c.args.registers.now in
    let es = c.args.entries.now in
    let made = c.args.made.now.items in
    let e = ap (λ ns. place_in ns c.args.port.now) (sym c.requires) ∙ sym c.place.ensures ∙ c.in-None.is in
    let g = item_missing {X = Var} (λ (x : Var). x.name) (λ x. x) rs c.args.port.now e in
    sym (ap (λ (o : Option Var). made ++ map (register_of es) (in_front o [])) g ∙ append-nil made)
