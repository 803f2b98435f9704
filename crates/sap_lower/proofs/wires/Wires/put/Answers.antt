use Rattle.sap_lemmas.proofs.Common.{◌≡◌, ◌∙◌, ◌++◌, [], ◌∷◌, List, ℕ, Some, None, length, sym, ap, subst, rules, bytes_eq}
use Rattle.std.specs.HashMap as hash
use Rattle.sap_maps.specs.Scope.{find}
use Rattle.sap_net.specs.declared.parts.Wire.{Wire}
use Rattle.sap_share.specs.Keys.{key}
use Rattle.sap_share.specs.Names.{helper}
use Rattle.sap_share.specs.Rights.{rights, NamesRights}
use Rattle.sap_share.proofs.RightMaps.{one_more}
use Rattle.sap_lower.proofs.wires.Wires.put.Goals as goal

pub invariant_of-self-else-is_err : goal.invariant_of-self-else-is_err
invariant_of-self-else-is_err c =
    let m = c.self.inside.numbers in
    let ws = c.self.inside.list.items in
    let m' = c.insert.new.self in
    let k = length ws in
    let w = c.args.wire in
    let bytes : c.args.key ≡ key w.width w.right = c.requires.bytes in
    let old : c.args.self.now ≡ ws = sym c.self.view_is in
    let number : c.args.number ≡ k = c.requires.number ∙ ap length old in
    let named : w.name ≡ helper k = c.requires.named ∙ ap helper number in
    let more : c.push.new.self.items ≡ ws ++ w ∷ [] = search rules in
    let h : hash.Updates bytes_eq m m' c.args.key (Some c.args.number) = search rules in
    let updates = subst (λ (n : List ℕ). hash.Updates bytes_eq m m' n (Some k)) bytes
    (subst (λ (k : ℕ). hash.Updates bytes_eq m m' c.args.key (Some k)) number h) in
    let new' : find (rights ws) c.args.key ≡ None = subst (λ (xs : List Wire). find (rights xs) c.args.key ≡ None) old c.requires.new in
    let new = subst (λ (n : List ℕ). find (rights ws) n ≡ None) bytes new' in
    subst (NamesRights m') (sym more) (one_more m m' ws w k named new updates c.self.invariant)
