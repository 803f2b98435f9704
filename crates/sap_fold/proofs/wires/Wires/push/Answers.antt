use Rattle.sap_lemmas.proofs.Common.{◌≡◌, ◌++◌, [], ◌∷◌, List, ℕ, Some, sym, subst, rules, bytes_eq, all_append}
use Rattle.std.specs.HashMap as hash
use Rattle.sap_net.specs.declared.parts.Wire.{Wire}
use Rattle.sap_share.specs.Keys.{key}
use Rattle.sap_share.specs.Names.{helper}
use Rattle.sap_share.proofs.Differing.{all_more}
use Rattle.sap_share.proofs.RightMaps.{one_more}
use Rattle.sap_fold.specs.Settled.{Orderly}
use Rattle.sap_fold.proofs.wires.Wires.push.Goals as goal

pub returns-clause-orderly : goal.returns-clause-orderly
returns-clause-orderly c =
    let m = c.args.self.now.numbers in
    let ws = c.args.self.now.list.items in
    let m' = c.insert.new.self in
    let k = c.in_ok-free.free.number in
    let w : Wire = record { name = c.in_ok-free.free.name; width = c.args.width; right = c.args.right } in
    let bytes : c.args.key ≡ key w.width w.right = c.requires.bytes in
    let named : w.name ≡ helper k = c.in_ok-free.ensures.name in
    let more : c.push.new.self.items ≡ ws ++ w ∷ [] = search rules in
    let h : hash.Updates bytes_eq m m' c.args.key (Some k) = c.in_ok-insert.ensures.updates in
    let updates = subst (λ (n : List ℕ). hash.Updates bytes_eq m m' n (Some k)) bytes h in
    let before = c.requires.orderly in
    let all : Orderly m' (ws ++ w ∷ []) = record {
      names = one_more m m' ws w k named c.requires.new updates before.names;
      differ = all_more ws w c.requires.new before.differ;
      settled = all_append _ ws (w ∷ []) before.settled (c.requires.settled, tt);
      calculated = all_append _ ws (w ∷ []) before.calculated (c.requires.calculated, tt);
    } in
    subst (Orderly m') (sym more) all
