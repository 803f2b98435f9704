use Rattle.sap_lemmas.proofs.Common.{◌≡◌, ℕ, ◌+◌, List, [], ◌∷◌, ◌++◌, length, map, take, replicate, sym, ap, ◌∙◌, subst, arith, length-map, length-take-le, take_all}
use Rattle.sap_net.specs.declared.parts.Memory.{Memory}
use Rattle.sap_cycle.specs.Known.{AreStored}
use Rattle.sap_cycle.specs.Places.{Finds}
use Rattle.sap_cycle.proofs.First.{stored_none, stored_more}
use Rattle.sap_cycle.proofs.Found.{finds_more}
use Rattle.sap_cycle.proofs.load.store_memories.Goals as goal

pub loop-i-init : goal.loop-i-init
loop-i-init c =
    stored_none c.new-numbers.result c.new-numbers.ensures.empty c.new-bases.result.items c.new-cells.result.items c.new-bases.ensures.items c.new-cells.ensures.items

pub loop-i-preserved : goal.loop-i-preserved
loop-i-preserved c =
    let ms = c.args.memories.now in
    let i = c.loop-i.i in
    let m = c.index-memories-i.result in
    let names = map (λ (k : Memory). k.name) (take i ms) in
    let long : i ≡ length names = omega (arith, length-map (take i ms) (λ (k : Memory). k.name), length-take-le i ms (omega arith)) in
    let finds : Finds c.put.new.map (names ++ m.name ∷ []) =
    finds_more c.loop-i.numbers c.put.new.map names m.name i long (c.in_ok-put.ensures {u = tt}) c.loop-i.invariant.found in
    let base : c.len.result ≡ length c.loop-i.cells.items = c.len.ensures ∙ c.loop-i.cells.ok.0 in
    let eb : c.push.new.self.items ≡ c.loop-i.bases.items ++ length c.loop-i.cells.items ∷ [] =
    c.in_ok-push.ensures.items ∙ ap (λ (j : ℕ). c.loop-i.bases.items ++ j ∷ []) base in
    let ec : c.fill.new.numbers.items ≡ c.loop-i.cells.items ++ replicate m.depth m.start = c.in_ok-fill.ensures {u = tt} in
    let more = stored_more ms i m c.loop-i.numbers c.put.new.map c.loop-i.bases.items c.loop-i.cells.items (omega arith) c.index-memories-i.is c.loop-i.invariant finds in
    subst (λ (l : List ℕ). AreStored (take (i + 1) ms) c.put.new.map l c.fill.new.numbers.items) (sym eb)
    (subst (λ (l : List ℕ). AreStored (take (i + 1) ms) c.put.new.map (c.loop-i.bases.items ++ length c.loop-i.cells.items ∷ []) l) (sym ec) more)

pub returns : goal.returns
returns c =
    subst (λ (l : List Memory). AreStored l c.loop-i.numbers c.loop-i.bases.items c.loop-i.cells.items) (take_all c.loop-i.i c.args.memories.now (omega arith)) c.loop-i.invariant
