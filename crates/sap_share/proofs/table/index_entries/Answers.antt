use Rattle.sap_lemmas.proofs.Common.{◌≡◌, ◌∙◌, ◌+◌, ◌++◌, [], ◌∷◌, take, length, sym, ap, arith, take_more, length-take-le, keys_of}
use Rattle.sap_share.proofs.Lookups.{named_push, names_long}
use Rattle.sap_share.proofs.table.index_entries.Goals as goal

pub loop-k-preserved : goal.loop-k-preserved
loop-k-preserved g c =
    let es = c.args.entries.now in
    let xs = take c.loop-k.k es in
    let y = c.index-entries-k.result in
    let l : length (keys_of xs) ≡ c.loop-k.k = names_long xs ∙ length-take-le c.loop-k.k es (omega arith) in
    let e : take (c.loop-k.k + 1) es ≡ xs ++ y ∷ [] = take_more es c.loop-k.k y (omega arith) ∙ ap (λ z. xs ++ z ∷ []) (sym c.index-entries-k.is) in
    rw (e, named_push xs y) (c.in_ok-index.ensures {u = tt} (keys_of xs) l c.loop-k.invariant)
