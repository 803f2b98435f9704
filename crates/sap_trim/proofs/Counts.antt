-- Counts of wires, one more at a time.
use Rattle.sap_lemmas.proofs.Common.{◌≡◌, ℕ, ◌+◌, ◌<◌, List, [], ◌∷◌, ◌++◌, filter, length, take, get_or, Bool, sym, ap, ◌∙◌, length-append, take_more}
use Rattle.sap_net.specs.declared.parts.Wire.{Wire}
use Rattle.sap_fold.proofs.Lists.{filter_append}
use Rattle.sap_trim.specs.Few.{calculated}
use Rattle.sap_trim.specs.Needed.{is_marked, marked}
use Rattle.sap_trim.proofs.Marked.{marked_push}

next : (ws : List Wire) (k : ℕ) (w : Wire) → k < length ws → w ≡ get_or ws k w → take (k + 1) ws ≡ take k ws ++ w ∷ []
next ws k w l e = take_more ws k w l ∙ ap (λ x. take k ws ++ x ∷ []) (sym e)

pub count_next : (f : Wire → Bool) (ws : List Wire) (k : ℕ) (w : Wire) → k < length ws → w ≡ get_or ws k w
    → length (filter f (take (k + 1) ws)) ≡ length (filter f (take k ws)) + length (filter f (w ∷ []))
count_next f ws k w l e =
    ap (λ (xs : List Wire). length (filter f xs)) (next ws k w l e)
    ∙ ap length (filter_append f (take k ws) (w ∷ []))
    ∙ length-append (filter f (take k ws)) (filter f (w ∷ []))

pub calculated_next : (bs : List Bool) (ws : List Wire) (k : ℕ) (w : Wire) → length bs ≡ length ws → k < length ws → w ≡ get_or ws k w
    → length (calculated (marked bs (take (k + 1) ws))) ≡ length (calculated (marked bs (take k ws))) + length (calculated (marked (is_marked bs k ∷ []) (w ∷ [])))
calculated_next bs ws k w n l e =
    let one = marked (is_marked bs k ∷ []) (w ∷ []) in
    ap (λ (xs : List Wire). length (calculated xs)) (marked_push bs ws k w n l e)
    ∙ ap length (filter_append _ (marked bs (take k ws)) one)
    ∙ length-append (calculated (marked bs (take k ws))) (calculated one)
