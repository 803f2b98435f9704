-- Lists that grow at their end, seen through a view.
use Rattle.sap_lemmas.proofs.Common.{◌≡◌, ◌∙◌, List, [], ◌∷◌, ◌++◌, ap, sym, append_assoc, map, map-append}

pub pushed : {A B : Type 0} (f : A → B) (old : List A) (x : A) (new : List A) (more : List B) → new ≡ old ++ x ∷ [] → map f old ++ (f x ∷ more) ≡ map f new ++ more
pushed f old x new more e =
    sym (append_assoc (map f old) (f x ∷ []) more) ∙ ap (λ ys. ys ++ more) (sym (map-append f old (x ∷ []))) ∙ ap (λ xs. map f xs ++ more) (sym e)
