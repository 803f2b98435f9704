-- Sets of names, by the keys that they hold.
use Rattle.sap_lemmas.proofs.Common.{◌∷◌, true, sym, ◌∙◌, refl, inl, inr, bytes_eq, cases_Bool, bytes_eq_symmetric}
use Rattle.std.specs.declared.hash.FoldHasher.{FoldHasher}
use Rattle.std.specs.declared.hash.BuildHasherDefault.{BuildHasherDefault}
use Rattle.std.specs.HashSet as bag
use Rattle.sap_maps.specs.Maps.{Name}
use Rattle.sap_share.specs.Sets.{AreSame}

abbrev Keys : Type 0
Keys = bag.HashSet Name (BuildHasherDefault FoldHasher)

-- one more key
pub one_more : (x : Name) (old new : Keys) → bag.Updates bytes_eq old new x true → AreSame new.keys (x ∷ old.keys)
one_more x old new h n =
    elim (cases_Bool (bytes_eq x n)) [
      | inl t ↦ let u = sym (bytes_eq_symmetric x n) ∙ t in h.0 n ∙ rw (t, u) refl
      | inr f ↦ let u = sym (bytes_eq_symmetric x n) ∙ f in h.0 n ∙ rw (f, u) refl
    ]
