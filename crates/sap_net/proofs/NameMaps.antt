-- Maps from names, as one more name is put in.
use Rattle.sap_lemmas.proofs.Common.{◌≡◌, ℕ, Option, Some, Bool, false, inl, inr, subst, ◌∙◌, bytes_eq, Vec, Global, cases_Bool, equal_of_bytes_eq}
use Rattle.sap_lemmas.proofs.Lists.{others_kept}
use Rattle.sap_lemmas.proofs.Texts.{bytes_eq_alike, bytes_eq_apart}
use Rattle.std.specs.HashMap as hash
use Rattle.sap_maps.specs.Maps.{Name}
use Rattle.sap_net.specs.NameMaps.{NameMap, at_name, Puts}

abbrev pub same_bytes : Vec ℕ Global → Vec ℕ Global → Bool
same_bytes x y = bytes_eq x.items y.items

-- what an insertion leaves at each other name
pub at_other : {X : Type 0} (m n : NameMap X) (bs : Name) (w : Option X) → hash.UpdatesBy same_bytes (λ k. bytes_eq bs k.items) m n w → (cs : Name) → bytes_eq bs cs ≡ false
    → at_name n cs ≡ at_name m cs
at_other m n bs w h cs e =
    others_kept same_bytes (λ k. bytes_eq bs k.items) m.entries n.entries h.3 (λ k. bytes_eq cs k.items)
    (λ x y. bytes_eq_alike cs x.items y.items) (λ k. bytes_eq_apart bs cs k.items e)

-- what the insertion of a name leaves at all names
pub puts : {X : Type 0} (m n : NameMap X) (key : Vec ℕ Global) (x : Name) (o : X) → key.items ≡ x → hash.UpdatesBy same_bytes (same_bytes key) m n (Some o)
    → Puts (at_name m) x o (at_name n)
puts m n key x o e h y =
    elim (cases_Bool (bytes_eq x y)) [
      | inl t ↦ rw t (subst (λ (z : Name). at_name n z ≡ Some o) (e ∙ equal_of_bytes_eq x y t) h.1)
      | inr f ↦ rw f (at_other m n x (Some o) (subst (λ (b : Name). hash.UpdatesBy same_bytes (λ k. bytes_eq b k.items) m n (Some o)) e h) y f)
    ]
