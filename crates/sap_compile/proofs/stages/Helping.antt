-- The names of helping wires, which no port, register or memory has.
use Rattle.sap_lemmas.proofs.Common.{◌≡◌, ◌⊎◌, ℕ, zero, suc, List, [], ◌∷◌, ◌++◌, filter, not, true, false, inl, inr, refl, sym, ◌∙◌, subst, bytes_eq, cases_Bool, or_cases, equal_of_bytes_eq}
use Rattle.sap_net.proofs.NamesLemmas.{among_append}
use Rattle.sap_maps.specs.Maps.{Name}
use Rattle.sap_net.specs.Prelude.{is_among, IsHelpingName, names_of}
use Rattle.sap_net.specs.declared.parts.Wire.{Wire}
use Rattle.sap_interface.specs.Prelude.{Named, IsInterfaceName, value_of, tag_of, state_tag_of, child_of, child_of_root, refusal_of, level_of}
use Rattle.sap_trim.specs.Names.{helper, numbered}

-- a name on one of two lists

pub among_either : (n : Name) (xs ys : List Name) → is_among n (xs ++ ys) ≡ true → (is_among n xs ≡ true) ⊎ (is_among n ys ≡ true)
among_either n xs ys h = or_cases (is_among n xs) (is_among n ys) (sym (among_append n xs ys) ∙ h)

-- a number behind an n is the name of a helping wire

pub numbered_helping : (k : ℕ) (n : Name) → is_among n (numbered k) ≡ true → IsHelpingName n
numbered_helping zero n h = absurd (cc)
numbered_helping (suc k) n h = elim (among_either n (numbered k) (helper k ∷ []) h) [
  | inl t ↦ numbered_helping k n t
  | inr t ↦ elim (or_cases (bytes_eq n (helper k)) false t) [ inl e ↦ (k, equal_of_bytes_eq n (helper k) e) | inr e ↦ absurd (cc) ]
]

-- no name of the interface

pub no_helper : (d : Named) (sites : ℕ) (n : Name) → IsInterfaceName d sites n → (k : ℕ) → bytes_eq (helper k) n ≡ false
unfolding helper
no_helper d sites _ (value_of x h) k = refl
no_helper d sites _ (tag_of x h) k = refl
no_helper d sites _ (state_tag_of x h l) k = refl
no_helper d sites _ (child_of p l c) k = refl
no_helper d sites _ child_of_root k = refl
no_helper d sites _ (refusal_of j i l) k = refl
no_helper d sites _ (level_of j i l) k = refl

-- a wire that is no port

pub helping_there : (ns : List Name) (ws : List Wire) (n : Name) → is_among n ns ≡ false → is_among n (names_of ws) ≡ true
    → is_among n (names_of (filter (λ w. not (is_among w.name ns)) ws)) ≡ true
helping_there ns [] n f h = absurd (cc)
helping_there ns (w ∷ ws) n f h = elim (cases_Bool (bytes_eq n w.name)) [
  | inl t ↦ (let g : is_among w.name ns ≡ false = subst (λ (m : Name). is_among m ns ≡ false) (equal_of_bytes_eq n w.name t) f in rw (g, t) refl)
  | inr t ↦ (let r = helping_there ns ws n f (rw t at h) in elim (cases_Bool (is_among w.name ns)) [ inl g ↦ rw g r | inr g ↦ rw (g, t) r ])
]
