-- The names of entities and levels by their numbers.
use Rattle.sap_lemmas.proofs.Common.{◌≡◌, ℕ, zero, suc, ◌+◌, ◌<◌, Bool, List, [], ◌∷◌, length, sym, ap, subst, ◌∙◌, arith, inl, inr, bytes_eq, cases_Bool, equal_of_bytes_eq, position_or_len}
use Rattle.std.proofs.Math.Numerals.{one-add}
use Rattle.sap_tree.specs.declared.name.Mention.{Mention}
use Rattle.sap_lattice.specs.Levels.{Levels}
use Rattle.sap_names.specs.NameFaults.{level_faults, twice}
use Rattle.sap_names.specs.declared.entity.Entity.{Entity}
use Rattle.sap_resolved.specs.Worlds.{level_number}
use Rattle.sap_resolved.proofs.WorldsLemmas.{known_level, position_or_behind}
use Rattle.sap_resolved.specs.Terms.{entity_number}
use Rattle.sap_resolved.proofs.premises.Places.{name_at}
use Rattle.sap_resolved.proofs.premises.Lookups.{unique}
use Rattle.sap_resolved.specs.Kept.Kept.{IsNth, IsNamed, IsLevel}

pub named_at : (es : List Entity) (x : ℕ) (name : List ℕ) → x < length es → name_at es x ≡ name → IsNamed es x name
named_at [] x name h e = absurd (omega arith)
named_at (f ∷ es) zero name h e = e
named_at (f ∷ es) (suc x) name h e = named_at es x name (omega arith) e

pub named_of : (es : List Entity) (x : ℕ) (name : List ℕ) → IsNamed es x name → (x < length es) × (name_at es x ≡ name)
named_of [] x name h = absurd h
named_of (f ∷ es) zero name h = (omega arith, h)
named_of (f ∷ es) (suc x) name h =
    let r = named_of es x name h in
    let l : x < length es = r.0 in
    (omega arith, r.1)

-- no two entities have one name
pub one_name : (es : List Entity) → twice [] es ≡ [] → (x y : ℕ) (name : List ℕ) → IsNamed es x name → IsNamed es y name → x ≡ y
one_name es once x y name h i =
    let r = named_of es x name h in
    let s = named_of es y name i in
    sym (unique es once x r.0) ∙ ap (λ (n : List ℕ). entity_number es n) (r.1 ∙ sym s.1) ∙ unique es once y s.0

-- a level's name
level_nth : (names : List (List ℕ)) (name : List ℕ) → position_or_len (λ l. bytes_eq l name) names < length names
    → IsNth names (position_or_len (λ l. bytes_eq l name) names) name
level_nth [] name h = absurd (omega arith)
level_nth (l ∷ ls) name h = elim (cases_Bool (bytes_eq l name)) [
  | inl t ↦ rw t (equal_of_bytes_eq l name t)
  | inr t ↦ (let below : 1 + position_or_len (λ l. bytes_eq l name) ls < length (l ∷ ls) = rw t at h in rw (t, one-add) (level_nth ls name (omega arith)))
]

pub level_has_name : (ls : Levels) (m : Mention) → level_faults ls.names m ≡ [] → IsLevel ls (level_number ls m) m.name
level_has_name ls m h =
    let test : List ℕ → Bool = λ l. bytes_eq l m.name in
    let same : level_number ls m ≡ position_or_len test ls.names = position_or_behind test ls.names in
    subst (λ (k : ℕ). IsNth ls.names k m.name) (sym same)
    (level_nth ls.names m.name (subst (λ (k : ℕ). k < length ls.names) same (known_level ls m h).0))
