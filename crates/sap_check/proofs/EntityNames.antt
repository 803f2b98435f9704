-- A name that is written last.
use Rattle.sap_lemmas.proofs.Common.{◌≡◌, ℕ, ◌+◌, ◌<◌, List, [], ◌++◌, length, sym, ap, ◌∙◌, subst, Option, Some, Result, OnOk, if◌then◌else◌, OnErr, is_ok, option_map, slice_get, unwrap_or}
use Rattle.sap_lemmas.proofs.Lists.{joined_part_on_last}
use Rattle.sap_names.specs.declared.entity.Entity.{Entity}
use Rattle.sap_check.specs.SiteTexts.{entity_name}

pub entity_written : {E : Type 0} (es : List Entity) (n : ℕ) (name text old new : List ℕ) (r : Result (Unit {0}) E)
    → option_map (λ (e : Entity). e.name.name) (slice_get es n) ≡ Some name → text ≡ name → new ≡ (if is_ok r then old ++ text else old) → OnOk r (new ≡ old ++ entity_name es n)
entity_written es n name text old new r h t e =
    joined_part_on_last r new old text (entity_name es n) e (t ∙ sym (ap (λ (o : Option (List ℕ)). unwrap_or o []) h))

-- there was no room for it
pub entity_full : {E : Type 0} (es : List Entity) (n capacity size old : ℕ) (name text : List ℕ) (r : Result (Unit {0}) E)
    → option_map (λ (e : Entity). e.name.name) (slice_get es n) ≡ Some name → text ≡ name → size ≡ old
    → OnErr r (capacity < size + length text) → OnErr r (capacity < old + length (entity_name es n))
entity_full es n capacity size old name text r h t same full =
    subst (λ (k : ℕ). OnErr r (capacity < k + length (entity_name es n))) same
    (subst (λ (x : List ℕ). OnErr r (capacity < size + length x)) (t ∙ sym (ap (λ (o : Option (List ℕ)). unwrap_or o []) h)) full)
