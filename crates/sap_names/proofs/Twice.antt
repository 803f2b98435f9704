-- An entity that is declared earlier is not the first of its name.
use Rattle.sap_lemmas.proofs.Common.{◌≡◌, ◌∙◌, ℕ, zero, suc, ◌+◌, ◌<◌, ◌≤◌, List, [], ◌∷◌, ◌++◌, length, get_or, take, drop, Bool, true, false, refl, ap, ap₂, sym, arith, at_drop_all, at_drop_more, nat_list_eq_equiv, take_more, Option, Some, None, if◌then◌else◌, option_map, eqb, not, bytes_eq}
use Rattle.std.proofs.Math.Dec.{eqb-suc-suc, eqb-zero-suc}
use Rattle.sap_names.specs.Best.{best_of}
use Rattle.sap_names.specs.Entities.{Entity, number_of}
use Rattle.sap_names.specs.Fault.{Fault}
use Rattle.sap_names.specs.Lists.{differs, is_later}
use Rattle.sap_names.specs.NameFaults.{fault_if, is_declared, twice}
use Rattle.sap_names.specs.declared.kind.Code.TheVariants.{E3}
use Rattle.sap_names.proofs.Faults.{both}

differs-suc : (o : Option ℕ) (n : ℕ) → differs o n ≡ differs (option_map (λ k. k + 1) o) (suc n)
differs-suc None n = refl
differs-suc (Some k) n = let next : suc k ≡ k + 1 = omega arith in ap not (sym (eqb-suc-suc k n)) ∙ ap (λ (m : ℕ). not (eqb m (suc n))) next

one_more : (b p : Bool) (o : Option ℕ) (n : ℕ) → p ≡ differs o n
    → (if b then true else p) ≡ differs (if b then Some 0 else option_map (λ k. k + 1) o) (suc n)
one_more true p o n h = ap not (sym (eqb-zero-suc n))
one_more false p o n h = h ∙ differs-suc o n

declared-is_later : (es : List Entity) (n : ℕ) (d : Entity) (name : List ℕ) → n < length es → bytes_eq (get_or es n d).name.name name ≡ true
    → is_declared (take n es) name ≡ is_later es name n
declared-is_later [] n d name h same = absurd (omega arith)
declared-is_later (e ∷ es) zero d name h same = sym (ap (λ (b : Bool). differs (if b then Some 0 else option_map (λ k. k + 1) (number_of es name)) 0) same)
declared-is_later (e ∷ es) (suc n) d name h same = one_more (bytes_eq e.name.name name) _ _ n (declared-is_later es n d name (omega arith) same)

twice-drop : (before es : List Entity) (n : ℕ) (d : Entity) → n < length es
    → twice before (drop n es) ≡ fault_if (is_declared before (get_or es n d).name.name) E3 (get_or es n d).name.place ++ twice (before ++ get_or es n d ∷ []) (drop (n + 1) es)
twice-drop before es n d h = at_drop_more (twice before) es n d h

pub twice_past : (before es : List Entity) (n : ℕ) → length es ≤ n → twice before (drop n es) ≡ []
twice_past before es n h = at_drop_all (twice before) es n h

-- one entity, and those behind it
pub twice_step : (es items : List Entity) (n : ℕ) (d : Entity) (name : List ℕ) (b : Bool) (o m : Option Fault) → items ≡ es → n < length items → d ≡ get_or items n d
    → name ≡ d.name.name → b ≡ is_later es name n → m ≡ best_of o (fault_if b E3 d.name.place)
    → best_of m (twice (take (n + 1) es) (drop (n + 1) es)) ≡ best_of o (twice (take n es) (drop n es))
twice_step es items n d name b o m same h e named later k =
    both o m _ (fault_if (is_declared (take n es) d.name.name) E3 d.name.place) (twice (take (n + 1) es) (drop (n + 1) es)) _
    (k ∙ ap (λ (t : Bool). best_of o (fault_if t E3 d.name.place)) (later ∙ ap (λ (l : List ℕ). is_later es l n) named ∙ sym declared))
    refl
    (twice-drop (take n es) es n d within
    ∙ ap₂ (λ (x : Entity) (l : List Entity). fault_if (is_declared (take n es) x.name.name) E3 x.name.place ++ twice l (drop (n + 1) es)) (sym at_n)
    (sym (take_more es n d within)))
  where
    within : n < length es
    within = omega (arith, ap length same)

    at_n : d ≡ get_or es n d
    at_n = e ∙ ap (λ (l : List Entity). get_or l n d) same

    declared : is_declared (take n es) d.name.name ≡ is_later es d.name.name n
    declared = declared-is_later es n d d.name.name within (ap (λ (x : Entity). bytes_eq x.name.name d.name.name) (sym at_n) ∙ nat_list_eq_equiv.refl d.name.name)
