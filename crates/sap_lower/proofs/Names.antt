-- The names of the netlist of a program, and the whole of its rules.
use Rattle.sap_lemmas.proofs.Common.{◌≡◌, ℕ, ◌&&◌, ◌||◌, List, [], ◌∷◌, ◌++◌, map, filter, Some, None, Bool, true, false, not, sym, ap, ap₂, ◌∙◌, subst, refl, inl, inr, bytes_eq, cases_Bool, bytes_eq_apart_back}
use Rattle.sap_net.proofs.NamesLemmas.{among_append, distinct_both, filter_among, filter_distinct}
use Rattle.sap_maps.proofs.ScopeLemmas.{found_first}
use Rattle.sap_ir.proofs.IsGuardedLemmas.{variables_append}
use Rattle.sap_maps.specs.Prelude.{Name, Scope, find}
use Rattle.sap_maps.proofs.Scopes.{not_behind}
use Rattle.sap_net.specs.Prelude.{is_among, AreDistinct, names_of}
use Rattle.sap_net.specs.declared.parts.Input.{Input}
use Rattle.sap_net.specs.declared.parts.Wire.{Wire}
use Rattle.sap_net.specs.declared.parts.Register.{Register}
use Rattle.sap_net.specs.declared.parts.Memory.{Memory}
use Rattle.sap_ir.specs.IsGuarded.{variable_names}
use Rattle.sap_ir.specs.declared.guarded.Var.{Var}
use Rattle.sap_ir.specs.declared.guarded.MemoryVariable.{MemoryVariable}
use Rattle.sap_ir.specs.IsGuarded as ir
use Rattle.sap_lower.specs.declared.parts.Part.{Part}
use Rattle.sap_lower.specs.declared.parts.WritePort.{WritePort}
use Rattle.sap_lower.specs.Lowered.{out_wire, register_of, memory_of, input_of, picked, unlisted, unported}
use Rattle.sap_lower.proofs.Begins.{scope_of}
use Rattle.sap_lower.proofs.Declares.{register_among, unported_among, unported_distinct, unlisted_names, picked_names}

-- names of the parts

pub inputs_named : (xs : List Var) → map (λ (x : Input). x.name) (map input_of xs) ≡ variable_names xs
inputs_named [] = refl
inputs_named (x ∷ xs) = ap (λ (ns : List Name). x.name ∷ ns) (inputs_named xs)

pub registers_named : (es : List (Name × Part)) (xs : List Var) → map (λ (r : Register). r.name) (map (register_of es) xs) ≡ variable_names xs
registers_named es [] = refl
registers_named es (x ∷ xs) = ap (λ (ns : List Name). x.name ∷ ns) (registers_named es xs)

pub memories_named : (ps : List (Name × WritePort)) (ms : List MemoryVariable) → map (λ (m : Memory). m.name) (map (memory_of ps) ms) ≡ ir.memory_names ms
memories_named ps [] = refl
memories_named ps (m ∷ ms) = ap (λ (ns : List Name). m.name ∷ ns) (memories_named ps ms)

pub outs_named : (es : List (Name × Part)) (ws : List Wire) (xs : List Var) → names_of (ws ++ map (out_wire es) xs) ≡ names_of ws ++ variable_names xs
outs_named es (w ∷ ws) xs = ap (λ (ns : List Name). w.name ∷ ns) (outs_named es ws xs)
outs_named es [] [] = refl
outs_named es [] (x ∷ xs) = ap (λ (ns : List Name). x.name ∷ ns) (outs_named es [] xs)

pub declared_named : (rs : List Var) (ps : List Name) → variable_names (picked rs ps ++ unlisted ps rs) ≡ filter (register_among rs) ps ++ unported ps (variable_names rs)
declared_named rs ps = variables_append (picked rs ps) (unlisted ps rs) ∙ ap₂ (λ (a b : List Name). a ++ b) (sym (picked_names rs ps)) (unlisted_names ps rs)

either_part : (p r : Bool) → ((p && r) || (r && not p)) ≡ r
either_part true true = refl
either_part true false = refl
either_part false true = refl
either_part false false = refl

pub declared_among : (rs : List Var) (ps : List Name) (n : Name) → is_among n (variable_names (picked rs ps ++ unlisted ps rs)) ≡ is_among n (variable_names rs)
declared_among rs ps n =
    ap (λ (ns : List Name). is_among n ns) (declared_named rs ps)
    ∙ among_append n (filter (register_among rs) ps) (unported ps (variable_names rs))
    ∙ ap₂ (λ (a b : Bool). a || b) (filter_among (register_among rs) ps n) (unported_among ps (variable_names rs) n)
    ∙ either_part (is_among n ps) (is_among n (variable_names rs))

not_both : (p r : Bool) → (p && r) ≡ true → (r && not p) ≡ false
not_both true true h = refl
not_both true false h = refl
not_both false true h = absurd (cc)
not_both false false h = refl

pub declared_distinct : (rs : List Var) (ps : List Name) → AreDistinct (variable_names rs) → AreDistinct ps → AreDistinct (variable_names (picked rs ps ++ unlisted ps rs))
declared_distinct rs ps d e =
    subst AreDistinct (sym (declared_named rs ps))
    (distinct_both (filter (register_among rs) ps) (unported ps (variable_names rs)) (filter_distinct (register_among rs) ps e) (unported_distinct ps (variable_names rs) d)
    (λ n h. unported_among ps (variable_names rs) n ∙ not_both (is_among n ps) (is_among n (variable_names rs)) (sym (filter_among (register_among rs) ps n) ∙ h)))

among_found : (xs : List Var) (n : Name) → is_among n (variable_names xs) ≡ true → (u : ℕ) × (find (scope_of xs) n ≡ Some u)
among_found [] n h = absurd (cc)
among_found (x ∷ xs) n h =
    elim (cases_Bool (bytes_eq x.name n)) [
      | inl t ↦ (x.width, rw t refl)
      | inr f ↦ let g = bytes_eq_apart_back x.name n f in let r = among_found xs n (rw g at h) in (r.0, rw f r.1)
    ]

pub new_to_first : (is rs : List Var) (n : Name) → find (scope_of is ++ scope_of rs) n ≡ None → is_among n (variable_names is) ≡ false
new_to_first is rs n h =
    elim (cases_Bool (is_among n (variable_names is))) [
      | inl t ↦ absurd (let r = among_found is n t in let g = found_first (scope_of is) (scope_of rs) n r.0 r.1 in cc)
      | inr f ↦ f
    ]

no_none : (es fs : Scope) (n : Name) (u : ℕ) → find fs n ≡ Some u → find (es ++ fs) n ≡ None → ⊥
no_none [] fs n u a h = cc
no_none (e ∷ es) fs n u a h = no_none es fs n u a (not_behind e (es ++ fs) n h)

pub new_to_second : (is rs : List Var) (n : Name) → find (scope_of is ++ scope_of rs) n ≡ None → is_among n (variable_names rs) ≡ false
new_to_second is rs n h =
    elim (cases_Bool (is_among n (variable_names rs))) [
      | inl t ↦ absurd (let r = among_found rs n t in no_none (scope_of is) (scope_of rs) n r.0 r.1 h)
      | inr f ↦ f
    ]
