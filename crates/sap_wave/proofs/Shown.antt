-- The registers that ports show, one after another.
use Rattle.sap_lemmas.proofs.Common.{◌≡◌, ℕ, zero, suc, ◌<◌, List, [], ◌∷◌, ◌++◌, true, Option, Some, None, length, map, get_or, is_some, refl, sym, ap, ◌∙◌, arith, subst, inl, inr, unwrap_or, AllByRecursion, option_map, bytes_eq, cases_Bool, equal_of_bytes_eq}
use Rattle.sap_maps.specs.Prelude.{Name, find}
use Rattle.sap_net.specs.declared.parts.PortKind.TheVariants as kind
use Rattle.sap_net.specs.Prelude.{Net, is_among, NameMap, Indexes, at_name, place_in, IsNetlist, shapes, width_of, initial_number, is_register}
use Rattle.sap_net.specs.declared.parts.Port.{Port}
use Rattle.sap_net.specs.declared.parts.Register.{Register}
use Rattle.sap_net.proofs.Places.{is_there, placed}
use Rattle.sap_net.proofs.RulesLemmas.{values_past}
use Rattle.sap_wave.specs.declared.variable.Variable.{Variable}
use Rattle.sap_wave.specs.Prelude.{variables_among, initial_of, names_in, StandsIn}
use Rattle.sap_wave.proofs.Running.{starts, starts_found, widths_found}

-- where a register of the name stands
pub record IsAt (rs : List Register) (x : Name) (k : ℕ) : Type 0 where
  pub within : k < length rs
  pub named : (r : Register) → r ≡ get_or rs k r → r.name ≡ x

at_first : (r : Register) (rs : List Register) (x : Name) (k : ℕ) → bytes_eq r.name x ≡ true → Some zero ≡ Some k → IsAt (r ∷ rs) x k
at_first r rs x zero t e = record { within = omega arith; named = λ q same. ap (λ (z : Register). z.name) same ∙ equal_of_bytes_eq r.name x t }
at_first r rs x (suc k) t e = absurd (cc)

at_later : (r : Register) (rs : List Register) (x : Name) (k : ℕ) (o : Option ℕ) → ((j : ℕ) → o ≡ Some j → IsAt rs x j) → option_map suc o ≡ Some k → IsAt (r ∷ rs) x k
at_later r rs x k None h e = absurd (cc)
at_later r rs x zero (Some j) h e = absurd (cc)
at_later r rs x (suc k) (Some j) h e =
    let same : j ≡ k = cc in
    let i = h k (ap Some same) in
    record { within = let w = i.within in omega (arith, w); named = i.named }

pub is_at : (rs : List Register) (x : Name) (k : ℕ) → place_in (names_in rs) x ≡ Some k → IsAt rs x k
is_at [] x k h = absurd (cc)
is_at (r ∷ rs) x k h =
    elim (cases_Bool (bytes_eq r.name x)) [
      | inl t ↦ at_first r rs x k t (rw t at h)
      | inr f ↦ at_later r rs x k (place_in (names_in rs) x) (λ j e. is_at rs x j e) (rw f at h)
    ]

pub not_absent : (m : NameMap ℕ) (rs : List Register) (x : Name) → Indexes m (names_in rs) → is_among x (names_in rs) ≡ true → at_name m x ≡ None → ⊥
not_absent m rs x indexed h none =
    let there : is_some (place_in (names_in rs) x) ≡ true = placed (names_in rs) x ∙ h in
    let p = is_there (place_in (names_in rs) x) there in
    let e : None ≡ Some p.0 = sym none ∙ indexed x ∙ p.1 in
    cc

-- what holds of all registers holds of each
each_register : (P : Register → Type 0) (rs : List Register) (k : ℕ) (r : Register) → AllByRecursion P rs → k < length rs → r ≡ get_or rs k r → P r
each_register P [] k r h l e = absurd (omega arith)
each_register P (s ∷ rs) zero r h l e = subst P (sym e) h.0
each_register P (s ∷ rs) (suc k) r h l e = each_register P rs k r h.1 (omega arith) e

pub width_there : (n : Net) → IsNetlist n → (r : Register) → StandsIn n.registers r → width_of n r.name ≡ r.width
width_there n rules r s = each_register (λ r. width_of n r.name ≡ r.width) n.registers s.0 r (widths_found n rules) s.1 s.2

pub start_there : (n : Net) → IsNetlist n → (r : Register) → StandsIn n.registers r → initial_number n r.name ≡ r.start
start_there n rules r s =
    let own = values_past (shapes n) n.inputs (map (λ r. (r.name, r.width)) n.registers) rules.values in
    ap (λ (o : Option ℕ). unwrap_or o 0)
    (each_register (λ r. find (starts n.registers) r.name ≡ Some r.start) n.registers s.0 r (starts_found (shapes n) n.registers own) s.1 s.2)

-- what the port of a register adds

here : (n : Net) (p : Port) → p.kind ≡ kind.Register → variables_among n (p ∷ []) ≡ record { name = p.name; width = width_of n p.name } ∷ []
here n p e =
    let t : is_register p.kind ≡ true = ap is_register e in
    rw t refl

pub variable_added : (n : Net) → IsNetlist n → (r : Register) → StandsIn n.registers r → (p : Port) → p.kind ≡ kind.Register → r.name ≡ p.name → (old new : List Variable)
    → new ≡ old ++ (record { name = p.name; width = r.width } ∷ []) → new ≡ old ++ variables_among n (p ∷ [])
variable_added n rules r s p k e old new h =
    let w : r.width ≡ width_of n p.name = sym (width_there n rules r s) ∙ ap (width_of n) e in
    h
    ∙ ap (λ (z : ℕ). let v : Variable = record { name = p.name; width = z } in old ++ (v ∷ [])) w
    ∙ ap (λ (z : List Variable). old ++ z) (sym (here n p k))

pub first_added : (n : Net) → IsNetlist n → (r : Register) → StandsIn n.registers r → (p : Port) → p.kind ≡ kind.Register → r.name ≡ p.name → (old new : List ℕ)
    → new ≡ old ++ (r.start ∷ []) → new ≡ old ++ initial_of n (variables_among n (p ∷ []))
first_added n rules r s p k e old new h =
    let w : r.start ≡ initial_number n p.name = sym (start_there n rules r s) ∙ ap (initial_number n) e in
    h
    ∙ ap (λ (z : ℕ). old ++ (z ∷ [])) w
    ∙ ap (λ (z : List Variable). old ++ initial_of n z) (sym (here n p k))

-- one port more
