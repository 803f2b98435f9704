-- What is seen of a valuation that has the numbers of one of a copy.
use Rattle.sap_lemmas.proofs.Common.{◌≡◌, ℕ, List, [], ◌∷◌, map, sym, subst, ◌∙◌, inl, inr, bytes_eq, AllByRecursion, cases_Bool, equal_of_bytes_eq}
use Rattle.sap_maps.specs.Prelude.{Name, Valuation, Scope, find, Agree}
use Rattle.sap_net.specs.Prelude.{Net, IsRegister, IsMemory, IsNetlist, readable, written, value_after, cell_after, observed, AreSame}
use Rattle.sap_net.specs.declared.parts.Register.{Register}
use Rattle.sap_net.specs.declared.parts.Memory.{Memory}
use Rattle.sap_net.proofs.Unique.{operand_agree}
use Rattle.sap_build.specs.Copies.{copy_net, KeepsApart, through}
use Rattle.sap_build.proofs.Through.{observed_through}

next_same : (sc : Scope) (v w : Valuation) → Agree sc v w → (rs : List Register) → AllByRecursion (IsRegister sc) rs → (x : Name)
    → v.value x ≡ w.value x → value_after v x (find (map (λ r. (r.name, r.next)) rs) x) ≡ value_after w x (find (map (λ r. (r.name, r.next)) rs) x)
next_same sc v w a [] rules x e = e
next_same sc v w a (r ∷ rs) rules x e =
    elim (cases_Bool (bytes_eq r.name x)) [
      | inl t ↦ rw t (operand_agree sc v w a r.width r.next rules.0.1)
      | inr q ↦ rw q (next_same sc v w a rs rules.1 x e)
    ]

written_same : (sc : Scope) (v w : Valuation) → Agree sc v w → (m : Memory) → IsMemory sc m → (i : ℕ) → v.cell m.name i ≡ w.cell m.name i → written v m i ≡ written w m i
written_same sc v w a m rules i g =
    let d = operand_agree sc v w a 1 m.enable rules.enable in
    let e = operand_agree sc v w a rules.bits m.index rules.index in
    let f = operand_agree sc v w a m.width m.value rules.value in
    cc

cell_same : (sc : Scope) (v w : Valuation) → Agree sc v w → (ms : List Memory) → AllByRecursion (IsMemory sc) ms → (x : Name) (i : ℕ)
    → v.cell x i ≡ w.cell x i → cell_after v x i (find (map (λ m. (m.name, m)) ms) x) ≡ cell_after w x i (find (map (λ m. (m.name, m)) ms) x)
cell_same sc v w a [] rules x i e = e
cell_same sc v w a (m ∷ ms) rules x i e =
    elim (cases_Bool (bytes_eq m.name x)) [
      | inl t ↦ rw t (written_same sc v w a m rules.0 i (subst (λ (y : Name). v.cell y i ≡ w.cell y i) (sym (equal_of_bytes_eq m.name x t)) e))
      | inr q ↦ rw q (cell_same sc v w a ms rules.1 x i e)
    ]

-- where the numbers are the same, so is what is seen
pub same_seen : (n : Net) → IsNetlist n → (v w : Valuation) → AreSame n v w → AreSame n (observed n v) (observed n w)
same_seen n rules v w s =
    record {
      value = λ x u h. next_same (readable n) v w s.value n.registers rules.nexts x (s.value x u h);
      cell = λ m d h i. cell_same (readable n) v w s.value n.memories rules.writes m i (s.cell m d h i);
    }

pub seen_alike : (module_name : Name) (f : Name → Name) (n : Net) → IsNetlist n → KeepsApart f n → (v u : Valuation)
    → AreSame n v (through f u) → AreSame n (observed n v) (through f (observed (copy_net module_name f n) u))
seen_alike module_name f n rules k v u s =
    let o = observed_through module_name f n rules k u in
    let e = same_seen n rules v (through f u) s in
    record { value = λ x w h. e.value x w h ∙ o.value x w h; cell = λ m d h i. e.cell m d h i ∙ o.cell m d h i }
