-- Numbers that are equal but for gates.
use Rattle.sap_lemmas.proofs.Common.{◌≡◌, ℕ, ◌≤◌, ◌&&◌, ◌==◌, map, Some, None, Bool, true, false, sym, ap, ap₂, ◌∙◌, refl, inl, inr, if◌then◌else◌, bytes_eq, cases_Bool, bytes_eq_apart_back, bytes_eq_same}
use Rattle.sap_maps.proofs.ScopeLemmas.{found_first}
use Rattle.sap_bits.specs.Arithmetic.{value1, value2, slice_of, joined}
use Rattle.sap_maps.specs.Prelude.{Name, find, Term, constant, read, cell, one, two, choose, join, part, term_width}
use Rattle.sap_maps.proofs.Scopes.{apart}
use Rattle.sap_net.specs.Names.{AreDistinct}
use Rattle.sap_ir.specs.Prelude.{Action, set, put, Source, readable, shapes, Going, value_in, after_action, TermFine, ActionFine, declared, Forest, has_states, size, seat_width, put_value, SeatFine}
use Rattle.sap_ir.proofs.Declared.{assignable_readable}
use Rattle.sap_ir.proofs.Passes.{WidthsDeclared, fine_width}
use Rattle.sap_ir.proofs.plain.SeatWidths.{seat_register}
use Rattle.sap_flat.specs.Gates.{gate_name}
use Rattle.sap_flat.proofs.GateNames.{gate_differs}

-- What is declared, with the widths of the flat program's names and of the nested states'; gates are new.
pub record World (s : Source) (vf vp : Name → ℕ) : Type 0 where
  pub distinct : AreDistinct (declared s)
  pub flat : WidthsDeclared (shapes s) (readable s) vf
  pub plain : WidthsDeclared (shapes s) (readable s) vp
  pub new : (k : ℕ) → find (readable s) (gate_name k) ≡ None

-- equal at all declared names and in all memories
pub record Alike (s : Source) (g h : Going) : Type 0 where
  pub value : (n : Name) (u : ℕ) → find (readable s) n ≡ Some u → g.now.value n ≡ h.now.value n
  pub cells : (m : Name) (i : ℕ) → g.now.cell m i ≡ h.now.cell m i
  pub next : (m : Name) (i : ℕ) → g.next m i ≡ h.next m i

widths_same : (s : Source) (vf vp : Name → ℕ) → World s vf vp → (u : ℕ) (t : Term Name) → TermFine (shapes s) (readable s) u t → term_width vf t ≡ term_width vp t
widths_same s vf vp w u t f =
    fine_width (shapes s) (readable s) vf w.flat u t f ∙ sym (fine_width (shapes s) (readable s) vp w.plain u t f)

pub term_alike : (s : Source) (vf vp : Name → ℕ) → World s vf vp → (g h : Going) → Alike s g h → (u : ℕ) (t : Term Name)
    → TermFine (shapes s) (readable s) u t → value_in vf g t ≡ value_in vp h t
term_alike s vf vp w g h a u (constant k x) f = refl
term_alike s vf vp w g h a u (read n) f = a.value n u f
term_alike s vf vp w g h a u (cell m i) f =
    ap (λ (j : ℕ). g.now.cell m j) (term_alike s vf vp w g h a f.0 i f.3) ∙ a.cells m (value_in vp h i)
term_alike s vf vp w g h a u (one op x) f =
    ap₂ (λ (k j : ℕ). value1 op k j) (widths_same s vf vp w f.0 x f.2) (term_alike s vf vp w g h a f.0 x f.2)
term_alike s vf vp w g h a u (two op x y) f =
    ap₂ (λ (k j : ℕ). value2 op k j (value_in vf g y)) (widths_same s vf vp w f.0 x f.4) (term_alike s vf vp w g h a f.0 x f.4)
    ∙ ap (λ (j : ℕ). value2 op (term_width vp x) (value_in vp h x) j) (term_alike s vf vp w g h a f.1 y f.5)
term_alike s vf vp w g h a u (choose c x y) f =
    ap₂ (λ (k j : ℕ). if k == 0 then j else value_in vf g x) (term_alike s vf vp w g h a 1 c f.0) (term_alike s vf vp w g h a u y f.2)
    ∙ ap (λ (j : ℕ). if value_in vp h c == 0 then value_in vp h y else j) (term_alike s vf vp w g h a u x f.1)
term_alike s vf vp w g h a u (join x y) f =
    ap₂ (λ (k j : ℕ). joined (value_in vf g x) k j) (widths_same s vf vp w f.1 y f.5) (term_alike s vf vp w g h a f.1 y f.5)
    ∙ ap (λ (j : ℕ). joined j (term_width vp y) (value_in vp h y)) (term_alike s vf vp w g h a f.0 x f.4)
term_alike s vf vp w g h a u (part x hi lo) f = ap (λ (j : ℕ). slice_of j hi lo) (term_alike s vf vp w g h a f.0 x f.2)

pub set_alike : (s : Source) (g h : Going) → Alike s g h → (n : Name) (x y : ℕ) → x ≡ y → Alike s (put_value g n x) (put_value h n y)
set_alike s g h a n x y e =
    record {
      value = λ m u f. elim (cases_Bool (bytes_eq m n)) [ inl t ↦ rw t e | inr q ↦ rw q (a.value m u f) ];
      cells = a.cells;
      next = a.next;
    }

-- a gate is none of the declared names
pub gate_alike : (s : Source) (vf vp : Name → ℕ) → World s vf vp → (g h : Going) → Alike s g h → (k x : ℕ) → Alike s (put_value g (gate_name k) x) h
gate_alike s vf vp w g h a k x =
    record {
      value = λ m u f. rw (bytes_eq_apart_back (gate_name k) m (apart (readable s) (gate_name k) m u (w.new k) f)) (a.value m u f);
      cells = a.cells;
      next = a.next;
    }

cell_same : (b : Bool) (i j x y p q : ℕ) (k : ℕ) → i ≡ j → x ≡ y → p ≡ q → (if b && k == i then x else p) ≡ (if b && k == j then y else q)
cell_same b i j x y p q k e d r =
    ap₂ (λ (m n : ℕ). if b && k == m then n else p) e d ∙ ap (λ (m : ℕ). if b && k == j then y else m) r

pub act_alike : (s : Source) (vf vp : Name → ℕ) → World s vf vp → (g h : Going) → Alike s g h → (a : Action) → ActionFine s a → Alike s (after_action vf g a) (after_action vp h a)
act_alike s vf vp w g h al (set n t) f = set_alike s g h al n _ _ (term_alike s vf vp w g h al f.0 t f.2)
act_alike s vf vp w g h al (put m i t) f =
    let e = term_alike s vf vp w g h al f.1 i f.4 in
    let d = term_alike s vf vp w g h al f.0 t f.5 in
    record { value = al.value; cells = al.cells; next = λ n j. cell_same (bytes_eq n m) _ _ _ _ _ _ j e d (al.next n j) }

-- gates

pub at_gate : (g : Going) (k x : ℕ) → (put_value g (gate_name k) x).now.value (gate_name k) ≡ x
at_gate g k x = rw (bytes_eq_same (gate_name k)) refl

pub past_gate : (g : Going) (k j x : ℕ) → (j == k) ≡ false → (put_value g (gate_name k) x).now.value (gate_name j) ≡ g.now.value (gate_name j)
past_gate g k j x f = rw (gate_differs j k f) refl

pub past_name : (s : Source) (vf vp : Name → ℕ) → World s vf vp → (g : Going) (n : Name) (u x : ℕ) → find (readable s) n ≡ Some u → (j : ℕ)
    → (put_value g n x).now.value (gate_name j) ≡ g.now.value (gate_name j)
past_name s vf vp w g n u x f j = rw (apart (readable s) (gate_name j) n u (w.new j) f) refl

pub past_action : (s : Source) (vf vp : Name → ℕ) → World s vf vp → (g : Going) (a : Action) → ActionFine s a → (j : ℕ)
    → (after_action vf g a).now.value (gate_name j) ≡ g.now.value (gate_name j)
past_action s vf vp w g (set n t) f j =
    past_name s vf vp w g n f.0 (value_in vf g t) (assignable_readable s w.distinct n f.0 f.1) j
past_action s vf vp w g (put m i t) f j = refl

-- the gates from k on are 0
abbrev pub Zero : (k : ℕ) → Going → Type 0
Zero k g = (j : ℕ) → k ≤ j → g.now.value (gate_name j) ≡ 0

-- registers of current children

pub seat_found : (s : Source) (vf vp : Name → ℕ) → World s vf vp → (x : Name) (f : Forest) → SeatFine s x f → has_states f ≡ true → find (readable s) x ≡ Some (seat_width (size f))
seat_found s vf vp w x f h t =
    assignable_readable s w.distinct x (seat_width (size f))
    (found_first (map (λ r. (r.name, r.width)) s.registers) (map (λ r. (r.name, r.width)) s.wires) x (seat_width (size f)) (seat_register s x f t h))
