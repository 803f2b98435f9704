-- What a write of a term comes to, where some of its numbers are the cell as it was.
use Rattle.sap_lemmas.proofs.Common.{◌≡◌, ℕ, ◌==◌, List, Option, Some, Bool, true, false, sym, ap, ◌∙◌, subst, refl, inl, inr, if◌then◌else◌, bytes_eq, cases_Bool, and_parts, equal_of_bytes_eq, true_is_not_false}
use Rattle.sap_maps.specs.Prelude.{Name, Valuation, Scope, find, Term, choose}
use Rattle.sap_maps.specs.Term.{term_value}
use Rattle.sap_net.specs.Prelude.{Shapes, operand_value}
use Rattle.sap_net.specs.declared.parts.Operand.{Operand}
use Rattle.sap_net.specs.declared.parts.Operand.TheVariants.{Named, Constant}
use Rattle.sap_net.specs.declared.parts.Right.{Right}
use Rattle.sap_net.specs.declared.parts.Right.TheVariants.{Choose, Cell}
use Rattle.sap_net.specs.declared.parts.Wire.{Wire}
use Rattle.sap_ir.specs.IsGuarded.{TermFine}
use Rattle.sap_fold.specs.Folding.{same_operand}
use Rattle.sap_fold.proofs.Folds.{same_is}
use Rattle.sap_lower.specs.declared.parts.Part.{Part}
use Rattle.sap_lower.specs.declared.writes.Write.{Write}
use Rattle.sap_lower.specs.Facts.{right_of}
use Rattle.sap_lower.specs.Lowering.{calculated, low}
use Rattle.sap_lower.specs.Writes.{is_cell, reads_cell, spared, low_write}
use Rattle.sap_lower.proofs.Adding.{spared_added, write_added}
use Rattle.sap_lower.proofs.Known.{right_told}
use Rattle.sap_lower.proofs.Shared.{Gives}
use Rattle.sap_lower.proofs.Means.{Around, GivesBefore, front, plus_shows, low_front, low_stands}

-- A write under a condition of number d, of a term of number n, to a cell of number `cell`: it is made only under this
-- condition, of this number, and if it isn't made there the number is the cell's.
pub record Writes (v : Valuation) (x : Write) (d n cell : ℕ) : Type 0 where
  pub closed : (d == 0) ≡ true → (operand_value v x.when == 0) ≡ true
  pub value : (operand_value v x.when == 0) ≡ false → operand_value v x.value ≡ n
  pub kept : (d == 0) ≡ false → (operand_value v x.when == 0) ≡ true → n ≡ cell

-- numbers of a condition c that a test t shuts

shut_closed : (e t c : ℕ) → e ≡ (if t == 0 then c else 0) → (c == 0) ≡ true → (e == 0) ≡ true
shut_closed e t c q h =
    elim (cases_Bool (t == 0)) [
      | inl z ↦ let g : e ≡ c = rw z at q in rw g h
      | inr z ↦ let g : e ≡ 0 = rw z at q in rw g refl
    ]

shut_open : (e t c : ℕ) → e ≡ (if t == 0 then c else 0) → (e == 0) ≡ false → ((t == 0) ≡ true) × ((c == 0) ≡ false)
shut_open e t c q h =
    elim (cases_Bool (t == 0)) [
      | inl z ↦ let g : e ≡ c = rw z at q in (z, subst (λ (k : ℕ). (k == 0) ≡ false) g h)
      | inr z ↦ let g : e ≡ 0 = rw z at q in let k : (0 == 0) ≡ false = subst (λ (k : ℕ). (k == 0) ≡ false) g h in absurd (cc)
    ]

shut_test : (e t c : ℕ) → e ≡ (if t == 0 then c else 0) → (c == 0) ≡ false → (e == 0) ≡ true → (t == 0) ≡ false
shut_test e t c q on h =
    elim (cases_Bool (t == 0)) [
      | inl z ↦ let g : e ≡ c = rw z at q in let k : (c == 0) ≡ true = subst (λ (k : ℕ). (k == 0) ≡ true) g h in absurd (true_is_not_false (sym k ∙ on))
      | inr z ↦ z
    ]

second_taken : (t a b : ℕ) → (t == 0) ≡ true → (if t == 0 then b else a) ≡ b
second_taken t a b z = rw z refl

first_taken : (t a b : ℕ) → (t == 0) ≡ false → (if t == 0 then b else a) ≡ a
first_taken t a b z = rw z refl

-- what an operand that reads a cell is
cell_value : (widths : Name → ℕ) (v : Valuation) (ws : List Wire) → Gives widths v ws → (m : Name) (i : Operand) (n : Name) (r : Option Right)
    → right_of ws n ≡ r → is_cell m i r ≡ true → v.value n ≡ v.cell m (operand_value v i)
cell_value widths v ws given m i n (Some (Cell k j)) e h =
    let p = and_parts (bytes_eq k m) (same_operand j i) h in
    (right_told widths v ws given n (Cell k j) e).value
    ∙ ap (λ (q : Name). v.cell q (operand_value v j)) (equal_of_bytes_eq k m p.0)
    ∙ ap (λ (o : Operand). v.cell m (operand_value v o)) (same_is j i p.1)
cell_value widths v ws given m i n _ e h = absurd (cc)

read_value : (widths : Name → ℕ) (v : Valuation) (ws : List Wire) → Gives widths v ws → (m : Name) (i o : Operand) → reads_cell ws m i o ≡ true
    → operand_value v o ≡ v.cell m (operand_value v i)
read_value widths v ws given m i (Named n) h = cell_value widths v ws given m i n (right_of ws n) refl h
read_value widths v ws given m i (Constant w x) h = absurd (cc)

-- a write as it stands
plain_writes : (v : Valuation) (c o : Operand) (d n cell : ℕ) → operand_value v c ≡ d → ((d == 0) ≡ false → operand_value v o ≡ n)
    → Writes v (record { when = c; value = o }) d n cell
plain_writes v c o d n cell e f =
    record {
      closed = λ h. subst (λ (q : ℕ). (q == 0) ≡ true) (sym e) h;
      value = λ h. f (subst (λ (q : ℕ). (q == 0) ≡ false) e h);
      kept = λ on h. absurd (true_is_not_false (sym h ∙ subst (λ (q : ℕ). (q == 0) ≡ false) (sym e) on));
    }

spared_writes : (widths : Name → ℕ) (v : Valuation) (keeps : Bool) (c t : Operand) (a b : Part) (ws : List Wire) (d cell vt va vb : ℕ) → operand_value v c ≡ d
    → ((d == 0) ≡ false → operand_value v t ≡ vt) → ((d == 0) ≡ false → operand_value v a.operand ≡ va) → ((d == 0) ≡ false → operand_value v b.operand ≡ vb)
    → (keeps ≡ true → (d == 0) ≡ false → operand_value v a.operand ≡ cell)
    → (Gives widths v (calculated ws a.width (Choose t a.operand b.operand)).wires → (d == 0) ≡ false
    → operand_value v (calculated ws a.width (Choose t a.operand b.operand)).part.operand ≡ (if vt == 0 then vb else va))
    → Gives widths v (spared keeps c t a b ws).wires → Writes v (spared keeps c t a b ws).write d (if vt == 0 then vb else va) cell
spared_writes widths v true c t a b ws d cell vt va vb e ft fa fb reads whole h =
    let tv = operand_value v t in
    let p = (plus_shows widths v ws 1 (Choose t (Constant 1 0) c) h).value in
    record {
      closed = λ z. shut_closed _ tv (operand_value v c) p (subst (λ (q : ℕ). (q == 0) ≡ true) (sym e) z);
      value = λ z.
          let o = shut_open _ tv (operand_value v c) p z in
          let on : (d == 0) ≡ false = subst (λ (q : ℕ). (q == 0) ≡ false) e o.1 in
          fb on ∙ sym (second_taken vt va vb (subst (λ (q : ℕ). (q == 0) ≡ true) (ft on) o.0));
      kept = λ on z.
          let o = shut_test _ tv (operand_value v c) p (subst (λ (q : ℕ). (q == 0) ≡ false) (sym e) on) z in
          first_taken vt va vb (subst (λ (q : ℕ). (q == 0) ≡ false) (ft on) o) ∙ sym (fa on) ∙ reads refl on;
    }
spared_writes widths v false c t a b ws d cell vt va vb e ft fa fb reads whole h =
    plain_writes v c (calculated ws a.width (Choose t a.operand b.operand)).part.operand d (if vt == 0 then vb else va) cell e (λ on. whole h on)

pub write_means : (ms : Shapes) (vars : Scope) (vw widths : Name → ℕ) (v : Valuation) (es : List (Name × Part)) (value : Name → ℕ) (cells : Name → ℕ → ℕ)
    (m : Name) (s : ℕ × ℕ) → find ms m ≡ Some s → (c i : Operand) (d vi : ℕ) → operand_value v c ≡ d
    → ((d == 0) ≡ false → Around ms vars vw widths v es value cells) → ((d == 0) ≡ false → operand_value v i ≡ vi)
    → (w : ℕ) (t : Term Name) → TermFine ms vars w t → (ws : List Wire) → Gives widths v (low_write ms es m c i t ws).wires
    → Writes v (low_write ms es m c i t ws).write d (term_value vw value cells t) (cells m vi)
write_means ms vars vw widths v es value cells m s found c i d vi e around at w (choose t a b) f ws h =
    let z = low ms es t ws in
    let x = low ms es a z.wires in
    let y = low ms es b x.wires in
    let keeps = reads_cell y.wires m i x.part.operand in
    let hy : Gives widths v y.wires = spared_added (GivesBefore widths v) (front widths v) keeps c z.part.operand x.part y.part y.wires h in
    let hx = low_front widths v ms es b x.wires hy in
    let hz = low_front widths v ms es a z.wires hx in
    spared_writes widths v keeps c z.part.operand x.part y.part y.wires d (cells m vi) (term_value vw value cells t) (term_value vw value cells a)
    (term_value vw value cells b) e
    (λ on. (low_stands ms vars vw widths v es value cells (around on) 1 t f.0 ws hz).shows.value)
    (λ on. (low_stands ms vars vw widths v es value cells (around on) w a f.1 z.wires hx).shows.value)
    (λ on. (low_stands ms vars vw widths v es value cells (around on) w b f.2 x.wires hy).shows.value)
    (λ q on.
    read_value widths v y.wires hy m i x.part.operand q ∙ ap (λ (n : ℕ). v.cell m n) (at on) ∙ (around on).memories.same m s found vi)
    (λ g on. (low_stands ms vars vw widths v es value cells (around on) w (choose t a b) f ws g).shows.value) h
write_means ms vars vw widths v es value cells m s found c i d vi e around at w t f ws h =
    plain_writes v c (low ms es t ws).part.operand d (term_value vw value cells t) (cells m vi) e
    (λ on. (low_stands ms vars vw widths v es value cells (around on) w t f ws h).shows.value)

pub write_front : (ms : Shapes) (widths : Name → ℕ) (v : Valuation) (es : List (Name × Part)) (m : Name) (c i : Operand) (t : Term Name) (ws : List Wire)
    → Gives widths v (low_write ms es m c i t ws).wires → Gives widths v ws
write_front ms widths v es m c i t ws h = write_added (GivesBefore widths v) (front widths v) ms es m c i t ws h
