-- What the type keeps passes the test.
use Rattle.sap_lemmas.proofs.Common.{◌≡◌, ℕ, zero, suc, ◌+◌, ◌-◌, ◌^◌, ◌≤◌, ◌&&◌, ◌==◌, ◌++◌, Option, Some, Bool, true, not, sym, ap, ap₂, ◌∙◌, refl, arith, inl, inr, nat_lt, nat_le, and_from, cases_Bool, le-leb, lt-ltb, Decides-eqb, test_of_equal}
use Rattle.sap_lemmas.proofs.Bools.{five_from, three_from}
use Rattle.sap_lemmas.proofs.Everywhere.{test_of_all}
use Rattle.sap_lemmas.proofs.Numbers.{below_unequal}
use Rattle.sap_ir.proofs.TestLemmas.{distinct_to}
use Rattle.sap_bits.specs.Arithmetic.{width1, width2}
use Rattle.sap_bits.specs.declared.Op2.{Op2}
use Rattle.sap_bits.specs.declared.Op2.TheVariants.{Add, Sub, Mul, And, Or, Xor, Eq, Ne, Lt, Le, Shl, Shr}
use Rattle.sap_maps.specs.Prelude.{Name, Scope, find, Term, constant, read, cell, one, two, choose, join, part, term_width, CountFits}
use Rattle.sap_net.specs.Prelude.{is_name, is_among, AreDistinct, IsWidth, Shapes}
use Rattle.sap_ir.specs.declared.guarded.Var.{Var}
use Rattle.sap_ir.specs.declared.guarded.MemoryVariable.{MemoryVariable}
use Rattle.sap_ir.specs.Source.{Action, set, put, Command, Source, readable, shapes, width_of}
use Rattle.sap_ir.specs.IsGuarded.{TermFine, ActionFine, CommandFine, variable_names, declared, is_helping, IsPlainVar, IsRegisterVar, IsMemoryVariable, IsGuarded}
use Rattle.sap_ir.specs.Test.{is_width, is_found, of_width, count_fits, term_is_fine, value_is_fine, action_is_fine, command_is_fine, is_plain_var, is_register_var, is_power, is_memory_variable, is_guarded}
use Rattle.sap_ir.proofs.Declared.{readable_width, shape_width}

six : {a b c d e f : Bool} → a ≡ true → b ≡ true → c ≡ true → d ≡ true → e ≡ true → f ≡ true → (a && b && c && d && e && f) ≡ true
six {a} {b} {c} {d} {e} {f} h k l m n o = and_from (a && b && c && d && e) f (five_from {a = a} {b = b} {c = c} {d = d} {e = e} h k l m n) o

width_to : (w : ℕ) → IsWidth w → is_width w ≡ true
width_to w h = and_from (nat_le 1 w) (nat_le w 64) (le-leb 1 w h.0) (le-leb w 64 h.1)

found_to : (u : ℕ) (o : Option ℕ) → o ≡ Some u → is_found u o ≡ true
found_to u o h = ap (is_found u) h ∙ test_of_equal u u refl

count_to : (op : Op2) (w t : ℕ) → CountFits op w t → count_fits op w t ≡ true
count_to Shl w t h = refl
count_to Shr w t h = refl
count_to Add w t h = test_of_equal t w h
count_to Sub w t h = test_of_equal t w h
count_to Mul w t h = test_of_equal t w h
count_to And w t h = test_of_equal t w h
count_to Or w t h = test_of_equal t w h
count_to Xor w t h = test_of_equal t w h
count_to Eq w t h = test_of_equal t w h
count_to Ne w t h = test_of_equal t w h
count_to Lt w t h = test_of_equal t w h
count_to Le w t h = test_of_equal t w h

-- the widths of names and of memories' cells are the declared ones
pub record WidthsDeclared (ms : Shapes) (sc : Scope) (widths : Name → ℕ) : Type 0 where
  pub values : (n : Name) (u : ℕ) → find sc n ≡ Some u → widths n ≡ u
  pub cells : (m : Name) (e : ℕ × ℕ) → find ms m ≡ Some e → widths m ≡ e.0

pub fine_width : (ms : Shapes) (sc : Scope) (widths : Name → ℕ) → WidthsDeclared ms sc widths → (u : ℕ) (t : Term Name) → TermFine ms sc u t → term_width widths t ≡ u
fine_width ms sc widths w u (constant k x) f = f.0
fine_width ms sc widths w u (read n) f = w.values n u f
fine_width ms sc widths w u (cell m i) f = w.cells m _ f.2
fine_width ms sc widths w u (one op a) f = ap (λ (k : ℕ). width1 op k) (fine_width ms sc widths w f.0 a f.2) ∙ sym f.3
fine_width ms sc widths w u (two op a b) f = ap (λ (k : ℕ). width2 op k) (fine_width ms sc widths w f.0 a f.4) ∙ sym f.7
fine_width ms sc widths w u (choose c a b) f = fine_width ms sc widths w u a f.1
fine_width ms sc widths w u (join a b) f =
    ap₂ (λ (j k : ℕ). j + k) (fine_width ms sc widths w f.0 a f.4) (fine_width ms sc widths w f.1 b f.5) ∙ sym f.6
fine_width ms sc widths w u (part a hi lo) f = sym f.5

term_to : (ms : Shapes) (sc : Scope) (widths : Name → ℕ) → WidthsDeclared ms sc widths → (u : ℕ) (t : Term Name) → TermFine ms sc u t → term_is_fine ms sc widths u t ≡ true
term_to ms sc widths d u (constant w n) f = and_from (w == u) (nat_lt n (2 ^ u)) (test_of_equal w u f.0) (lt-ltb n (2 ^ u) f.1)
term_to ms sc widths d u (read x) f = found_to u (find sc x) f
term_to ms sc widths d u (cell m i) f =
    let e = fine_width ms sc widths d f.0 i f.3 in
    rw (e, f.2) (three_from (width_to f.0 f.1)
    (and_from (u == u) (2 ^ f.0 == 2 ^ f.0) (test_of_equal u u refl) (test_of_equal (2 ^ f.0) (2 ^ f.0) refl)) (term_to ms sc widths d f.0 i f.3))
term_to ms sc widths d u (one op a) f =
    let e = fine_width ms sc widths d f.0 a f.2 in
    rw e (three_from (width_to f.0 f.1) (term_to ms sc widths d f.0 a f.2) (test_of_equal u (width1 op f.0) f.3))
term_to ms sc widths d u (two op a b) f =
    let e = fine_width ms sc widths d f.0 a f.4 in
    let g = fine_width ms sc widths d f.1 b f.5 in
    rw (e, g) (six (width_to f.0 f.2) (width_to f.1 f.3) (term_to ms sc widths d f.0 a f.4) (term_to ms sc widths d f.1 b f.5)
    (count_to op f.0 f.1 f.6) (test_of_equal u (width2 op f.0) f.7))
term_to ms sc widths d u (choose c a b) f =
    three_from (term_to ms sc widths d 1 c f.0) (term_to ms sc widths d u a f.1) (term_to ms sc widths d u b f.2)
term_to ms sc widths d u (join a b) f =
    let e = fine_width ms sc widths d f.0 a f.4 in
    let g = fine_width ms sc widths d f.1 b f.5 in
    rw (e, g) (five_from (width_to f.0 f.2) (width_to f.1 f.3) (term_to ms sc widths d f.0 a f.4) (term_to ms sc widths d f.1 b f.5) (test_of_equal u (f.0 + f.1) f.6))
term_to ms sc widths d u (part a hi lo) f =
    let e = fine_width ms sc widths d f.0 a f.2 in
    rw e (five_from (width_to f.0 f.1) (term_to ms sc widths d f.0 a f.2) (le-leb lo hi f.3) (lt-ltb hi f.0 f.4) (test_of_equal u (hi + 1 - lo) f.5))

pub source_widths : (s : Source) → AreDistinct (declared s) → WidthsDeclared (shapes s) (readable s) (width_of s)
source_widths s d = record { values = readable_width s; cells = shape_width s d }

value_to : (s : Source) → AreDistinct (declared s) → (u : ℕ) (t : Term Name) → TermFine (shapes s) (readable s) u t → value_is_fine s t u ≡ true
value_to s d u t f = term_to (shapes s) (readable s) (width_of s) (source_widths s d) u t f

action_to : (s : Source) → AreDistinct (declared s) → (a : Action) → ActionFine s a → action_is_fine s a ≡ true
action_to s d (set x t) f = ap (of_width (value_is_fine s t)) f.1 ∙ value_to s d f.0 t f.2
action_to s d (put m i t) f =
    let e = fine_width (shapes s) (readable s) (width_of s) (source_widths s d) f.1 i f.4 in
    rw (e, f.3) (three_from (width_to f.1 f.2) (value_to s d f.1 i f.4)
    (and_from (value_is_fine s t f.0) (2 ^ f.1 == 2 ^ f.1) (value_to s d f.0 t f.5) (test_of_equal (2 ^ f.1) (2 ^ f.1) refl)))

command_to : (s : Source) → AreDistinct (declared s) → (c : Command) → CommandFine s c → command_is_fine s c ≡ true
command_to s d c f = and_from (value_is_fine s c.when 1) (action_is_fine s c.act) (value_to s d 1 c.when f.0) (action_to s d c.act f.1)

plain_to : (x : Var) → IsPlainVar x → is_plain_var x ≡ true
plain_to x h = and_from (is_width x.width) (x.start == 0) (width_to x.width h.0) (test_of_equal x.start 0 h.1)

register_to : (x : Var) → IsRegisterVar x → is_register_var x ≡ true
register_to x h = and_from (is_width x.width) (nat_lt x.start (2 ^ x.width)) (width_to x.width h.0) (lt-ltb x.start (2 ^ x.width) h.1)

power_to : (k d b : ℕ) → 1 ≤ b → b ≤ k → d ≡ 2 ^ b → is_power k d ≡ true
power_to zero d b h k e = absurd (omega (arith, h, k))
power_to (suc k) d b h l e =
    elim (cases_Bool (d == 2 ^ suc k)) [
      | inl t ↦ rw t refl
      | inr f ↦ rw f (power_to k d b h (elim (cases_Bool (b == suc k)) [
        | inl q ↦
            absurd (let r : b ≡ suc k = (Decides-eqb b (suc k)).0 q in let t = test_of_equal d (2 ^ suc k) (e ∙ ap (λ (n : ℕ). 2 ^ n) r) in cc)
        | inr q ↦ below_unequal b k l q
      ]) e)
    ]

memory_to : (m : MemoryVariable) → IsMemoryVariable m → is_memory_variable m ≡ true
memory_to m h =
    three_from (width_to m.width h.0) (power_to 12 m.depth h.1.0 h.1.1.0 h.1.1.1 h.1.1.2) (lt-ltb m.start (2 ^ m.width) h.2)

pub guarded_to : (s : Source) → IsGuarded s → is_guarded s ≡ true
unfolding is_guarded
guarded_to s g =
    let d = g.declared_once in
    five_from (six (test_of_all is_name _ (λ x k. k) (declared s) g.named)
    (test_of_all (λ x. not (is_helping x)) _ (λ x k. ap not k) (declared s) g.not_helping) (distinct_to (declared s) d)
    (test_of_all is_plain_var _ plain_to s.inputs g.inputs) (test_of_all is_plain_var _ plain_to s.wires g.wires)
    (test_of_all is_register_var _ register_to s.registers g.registers)) (test_of_all is_memory_variable _ memory_to s.memories g.memories)
    (test_of_all (λ x. is_among x (variable_names s.registers ++ variable_names s.wires)) _ (λ x k. k) s.ports g.ports_declared)
    (distinct_to s.ports g.ports_once) (test_of_all (command_is_fine s) _ (command_to s d) s.commands g.commands)
