-- What passes the test is what the type keeps.
use Rattle.sap_lemmas.proofs.Common.{◌≡◌, ℕ, zero, suc, ◌^◌, ◌≤◌, ◌&&◌, ◌==◌, ◌++◌, Option, Some, None, Bool, true, not, ap, ap₂, ◌∙◌, refl, arith, ⊎_elim, nat_lt, nat_le, and_parts, cases_Bool, leb-true, ltb-true, not-true, three_parts, all_of_test, equal_of_test}
use Rattle.sap_lemmas.proofs.Bools.{five_parts}
use Rattle.sap_ir.proofs.TestLemmas.{distinct_from}
use Rattle.sap_bits.specs.declared.Op2.{Op2}
use Rattle.sap_bits.specs.declared.Op2.TheVariants.{Add, Sub, Mul, And, Or, Xor, Eq, Ne, Lt, Le, Shl, Shr}
use Rattle.sap_maps.specs.Prelude.{Name, Scope, find, Term, constant, read, cell, one, two, choose, join, part, term_width, CountFits}
use Rattle.sap_net.specs.Prelude.{is_name, is_among, IsWidth, Shapes}
use Rattle.sap_ir.specs.declared.guarded.Var.{Var}
use Rattle.sap_ir.specs.declared.guarded.MemoryVariable.{MemoryVariable}
use Rattle.sap_ir.specs.Source.{Action, set, put, Command, Source, readable, shapes, width_of}
use Rattle.sap_ir.specs.IsGuarded.{TermFine, assignable, ActionFine, CommandFine, variable_names, declared, is_helping, IsPlainVar, IsRegisterVar, IsMemoryVariable, IsGuarded}
use Rattle.sap_ir.specs.Test.{is_width, is_found, of_width, of_shape, count_fits, term_is_fine, value_is_fine, action_is_fine, command_is_fine, is_plain_var, is_register_var, is_power, is_memory_variable, is_guarded}

six : (a b c d e f : Bool) → (a && b && c && d && e && f) ≡ true → (a ≡ true) × (b ≡ true) × (c ≡ true) × (d ≡ true) × (e ≡ true) × (f ≡ true)
six a b c d e f h = let p = and_parts (a && b && c && d && e) f h in let q = five_parts a b c d e p.0 in (q.0, q.1, q.2, q.3, q.4, p.1)

width_from : (w : ℕ) → is_width w ≡ true → IsWidth w
width_from w h = let p = and_parts (nat_le 1 w) (nat_le w 64) h in (leb-true 1 w p.0, leb-true w 64 p.1)

found_from : (u : ℕ) (o : Option ℕ) → is_found u o ≡ true → o ≡ Some u
found_from u None h = absurd (cc)
found_from u (Some w) h = ap Some (equal_of_test w u h)

shape_from : (f g : ℕ → Bool) (o : Option (ℕ × ℕ)) → of_shape f g o ≡ true → (w : ℕ) × (d : ℕ) × (o ≡ Some (w, d)) × (f w ≡ true) × (g d ≡ true)
shape_from f g None h = absurd (cc)
shape_from f g (Some e) h = let p = and_parts (f e.0) (g e.1) h in (e.0, e.1, refl, p.0, p.1)

count_from : (op : Op2) (w t : ℕ) → count_fits op w t ≡ true → CountFits op w t
count_from Shl w t h = tt
count_from Shr w t h = tt
count_from Add w t h = equal_of_test t w h
count_from Sub w t h = equal_of_test t w h
count_from Mul w t h = equal_of_test t w h
count_from And w t h = equal_of_test t w h
count_from Or w t h = equal_of_test t w h
count_from Xor w t h = equal_of_test t w h
count_from Eq w t h = equal_of_test t w h
count_from Ne w t h = equal_of_test t w h
count_from Lt w t h = equal_of_test t w h
count_from Le w t h = equal_of_test t w h

term_from : (ms : Shapes) (sc : Scope) (widths : Name → ℕ) (u : ℕ) (t : Term Name) → term_is_fine ms sc widths u t ≡ true → TermFine ms sc u t
term_from ms sc widths u (constant w n) h =
    let p = and_parts (w == u) (nat_lt n (2 ^ u)) h in (equal_of_test w u p.0, ltb-true n (2 ^ u) p.1)
term_from ms sc widths u (read x) h = found_from u (find sc x) h
term_from ms sc widths u (cell m i) h =
    let b = term_width widths i in
    let p = three_parts _ _ _ h in
    let e = shape_from (λ w. w == u) (λ d. d == 2 ^ b) (find ms m) p.1 in
    let f : find ms m ≡ Some (u, 2 ^ b) = e.2 ∙ ap₂ (λ (k j : ℕ). Some (k, j)) (equal_of_test e.0 u e.3) (equal_of_test e.1 (2 ^ b) e.4) in
    (b, width_from b p.0, f, term_from ms sc widths b i p.2)
term_from ms sc widths u (one op a) h =
    let p = three_parts _ _ _ h in
    (term_width widths a, width_from _ p.0, term_from ms sc widths _ a p.1, equal_of_test u _ p.2)
term_from ms sc widths u (two op a b) h =
    let w = term_width widths a in
    let t = term_width widths b in
    let p = six _ _ _ _ _ _ h in
    (w, t, width_from w p.0, width_from t p.1, term_from ms sc widths w a p.2, term_from ms sc widths t b p.3, count_from op w t p.4, equal_of_test u _ p.5)
term_from ms sc widths u (choose c a b) h =
    let p = three_parts _ _ _ h in
    (term_from ms sc widths 1 c p.0, term_from ms sc widths u a p.1, term_from ms sc widths u b p.2)
term_from ms sc widths u (join a b) h =
    let w = term_width widths a in
    let t = term_width widths b in
    let p = five_parts _ _ _ _ _ h in
    (w, t, width_from w p.0, width_from t p.1, term_from ms sc widths w a p.2, term_from ms sc widths t b p.3, equal_of_test u _ p.4)
term_from ms sc widths u (part a hi lo) h =
    let w = term_width widths a in
    let p = five_parts _ _ _ _ _ h in
    (w, width_from w p.0, term_from ms sc widths w a p.1, leb-true lo hi p.2, ltb-true hi w p.3, equal_of_test u _ p.4)

width_is : (f : ℕ → Bool) (o : Option ℕ) → of_width f o ≡ true → (u : ℕ) × (o ≡ Some u) × (f u ≡ true)
width_is f None h = absurd (cc)
width_is f (Some u) h = (u, refl, h)

action_from : (s : Source) (a : Action) → action_is_fine s a ≡ true → ActionFine s a
action_from s (set x t) h =
    let e = width_is (value_is_fine s t) (find (assignable s) x) h in
    (e.0, e.1, term_from (shapes s) (readable s) (width_of s) e.0 t e.2)
action_from s (put m i t) h =
    let b = term_width (width_of s) i in
    let p = three_parts _ _ _ h in
    let e = shape_from (value_is_fine s t) (λ d. d == 2 ^ b) (find (shapes s) m) p.2 in
    let f : find (shapes s) m ≡ Some (e.0, 2 ^ b) = e.2 ∙ ap (λ (k : ℕ). Some (e.0, k)) (equal_of_test e.1 (2 ^ b) e.4) in
    (e.0, b, width_from b p.0, f, term_from (shapes s) (readable s) (width_of s) b i p.1, term_from (shapes s) (readable s) (width_of s) e.0 t e.3)

command_from : (s : Source) (c : Command) → command_is_fine s c ≡ true → CommandFine s c
command_from s c h =
    let p = and_parts _ _ h in (term_from (shapes s) (readable s) (width_of s) 1 c.when p.0, action_from s c.act p.1)

plain_from : (x : Var) → is_plain_var x ≡ true → IsPlainVar x
plain_from x h = let p = and_parts _ _ h in (width_from x.width p.0, equal_of_test x.start 0 p.1)

register_from : (x : Var) → is_register_var x ≡ true → IsRegisterVar x
register_from x h = let p = and_parts _ _ h in (width_from x.width p.0, ltb-true x.start (2 ^ x.width) p.1)

power_from : (k d : ℕ) → is_power k d ≡ true → (b : ℕ) × (1 ≤ b) × (b ≤ k) × (d ≡ 2 ^ b)
power_from zero d h = absurd (cc)
power_from (suc k) d h =
    ⊎_elim
    (λ t. (suc k, omega arith, omega arith, equal_of_test d (2 ^ suc k) t))
    (λ f. let r = power_from k d (rw f at h) in (r.0, r.1, omega (arith, r.2), r.3))
    (cases_Bool (d == 2 ^ suc k))

memory_from : (m : MemoryVariable) → is_memory_variable m ≡ true → IsMemoryVariable m
memory_from m h =
    let p = three_parts _ _ _ h in
    let b = power_from 12 m.depth p.1 in
    (width_from m.width p.0, (b.0, (b.1, b.2, b.3)), ltb-true m.start (2 ^ m.width) p.2)

pub guarded_from : (s : Source) → is_guarded s ≡ true → IsGuarded s
unfolding is_guarded
guarded_from s h =
    let a = five_parts _ _ _ _ _ h in
    let b = six _ _ _ _ _ _ a.0 in
    record {
      named = all_of_test is_name _ (λ x k. k) (declared s) b.0;
      not_helping = all_of_test (λ x. not (is_helping x)) _ (λ x k. not-true (is_helping x) k) (declared s) b.1;
      declared_once = distinct_from (declared s) b.2;
      inputs = all_of_test is_plain_var _ plain_from s.inputs b.3;
      wires = all_of_test is_plain_var _ plain_from s.wires b.4;
      registers = all_of_test is_register_var _ register_from s.registers b.5;
      memories = all_of_test is_memory_variable _ memory_from s.memories a.1;
      ports_declared = all_of_test (λ x. is_among x (variable_names s.registers ++ variable_names s.wires)) _ (λ x k. k) s.ports a.2;
      ports_once = distinct_from s.ports a.3;
      commands = all_of_test (command_is_fine s) _ (command_from s) s.commands a.4;
    }
