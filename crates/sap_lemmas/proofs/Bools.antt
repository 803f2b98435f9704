-- Tests: conjunction, disjunction and negation.
use Rattle.std.proofs.Common.{Bool, ap, cond, false, inl, inr, refl, sym, true, ◌&&◌, ◌||◌, ◌∙◌, ◌≡◌}
use Rattle.std.specs.Prelude.{not}
use Rattle.std.proofs.lemmas.Bool.{and_from, and_parts, or_cases, or_left, or_right}

pub and_false : (b : Bool) → (b && false) ≡ false
and_false true = refl
and_false false = refl

pub and_true : (q : Bool) → (q && true) ≡ q
and_true true = refl
and_true false = refl

pub three_from : {a b c : Bool} → a ≡ true → b ≡ true → c ≡ true → (a && b && c) ≡ true
three_from {a} {b} {c} h k l = and_from (a && b) c (and_from a b h k) l

pub five_from : {a b c d e : Bool} → a ≡ true → b ≡ true → c ≡ true → d ≡ true → e ≡ true → (a && b && c && d && e) ≡ true
five_from {a} {b} {c} {d} {e} h k l m n = three_from {a = a && b && c} {b = d} {c = e} (three_from {a = a} {b = b} {c = c} h k l) m n

pub or_assoc : (a b c : Bool) → (a || (b || c)) ≡ ((a || b) || c)
or_assoc true b c = refl
or_assoc false b c = refl

pub or_false : (a : Bool) → (a || false) ≡ a
or_false true = refl
or_false false = refl

pub or_true : (a : Bool) → (a || true) ≡ true
or_true true = refl
or_true false = refl

pub or_equal : (a b c d : Bool) → a ≡ c → b ≡ d → (a || b) ≡ (c || d)
or_equal a b c d e f = ap (λ (r : Bool). r || b) e ∙ ap (λ (r : Bool). c || r) f

pub either_follows : (a b c d : Bool) → (a ≡ true → c ≡ true) → (b ≡ true → d ≡ true) → (a || b) ≡ true → (c || d) ≡ true
either_follows a b c d f g h = elim (or_cases a b h) [ inl i ↦ or_left c d (f i) | inr i ↦ or_right c d (g i) ]

pub or_follows : (r w a : Bool) → (w ≡ true → a ≡ true) → (r || w) ≡ true → (r || a) ≡ true
or_follows true w a k h = refl
or_follows false w a k h = k h

pub three_parts : (a b c : Bool) → (a && b && c) ≡ true → (a ≡ true) × (b ≡ true) × (c ≡ true)
three_parts a b c h = let p = and_parts (a && b) c h in let q = and_parts a b p.0 in (q.0, q.1, p.1)

pub five_parts : (a b c d e : Bool) → (a && b && c && d && e) ≡ true → (a ≡ true) × (b ≡ true) × (c ≡ true) × (d ≡ true) × (e ≡ true)
five_parts a b c d e h =
    let p = and_parts (a && b && c && d) e h in
    let q = and_parts (a && b && c) d p.0 in
    let r = three_parts a b c q.0 in
    (r.0, r.1, r.2, q.1, p.1)

pub third_case : {A : Type 0} (a b c : Bool) (x y z w : A) → a ≡ false → b ≡ false → c ≡ true → cond a x (cond b y (cond c z w)) ≡ z
third_case a b c x y z w p q r = cc

pub fourth_case : {A : Type 0} (a b c d : Bool) (x y z v w : A) → a ≡ false → b ≡ false → c ≡ false → d ≡ true → cond a x (cond b y (cond c z (cond d v w))) ≡ v
fourth_case a b c d x y z v w p q r s = cc

pub not_and_false : (b : Bool) → not (b && false) ≡ true
not_and_false true = refl
not_and_false false = refl

pub neither_left : (p q : Bool) → (p || q) ≡ false → p ≡ false
neither_left true q h = h
neither_left false q h = refl

pub and_left : (p q : Bool) → (p && q) ≡ true → p ≡ true
and_left p q h = (and_parts p q h).0

pub iff_same : (a b : Bool) → (a ≡ true → b ≡ true) → (b ≡ true → a ≡ true) → a ≡ b
iff_same true b f g = sym (f refl)
iff_same false true f g = g refl
iff_same false false f g = refl

pub neither_right : (a b : Bool) → (a || b) ≡ false → b ≡ false
neither_right true b h = cc
neither_right false b h = h

pub and_right : (p q : Bool) → (p && q) ≡ true → q ≡ true
and_right p q h = (and_parts p q h).1

pub or_other : (p q : Bool) → (p || q) ≡ true → p ≡ false → q ≡ true
or_other true q h e = cc
or_other false q h e = h

pub true_is_not_false : true ≡ false → ⊥
true_is_not_false e = cc
