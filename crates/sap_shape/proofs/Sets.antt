-- Sets of memories.
use Rattle.sap_lemmas.proofs.Common.{◌≡◌, ℕ, ◌+◌, ◌<◌, ◌≤◌, List, [], ◌∷◌, ◌++◌, ◌||◌, Bool, true, length, get_or, drop, refl, sym, ap, ◌∙◌, at_drop_all, at_drop_more, inl, inr, bytes_eq, cases_Bool, bytes_eq-Decides, or_false}
use Rattle.std.proofs.Math.Bool.{or_assoc, or_comm}
use mathlib.Core.Path.{fun_ext}
use Rattle.sap_shape.specs.Lists.{written_in}
use Rattle.sap_shape.specs.Walk.{Written, either, fresh, writing}
use Rattle.sap_shape.specs.ShapeFaults.{is_in}

or_swap : (a b c : Bool) → (a || (b || c)) ≡ (b || (a || c))
or_swap a b c = sym (or_assoc a b c) ∙ ap (λ (z : Bool). z || c) (or_comm a b) ∙ or_assoc b a c

pub either_assoc : (p q r : Written) → either (either p q) r ≡ either p (either q r)
either_assoc p q r = fun_ext (λ (m : List ℕ). or_assoc (p m) (q m) (r m))

pub either_fresh : (p : Written) → either p fresh ≡ p
either_fresh p = fun_ext (λ (m : List ℕ). or_false (p m))

pub fresh_either : (p : Written) → either fresh p ≡ p
fresh_either p = refl

pub written_none : written_in [] ≡ fresh
unfolding written_in
written_none = fun_ext (λ (m : List ℕ). refl)

is_in_push : (ns : List (List ℕ)) (m n : List ℕ) → is_in (ns ++ m ∷ []) n ≡ (bytes_eq m n || is_in ns n)
is_in_push [] m n = refl
is_in_push (x ∷ ns) m n = ap (λ (b : Bool). bytes_eq x n || b) (is_in_push ns m n) ∙ or_swap (bytes_eq x n) (bytes_eq m n) (is_in ns n)

pub written_more : (ns : List (List ℕ)) (m : List ℕ) → written_in (ns ++ m ∷ []) ≡ writing m (written_in ns)
unfolding written_in
written_more ns m = fun_ext (λ (n : List ℕ). is_in_push ns m n)

pub writing_either : (m : List ℕ) (p q : Written) → either (writing m p) q ≡ either p (writing m q)
writing_either m p q = fun_ext (λ (n : List ℕ). or_assoc (bytes_eq m n) (p n) (q n) ∙ or_swap (bytes_eq m n) (p n) (q n))

-- a name that is there already
in_already : (ns : List (List ℕ)) (m n : List ℕ) → is_in ns m ≡ true → (bytes_eq m n || is_in ns n) ≡ is_in ns n
in_already ns m n h = elim (cases_Bool (bytes_eq m n)) [
  | inl e ↦ let same : m ≡ n = (bytes_eq-Decides m n).0 e in rw e (sym (ap (λ (x : List ℕ). is_in ns x) (sym same) ∙ h))
  | inr e ↦ rw e refl
]

pub written_again : (ns : List (List ℕ)) (m : List ℕ) → written_in ns m ≡ true → written_in ns ≡ writing m (written_in ns)
unfolding written_in
written_again ns m h = fun_ext (λ (n : List ℕ). sym (in_already ns m n h))

pub written-drop : (ns : List (List ℕ)) (n : ℕ) (d : List ℕ) → n < length ns → written_in (drop n ns) ≡ writing (get_or ns n d) (written_in (drop (n + 1) ns))
unfolding written_in
written-drop ns n d h = at_drop_more written_in ns n d h ∙ fun_ext (λ (m : List ℕ). refl)

pub written-past : (ns : List (List ℕ)) (n : ℕ) → length ns ≤ n → written_in (drop n ns) ≡ fresh
unfolding written_in
written-past ns n h = at_drop_all written_in ns n h ∙ written_none

-- one name of another set, and those behind it
pub join_step : (ns : List (List ℕ)) (n : ℕ) (d : List ℕ) (p q : Written) → n < length ns → d ≡ get_or ns n d → q ≡ writing d p
    → either q (written_in (drop (n + 1) ns)) ≡ either p (written_in (drop n ns))
join_step ns n d p q h e k =
    ap (λ (x : Written). either x (written_in (drop (n + 1) ns))) k ∙ writing_either d p (written_in (drop (n + 1) ns))
    ∙ ap (λ (x : List ℕ). either p (writing x (written_in (drop (n + 1) ns)))) e ∙ ap (λ (x : Written). either p x) (sym (written-drop ns n d h))

pub ruleset sets = (either_assoc, either_fresh, fresh_either, written_none, written_more, written_again, written-past)
