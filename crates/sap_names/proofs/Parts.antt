-- The first of some parts, and the others.
use Rattle.std.proofs.Common.{◌≡◌, ℕ, ◌-◌, ◌<◌, ◌≤◌, List, [], ◌∷◌, ◌++◌, None, ◌&&◌, Bool, length, get_or, drop, take, refl, ap, ap₂, sym, ◌∙◌, not, Option, arith}
use Rattle.sap_lemmas.proofs.Lists.{take_rest_of}
use Rattle.sap_tree.specs.Prelude.{expression_of, expressions_of, first_of, spot_of, Expression, concat, Expressions}
use Rattle.sap_tree.specs.declared.syntax.Expr.{Expr}
use Rattle.sap_tree.specs.declared.place.Spot.{Spot}
use Rattle.sap_names.specs.Entities.{Lookup}
use Rattle.sap_names.specs.Widths.{own, is_sound, all_sound}
use Rattle.sap_names.specs.NameFaults.{expression_faults, parts_faults, fault_if, unsettled}
use Rattle.sap_names.specs.Best.{best_of}
use Rattle.sap_names.specs.declared.fault.Fault.{Fault}
use Rattle.sap_names.specs.declared.kind.Code.TheVariants.{E7}
use Rattle.sap_names.proofs.Faults.{both}

pub parts_first : (what : Lookup) (xs : List Expr) (d : Expr) → 1 ≤ length xs → d ≡ get_or xs 0 d
    → parts_faults what (expressions_of xs)
    ≡ expression_faults what (expression_of d) None ++ parts_faults what (expressions_of (take (length xs - 1) (drop 1 xs)))
parts_first what [] d h e = absurd (omega arith)
parts_first what (x ∷ xs) d h e =
    ap (λ (r : List Expr). expression_faults what (expression_of x) None ++ parts_faults what (expressions_of r)) (sym (take_rest_of x xs))
    ∙ ap (λ (y : Expr). expression_faults what (expression_of y) None ++ parts_faults what (expressions_of (take (length (x ∷ xs) - 1) (drop 1 (x ∷ xs))))) (sym e)

pub sound_first : (what : Lookup) (xs : List Expr) (d : Expr) → 1 ≤ length xs → d ≡ get_or xs 0 d
    → all_sound what (expressions_of xs)
    ≡ (is_sound (own what (expression_of d)) && all_sound what (expressions_of (take (length xs - 1) (drop 1 xs))))
sound_first what [] d h e = absurd (omega arith)
sound_first what (x ∷ xs) d h e =
    ap (λ (r : List Expr). is_sound (own what (expression_of x)) && all_sound what (expressions_of r)) (sym (take_rest_of x xs))
    ∙ ap (λ (y : Expr). is_sound (own what (expression_of y)) && all_sound what (expressions_of (take (length (x ∷ xs) - 1) (drop 1 (x ∷ xs))))) (sym e)

pub parts_none : (what : Lookup) (xs : List Expr) → length xs < 1 → parts_faults what (expressions_of xs) ≡ []
parts_none what [] h = refl
parts_none what (x ∷ xs) h = absurd (omega arith)

pub ruleset parts = (parts_none)

pub first_of_concat : (spot : Spot) (list : Expressions) → first_of (concat spot list) ≡ spot.first
unfolding first_of spot_of
first_of_concat spot list = refl

-- the faults of a concatenation, one after another
pub concat_noted : (what : Lookup) (asked mine : Option ℕ) (operands one two : Bool) (o m n k : Option Fault) (x : Expression) (spot : Spot) (list seen : Expressions)
    → x ≡ concat spot list → list ≡ seen → mine ≡ own what x → operands ≡ all_sound what seen
    → one ≡ unsettled mine asked → two ≡ (not (is_sound mine) && operands)
    → m ≡ best_of o (fault_if one E7 spot.first) → n ≡ best_of m (fault_if two E7 spot.first)
    → k ≡ best_of n (parts_faults what seen) → k ≡ best_of o (expression_faults what x asked)
concat_noted what asked mine operands one two o m n k x spot list seen view same is all first second p q r =
    rw (view ∙ ap (λ (l : Expressions). concat spot l) same) (both o n k _ (parts_faults what seen) _
    (both o m n (fault_if (unsettled (own what (concat spot seen)) asked) E7 spot.first)
    (fault_if (not (is_sound (own what (concat spot seen))) && all_sound what seen) E7 spot.first) _
    (p ∙ ap (λ (b : Bool). best_of o (fault_if b E7 spot.first)) (first ∙ ap (λ (w : Option ℕ). unsettled w asked) own_is))
    (q ∙ ap (λ (b : Bool). best_of m (fault_if b E7 spot.first)) (second ∙ ap₂ (λ (w : Option ℕ) (b : Bool). not (is_sound w) && b) own_is all)) refl)
    r refl)
  where
    own_is : mine ≡ own what (concat spot seen)
    own_is = is ∙ ap (λ (e : Expression). own what e) (view ∙ ap (λ (l : Expressions). concat spot l) same)
