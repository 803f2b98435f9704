-- The level of a code.
use Rattle.sap_lemmas.proofs.Common.{◌≡◌, ℕ, ◌<◌, Option, Some, length, map, sym, ap, ◌∙◌, refl, arith, inl, inr, option_map, ◌==◌, nat_lt, not, cases_Bool, cases_lt, lt-ltb, le-ltb, Decides-eqb}
use Rattle.sap_lemmas.proofs.Options.{find_only_from}
use Rattle.sap_lattice.proofs.KeptLemmas.{order_of-count}
use Rattle.sap_lattice.specs.Prelude.{name_at, Levels, level_in, order_of, order_by, is_below, Codes, code_of, meet_irreducibles}
use Rattle.sap_lattice.specs.Codes.{number_of}
use Rattle.sap_stim.specs.Rows.{level_coded}
use Rattle.sap_sim.specs.Labelled.LabelledRows.{level_name}

level_zero : (n : ℕ) → level_in n 0 ≡ 0
level_zero n = elim (cases_Bool (nat_lt 0 n)) [ inl t ↦ rw t refl | inr f ↦ rw f refl ]

-- a number that is no level counts as level 0
level_in_twice : (n t : ℕ) → level_in n (level_in n t) ≡ level_in n t
level_in_twice n t =
    elim (cases_lt t n) [
      | inl l ↦ rw (lt-ltb t n l) (rw (lt-ltb t n l) refl)
      | inr g ↦ rw (le-ltb t n g) (level_zero n)
    ]

code_in : (ls : Levels) (t : ℕ) → code_of (order_of ls) (level_in (length ls.names) t) ≡ code_of (order_of ls) t
unfolding code_of order_of order_by
code_in ls t =
    ap (λ (y : ℕ). number_of (map (λ m. not (is_below ls.table y (level_in (length ls.names) m))) (meet_irreducibles (order_of ls)))) (level_in_twice (length ls.names) t)

bottom_level : (ls : Levels) → 0 < length ls.names → (t : ℕ) → level_in (length ls.names) t < length ls.names
bottom_level ls h t =
    elim (cases_lt t (length ls.names)) [
      | inl l ↦ rw (lt-ltb t (length ls.names) l) l
      | inr g ↦ rw (le-ltb t (length ls.names) g) h
    ]

-- the name of the level whose code this level has is its name
pub name_coded : (ls : Levels) → Codes (order_of ls) → 0 < length ls.names → (t : ℕ)
    → option_map (name_at ls.names) (level_coded ls (code_of (order_of ls) t)) ≡ Some (level_name ls t)
name_coded ls codes h t =
    let k = level_in (length ls.names) t in
    let small : level_in (length ls.names) t < length ls.names = bottom_level ls h t in
    let c : code_of (order_of ls) (level_in (length ls.names) t) ≡ code_of (order_of ls) t = code_in ls t in
    ap (λ (o : Option ℕ). option_map (name_at ls.names) o)
    (find_only_from (λ level. code_of (order_of ls) level == code_of (order_of ls) t) 0 (length ls.names) k (omega arith) (omega arith)
    ((Decides-eqb (code_of (order_of ls) k) (code_of (order_of ls) t)).1 c)
    (λ j m u. codes.apart j k (rw order_of-count (omega arith)) (rw order_of-count small) ((Decides-eqb (code_of (order_of ls) j) (code_of (order_of ls) t)).0 u ∙ sym c)))
