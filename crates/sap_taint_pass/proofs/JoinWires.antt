-- Wires that join tags read what is there, and have the join.
use Rattle.sap_lemmas.proofs.Common.{◌≡◌, ◌≤◌, ℕ, ◌+◌, max, List, [], ◌∷◌, ◌++◌, Some, None, false, ap, sym, ◌∙◌, refl, arith, bit_or, bit_at, or_zero_r, or_zero_l, bytes_eq, AllByRecursion, bit_at_or, same_from_bits, pow_pos, all_follow}
use Rattle.sap_maps.specs.Prelude.{Name, Valuation, Scope, find}
use Rattle.sap_maps.proofs.Scopes.{found_here, found_behind}
use Rattle.sap_net.specs.Prelude.{Shapes, IsWidth, AreWires, names_of, Holds}
use Rattle.sap_net.specs.declared.parts.Operand.{Operand}
use Rattle.sap_net.specs.declared.parts.Operand.TheVariants.{Named, Constant}
use Rattle.sap_net.specs.declared.parts.Right.{Right}
use Rattle.sap_net.specs.declared.parts.Right.TheVariants.{Copy, One, Two, Choose, Concat, Slice, Cell}
use Rattle.sap_taint.specs.TagNames.{name_of_tag}
use Rattle.sap_taint.specs.Tags.{Tags, operand_tag, operands_tag, right_tag}
use Rattle.sap_taint.specs.Carries.{read_off}
use Rattle.sap_taint_pass.specs.Tainted.{operands_of, tags_of, joins, joined, help_for}
use Rattle.sap_taint_pass.proofs.Numbered.{AreApart, some_names, apart_names}

-- what joining reads is there, with the width of tags
abbrev pub AreTags : Scope → (w : ℕ) → List Name → Type 0
AreTags sc w ts = AllByRecursion (λ t. find sc t ≡ Some w) ts

tags_later : (sc : Scope) (w : ℕ) (ts : List Name) (x : Name) (u : ℕ) → find sc x ≡ None → AreTags sc w ts → AreTags ((x, u) ∷ sc) w ts
tags_later sc w ts x u fresh a = all_follow (λ t. find sc t ≡ Some w) (λ t. find ((x, u) ∷ sc) t ≡ Some w) ts (λ t h. found_behind sc x u fresh t w h) a

-- the helping names from the k-th on are new
abbrev pub HelpingNew : (ℕ → Name) → Scope → (k : ℕ) → Type 0
HelpingNew helping sc k = (i : ℕ) → k ≤ i → find sc (helping i) ≡ None

abbrev pub NoMemory : (ℕ → Name) → Shapes → Type 0
NoMemory helping ms = (i : ℕ) → find ms (helping i) ≡ None

pub help_used : (helping : ℕ → Name) → AreApart helping → (sc : Scope) (k u : ℕ) → HelpingNew helping sc k → HelpingNew helping ((helping k, u) ∷ sc) (k + 1)
help_used helping one sc k u new i h = rw (apart_names helping one k i (omega arith)) (new i (omega arith))

-- the name that is joined is none of the helping ones
abbrev pub IsOther : (ℕ → Name) → Name → Type 0
IsOther helping x = (i : ℕ) → bytes_eq (helping i) x ≡ false

joins_are_wires : (helping : ℕ → Name) → AreApart helping → (ms : Shapes) → NoMemory helping ms → (w : ℕ) → IsWidth w → (sc : Scope) (k : ℕ) (x t : Name) (ts : List Name)
    → HelpingNew helping sc k → IsOther helping x → find sc x ≡ None → find ms x ≡ None → find sc t ≡ Some w → AreTags sc w ts
    → AreWires ms sc (joins helping w k x t ts)
joins_are_wires helping one ms none w wide sc k x t [] new other fresh nomem first rest = (wide, fresh, nomem, first, tt)
joins_are_wires helping one ms none w wide sc k x t (a ∷ []) new other fresh nomem first rest =
    (wide, fresh, nomem, (w, w, wide, wide, first, rest.0, refl, refl), tt)
joins_are_wires helping one ms none w wide sc k x t (a ∷ (b ∷ ts)) new other fresh nomem first rest =
    let here = new k (omega arith) in (
      wide,
      here,
      none k,
      (w, w, wide, wide, first, rest.0, refl, refl),
      joins_are_wires helping one ms none w wide ((helping k, w) ∷ sc) (k + 1) x (helping k) (b ∷ ts)
          (help_used helping one sc k w new) other (rw (other k) fresh) nomem (found_here (helping k) w sc) (tags_later sc w (b ∷ ts) (helping k) w here rest.1),
    )

pub joined_are_wires : (helping : ℕ → Name) → AreApart helping → (ms : Shapes) → NoMemory helping ms → (w : ℕ) → IsWidth w → (sc : Scope) (k : ℕ) (x : Name) (ts : List Name)
    → HelpingNew helping sc k → IsOther helping x → find sc x ≡ None → find ms x ≡ None → AreTags sc w ts → AreWires ms sc (joined helping w k x ts)
joined_are_wires helping one ms none w wide sc k x [] new other fresh nomem rest = (wide, fresh, nomem, (refl, pow_pos w), tt)
joined_are_wires helping one ms none w wide sc k x (t ∷ ts) new other fresh nomem rest =
    joins_are_wires helping one ms none w wide sc k x t ts new other fresh nomem rest.0 rest.1

-- their names
joins_names : (helping : ℕ → Name) (w k : ℕ) (x t : Name) (ts : List Name) → names_of (joins helping w k x t ts) ≡ some_names helping k (help_for (t ∷ ts)) ++ x ∷ []
joins_names helping w k x t (a ∷ (b ∷ ts)) = ap (λ ns. helping k ∷ ns) (joins_names helping w (k + 1) x (helping k) (b ∷ ts))
joins_names helping w k x t _ = refl

pub joined_names : (helping : ℕ → Name) (w k : ℕ) (x : Name) (ts : List Name) → names_of (joined helping w k x ts) ≡ some_names helping k (help_for ts) ++ x ∷ []
joined_names helping w k x [] = refl
joined_names helping w k x (t ∷ ts) = joins_names helping w k x t ts

-- what they have
abbrev pub join_of : Valuation → List Name → ℕ
join_of v [] = 0
join_of v (t ∷ ts) = bit_or (v.value t) (join_of v ts)

or_assoc : (a b c : ℕ) → bit_or (bit_or a b) c ≡ bit_or a (bit_or b c)
or_assoc a b c =
    same_from_bits _ _
    (λ i. let e = bit_at_or (bit_or a b) c i in
    let f = bit_at_or a b i in
    let g = bit_at_or a (bit_or b c) i in
    let h = bit_at_or b c i in
    e ∙ ap (λ n. max n (bit_at c i)) f ∙ omega arith ∙ sym (g ∙ ap (max (bit_at a i)) h))

joins_value : (helping : ℕ → Name) (w : ℕ) (widths : Name → ℕ) (v : Valuation) (k : ℕ) (x t : Name) (ts : List Name) → Holds widths v (joins helping w k x t ts)
    → v.value x ≡ bit_or (v.value t) (join_of v ts)
joins_value helping w widths v k x t [] h = h.0 ∙ sym (or_zero_r (v.value t))
joins_value helping w widths v k x t (a ∷ []) h = h.0 ∙ ap (bit_or (v.value t)) (sym (or_zero_r (v.value a)))
joins_value helping w widths v k x t (a ∷ (b ∷ ts)) h =
    joins_value helping w widths v (k + 1) x (helping k) (b ∷ ts) h.1
    ∙ ap (λ n. bit_or n (join_of v (b ∷ ts))) h.0
    ∙ or_assoc (v.value t) (v.value a) (join_of v (b ∷ ts))

pub joined_value : (helping : ℕ → Name) (w : ℕ) (widths : Name → ℕ) (v : Valuation) (k : ℕ) (x : Name) (ts : List Name)
    → Holds widths v (joined helping w k x ts) → v.value x ≡ join_of v ts
joined_value helping w widths v k x [] h = h.0
joined_value helping w widths v k x (t ∷ ts) h = joins_value helping w widths v k x t ts h

-- and that is the tag of the operands
abbrev pub tags_in : Valuation → Tags
tags_in v = (read_off v).tags

operands_joined : (v : Valuation) (os : List Operand) → join_of v (tags_of os) ≡ operands_tag (tags_in v) os
operands_joined v [] = refl
operands_joined v (Named x ∷ os) = ap (bit_or (v.value (name_of_tag x))) (operands_joined v os)
operands_joined v (Constant u n ∷ os) = operands_joined v os ∙ sym (or_zero_l (operands_tag (tags_in v) os))

right_joined : (v : Valuation) (r : Right) → operands_tag (tags_in v) (operands_of r) ≡ right_tag (tags_in v) r
right_joined v (Copy a) = or_zero_r (operand_tag (tags_in v) a)
right_joined v (One op a) = or_zero_r (operand_tag (tags_in v) a)
right_joined v (Two op a b) = ap (bit_or (operand_tag (tags_in v) a)) (or_zero_r (operand_tag (tags_in v) b))
right_joined v (Choose c a b) = ap (λ n. bit_or (operand_tag (tags_in v) c) (bit_or (operand_tag (tags_in v) a) n)) (or_zero_r (operand_tag (tags_in v) b))
right_joined v (Concat os) = refl
right_joined v (Slice x hi lo) = or_zero_r (v.value (name_of_tag x))
right_joined v (Cell m i) = ap (bit_or (v.value (name_of_tag m))) (or_zero_r (operand_tag (tags_in v) i))

pub join_is_tag : (v : Valuation) (r : Right) → join_of v (tags_of (operands_of r)) ≡ right_tag (tags_in v) r
join_is_tag v r = operands_joined v (operands_of r) ∙ right_joined v r
