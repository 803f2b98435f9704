-- What is reached by a line of its form.
use Rattle.sap_lemmas.proofs.Common.{◌≡◌, ℕ, zero, suc, ◌<◌, ◌≤◌, List, [], ◌∷◌, ◌++◌, Bool, true, false, not, ◌&&◌, Option, Some, None, length, map, get_or, replicate, refl, sym, ap, ◌∙◌, arith, subst, IfNone, IfSome, AllByRecursion, lookup, bytes_eq, digits_value, map-append, true_is_not_false, equal_of_test, test_of_equal, some_same, equal_of_bytes_eq}
use Rattle.std.proofs.Common.{Vec, Global}
use Rattle.sap_maps.specs.Prelude.{Name, IsWidth}
use Rattle.sap_net.specs.Prelude.{Indexes, NameMap, is_among, is_name, is_number}
use Rattle.sap_wave.specs.declared.fault.WaveCode.{WaveCode}
use Rattle.sap_wave.specs.declared.fault.WaveCode.TheVariants.{Y1, Y5}
use Rattle.sap_wave.specs.declared.state.Block.{Block}
use Rattle.sap_wave.specs.declared.state.State.{State as Held}
use Rattle.sap_wave.specs.declared.state.State.TheVariants as held
use Rattle.sap_wave.specs.declared.variable.Variable.{Variable}
use Rattle.sap_wave.specs.Prelude.{number, bits_number, identifier, number_spelled, variable, names_of, OpenBlock, declaring, in_block, blocks_of, changed, first_block, is_first, is_full, next_block, numbers_in, width_at, IsChange, IsVariable, after, IsIdle, IsLeast, StandsAtEnd, Misdeclared, no_width, Misplaced, not_later, other_width, state_of, with_number}
use Rattle.sap_wave.proofs.Each.{one_least}
use Rattle.sap_wave.proofs.Moves.{none_lacks}
use Rattle.sap_wave.proofs.Stepping.{is_known, number_is}

-- a map of nothing
pub indexed_none : (m : NameMap ℕ) → m.entries ≡ [] → Indexes m []
indexed_none m e = λ n. ap (λ es. lookup (λ (k : Vec ℕ Global). bytes_eq n k.items) es) e

-- Declarations.

pub no_width_there : (xs : List Variable) (w i n : List ℕ) (o : Option ℕ) → IfNone o (IsWidth (digits_value 10 w) → ⊥) → IfNone o (Misdeclared xs w i n)
no_width_there xs w i n None h = no_width h
no_width_there xs w i n (Some k) h = tt

pub width_there : (xs : List Variable) (w i n : List ℕ) (o : Option ℕ) → bytes_eq i (identifier (length xs)) ≡ true → is_name n ≡ true → is_among n (names_of xs) ≡ false
    → IfSome o (λ k. k ≡ digits_value 10 w) → IfSome o IsWidth → IfSome o (λ k. IsVariable xs w i n)
width_there xs w i n None id named fresh is wide = tt
width_there xs w i n (Some k) id named fresh is wide =
    record { numbered = equal_of_bytes_eq i (identifier (length xs)) id; sized = subst IsWidth is wide; named = named; new = fresh }

pub declared_so : (xs new : List Variable) (w i n : List ℕ) (width : ℕ) → width ≡ digits_value 10 w → new ≡ xs ++ (record { name = n; width = width } ∷ [])
    → declaring new ≡ after (declaring xs) (variable w i n)
declared_so xs new w i n width e grown =
    ap declaring (grown ∙ ap (λ (z : ℕ). let u : Variable = record { name = n; width = z } in xs ++ (u ∷ [])) e)

pub pushed_so : (xs new : List Variable) (name given : List ℕ) (width : ℕ) → given ≡ name → new ≡ xs ++ (record { name = given; width = width } ∷ [])
    → new ≡ xs ++ (record { name = name; width = width } ∷ [])
pushed_so xs new name given width e grown = grown ∙ ap (λ (z : List ℕ). let u : Variable = record { name = z; width = width } in xs ++ (u ∷ [])) e

pub indexed_so : (xs new : List Variable) (name : List ℕ) (width : ℕ) (places : NameMap ℕ) → new ≡ xs ++ (record { name = name; width = width } ∷ [])
    → Indexes places (names_of xs ++ (name ∷ [])) → Indexes places (names_of new)
indexed_so xs new name width places grown indexed =
    let v : Variable = record { name = name; width = width } in
    let names : names_of xs ++ (name ∷ []) ≡ names_of new = sym (ap names_of grown ∙ map-append (λ (x : Variable). x.name) xs (v ∷ [])) in
    subst (λ (z : List Name). Indexes places z) names indexed

-- Blocks.

abbrev opened : (before : List (List ℕ)) (now : List (Option ℕ)) (next : ℕ) → OpenBlock
opened before now next = record { before = before; now = now; next = next }

same_block : (before before' : List (List ℕ)) (now now' : List (Option ℕ)) (next next' : ℕ) → before ≡ before' → now ≡ now' → next ≡ next'
    → opened before now next ≡ opened before' now' next'
same_block before before' now now' next next' a b c =
    ap (λ (z : List (List ℕ)). opened z now next) a ∙ ap (λ (z : List (Option ℕ)). opened before' z next) b ∙ ap (λ (z : ℕ). opened before' now' z) c

pub nones : (xs : List Variable) → replicate {A = Option ℕ} (length xs) None ≡ map (λ x. None) xs
nones [] = refl
nones (x ∷ xs) = ap (λ (z : List (Option ℕ)). None ∷ z) (nones xs)

pub first_so : (xs : List Variable) (before : List (List ℕ)) (now : List (Option ℕ)) → before ≡ [] → now ≡ replicate (length xs) None
    → in_block xs (opened before now 0) ≡ in_block xs (first_block xs)
first_so xs before now none lacking = ap (in_block xs) (same_block before [] now (map (λ x. None) xs) 0 0 none (lacking ∙ nones xs) refl)

pub ended_so : (o : OpenBlock) (blocks : List (List ℕ)) (numbers : List ℕ) → numbers ≡ numbers_in o.now → blocks ≡ o.before ++ (numbers ∷ []) → blocks ≡ blocks_of o
ended_so o blocks numbers are grown = grown ∙ ap (λ (z : List ℕ). o.before ++ (z ∷ [])) are

-- the numbers of an ended block stand behind those of the blocks before it, and the next begins with them
pub next_so : (o : OpenBlock) (blocks : List (List ℕ)) (numbers : List ℕ) → is_full o.now ≡ true → numbers ≡ numbers_in o.now → blocks ≡ o.before ++ (numbers ∷ [])
    → opened blocks (map Some numbers) 0 ≡ next_block o
next_so o blocks numbers full are grown =
    same_block blocks (blocks_of o) (map Some numbers) o.now 0 0 (ended_so o blocks numbers are grown) (ap (map Some) are ∙ sym (none_lacks o.now full)) refl

-- Changes.

number_there : (n : ℕ) (o : Option ℕ) → is_number n o ≡ true → o ≡ Some n
number_there n None h = absurd (true_is_not_false (sym h))
number_there n (Some k) h = ap Some (equal_of_test k n h)

number_not_there : (n : ℕ) (o : Option ℕ) → is_number n o ≡ false → o ≡ Some n → ⊥
number_not_there n None h e = cc
number_not_there n (Some k) h e = true_is_not_false (sym (test_of_equal k n (some_same k n e)) ∙ h)

pub idle_so : (xs : List Variable) (o : OpenBlock) (d i : List ℕ) (k n : ℕ) → i ≡ identifier k → k < length xs → n ≡ bits_number d
    → (not (is_first o) && is_number n (get_or o.now k None)) ≡ true → IsIdle xs o d i
idle_so xs o d i k n e l is both =
    let s = number_is i k e in
    let parts = by (is_first o) (is_number n (get_or o.now k None)) both in
    record {
      later_block = parts.0;
      known = is_known xs i k l e;
      same = ap (λ (z : ℕ). get_or o.now z None) s ∙ number_there n (get_or o.now k None) parts.1 ∙ ap Some is;
    }
  where
    by : (a b : Bool) → (not a && b) ≡ true → (a ≡ false) × (b ≡ true)
    by true b h = absurd (true_is_not_false (sym h))
    by false b h = (refl, h)

pub changes_so : (xs : List Variable) (o : OpenBlock) (d i : List ℕ) (k n : ℕ) → i ≡ identifier k → k < length xs → o.next ≤ k → length d ≡ width_at xs k → n ≡ bits_number d
    → (not (is_first o) && is_number n (get_or o.now k None)) ≡ false → IsChange xs o d i
changes_so xs o d i k n e l later sized is against =
    let s = number_is i k e in
    record {
      known = is_known xs i k l e;
      later = subst (λ (z : ℕ). o.next ≤ z) (sym s) later;
      sized = sized ∙ ap (width_at xs) (sym s);
      changes =
          λ first same.
          number_not_there n (get_or o.now k None) (by (is_first o) (is_number n (get_or o.now k None)) first against)
          (ap (λ (z : ℕ). get_or o.now z None) (sym s) ∙ same ∙ ap Some (sym is));
    }
  where
    by : (a b : Bool) → a ≡ false → (not a && b) ≡ false → b ≡ false
    by true b f h = absurd (true_is_not_false f)
    by false b f h = h

pub number_so : (o : OpenBlock) (d i : List ℕ) (k n : ℕ) → i ≡ identifier k → n ≡ bits_number d → with_number o k n ≡ changed o d i
number_so o d i k n e is = ap (λ (z : ℕ). with_number o z n) (sym (number_is i k e)) ∙ ap (with_number o (number_spelled i)) is

pub too_early : (xs : List Variable) (o : OpenBlock) (d i : List ℕ) (k : ℕ) → k < length xs → i ≡ identifier k → k < o.next → Misplaced xs o d i
too_early xs o d i k l e n = let s = number_is i k e in not_later (is_known xs i k l e) (omega (arith, s, n))

pub other_digits : (xs : List Variable) (o : OpenBlock) (d i : List ℕ) (k : ℕ) → k < length xs → i ≡ identifier k → (length d ≡ width_at xs k → ⊥) → Misplaced xs o d i
other_digits xs o d i k l e against = other_width (is_known xs i k l e) (λ h. against (h ∙ ap (width_at xs) (number_is i k e)))

width_small : (xs : List Variable) (k : ℕ) → AllByRecursion (λ (x : Variable). IsWidth x.width) xs → k < length xs → width_at xs k ≤ 64
width_small [] k h l = absurd (omega arith)
width_small (x ∷ xs) zero h l = h.0.1
width_small (x ∷ xs) (suc k) h l = width_small xs k h.1 (omega (arith, l))

pub few_digits : (xs : List Variable) (k : ℕ) (d : List ℕ) → AllByRecursion (λ (x : Variable). IsWidth x.width) xs → k < length xs → length d ≡ width_at xs k → length d ≤ 64
few_digits xs k d h l sized = omega (arith, width_small xs k h l, sized)

-- The end.

pub lacks : (xs : List Variable) (o : OpenBlock) → is_full o.now ≡ false → IsLeast (StandsAtEnd (in_block xs o)) Y5
lacks xs o h = record { stands = h; least = above } where
  above : (c : WaveCode) → StandsAtEnd (in_block xs o) c → 5 ≤ number c
  above Y5 k = omega arith
  above _ k = absurd k

-- before block 0 begins
pub too_short : (s : Held) → ((xs : Vec Variable Global) (b : Block) → s ≡ held.InBlock xs b → ⊥) → IsLeast (StandsAtEnd (state_of s)) Y1
too_short (held.InBlock xs b) h = absurd (h xs b refl)
too_short _ h = record { stands = tt; least = λ d k. one_least d }
