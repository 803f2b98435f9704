-- What is read is in range.
use Rattle.sap_lemmas.proofs.Common.{◌≡◌, ℕ, zero, suc, ◌^◌, ◌<◌, List, [], ◌∷◌, ◌++◌, true, false, Option, Some, None, length, map, set, nat_le, refl, sym, ap, arith, subst, list_all, digits_value, and_parts, map-append, true_is_not_false, all_append, bytes_eq_apart_back}
use Rattle.sap_maps.specs.Prelude.{Name, IsWidth}
use Rattle.sap_net.specs.Names.{is_among, is_name, AreDistinct}
use Rattle.sap_net.proofs.NamesLemmas.{apart_by_membership, distinct_both}
use Rattle.sap_wave.specs.declared.variable.Variable.{Variable}
use Rattle.sap_wave.specs.Prelude.{are_digits, bits_number, is_digit, number_spelled, Form, timescale, scope, upscope, end_definitions, variable, block, change, is_formed, is_id, names_of, State, before_timescale, before_scope, declaring, before_end, before_blocks, in_block, is_full, numbers_in, width_at, IsVariable, Takes, after, AreVariables, NumbersFit, IsSound, SomeFit}
use Rattle.sap_wave.proofs.DigitsLemmas.{spelled_below}

-- Variables.

distinct_push : (ns : List Name) (y : Name) → AreDistinct ns → is_among y ns ≡ false → AreDistinct (ns ++ (y ∷ []))
distinct_push ns y h new = distinct_both ns (y ∷ []) h (refl, tt) other where
  other : (n : Name) → is_among n ns ≡ true → is_among n (y ∷ []) ≡ false
  other n a = rw (bytes_eq_apart_back y n (apart_by_membership y n ns new a)) refl

none_yet : AreVariables []
none_yet = record { named = tt; sized = tt; distinct = tt }

pub one_more : (xs : List Variable) (w i n : List ℕ) → AreVariables xs → IsVariable xs w i n
    → AreVariables (xs ++ (record { name = n; width = digits_value 10 w } ∷ []))
one_more xs w i n a h =
    let v : Variable = record { name = n; width = digits_value 10 w } in
    record {
      named = all_append (λ (x : Variable). is_name x.name ≡ true) xs (v ∷ []) a.named (h.named, tt);
      sized = all_append (λ (x : Variable). IsWidth x.width) xs (v ∷ []) a.sized (h.sized, tt);
      distinct = subst AreDistinct (sym (map-append (λ (x : Variable). x.name) xs (v ∷ []))) (distinct_push (names_of xs) n a.distinct h.new);
    }

-- Numbers.

pub none_fit : (xs : List Variable) → SomeFit xs (map (λ x. None) xs)
none_fit [] = tt
none_fit (x ∷ xs) = (tt, none_fit xs)

pub full_fit : (xs : List Variable) (now : List (Option ℕ)) → SomeFit xs now → is_full now ≡ true → NumbersFit xs (numbers_in now)
full_fit [] [] f h = tt
full_fit [] (o ∷ now) f h = absurd f
full_fit (x ∷ xs) [] f h = absurd f
full_fit (x ∷ xs) (None ∷ now) f h = absurd (true_is_not_false (sym h))
full_fit (x ∷ xs) (Some n ∷ now) f h = (f.0, full_fit xs now f.1 h)

pub set_fits : (xs : List Variable) (now : List (Option ℕ)) (k n : ℕ) → SomeFit xs now → k < length xs → n < 2 ^ width_at xs k → SomeFit xs (set now k (Some n))
set_fits [] now k n f l b = absurd (omega arith)
set_fits (x ∷ xs) [] k n f l b = absurd f
set_fits (x ∷ xs) (o ∷ now) zero n f l b = (b, f.1)
set_fits (x ∷ xs) (o ∷ now) (suc k) n f l b = (f.0, set_fits xs now k n f.1 (omega (arith, l)) b)

pub one_each : (xs : List Variable) (now : List (Option ℕ)) → SomeFit xs now → length now ≡ length xs
one_each [] [] f = refl
one_each [] (o ∷ now) f = absurd f
one_each (x ∷ xs) [] f = absurd f
one_each (x ∷ xs) (o ∷ now) f = ap suc (one_each xs now f.1)

pub bits_fit : (d : List ℕ) (w : ℕ) → list_all (is_digit 48 2) d ≡ true → length d ≡ w → bits_number d < 2 ^ w
unfolding bits_number
bits_fit d w all e =
    let b = spelled_below 48 2 0 d all in
    subst (λ (z : ℕ). bits_number d < 2 ^ z) e (omega (arith, b))

-- What is read line by line.

pub sound_after : (s : State) (f : Form) → is_formed f ≡ true → IsSound s → Takes s f → IsSound (after s f)
sound_after before_timescale timescale g h t = tt
sound_after before_scope scope g h t = none_yet
sound_after (declaring xs) (variable w i n) g h t = one_more xs w i n h t
sound_after (declaring xs) upscope g h t = h
sound_after (before_end xs) end_definitions g h t = h
sound_after (before_blocks xs) (block n) g h t = (h, none_fit xs, tt)
sound_after (in_block xs o) (block n) g h t =
    (h.0, h.1, all_append (NumbersFit xs) o.before (numbers_in o.now ∷ []) h.2 (full_fit xs o.now h.1 t.full, tt))
sound_after (in_block xs o) (change d i) g h t =
    let digits = and_parts (are_digits 48 2 d) (is_id i) g in
    let all = and_parts (nat_le 1 (length d)) (list_all (is_digit 48 2) d) digits.0 in
    (h.0, set_fits xs o.now (number_spelled i) (bits_number d) h.1 t.known.within (bits_fit d (width_at xs (number_spelled i)) all.1 t.sized), h.2)
sound_after _ _ g h t = absurd t
