-- What was read tells which lines there were.
use Rattle.sap_lemmas.proofs.Common.{◌≡◌, ℕ, ◌+◌, ◌≤◌, List, [], ◌∷◌, ◌++◌, true, false, ◌&&◌, Option, Some, None, length, map, get_or, refl, sym, ap, ◌∙◌, arith, subst, append_assoc, ◌≢◌, AllByRecursion, list_all, digits_value, and_parts, nat_tests, append-nil, get_or-set_other, all_append, length_map}
use Rattle.sap_wave.specs.Prelude.{is_digit, are_digits, bits, bits_number, number_spelled, numeral, Form, timescale, scope, upscope, end_definitions, variable, block, change, is_formed, is_id, is_number, is_piece, AreVariables, NumbersFit, SomeFit, all_set, block_of, blocks_from, declaration, declarations, dump, head, last_among, set_to, OpenBlock, State, before_timescale, before_scope, declaring, before_end, before_blocks, in_block, is_first, is_full, numbers_in, blocks_of, nothing, width_at, IsVariable, IsChange, IsNextBlock, Takes, after, first_block, next_block, changed}
use Rattle.sap_wave.specs.declared.variable.Variable.{Variable}
use Rattle.sap_wave.proofs.DigitsLemmas.{bits_read_back}
use Rattle.sap_wave.proofs.Formed.{number_spells}
use Rattle.sap_wave.proofs.Lists.{one_more_of}
use Rattle.sap_wave.proofs.Blocks.{blocks_more, last_more}
use Rattle.sap_wave.proofs.Moves.{moves, no_moves, one_move, from_none, from_some, none_lacks, none_there}
use Rattle.sap_wave.proofs.Sounding.{bits_fit, full_fit, none_fit, one_each, one_more, set_fits}

-- the head as far as its declarations, and up to block 0
abbrev pub declared : List Variable → List Form
declared xs = timescale ∷ (scope ∷ declarations 0 xs)

abbrev pub opened : List Variable → List Form
opened xs = declared xs ++ (upscope ∷ (end_definitions ∷ []))

abbrev pub nones : List Variable → List (Option ℕ)
nones xs = map (λ x. None) xs

-- these are the lines of blocks that are over
pub record Whole (xs : List Variable) (blocks : List (List ℕ)) (last : List ℕ) (done : List Form) : Type 0 where
  pub first : List ℕ
  pub rest : List (List ℕ)
  pub are : blocks ≡ first ∷ rest
  pub ends : last ≡ last_among first rest
  pub forms : done ≡ dump xs first rest
  pub fits : AllByRecursion (NumbersFit xs) blocks

-- what stands before a block, and the numbers with which it begins
pub data Begun (xs : List Variable) (before : List (List ℕ)) (olds : List (Option ℕ)) (earlier : List Form) : Type 0 where
  begins : before ≡ [] → olds ≡ nones xs → earlier ≡ opened xs → Begun xs before olds earlier
  goes_on : (last : List ℕ) → olds ≡ map Some last → Whole xs before last earlier → Begun xs before olds earlier

-- an open block, of which no variable from the next one on has changed
pub record InBlock (xs : List Variable) (o : OpenBlock) (done : List Form) : Type 0 where
  pub olds : List (Option ℕ)
  pub earlier : List Form
  pub begun : Begun xs o.before olds earlier
  pub forms : done ≡ earlier ++ (block (numeral (length o.before)) ∷ moves 0 xs olds o.now)
  pub fits : SomeFit xs o.now
  pub as_many : length olds ≡ length xs
  pub behind : (j : ℕ) → o.next ≤ j → get_or o.now j None ≡ get_or olds j None

-- these lines stand before a state
abbrev pub Told : State → List Form → Type 0
Told before_timescale done = done ≡ []
Told before_scope done = done ≡ timescale ∷ []
Told (declaring xs) done = AreVariables xs × (done ≡ declared xs)
Told (before_end xs) done = AreVariables xs × (done ≡ declared xs ++ (upscope ∷ []))
Told (before_blocks xs) done = AreVariables xs × (done ≡ opened xs)
Told (in_block xs o) done = AreVariables xs × InBlock xs o done

-- Declarations.

declarations_more : (k : ℕ) (xs : List Variable) (x : Variable) → declarations k (xs ++ (x ∷ [])) ≡ declarations k xs ++ (declaration (k + length xs) x ∷ [])
declarations_more k [] x = let e : k ≡ k + 0 = omega arith in ap (λ (j : ℕ). declaration j x ∷ []) e
declarations_more k (y ∷ xs) x =
    let e : (k + 1) + length xs ≡ k + length (y ∷ xs) = omega arith in
    ap (λ (z : List Form). declaration k y ∷ z) (declarations_more (k + 1) xs x ∙ ap (λ (j : ℕ). declarations (k + 1) xs ++ (declaration j x ∷ [])) e)

declares : (xs : List Variable) (w i n : List ℕ) (done : List Form) → is_formed (variable w i n) ≡ true → IsVariable xs w i n → Told (declaring xs) done
    → Told (after (declaring xs) (variable w i n)) (done ++ (variable w i n ∷ []))
declares xs w i n done formed takes h =
    let x : Variable = record { name = n; width = digits_value 10 w } in
    let number = (and_parts (is_number w) (is_id i && is_piece n) formed).0 in
    let place : length xs ≡ 0 + length xs = omega arith in
    let form : variable w i n ≡ declaration (0 + length xs) x =
    ap (λ (z : List ℕ). variable z i n) (number_spells w number)
    ∙ ap (λ (z : List ℕ). variable (numeral (digits_value 10 w)) z n) takes.numbered
    ∙ ap (λ (k : ℕ). declaration k x) place in (
      one_more xs w i n h.0 takes,
      ap (λ (z : List Form). z ++ (variable w i n ∷ [])) h.1
          ∙ ap (λ (z : Form). timescale ∷ (scope ∷ (declarations 0 xs ++ (z ∷ [])))) form
          ∙ ap (λ (z : List Form). timescale ∷ (scope ∷ z)) (sym (declarations_more 0 xs x)),
    )

-- Blocks.

begins_blocks : (xs : List Variable) (number : List ℕ) (done : List Form) → is_number number ≡ true → digits_value 10 number ≡ 0 → done ≡ opened xs
    → InBlock xs (first_block xs) (done ++ (block number ∷ []))
begins_blocks xs number done formed zero h =
    record {
      olds = nones xs;
      earlier = opened xs;
      begun = begins refl refl refl;
      forms =
          ap (λ (z : List Form). z ++ (block number ∷ [])) h
          ∙ ap (λ (z : List ℕ). opened xs ++ (block z ∷ [])) (number_spells number formed ∙ ap numeral zero)
          ∙ ap (λ (z : List Form). opened xs ++ (block (numeral 0) ∷ z)) (sym (no_moves 0 xs (nones xs) (nones xs) (λ j. refl)));
      fits = none_fit xs;
      as_many = length_map (λ (x : Variable). let o : Option ℕ = None in o) xs;
      behind = λ j l. refl;
    }

head_parts : (xs : List Variable) (first : List ℕ) → opened xs ++ (block (numeral 0) ∷ all_set 0 xs first) ≡ head xs first
head_parts xs first =
    ap (λ (z : List Form). timescale ∷ (scope ∷ z)) (append_assoc (declarations 0 xs) (upscope ∷ (end_definitions ∷ [])) (block (numeral 0) ∷ all_set 0 xs first))

-- the lines of an open block that lacks no number are those of one that is over
first_is_over : (xs : List Variable) (before : List (List ℕ)) (ns : List ℕ) (olds now : List (Option ℕ)) (earlier done : List Form)
    → before ≡ [] → olds ≡ nones xs → earlier ≡ opened xs
    → now ≡ map Some ns → NumbersFit xs ns → done ≡ earlier ++ (block (numeral (length before)) ∷ moves 0 xs olds now) → Whole xs (before ++ (ns ∷ [])) ns done
first_is_over xs before ns olds now earlier done b o e full fit forms =
    let one : before ++ (ns ∷ []) ≡ ns ∷ [] = ap (λ (z : List (List ℕ)). z ++ (ns ∷ [])) b in
    record {
      first = ns;
      rest = [];
      are = one;
      ends = refl;
      forms =
          forms
          ∙ ap (λ (z : List Form). z ++ (block (numeral (length before)) ∷ moves 0 xs olds now)) e
          ∙ ap (λ (z : List (List ℕ)). opened xs ++ (block (numeral (length z)) ∷ moves 0 xs olds now)) b
          ∙ ap (λ (z : List (Option ℕ)). opened xs ++ (block (numeral 0) ∷ moves 0 xs z now)) o
          ∙ ap (λ (z : List (Option ℕ)). opened xs ++ (block (numeral 0) ∷ moves 0 xs (nones xs) z)) full
          ∙ ap (λ (z : List Form). opened xs ++ (block (numeral 0) ∷ z)) (from_none 0 xs ns)
          ∙ head_parts xs ns
          ∙ sym (append-nil (head xs ns));
      fits = subst (AllByRecursion (NumbersFit xs)) (sym one) (fit, tt);
    }

later_is_over : (xs : List Variable) (before : List (List ℕ)) (last ns : List ℕ) (olds now : List (Option ℕ)) (earlier done : List Form) → olds ≡ map Some last
    → Whole xs before last earlier → now ≡ map Some ns → NumbersFit xs ns → done ≡ earlier ++ (block (numeral (length before)) ∷ moves 0 xs olds now)
    → Whole xs (before ++ (ns ∷ [])) ns done
later_is_over xs before last ns olds now earlier done o w full fit forms =
    let count : length before ≡ 1 + length w.rest = let e = ap length w.are in omega (arith, e) in
    let next = block_of (1 + length w.rest) xs (last_among w.first w.rest) ns in
    record {
      first = w.first;
      rest = w.rest ++ (ns ∷ []);
      are = ap (λ (z : List (List ℕ)). z ++ (ns ∷ [])) w.are;
      ends = sym (last_more w.first w.rest ns);
      forms =
          forms
          ∙ ap (λ (z : List (Option ℕ)). earlier ++ (block (numeral (length before)) ∷ moves 0 xs z now)) o
          ∙ ap (λ (z : List (Option ℕ)). earlier ++ (block (numeral (length before)) ∷ moves 0 xs (map Some last) z)) full
          ∙ ap (λ (z : List Form). earlier ++ (block (numeral (length before)) ∷ z)) (from_some 0 xs last ns)
          ∙ ap (λ (k : ℕ). earlier ++ block_of k xs last ns) count
          ∙ ap (λ (z : List ℕ). earlier ++ block_of (1 + length w.rest) xs z ns) w.ends
          ∙ ap (λ (z : List Form). z ++ next) w.forms
          ∙ append_assoc (head xs w.first) (blocks_from 1 xs w.first w.rest) next
          ∙ ap (λ (z : List Form). head xs w.first ++ z) (sym (blocks_more 1 xs w.first w.rest ns));
      fits = all_append (NumbersFit xs) before (ns ∷ []) w.fits (fit, tt);
    }

pub is_over : (xs : List Variable) (o : OpenBlock) (done : List Form) → InBlock xs o done → is_full o.now ≡ true → Whole xs (blocks_of o) (numbers_in o.now) done
is_over xs o done h full = by h.begun where
  by : Begun xs o.before h.olds h.earlier → Whole xs (blocks_of o) (numbers_in o.now) done
  by (begins b e f) =
      first_is_over xs o.before (numbers_in o.now) h.olds o.now h.earlier done b e f (none_lacks o.now full)
      (full_fit xs o.now h.fits full)
      h.forms
  by (goes_on last e w) =
      later_is_over xs o.before last (numbers_in o.now) h.olds o.now h.earlier done e w (none_lacks o.now full)
      (full_fit xs o.now h.fits full)
      h.forms

goes_to_next : (xs : List Variable) (o : OpenBlock) (number : List ℕ) (done : List Form) → is_number number ≡ true → IsNextBlock o number → InBlock xs o done
    → InBlock xs (next_block o) (done ++ (block number ∷ []))
goes_to_next xs o number done formed takes h =
    let more : digits_value 10 number ≡ length (blocks_of o) = takes.in_turn ∙ sym (one_more_of o.before (numbers_in o.now)) in
    record {
      olds = o.now;
      earlier = done;
      begun = goes_on (numbers_in o.now) (none_lacks o.now takes.full) (is_over xs o done h takes.full);
      forms =
          ap (λ (z : List ℕ). done ++ (block z ∷ [])) (number_spells number formed ∙ ap numeral more)
          ∙ ap (λ (z : List Form). done ++ (block (numeral (length (blocks_of o))) ∷ z)) (sym (no_moves 0 xs o.now o.now (λ j. refl)));
      fits = h.fits;
      as_many = one_each xs o.now h.fits;
      behind = λ j l. refl;
    }

-- Changes.

-- it takes the variable to another number than the one with which the block began
changes_number : (xs : List Variable) (o : OpenBlock) (digits id : List ℕ) (olds : List (Option ℕ)) (earlier : List Form) → Begun xs o.before olds earlier → IsChange xs o digits id
    → get_or o.now (number_spelled id) None ≡ get_or olds (number_spelled id) None → get_or olds (number_spelled id) None ≢ Some (bits_number digits)
changes_number xs o digits id olds earlier (begins b e f) takes same is =
    let none : None ≡ Some (bits_number digits) = sym (none_there xs (number_spelled id)) ∙ ap (λ (z : List (Option ℕ)). get_or z (number_spelled id) None) (sym e) ∙ is in
    cc
changes_number xs o digits id olds earlier (goes_on last e w) takes same is =
    let count = ap length w.are in
    let later : is_first o ≡ false = grind (arith, nat_tests, count) in
    takes.changes later (same ∙ is)

changed_form : (xs : List Variable) (o : OpenBlock) (digits id : List ℕ) → is_formed (change digits id) ≡ true → IsChange xs o digits id
    → change digits id ≡ set_to (0 + number_spelled id) (get_or xs (number_spelled id) nothing) (bits_number digits)
changed_form xs o digits id formed takes =
    let p = number_spelled id in
    let some = (and_parts (are_digits 48 2 digits) (is_id id) formed).0 in
    let all = (and_parts _ (list_all (is_digit 48 2) digits) some).1 in
    let place : p ≡ 0 + p = omega arith in
    ap (λ (z : List ℕ). change z id) (sym (bits_read_back.no_other digits all))
    ∙ ap (λ (z : ℕ). change (bits z (bits_number digits)) id) takes.sized
    ∙ ap (λ (z : List ℕ). change (bits (width_at xs p) (bits_number digits)) z) takes.known.spells
    ∙ ap (λ (k : ℕ). set_to k (get_or xs p nothing) (bits_number digits)) place

changes_one : (xs : List Variable) (o : OpenBlock) (digits id : List ℕ) (done : List Form) → is_formed (change digits id) ≡ true → IsChange xs o digits id → InBlock xs o done
    → InBlock xs (changed o digits id) (done ++ (change digits id ∷ []))
changes_one xs o digits id done formed takes h =
    let p = number_spelled id in
    let v = bits_number digits in
    let x = get_or xs p nothing in
    let zero = block (numeral (length o.before)) in
    let all = (and_parts _ (list_all (is_digit 48 2) digits) (and_parts (are_digits 48 2 digits) (is_id id) formed).0).1 in
    let apart = changes_number xs o digits id h.olds h.earlier h.begun takes (h.behind p takes.later) in
    let now_length : length o.now ≡ length xs = one_each xs o.now h.fits in
    let moved = one_move 0 xs h.olds o.now p v takes.known.within h.as_many now_length (λ j l. h.behind j (let m = takes.later in omega (arith, l, m))) apart in
    record {
      olds = h.olds;
      earlier = h.earlier;
      begun = h.begun;
      forms =
          ap (λ (z : List Form). z ++ (change digits id ∷ [])) h.forms
          ∙ append_assoc h.earlier (zero ∷ moves 0 xs h.olds o.now) (change digits id ∷ [])
          ∙ ap (λ (z : Form). h.earlier ++ (zero ∷ (moves 0 xs h.olds o.now ++ (z ∷ [])))) (changed_form xs o digits id formed takes)
          ∙ ap (λ (z : List Form). h.earlier ++ (zero ∷ z)) (sym moved);
      fits = set_fits xs o.now p v h.fits takes.known.within (bits_fit digits (width_at xs p) all takes.sized);
      as_many = h.as_many;
      behind = λ j l. get_or-set_other o.now p j (Some v) None (λ e. omega (arith, e, l)) ∙ h.behind j (let m = takes.later in omega (arith, l, m));
    }

pub tells : (s : State) (f : Form) (done : List Form) → is_formed f ≡ true → Takes s f → Told s done → Told (after s f) (done ++ (f ∷ []))
tells before_timescale timescale done formed takes h = ap (λ (z : List Form). z ++ (timescale ∷ [])) h
tells before_scope scope done formed takes h = (record { named = tt; sized = tt; distinct = tt }, ap (λ (z : List Form). z ++ (scope ∷ [])) h)
tells (declaring xs) (variable w i n) done formed takes h = declares xs w i n done formed takes h
tells (declaring xs) upscope done formed takes h = (h.0, ap (λ (z : List Form). z ++ (upscope ∷ [])) h.1)
tells (before_end xs) end_definitions done formed takes h = (
  h.0,
  ap (λ (z : List Form). z ++ (end_definitions ∷ [])) h.1 ∙ append_assoc (declared xs) (upscope ∷ []) (end_definitions ∷ []),
)
tells (before_blocks xs) (block number) done formed takes h = (h.0, begins_blocks xs number done formed takes h.1)
tells (in_block xs o) (block number) done formed takes h = (h.0, goes_to_next xs o number done formed takes h.1)
tells (in_block xs o) (change digits id) done formed takes h = (h.0, changes_one xs o digits id done formed takes h.1)
tells _ _ done formed takes h = absurd takes
