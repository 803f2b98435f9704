-- The texts of rows, from left to right.
use Rattle.sap_lemmas.proofs.Common.{◌≡◌, ◌+◌, ◌<◌, ◌≤◌, ◌^◌, ℕ, zero, suc, List, [], ◌∷◌, ◌++◌, length, get_or, drop, sym, ap, ◌∙◌, arith, rules, length-append, Option, Some, Result, Ok, Err, OnOk, if◌then◌else◌, decimal, is_ok, option_map, OnErr, length-decimal-le, drop-cons}
use Rattle.std.specs.Prelude.{IsOk}
use Rattle.sap_lemmas.proofs.Lists.{joined_part_on_last}
use Rattle.sap_lattice.proofs.LevelsLemmas.{level_in_same}
use Rattle.sap_lattice.specs.Prelude.{name_at, Levels, level_in}
use Rattle.sap_stim.specs.Rows.{Shown, shown, shown_of, shown_text, all_shown, row_text, row_room, level_coded, level_text}

-- the registers from a place on
abbrev pub shown_from : Levels → List (List ℕ) → List ℕ → List ℕ → ℕ → List ℕ
shown_from ls names values tags i = all_shown (shown_of ls (drop i names) (drop i values) (drop i tags))

pub shown_more : (ls : Levels) (names : List (List ℕ)) (values tags : List ℕ) (i : ℕ) (name : List ℕ) → i < length names
    → length values ≡ length names → length tags ≡ length names → name ≡ get_or names i name
    → shown_from ls names values tags i ≡ shown_text (shown ls name (get_or values i 0) (get_or tags i 0)) ++ shown_from ls names values tags (i + 1)
shown_more ls names values tags i name h v t e =
    let s : suc i ≡ i + 1 = omega arith in
    let a : drop i names ≡ name ∷ drop (i + 1) names = drop-cons names i name h ∙ ap (λ (x : List ℕ). x ∷ drop (suc i) names) (sym e) ∙ ap (λ (k : ℕ). name ∷ drop k names) s in
    let b : drop i values ≡ get_or values i 0 ∷ drop (i + 1) values = drop-cons values i 0 (omega arith) ∙ ap (λ (k : ℕ). get_or values i 0 ∷ drop k values) s in
    let c : drop i tags ≡ get_or tags i 0 ∷ drop (i + 1) tags = drop-cons tags i 0 (omega arith) ∙ ap (λ (k : ℕ). get_or tags i 0 ∷ drop k tags) s in
    ap (λ (x : List (List ℕ)). all_shown (shown_of ls x (drop i values) (drop i tags))) a
    ∙ ap (λ (x : List ℕ). all_shown (shown_of ls (name ∷ drop (i + 1) names) x (drop i tags))) b
    ∙ ap (λ (x : List ℕ). all_shown (shown_of ls (name ∷ drop (i + 1) names) (get_or values i 0 ∷ drop (i + 1) values) x)) c

pub level_written : {E : Type 0} (ls : Levels) (tag level : ℕ) (text old new : List ℕ) (r : Result (Unit {0}) E)
    → Some level ≡ level_coded ls tag → level < length ls.names → text ≡ get_or ls.names (level_in (length ls.names) level) []
    → new ≡ (if is_ok r then old ++ text else old) → OnOk r (new ≡ old ++ level_text (option_map (name_at ls.names) (level_coded ls tag)) tag)
level_written ls tag level text old new r coded small t e =
    joined_part_on_last r new old text (level_text (option_map (name_at ls.names) (level_coded ls tag)) tag) e
    (t ∙ ap (λ (k : ℕ). get_or ls.names k []) (level_in_same (length ls.names) level small) ∙ ap (λ (o : Option ℕ). level_text (option_map (name_at ls.names) o) tag) coded)

-- a text more of the next tag
pub texts_grow : (f : ℕ → List ℕ) (texts : List (List ℕ)) (text : List ℕ) → ((k : ℕ) (other : List ℕ) → k < length texts → get_or texts k other ≡ f k) → text ≡ f (length texts)
    → (k : ℕ) (other : List ℕ) → k < length (texts ++ text ∷ []) → get_or (texts ++ text ∷ []) k other ≡ f k
texts_grow f [] text at next zero other h = next
texts_grow f [] text at next (suc k) other h = absurd (omega arith)
texts_grow f (x ∷ xs) text at next zero other h = at zero other (omega arith)
texts_grow f (x ∷ xs) text at next (suc k) other h = texts_grow (λ i. f (suc i)) xs text (λ i e small. at (suc i) e (omega arith)) next k other (omega arith)

-- the room of texts

pub row_fits : (cycle : ℕ) (ss : List Shown) → cycle < 2 ^ 64 → length (row_text cycle ss) ≤ row_room ss
row_fits cycle ss small =
    let digits : length (decimal cycle) ≤ 20 = length-decimal-le 20 cycle (omega arith) (omega arith) small in
    simp length-append (omega (arith, digits))

-- what fails only for want of room succeeds where there is room
pub ok_with_room : {T E : Type 0} (r : Result T E) (capacity wanted : ℕ) → OnErr r (capacity < wanted) → wanted ≤ capacity → IsOk r
ok_with_room (Ok v) capacity wanted full room = search rules
ok_with_room (Err e) capacity wanted full room = absurd (omega arith)

-- what fails where a register is to be written fails for want of room for the rest
pub row_full : (ls : Levels) (names : List (List ℕ)) (values tags : List ℕ) (i : ℕ) (name out old : List ℕ) (capacity : ℕ)
    → i < length names → length values ≡ length names → length tags ≡ length names → name ≡ get_or names i name
    → out ++ shown_from ls names values tags i ≡ old → capacity < length out + length (shown_text (shown ls name (get_or values i 0) (get_or tags i 0))) → capacity < length old
row_full ls names values tags i name out old capacity h v t e before full =
    let here = shown_text (shown ls name (get_or values i 0) (get_or tags i 0)) in
    let rest = shown_from ls names values tags (i + 1) in
    let more : length (shown_from ls names values tags i) ≡ length here + length rest = ap length (shown_more ls names values tags i name h v t e) ∙ length-append here rest in
    let whole : length old ≡ length out + length (shown_from ls names values tags i) = sym (ap length before) ∙ length-append out (shown_from ls names values tags i) in
    omega (arith, more, whole, full)
