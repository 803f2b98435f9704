-- The parts of a line, as they are cut out.
use Rattle.sap_lemmas.proofs.Common.{◌≡◌, ℕ, List, [], ◌∷◌, ◌++◌, true, false, ◌&&◌, drop, take, length, ◌-◌, refl, sym, ap, ◌∙◌, arith, subst, codes, list_all, bytes_eq, and_from, and_parts, take_all, length-drop, take-append-drop, take_front, bytes_eq_same, equal_of_bytes_eq, true_is_not_false}
use Rattle.sap_wave.specs.Prelude.{ended, Form, block, change, variable, is_formed, is_number, IsLine, IsCut, is_not}
use Rattle.sap_wave.proofs.Forms.{SamePieces, same_pieces, variable_formed, change_formed}

-- a text and its front
pub front_there : (text front : List ℕ) → bytes_eq front (take (length front) text) ≡ true
    → text ≡ front ++ take (length text - length front) (drop (length front) text)
front_there text front t =
    let k = length front in
    let rest : take (length text - k) (drop k text) ≡ drop k text = take_all (length text - k) (drop k text) (let l = length-drop k text in omega (arith, l)) in
    sym (take-append-drop k text)
    ∙ ap (λ (z : List ℕ). z ++ drop k text) (sym (equal_of_bytes_eq front (take k text) t))
    ∙ ap (λ (z : List ℕ). front ++ z) (sym rest)

pub front_missing : (text front rest : List ℕ) → bytes_eq front (take (length front) text) ≡ false → text ≡ front ++ rest → ⊥
front_missing text front rest f e =
    let same : take (length front) text ≡ front = ap (take (length front)) e ∙ take_front front rest in
    true_is_not_false (sym (bytes_eq_same front) ∙ ap (bytes_eq front) (sym same) ∙ f)

-- a line behind its front
pub moved : (text front rest : List ℕ) (f : Form) → text ≡ front ++ rest → IsLine (ended (front ++ rest)) f → IsLine (ended text) f
moved text front rest f e h = subst (λ (z : List ℕ). IsLine (ended z) f) (sym e) h

pub moved_on : (text front rest : List ℕ) (f : Form) → text ≡ front ++ rest → IsLine (ended text) f → IsLine (ended (front ++ rest)) f
moved_on text front rest f e h = subst (λ (z : List ℕ). IsLine (ended z) f) e h

not_within : (x r : List ℕ) → list_all (is_not 32) (x ++ (32 ∷ r)) ≡ true → ⊥
not_within [] r h = true_is_not_false (sym h)
not_within (x ∷ xs) r h = not_within xs r (and_parts (is_not 32 x) (list_all (is_not 32) (xs ++ (32 ∷ r))) h).1

no_cut : (text x r : List ℕ) → list_all (is_not 32) text ≡ true → text ≡ x ++ (32 ∷ r) → ⊥
no_cut text x r h e = not_within x r (subst (λ (z : List ℕ). list_all (is_not 32) z ≡ true) e h)

cut_same : (text b h x r : List ℕ) → IsCut 32 text b h → list_all (is_not 32) x ≡ true → text ≡ x ++ (32 ∷ r) → SamePieces b x h r
cut_same text b h x r c all e = same_pieces b x h r c.first all (sym c.whole ∙ e)

-- Declarations.

record IsDeclared (text w i n : List ℕ) : Type 0 where
  rest : text ≡ w ++ (32 ∷ (i ++ (32 ∷ (n ++ codes " $end"))))
  width : list_all (is_not 32) w ≡ true
  id : list_all (is_not 32) i ≡ true
  name : list_all (is_not 32) n ≡ true

is_declared : (text w i n : List ℕ) → IsLine (ended (codes "$var reg " ++ text)) (variable w i n) → IsDeclared text w i n
is_declared text w i n h =
    let p = variable_formed w i n h.formed in
    record { rest = ap (λ (z : List ℕ). drop 9 z) (sym h.text); width = p.0; id = p.1; name = p.2 }

pub no_first : (text w i n : List ℕ) → list_all (is_not 32) text ≡ true → IsLine (ended (codes "$var reg " ++ text)) (variable w i n) → ⊥
no_first text w i n all h = no_cut text w (i ++ (32 ∷ (n ++ codes " $end"))) all (is_declared text w i n h).rest

pub no_second : (text b1 h1 w i n : List ℕ) → IsCut 32 text b1 h1 → list_all (is_not 32) h1 ≡ true → IsLine (ended (codes "$var reg " ++ text)) (variable w i n) → ⊥
no_second text b1 h1 w i n c1 all h =
    let d = is_declared text w i n h in
    let s = cut_same text b1 h1 w (i ++ (32 ∷ (n ++ codes " $end"))) c1 d.width d.rest in
    no_cut h1 i (n ++ codes " $end") all s.rest

pub no_third : (text b1 h1 b2 h2 w i n : List ℕ) → IsCut 32 text b1 h1 → IsCut 32 h1 b2 h2 → list_all (is_not 32) h2 ≡ true
    → IsLine (ended (codes "$var reg " ++ text)) (variable w i n) → ⊥
no_third text b1 h1 b2 h2 w i n c1 c2 all h =
    let d = is_declared text w i n h in
    let s = cut_same text b1 h1 w (i ++ (32 ∷ (n ++ codes " $end"))) c1 d.width d.rest in
    let t = cut_same h1 b2 h2 i (n ++ codes " $end") c2 d.id s.rest in
    no_cut h2 n (codes "$end") all t.rest

record AreParts (b1 b2 b3 h3 w i n : List ℕ) : Type 0 where
  width : b1 ≡ w
  id : b2 ≡ i
  name : b3 ≡ n
  end : h3 ≡ codes "$end"

are_parts : (text b1 h1 b2 h2 b3 h3 w i n : List ℕ) → IsCut 32 text b1 h1 → IsCut 32 h1 b2 h2 → IsCut 32 h2 b3 h3
    → IsLine (ended (codes "$var reg " ++ text)) (variable w i n) → AreParts b1 b2 b3 h3 w i n
are_parts text b1 h1 b2 h2 b3 h3 w i n c1 c2 c3 h =
    let d = is_declared text w i n h in
    let s = cut_same text b1 h1 w (i ++ (32 ∷ (n ++ codes " $end"))) c1 d.width d.rest in
    let t = cut_same h1 b2 h2 i (n ++ codes " $end") c2 d.id s.rest in
    let u = cut_same h2 b3 h3 n (codes "$end") c3 d.name t.rest in
    record { width = s.piece; id = t.piece; name = u.piece; end = u.rest }

pub not_declaration : (text b1 h1 b2 h2 b3 h3 w i n : List ℕ) → IsCut 32 text b1 h1 → IsCut 32 h1 b2 h2 → IsCut 32 h2 b3 h3
    → (is_formed (variable b1 b2 b3) && bytes_eq h3 (codes "$end")) ≡ false → IsLine (ended (codes "$var reg " ++ text)) (variable w i n) → ⊥
not_declaration text b1 h1 b2 h2 b3 h3 w i n c1 c2 c3 against h =
    let p = are_parts text b1 h1 b2 h2 b3 h3 w i n c1 c2 c3 h in
    let same : variable b1 b2 b3 ≡ variable w i n =
    ap (λ (z : List ℕ). variable z b2 b3) p.width ∙ ap (λ (z : List ℕ). variable w z b3) p.id ∙ ap (λ (z : List ℕ). variable w i z) p.name in
    let formed : is_formed (variable b1 b2 b3) ≡ true = ap is_formed same ∙ h.formed in
    let end : bytes_eq h3 (codes "$end") ≡ true = subst (λ (z : List ℕ). bytes_eq z (codes "$end") ≡ true) (sym p.end) (bytes_eq_same (codes "$end")) in
    true_is_not_false (sym (and_from (is_formed (variable b1 b2 b3)) (bytes_eq h3 (codes "$end")) formed end) ∙ against)

pub declared_line : (text b1 h1 b2 h2 b3 h3 : List ℕ) → IsCut 32 text b1 h1 → IsCut 32 h1 b2 h2 → IsCut 32 h2 b3 h3
    → (is_formed (variable b1 b2 b3) && bytes_eq h3 (codes "$end")) ≡ true → IsLine (ended (codes "$var reg " ++ text)) (variable b1 b2 b3)
declared_line text b1 h1 b2 h2 b3 h3 c1 c2 c3 both =
    let parts = and_parts (is_formed (variable b1 b2 b3)) (bytes_eq h3 (codes "$end")) both in
    let e = equal_of_bytes_eq h3 (codes "$end") parts.1 in
    let third : b3 ++ (32 ∷ codes "$end") ≡ h2 = ap (λ (z : List ℕ). b3 ++ (32 ∷ z)) (sym e) ∙ sym c3.whole in
    let second : b2 ++ (32 ∷ (b3 ++ (32 ∷ codes "$end"))) ≡ h1 = ap (λ (z : List ℕ). b2 ++ (32 ∷ z)) third ∙ sym c2.whole in
    let first : b1 ++ (32 ∷ (b2 ++ (32 ∷ (b3 ++ (32 ∷ codes "$end"))))) ≡ text = ap (λ (z : List ℕ). b1 ++ (32 ∷ z)) second ∙ sym c1.whole in
    record { ended = refl; text = ap (λ (z : List ℕ). codes "$var reg " ++ z) first; formed = parts.0 }

-- Changes.

pub no_change : (text b h d i : List ℕ) → IsCut 32 text b h → is_formed (change b h) ≡ false → IsLine (ended (codes "b" ++ text)) (change d i) → ⊥
no_change text b h d i c against l =
    let s = cut_same text b h d i c (change_formed d i l.formed) (ap (λ (z : List ℕ). drop 1 z) (sym l.text)) in
    let same : change b h ≡ change d i = ap (λ (z : List ℕ). change z h) s.piece ∙ ap (λ (z : List ℕ). change d z) s.rest in
    true_is_not_false (sym l.formed ∙ ap is_formed (sym same) ∙ against)

pub change_line : (text b h : List ℕ) → IsCut 32 text b h → is_formed (change b h) ≡ true → IsLine (ended (codes "b" ++ text)) (change b h)
change_line text b h c formed = record { ended = refl; text = ap (λ (z : List ℕ). codes "b" ++ z) (sym c.whole); formed = formed }

pub no_b : (text d i : List ℕ) → ((rest : List ℕ) → text ≡ codes "b" ++ rest → ⊥) → IsLine (ended text) (change d i) → ⊥
no_b text d i against h = against (d ++ (32 ∷ i)) (sym h.text)

-- Blocks.

pub no_number : (text m n : List ℕ) → text ≡ codes "#" ++ m → is_number m ≡ false → IsLine (ended text) (block n) → ⊥
no_number text m n e against h =
    let same : m ≡ n = ap (λ (z : List ℕ). drop 1 z) (sym e ∙ sym h.text) in
    true_is_not_false (sym h.formed ∙ ap is_number (sym same) ∙ against)

pub block_line : (text m : List ℕ) → text ≡ codes "#" ++ m → is_number m ≡ true → IsLine (ended text) (block m)
block_line text m e formed = record { ended = refl; text = sym e; formed = formed }
