-- The lines that explain a module are comment lines: no name, number or place has an LF.
use Rattle.sap_lemmas.proofs.Common.{◌≡◌, ℕ, zero, suc, ◌+◌, ◌<◌, ◌/◌, ◌%◌, ◌==◌, ◌&&◌, Bool, true, false, if◌then◌else◌, List, [], ◌∷◌, ◌++◌, length, refl, sym, inl, inr, arith, nat_tests, append-nil, append_assoc, subst, codes, decimal, list_all, AllByRecursion, cases_Bool, and_from, and_parts, and_left, all_append}
use Rattle.std.specs.Fmt.{digits, digits_onto, digit_glyph}
use Rattle.sap_text.specs.Blanks.{is_in_line}
use Rattle.sap_text.specs.Names.{is_inner, is_word}
use Rattle.sap_text.specs.Places.{line_end, place_text}
use Rattle.sap_text.specs.declared.place.Place.{Place}
use Rattle.sap_text.proofs.NamesLemmas.{word_inner}
use Rattle.sap_lattice.specs.Closure.{name_at}
use Rattle.sap_lattice.specs.Codes.{code_of}
use Rattle.sap_lattice.specs.Levels.{Levels, order_of}
use Rattle.sap_lattice.specs.Rules.{KeepsNames, no_word}
use Rattle.sap_tree.specs.Syntax.{StateTree, state_node, StateList, no_state, and_state, DesignTree}
use Rattle.sap_tree.specs.Whole.{is_whole, is_tree, is_state, are_states, is_declaration, has_state}
use Rattle.sap_tree.specs.Words as words
use Rattle.sap_tree.specs.declared.syntax.Decl.{Decl}
use Rattle.sap_tree.specs.declared.syntax.Decl.TheVariants as decl
use Rattle.sap_tree.specs.declared.version.Version.{Version}
use Rattle.sap_names.specs.declared.entity.Entity.{Entity}
use Rattle.sap_names.specs.Entities.{entity_of, declared_in, state_entities, group_entities, entities_of}
use Rattle.sap_shape.specs.ShapeFaults.{name_of}
use Rattle.sap_check.specs.declared.site.Site.{Site}
use Rattle.sap_check.specs.declared.site.SiteKind.{SiteKind}
use Rattle.sap_check.specs.declared.site.SiteKind.TheVariants as kind
use Rattle.sap_check.specs.Sites.{sites_of}
use Rattle.sap_check.specs.SiteTexts.{entity_name, site_word, site_target}
use Rattle.sap_net.specs.PortNames.{seat_name, root_seat, refused_name}
use Rattle.sap_explain.specs.Comments.{IsCommentLine, AreCommentLines, no_line, and_line}
use Rattle.sap_explain.specs.Explanation.{level_comments, name_in, before_child, child_text, children_text, group_text, groups_below, groups_below_all, site_comments, design_comments}

abbrev pub InLine : List ℕ → Type 0
InLine text = list_all is_in_line text ≡ true

pub both_in_line : (a b : List ℕ) → InLine a → InLine b → InLine (a ++ b)
both_in_line [] b h k = k
both_in_line (x ∷ a) b h k =
    let p = and_parts (is_in_line x) (list_all is_in_line a) h in
    and_from (is_in_line x) (list_all is_in_line (a ++ b)) p.0 (both_in_line a b p.1 k)

three_in_line : (a b c : List ℕ) → InLine a → InLine b → InLine c → InLine (a ++ b ++ c)
three_in_line a b c h k l = both_in_line (a ++ b) c (both_in_line a b h k) l

four_in_line : (a b c d : List ℕ) → InLine a → InLine b → InLine c → InLine d → InLine (a ++ b ++ c ++ d)
four_in_line a b c d h k l m = both_in_line (a ++ b ++ c) d (three_in_line a b c h k l) m

-- numbers and names

glyph_in_line : (d : ℕ) → is_in_line (digit_glyph false d) ≡ true
glyph_in_line d = grind (arith, nat_tests)

one_digit_more : (d : ℕ) (acc : List ℕ) → InLine acc → InLine (digit_glyph false d ∷ acc)
one_digit_more d acc h = and_from (is_in_line (digit_glyph false d)) (list_all is_in_line acc) (glyph_in_line d) h

either_in_line : (b : Bool) (x y : List ℕ) → InLine x → InLine y → InLine (if b then x else y)
either_in_line true x y h k = h
either_in_line false x y h k = k

digits_in_line : (k base n : ℕ) (acc : List ℕ) → InLine acc → InLine (digits_onto k base false n acc)
digits_in_line zero base n acc h = h
digits_in_line (suc k) base n acc h =
    let more = one_digit_more (n % base) acc h in
    either_in_line (n / base == 0) (digit_glyph false (n % base) ∷ acc) (digits_onto k base false (n / base) (digit_glyph false (n % base) ∷ acc)) more
    (digits_in_line k base (n / base) (digit_glyph false (n % base) ∷ acc) more)

decimal_in_line : (n : ℕ) → InLine (decimal n)
unfolding digits
decimal_in_line n = digits_in_line 64 10 n [] refl

inner_in_line : (c : ℕ) → is_inner c ≡ true → is_in_line c ≡ true
inner_in_line c h = grind (arith, nat_tests)

all_in_line : (text : List ℕ) → list_all is_inner text ≡ true → InLine text
all_in_line [] h = refl
all_in_line (c ∷ cs) h =
    let p = and_parts (is_inner c) (list_all is_inner cs) h in
    and_from (is_in_line c) (list_all is_in_line cs) (inner_in_line c p.0) (all_in_line cs p.1)

pub word_in_line : (text : List ℕ) → is_word text ≡ true → InLine text
word_in_line text h = all_in_line text (word_inner text h)

name_in_line : (version : Version) (text : List ℕ) → words.is_name version text ≡ true → InLine text
unfolding words.is_name
name_in_line version text h = word_in_line text (and_left (is_word text) _ (and_left _ _ h))

-- lines

one_comment : (rest : List ℕ) → InLine rest → IsCommentLine ((47 ∷ 47 ∷ rest) ++ line_end)
one_comment rest h = record { rest = rest; in_line = h; parts = refl }

pub one_line : (text : List ℕ) → IsCommentLine text → AreCommentLines text
one_line text is = subst AreCommentLines (append-nil text) (and_line is no_line)

pub both_lines : {a b : List ℕ} → AreCommentLines a → AreCommentLines b → AreCommentLines (a ++ b)
both_lines no_line other = other
both_lines {b = b} (and_line {first} {others} is rest) other = subst AreCommentLines (sym (append_assoc first others b)) (and_line is (both_lines rest other))

-- levels

level_word : (names : List (List ℕ)) → KeepsNames names → (k : ℕ) → k < length names → InLine (name_at names k)
level_word names keeps k l = elim (cases_Bool (is_word (name_at names k))) [
  | inl t ↦ word_in_line (name_at names k) t
  | inr f ↦ absurd (keeps.named k (l, no_word f))
]

pub each_at : (P : List ℕ → Type 0) (names : List (List ℕ)) → ((k : ℕ) → k < length names → P (name_at names k)) → AllByRecursion P names
each_at P [] h = tt
each_at P (x ∷ xs) h = (h 0 (omega arith), each_at P xs (λ k l. h (suc k) (omega (arith, l))))

levels_from : (ls : Levels) (l : ℕ) (names : List (List ℕ)) → AllByRecursion InLine names → AreCommentLines (level_comments ls l names)
levels_from ls l [] h = no_line
levels_from ls l (name ∷ names) h =
    let code = code_of (order_of ls) l in
    let text = codes " level " ++ name ++ codes " " ++ decimal code in
    let inside : InLine text = four_in_line (codes " level ") name (codes " ") (decimal code) refl h.0 refl (decimal_in_line code) in
    both_lines (one_line ((47 ∷ 47 ∷ text) ++ line_end) (one_comment text inside)) (levels_from ls (l + 1) names h.1)

pub levels_are : (ls : Levels) → KeepsNames ls.names → AreCommentLines (level_comments ls 0 ls.names)
levels_are ls keeps = levels_from ls 0 ls.names (each_at InLine ls.names (level_word ls.names keeps))

-- names of states

state_named : (version : Version) (s : StateTree) → is_state version s ≡ true → InLine (name_of s)
unfolding is_state
state_named version (state_node place name k body children) h =
    name_in_line version name.name (and_left (words.is_name version name.name) _ (and_left _ _ (and_left _ _ (and_left _ _ h))))

state_children : (version : Version) (place : _) (name : _) (k : _) (body : _) (children : StateList) → is_state version (state_node place name k body children) ≡ true
    → are_states version children ≡ true
unfolding is_state
state_children version place name k body children h = (and_parts _ (are_states version children) h).1

states_parts : (version : Version) (s : StateTree) (rest : StateList) → are_states version (and_state s rest) ≡ true → (is_state version s ≡ true) × (are_states version rest ≡ true)
unfolding is_state
states_parts version s rest h = and_parts (is_state version s) (are_states version rest) h

-- groups

module _ (part : List ℕ) (named : InLine part) (version : Version) where
  name_in-in_line : (a b : ℕ) (x : List ℕ) → is_in_line a ≡ true → is_in_line b ≡ true → InLine x → InLine (name_in part (a ∷ b ∷ x))
  name_in-in_line a b x h k l = by part named where
    by : (p : List ℕ) → InLine p → InLine (name_in p (a ∷ b ∷ x))
    by [] m = both_in_line (a ∷ b ∷ []) x (and_from (is_in_line a) (is_in_line b && true) h (and_from (is_in_line b) true k refl)) l
    by (c ∷ cs) m =
        both_in_line (a ∷ b ∷ []) ((c ∷ cs) ++ (codes "_" ++ x)) (and_from (is_in_line a) (is_in_line b && true) h (and_from (is_in_line b) true k refl))
        (both_in_line (c ∷ cs) (codes "_" ++ x) m (both_in_line (codes "_") x refl l))

  before_in_line : (n : ℕ) → InLine (before_child n)
  before_in_line n = either_in_line (n == 0) (codes " ") (codes ", ") refl refl

  children_in_line : (n : ℕ) (states : StateList) → are_states version states ≡ true → InLine (children_text n states)
  children_in_line n no_state h = refl
  children_in_line n (and_state s rest) h =
      let p = states_parts version s rest h in
      let child : InLine (child_text n (name_of s)) = four_in_line (before_child n) (decimal n) (codes " ") (name_of s) (before_in_line n) (decimal_in_line n) refl (state_named version s p.0) in
      both_in_line (child_text n (name_of s)) (children_text (n + 1) rest) child (children_in_line (n + 1) rest p.1)

  group_are : (seat : List ℕ) (states : StateList) → InLine seat → are_states version states ≡ true → AreCommentLines (group_text seat states)
  group_are seat no_state h k = no_line
  group_are seat (and_state s rest) h k =
      let text = codes " " ++ seat ++ codes ":" ++ children_text 0 (and_state s rest) in
      let inside : InLine text = four_in_line (codes " ") seat (codes ":") (children_text 0 (and_state s rest)) refl h refl (children_in_line 0 (and_state s rest) k) in
      one_line ((47 ∷ 47 ∷ text) ++ line_end) (one_comment text inside)

  below_one : (place : _) (name : _) (k : _) (body : _) (children : StateList)
      → groups_below part (state_node place name k body children) ≡ group_text (name_in part (seat_name name.name)) children ++ groups_below_all part children
  unfolding groups_below
  below_one place name k body children = refl

  below_none : groups_below_all part no_state ≡ []
  unfolding groups_below
  below_none = refl

  below_more : (s : StateTree) (rest : StateList) → groups_below_all part (and_state s rest) ≡ groups_below part s ++ groups_below_all part rest
  unfolding groups_below
  below_more s rest = refl

  mutual
    below_are : (s : StateTree) → is_state version s ≡ true → AreCommentLines (groups_below part s)
    below_are (state_node place name k body children) h =
        let c = state_children version place name k body children h in
        let n = name_in-in_line 115 95 name.name refl refl (state_named version (state_node place name k body children) h) in
        subst AreCommentLines (sym (below_one place name k body children))
        (both_lines (group_are (name_in part (seat_name name.name)) children n c) (all_below_are children c))

    all_below_are : (states : StateList) → are_states version states ≡ true → AreCommentLines (groups_below_all part states)
    all_below_are no_state h = subst AreCommentLines (sym below_none) no_line
    all_below_are (and_state s rest) h =
        let p = states_parts version s rest h in
        subst AreCommentLines (sym (below_more s rest)) (both_lines (below_are s p.0) (all_below_are rest p.1))

-- check sites

abbrev HaveNames : List Entity → Type 0
HaveNames es = AllByRecursion (λ (e : Entity). InLine e.name.name) es

declaration_named : (version : Version) (d : Decl) → is_declaration version d ≡ true → InLine (entity_of d).name.name
declaration_named version (decl.Input place name width) h = name_in_line version name.name (and_left _ _ h)
declaration_named version (decl.Register place name width k start) h = name_in_line version name.name (and_left _ _ (and_left _ _ (and_left _ _ h)))
declaration_named version (decl.Memory place name width depth k) h = name_in_line version name.name (and_left _ _ (and_left _ _ (and_left _ _ h)))

declared_named : (version : Version) (ds : List Decl) → list_all (is_declaration version) ds ≡ true → HaveNames (declared_in ds)
declared_named version [] h = tt
declared_named version (d ∷ ds) h =
    let p = and_parts (is_declaration version d) (list_all (is_declaration version) ds) h in (declaration_named version d p.0, declared_named version ds p.1)

mutual
  entities_named : (version : Version) (s : StateTree) → is_state version s ≡ true → HaveNames (state_entities s)
  entities_named version (state_node place name k body children) h =
      (state_named version (state_node place name k body children) h, group_named version children (state_children version place name k body children h))

  group_named : (version : Version) (states : StateList) → are_states version states ≡ true → HaveNames (group_entities states)
  group_named version no_state h = tt
  group_named version (and_state s rest) h =
      let p = states_parts version s rest h in
      all_append (λ (e : Entity). InLine e.name.name) (state_entities s) (group_entities rest) (entities_named version s p.0) (group_named version rest p.1)

entity_in_line : (es : List Entity) → HaveNames es → (n : ℕ) → InLine (entity_name es n)
entity_in_line [] h n = refl
entity_in_line (e ∷ es) h zero = h.0
entity_in_line (e ∷ es) h (suc n) = entity_in_line es h.1 n

word_of_site : (k : SiteKind) → InLine (site_word k)
word_of_site kind.Write = refl
word_of_site kind.SetTag = refl
word_of_site kind.Goto = refl
word_of_site kind.Fall = refl

target_in_line : (es : List Entity) → HaveNames es → (s : Site) → InLine (site_target es s)
unfolding site_target
target_in_line es h s = three_in_line (site_word s.kind) (codes " ") (entity_name es s.entity) (word_of_site s.kind) refl (entity_in_line es h s.entity)

place_in_line : (p : Place) → InLine (place_text p)
place_in_line p = three_in_line (decimal p.line) (codes ":") (decimal p.column) (decimal_in_line p.line) refl (decimal_in_line p.column)

sites_are : (part : List ℕ) → InLine part → Version → (es : List Entity) → HaveNames es → (k : ℕ) (ss : List Site) → AreCommentLines (site_comments part es k ss)
sites_are part named version es h k [] = no_line
sites_are part named version es h k (s ∷ ss) =
    let wire = name_in part (refused_name k) in
    let called : InLine wire = name_in-in_line part named version 99 95 (decimal k) refl refl (decimal_in_line k) in
    let text = codes " " ++ wire ++ codes ": " ++ place_text s.place ++ codes " " ++ site_target es s in
    let inside : InLine text =
    three_in_line (codes " " ++ wire ++ codes ": " ++ place_text s.place) (codes " ") (site_target es s)
    (four_in_line (codes " ") wire (codes ": ") (place_text s.place) refl called refl (place_in_line s.place)) refl (target_in_line es h s) in
    both_lines (one_line ((47 ∷ 47 ∷ text) ++ line_end) (one_comment text inside)) (sites_are part named version es h (k + 1) ss)

-- a design

pub design_are : (part : List ℕ) → InLine part → (d : DesignTree) → is_whole d ≡ true → AreCommentLines (design_comments part d)
unfolding is_whole
design_are part named d h =
    let t = and_left (is_tree d) _ h in
    let p = and_parts (list_all (is_declaration d.version) d.declarations && has_state d.states) (are_states d.version d.states) t in
    let ds = and_left (list_all (is_declaration d.version) d.declarations) _ p.0 in
    let es = all_append (λ (e : Entity). InLine e.name.name) (declared_in d.declarations) (group_entities d.states) (declared_named d.version d.declarations ds)
    (group_named d.version d.states p.1) in
    both_lines
    (both_lines (group_are part named d.version (name_in part root_seat) d.states (name_in-in_line part named d.version 115 95 (codes "0") refl refl refl) p.1)
    (all_below_are part named d.version d.states p.1))
    (sites_are part named d.version (entities_of d) es 1 (sites_of d))
