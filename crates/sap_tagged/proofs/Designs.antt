-- The program of a well-formed design has all that the law asks for.
use Rattle.sap_lemmas.proofs.Common.{◌≡◌, ℕ, zero, suc, ◌+◌, ◌^◌, ◌<◌, ◌≤◌, List, [], ◌∷◌, ◌++◌, map, length, length-append, Bool, true, false, not, ◌&&◌, ◌||◌, refl, sym, ap, ◌∙◌, subst, arith, bytes_eq, nat_eq, nat_lt, nat_le, get_or, list_all, list_any, eqb-true, eq-eqb, and_parts, leb-true, ltb-true, not-true, common_steps, and_left, and_right, iff_same, bytes_eq_same, equal_of_bytes_eq}
use Rattle.sap_resolved.proofs.WorldsLemmas.{children_length, declared_length}
use Rattle.sap_names.proofs.FaultLemmas.{nil_left, nil_right}
use Rattle.sap_tree.specs.Prelude.{StateTree, state_node, StateList, no_state, and_state, DesignTree, is_declaration, has_state, are_states, is_state, is_tree, is_within_limits, is_whole, state_count, states_count, states_commands, most_name_bytes, most_states, most_commands}
use Rattle.sap_tree.specs.declared.syntax.Decl.{Decl}
use Rattle.sap_tree.specs.declared.version.Version.{Version}
use Rattle.sap_tree.specs.declared.version.Version.TheVariants.{One, Two}
use Rattle.sap_tree.specs.declared.syntax.Decl.TheVariants as decl
use Rattle.sap_tree.specs.Words as words
use Rattle.sap_lattice.specs.Prelude.{Levels, order_of, width_of}
use Rattle.sap_names.specs.Prelude.{entity_of, declared_in, state_entities, group_entities, entities_of, what_is, twice, declarations_faults, states_faults}
use Rattle.sap_names.specs.declared.entity.Entity.{Entity}
use Rattle.sap_meaning.specs.Prelude.{World, root, children, ListsServe, SitesInOrder}
use Rattle.sap_resolved.specs.Terms.{entity_number}
use Rattle.sap_resolved.specs.Worlds.{states_in, states_below, all_declared, no_children, group_length, state_children, group_children, world_of}
use Rattle.sap_resolved.specs.Worlds as worlds
use Rattle.sap_resolved.specs.Resolve.{states_of}
use Rattle.sap_resolved.proofs.Lookup.{entities_length}
use Rattle.sap_resolved.proofs.sized.Programs.{names_fit_law}
use Rattle.sap_resolved.proofs.premises.Lookups.{unique}
use Rattle.sap_resolved.proofs.premises.Places.{name_at, group_count, group_kids}
use Rattle.sap_resolved.proofs.premises.Programs.{fine_law, sites_numbered}
use Rattle.sap_resolved.proofs.premises.Lists.{exact}
use Rattle.sap_resolved.proofs.premises.Worlds.{root_children}
use Rattle.sap_interface.specs.Prelude.{Named, name, named_of, site_count_of}
use Rattle.sap_tagged.specs.Law.{IsSound, PlainStands}
use Rattle.sap_tagged.proofs.KeyNames.{NamesApart}
use Rattle.sap_tagged.proofs.Distinct.{distinct}
use Rattle.sap_tagged.proofs.FewArms.{group_few, filled_group_few}
use Rattle.sap_tagged.proofs.Premises.{Design}
use Rattle.sap_tagged.proofs.Cycle.{run_stands}
use Rattle.sap_tagged.proofs.Shown.{interface}
use Rattle.sap_shape.proofs.SiteCounts.{states_few}

-- names are those of the design language, and so words

word_of : (version : Version) (n : List ℕ) → words.is_name version n ≡ true → words.is_word n ≡ true
unfolding words.is_name
word_of version n h = and_left (words.is_word n) _ (and_left _ _ h)

-- a name of any version is one of the first

any_front : (f : List ℕ → Bool) (xs ys : List (List ℕ)) → list_any f (xs ++ ys) ≡ false → list_any f xs ≡ false
any_front f [] ys h = refl
any_front f (x ∷ xs) ys h = by (f x) h (λ e. any_front f xs ys e)
  where
    by : (b : Bool) → (b || list_any f (xs ++ ys)) ≡ false → (list_any f (xs ++ ys) ≡ false → list_any f xs ≡ false) → (b || list_any f xs) ≡ false
    by true e g = e
    by false e g = g e

first_name : (version : Version) (n : List ℕ) → words.is_name version n ≡ true → words.is_name One n ≡ true
unfolding words.is_name
first_name One n h = h
first_name Two n h =
    let a = and_parts (words.is_word n && not (words.is_keyword Two n)) (nat_le (length n) most_name_bytes) h in
    let b = and_parts (words.is_word n) (not (words.is_keyword Two n)) a.0 in
    let f : words.is_keyword One n ≡ false = any_front (bytes_eq n) (words.keywords One) (map words.word_text words.later_words) (not-true (words.is_keyword Two n) b.1) in
    rw (b.0, f, a.1) refl

abbrev AllNamed : Version → List Entity → Type 0
AllNamed version [] = Unit {0}
AllNamed version (e ∷ es) = (words.is_name version e.name.name ≡ true) × AllNamed version es

named_join : (version : Version) (es fs : List Entity) → AllNamed version es → AllNamed version fs → AllNamed version (es ++ fs)
named_join version [] fs a b = b
named_join version (e ∷ es) fs a b = (a.0, named_join version es fs a.1 b)

declaration_named : (version : Version) (d : Decl) → is_declaration version d ≡ true → words.is_name version (entity_of d).name.name ≡ true
declaration_named version (decl.Input place name width) h = and_left _ _ h
declaration_named version (decl.Register place name width kind start) h = and_left _ _ (and_left _ _ (and_left _ _ h))
declaration_named version (decl.Memory place name width depth kind) h = and_left _ _ (and_left _ _ (and_left _ _ h))

declared_named : (version : Version) (ds : List Decl) → list_all (is_declaration version) ds ≡ true → AllNamed version (declared_in ds)
declared_named version [] h = tt
declared_named version (d ∷ ds) h =
    let i = and_parts (is_declaration version d) (list_all (is_declaration version) ds) h in (declaration_named version d i.0, declared_named version ds i.1)

mutual
  unfolding is_state are_states

  state_named : (version : Version) (s : StateTree) → is_state version s ≡ true → AllNamed version (state_entities s)
  state_named version (state_node place name kind body children) h =
      (and_left _ _ (and_left _ _ (and_left _ _ (and_left _ _ h))), states_named version children (and_right _ (are_states version children) h))

  states_named : (version : Version) (g : StateList) → are_states version g ≡ true → AllNamed version (group_entities g)
  states_named version no_state h = tt
  states_named version (and_state s rest) h =
      let i = and_parts (is_state version s) (are_states version rest) h in
      named_join version (state_entities s) (group_entities rest) (state_named version s i.0) (states_named version rest i.1)

named_at : (version : Version) (es : List Entity) → AllNamed version es → (x : ℕ) → x < length es → words.is_name version (name_at es x) ≡ true
named_at version [] a x l = absurd (omega arith)
named_at version (e ∷ es) a zero l = a.0
named_at version (e ∷ es) a (suc x) l = named_at version es a.1 x (omega arith)

names_at : (es : List Entity) (x : ℕ) → get_or (map (λ (e : Entity). e.name.name) es) x [] ≡ name_at es x
names_at (e ∷ es) (suc x) = names_at es x
names_at _ _ = refl

-- counts

past : (xs : List ℕ) (p : ℕ) → 0 < get_or xs p 0 → p < length xs
past [] p h = absurd (omega arith)
past (x ∷ xs) zero h = omega arith
past (x ∷ xs) (suc p) h = let i = past xs p h in omega arith

le_root : (p n : ℕ) → p < suc n → nat_le p n ≡ true
le_root p n h = grind (arith, common_steps)

length_last : {A : Type 0} (xs : List A) (y : A) → length (xs ++ y ∷ []) ≡ suc (length xs)
length_last [] y = refl
length_last (x ∷ xs) y = ap (λ (n : ℕ). suc n) (length_last xs y)

-- a group is no longer than there are states

length_below : (g : StateList) → group_length g ≤ states_below g
length_below no_state = omega arith
length_below (and_state (state_node place name kind body kids) rest) = let i = length_below rest in omega arith

mutual
  unfolding state_count states_count

  counted_state : (s : StateTree) → states_in s ≡ state_count s
  counted_state (state_node place name kind body kids) = ap (λ (n : ℕ). 1 + n) (counted_states kids)

  counted_states : (g : StateList) → states_below g ≡ states_count g
  counted_states no_state = refl
  counted_states (and_state s rest) = let i = counted_state s in let j = counted_states rest in omega arith

abbrev AllAtMost : ℕ → List ℕ → Type 0
AllAtMost n [] = Unit {0}
AllAtMost n (x ∷ xs) = (x ≤ n) × AllAtMost n xs

most_more : (m n : ℕ) (xs : List ℕ) → m ≤ n → AllAtMost m xs → AllAtMost n xs
most_more m n [] l h = tt
most_more m n (x ∷ xs) l h = (let i = h.0 in omega arith, most_more m n xs l h.1)

most_join : (n : ℕ) (xs ys : List ℕ) → AllAtMost n xs → AllAtMost n ys → AllAtMost n (xs ++ ys)
most_join n [] ys h k = k
most_join n (x ∷ xs) ys h k = (h.0, most_join n xs ys h.1 k)

mutual
  kids_state : (s : StateTree) → AllAtMost (states_in s) (state_children s)
  kids_state (state_node place name kind body kids) =
      (let i = length_below kids in omega arith, most_more (states_below kids) (1 + states_below kids) (group_children kids) (omega arith) (kids_group kids))

  kids_group : (g : StateList) → AllAtMost (states_below g) (group_children g)
  kids_group no_state = tt
  kids_group (and_state s rest) =
      most_join (states_below (and_state s rest)) (state_children s) (group_children rest)
      (most_more (states_in s) (states_below (and_state s rest)) (state_children s) (omega arith) (kids_state s))
      (most_more (states_below rest) (states_below (and_state s rest)) (group_children rest) (omega arith) (kids_group rest))

no_kids : (n : ℕ) (ds : List Decl) → AllAtMost n (no_children ds)
no_kids n [] = tt
no_kids n (d ∷ ds) = (omega arith, no_kids n ds)

most_at : (n : ℕ) (xs : List ℕ) → AllAtMost n xs → (p : ℕ) → get_or xs p 0 ≤ n
most_at n [] h p = omega arith
most_at n (x ∷ xs) h zero = h.0
most_at n (x ∷ xs) h (suc p) = most_at n xs h.1 p

state_limit : (m n k : ℕ) → m ≤ n → n ≡ k → k ≤ 256 → m ≤ 2 ^ 64
state_limit m n k h e l = omega arith

site_limit : (m : ℕ) → m ≤ 4096 → 1 + m ≤ 2 ^ 64
site_limit m h = omega arith

some_states : (g : StateList) → has_state g ≡ true → 0 < group_length g
some_states no_state h = absurd (impossible h)
  where
    impossible : false ≡ true → ⊥
    impossible e = cc
some_states (and_state s rest) h = omega arith

module _ (ls : Levels) (D : DesignTree) (sg : IsSound ls D) where
  abbrev es : List Entity
  es = entities_of D

  abbrev w : World
  w = world_of ls D

  abbrev d : Named
  d = named_of ls D

  split : (is_tree D ≡ true) × (is_within_limits D ≡ true)
  unfolding is_whole
  split = (and_left (is_tree D) (is_within_limits D) sg.whole, and_right (is_tree D) (is_within_limits D) sg.whole)

  no_name_twice : twice [] es ≡ []
  no_name_twice =
      nil_left (twice [] es) (declarations_faults ls.names (order_of ls).le D.declarations)
      (nil_left (twice [] es ++ declarations_faults ls.names (order_of ls).le D.declarations) (states_faults ls.names (order_of ls).le (what_is es) D.states) sg.formed.names)

  states_fit : states_faults ls.names (order_of ls).le (what_is es) D.states ≡ []
  states_fit = nil_right _ _ sg.formed.names

  in_length : (x : ℕ) → nat_lt x (root w) ≡ true → x < length es
  in_length x h = subst (λ (n : ℕ). x < n) (entities_length ls D) (ltb-true x (root w) h)

  number_at : (x : ℕ) → nat_lt x (root w) ≡ true → entity_number es (name d x) ≡ x
  number_at x l = ap (λ (a : List ℕ). entity_number es a) (names_at es x) ∙ unique es no_name_twice x (in_length x l)

  declared : list_all (is_declaration D.version) D.declarations ≡ true
  declared = and_left _ (has_state D.states) (and_left _ (are_states D.version D.states) split.0)

  all_states : are_states D.version D.states ≡ true
  all_states = and_right (list_all (is_declaration D.version) D.declarations && has_state D.states) (are_states D.version D.states) split.0

  all_named : AllNamed D.version es
  all_named =
      named_join D.version (declared_in D.declarations) (group_entities D.states) (declared_named D.version D.declarations declared)
      (states_named D.version D.states all_states)

  is_named : (x : ℕ) → nat_lt x (root w) ≡ true → words.is_name One (name d x) ≡ true
  is_named x l = first_name D.version (name d x) (ap (words.is_name D.version) (names_at es x) ∙ named_at D.version es all_named x (in_length x l))

  pub names : NamesApart d
  names = record {
    apart = λ x y l m.
        iff_same (bytes_eq (name d x) (name d y)) (nat_eq x y)
        (λ i. eq-eqb x y (sym (number_at x l) ∙ ap (λ (a : List ℕ). entity_number es a) (equal_of_bytes_eq (name d x) (name d y) i) ∙ number_at y m))
        (λ i. subst (λ (z : ℕ). bytes_eq (name d x) (name d z) ≡ true) (eqb-true x y i) (bytes_eq_same (name d x)));
    words = λ x l. word_of One (name d x) (is_named x l);
    named = is_named;
  }

  few_sites : 1 + site_count_of D ≤ 2 ^ 64
  few_sites =
      site_limit (site_count_of D) (within (site_count_of D) (states_commands D.states) (states_few es D.states)
      (leb-true (states_commands D.states) most_commands (and_right _ (nat_le (states_commands D.states) most_commands) split.1)))
    where
      within : (m n : ℕ) → m ≤ n → n ≤ 4096 → m ≤ 4096
      within m n h k = omega (arith, h, k)

  child_count : length w.children ≡ suc (root w)
  child_count =
      let kids = group_children D.states in
      let n : root w ≡ length (no_children D.declarations ++ kids) =
      length-append (all_declared ls D.declarations) (worlds.group_entities ls 0 (length D.declarations) D.states)
      ∙ ap (λ m. m + length (worlds.group_entities ls 0 (length D.declarations) D.states)) (declared_length ls D.declarations)
      ∙ ap (λ m. length D.declarations + m) (group_count ls 0 (length D.declarations) D.states)
      ∙ ap (λ m. length D.declarations + m) (sym (group_kids D.states))
      ∙ ap (λ m. m + length kids) (sym (children_length D.declarations))
      ∙ sym (length-append (no_children D.declarations) kids) in
      length_last (no_children D.declarations ++ kids) (group_length D.states) ∙ ap (λ (m : ℕ). suc m) (sym n)

  few_kids : (p : ℕ) → children w p ≤ 2 ^ 64
  few_kids p =
      let all = states_below D.states in
      state_limit (children w p) all (states_count D.states)
      (most_at all w.children
      (most_join all (no_children D.declarations ++ group_children D.states) (group_length D.states ∷ [])
      (most_join all (no_children D.declarations) (group_children D.states) (no_kids all D.declarations) (kids_group D.states)) (length_below D.states, tt)) p)
      (counted_states D.states)
      (leb-true (states_count D.states) most_states (and_right _ (nat_le (states_count D.states) most_states) (and_left _ _ (and_left _ _ split.1))))

  pub design : Design d (width_of (order_of ls)) (site_count_of D)
  design = record {
    fine = fine_law names_fit_law ls D sg.lattice.laws sg.formed;
    exact = exact ls D;
    few_arms = filled_group_few w (root w) (states_of ls D) (group_few D.version ls es 1 (length D.declarations) D.states all_states);
    numbered = sites_numbered ls D sg.formed;
    few = few_sites;
    few_children = few_kids;
    names = names;
    parents = λ p h. le_root p (root w) (subst (λ (n : ℕ). p < n) child_count (past w.children p h));
    joined = sg.lattice.codes.joined;
    within = sg.lattice.codes.within;
    small = sg.lattice.codes.small;
    distinct = distinct d (width_of (order_of ls)) (site_count_of D) names;
  }

  pub some_child : 0 < children w (root w)
  some_child =
      subst (λ (n : ℕ). 0 < n) (sym (root_children ls D))
      (some_states D.states (and_right (list_all (is_declaration D.version) D.declarations) (has_state D.states) (and_left _ (are_states D.version D.states) split.0)))

pub plain_stands : ListsServe → SitesInOrder → PlainStands
plain_stands serve ordered ls D sg =
    let d = named_of ls D in
    let u = width_of (order_of ls) in
    record {
      interface = interface d u (site_count_of D) (design ls D sg) (some_child ls D sg);
      run = run_stands d u (site_count_of D) (design ls D sg) serve ordered (some_child ls D sg);
    }
