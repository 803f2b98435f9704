-- What was walked of states, the last of the text first.
use Rattle.sap_lemmas.proofs.Common.{◌≡◌, ◌∙◌, ℕ, ◌+◌, ◌<◌, ◌≤◌, ◌||◌, ◌&&◌, Bool, false, List, ◌∷◌, ◌++◌, map, length, get_or, drop, refl, sym, ap, subst, append_assoc, bytes_eq, drop_of_length-le, map-append, drop_more, map-map, and_false}
use Rattle.std.proofs.Math.Bool.{and-or_distrib_left, or_comm}
use Rattle.sap_tree.specs.Prelude.{Point, point, list_points, state_points, states_points, StateTree, and_state, no_state, Home, touches, is_dynamic_kind, is_dynamic_child, is_dynamic_store, fall_touches, block_assigns, list_assigns, commands_of, state_of, states_of}
use Rattle.sap_tree.specs.declared.syntax.Cmd.{Cmd}
use Rattle.sap_tree.specs.declared.syntax.Decl.{Decl}
use Rattle.sap_tree.specs.declared.syntax.State.{State, out-State}
use Rattle.sap_tree.specs.Touches.{state_assigns, states_assign}
use Rattle.sap_tree.proofs.Views.{state_of-out}
use Rattle.sap_names.specs.declared.entity.Entity.{Entity}
use Rattle.sap_hang.specs.Hang.{Rows}
use Rattle.sap_hang.specs.Sets.{has}
use Rattle.sap_hang.specs.Walks.{Adds, Stands, Passed, stored, passing, table_of, touched_at, touched_on}
use Rattle.sap_hang.specs.declared.set.Set.{Set}
use Rattle.sap_hang.proofs.Adds.{adds_same, adds_both, adds_union, stands_same, stands_more, starts}

-- the state in whose body commands stand
abbrev pub home_in : State → Home
home_in s = record { name = (out-State s).name.name; kind = (out-State s).kind; children = states_of (out-State s).children.items }

state_assigns-is : (s : State) (x : List ℕ)
    → state_assigns (state_of s) x ≡ (list_assigns (commands_of (out-State s).body.commands.items) x || states_assign (states_of (out-State s).children.items) x)
unfolding state_assigns states_assign block_assigns list_assigns
state_assigns-is s x = ap (λ (t : StateTree). state_assigns t x) (state_of-out s)

module _ (es : List Entity) (ds : List Decl) where
  abbrev row : Point → List Bool
  row p = passing es (λ x. touches ds p.home p.command x)

  on-both : (a b : List Point) (rows : Rows) → touched_on es ds a ++ (touched_on es ds b ++ rows) ≡ touched_on es ds (a ++ b) ++ rows
  on-both a b rows =
      sym (append_assoc (touched_on es ds a) (touched_on es ds b) rows) ∙ ap (λ (l : Rows). l ++ rows) (sym (map-append (λ (p : Point). row p) a b))

  state_rows : (s : State) → touched_on es ds (state_points (state_of s))
      ≡ touched_at es ds (home_in s) (list_points (commands_of (out-State s).body.commands.items)) ++ touched_on es ds (states_points (states_of (out-State s).children.items))
  state_rows s =
      let h = home_in s in
      let cs = list_points (commands_of (out-State s).body.commands.items) in
      let below = states_points (states_of (out-State s).children.items) in
      ap (λ (t : StateTree). touched_on es ds (state_points t)) (state_of-out s)
      ∙ map-append (λ (p : Point). row p) (map (point h) cs) below
      ∙ ap (λ (l : Rows). l ++ touched_on es ds below) (map-map (λ (p : Point). row p) (point h) cs)

  -- a state: its body in front of what lies below
  pub state_walked : (s : State) (cs : List Cmd) (ss : List State) (h : Home) (r0 r1 r2 : List Set) → cs ≡ (out-State s).body.commands.items
      → ss ≡ (out-State s).children.items → h ≡ home_in s
      → table_of es r1 ≡ touched_on es ds (states_points (states_of ss)) ++ table_of es r0
      → table_of es r2 ≡ touched_at es ds h (list_points (commands_of cs)) ++ table_of es r1
      → table_of es r2 ≡ touched_on es ds (state_points (state_of s)) ++ table_of es r0
  state_walked s cs ss h r0 r1 r2 ec es' eh below body =
      body ∙ ap (λ (k : Home). touched_at es ds k (list_points (commands_of cs)) ++ table_of es r1) eh
      ∙ ap (λ (l : List Cmd). touched_at es ds (home_in s) (list_points (commands_of l)) ++ table_of es r1) ec
      ∙ ap (λ (l : Rows). here ++ l) (below ∙ ap (λ (l : List State). touched_on es ds (states_points (states_of l)) ++ table_of es r0) es')
      ∙ sym (append_assoc here (touched_on es ds (states_points (states_of (out-State s).children.items))) (table_of es r0))
      ∙ ap (λ (l : Rows). l ++ table_of es r0) (sym (state_rows s))
    where
      here : Rows
      here = touched_at es ds (home_in s) (list_points (commands_of (out-State s).body.commands.items))

  pub state_adds : (s : State) (cs : List Cmd) (ss : List State) (below a0 a1 a2 : Set) → cs ≡ (out-State s).body.commands.items → ss ≡ (out-State s).children.items
      → Stands es (stored ds (λ x. states_assign (states_of ss) x)) below → ((x : ℕ) → has a1 x ≡ (has below x || has a0 x))
      → Adds es (stored ds (λ x. list_assigns (commands_of cs) x)) a1 a2 → Adds es (stored ds (λ x. state_assigns (state_of s) x)) a0 a2
  state_adds s cs ss below a0 a1 a2 ec es' h u a =
      adds_same es (λ x. stored ds (λ y. list_assigns (commands_of cs) y) x || stored ds (λ y. states_assign (states_of ss) y) x)
      (stored ds (λ x. state_assigns (state_of s) x)) a0 a2
      (λ x. sym (and-or_distrib_left (is_dynamic_store ds x) (list_assigns (commands_of cs) x) (states_assign (states_of ss) x))
      ∙ ap (λ (l : List Cmd). is_dynamic_store ds x && (list_assigns (commands_of l) x || states_assign (states_of ss) x)) ec
      ∙ ap (λ (l : List State). is_dynamic_store ds x && (list_assigns (commands_of (out-State s).body.commands.items) x || states_assign (states_of l) x)) es'
      ∙ ap (λ (b : Bool). is_dynamic_store ds x && b) (sym (state_assigns-is s x)))
      (adds_both es (stored ds (λ y. states_assign (states_of ss) y)) (stored ds (λ y. list_assigns (commands_of cs) y)) a0 a1 a2
      (adds_union es (stored ds (λ y. states_assign (states_of ss) y)) below a0 a1 h u) a)

  -- states from a place on

  pub states_start : (ss : List State) (n : ℕ) (r : List Set) (a f : Set) → length ss ≤ n → ((x : ℕ) → has a x ≡ false)
      → ((x : ℕ) → has f x ≡ false) → Passed es ds (drop n ss) r r a f
  unfolding state_assigns states_assign is_dynamic_child
  states_start ss n r a f l ea ef =
      subst (λ (z : List State). Passed es ds z r r a f) (sym (drop_of_length-le ss l)) (record {
        rows = refl;
        assigned = starts es (stored ds (λ x. states_assign no_state x)) a ea (λ x. and_false (is_dynamic_store ds x));
        children = starts es (λ x. is_dynamic_child no_state x) f ef (λ x. refl);
      })

  child_more : (s : State) (ss : List State) (x : List ℕ)
      → ((bytes_eq (out-State s).name.name x && is_dynamic_kind (out-State s).kind) || is_dynamic_child (states_of ss) x) ≡ is_dynamic_child (states_of (s ∷ ss)) x
  unfolding is_dynamic_child
  child_more s ss x = ap (λ (t : StateTree). is_dynamic_child (and_state t (states_of ss)) x) (sym (state_of-out s))

  pub states_step : (ss : List State) (n m : ℕ) (d : State) (r0 r1 r2 : List Set) (a1 f1 a2 f2 : Set) → n < length ss → m ≡ n + 1
      → d ≡ get_or ss n d → Passed es ds (drop m ss) r0 r1 a1 f1
      → Adds es (λ x. bytes_eq (out-State d).name.name x && is_dynamic_kind (out-State d).kind) f1 f2
      → table_of es r2 ≡ touched_on es ds (state_points (state_of d)) ++ table_of es r1 → Adds es (stored ds (λ x. state_assigns (state_of d) x)) a1 a2
      → Passed es ds (drop n ss) r0 r2 a2 f2
  unfolding state_assigns states_assign
  states_step ss n m d r0 r1 r2 a1 f1 a2 f2 l next e p c r a =
      let rest = drop m ss in
      let parts : drop n ss ≡ d ∷ rest = drop_more ss n d l ∙ ap (λ (k : ℕ). get_or ss n d ∷ drop k ss) (sym next) ∙ ap (λ (z : State). z ∷ rest) (sym e) in
      subst (λ (z : List State). Passed es ds z r0 r2 a2 f2) (sym parts) (record {
        rows = r ∙ ap (λ (l : Rows). touched_on es ds (state_points (state_of d)) ++ l) p.rows
            ∙ on-both (state_points (state_of d)) (states_points (states_of rest)) (table_of es r0);
        assigned = stands_same es (λ x. stored ds (λ y. state_assigns (state_of d) y) x
            || stored ds (λ y. states_assign (states_of rest) y) x) (stored ds (λ x. states_assign (states_of (d ∷ rest)) x)) a2
            (λ x. sym (and-or_distrib_left (is_dynamic_store ds x) (state_assigns (state_of d) x) (states_assign (states_of rest) x)))
            (stands_more es (stored ds (λ y. states_assign (states_of rest) y)) (stored ds (λ y. state_assigns (state_of d) y)) a1 a2 p.assigned a);
        children = stands_same es (λ x. (bytes_eq (out-State d).name.name x && is_dynamic_kind (out-State d).kind)
            || is_dynamic_child (states_of rest) x) (λ x. is_dynamic_child (states_of (d ∷ rest)) x) f2
            (λ x. child_more d rest x)
            (stands_more es (λ x. is_dynamic_child (states_of rest) x) (λ x. bytes_eq (out-State d).name.name x && is_dynamic_kind (out-State d).kind) f1 f2 p.children c);
      })

  pub passed_all : (ss : List State) (n : ℕ) (r0 r1 : List Set) (a f : Set) → n ≡ 0 → Passed es ds (drop n ss) r0 r1 a f → Passed es ds ss r0 r1 a f
  passed_all ss n r0 r1 a f e p = subst (λ (k : ℕ). Passed es ds (drop k ss) r0 r1 a f) e p

  -- what a `fall` into states touches
  pub falls_stand : (ss : List State) (r0 r1 : List Set) (a f g : Set) → Passed es ds ss r0 r1 a f
      → ((x : ℕ) → has g x ≡ (has a x || has f x)) → Stands es (λ x. fall_touches ds (states_of ss) x) g
  unfolding fall_touches
  falls_stand ss r0 r1 a f g p u =
      record {
        stands = λ name x i. u x ∙ or_comm (has a x) (has f x) ∙ ap (λ (b : Bool). b || has a x) (p.children.stands name x i)
            ∙ ap (λ (b : Bool). is_dynamic_child (states_of ss) name || b) (p.assigned.stands name x i);
      }
