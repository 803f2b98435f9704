-- What was walked of a body, one part after another, the last of the text first.
use Rattle.sap_lemmas.proofs.Common.{◌≡◌, ◌∙◌, ℕ, ◌+◌, ◌<◌, ◌≤◌, ◌||◌, ◌&&◌, Bool, false, List, [], ◌∷◌, ◌++◌, length, get_or, drop, refl, sym, ap, subst, append_assoc, Some, None, Result, Ok, Err, OnOk, drop_of_length-le, map-append, append-nil, drop_more, and_false}
use Rattle.std.proofs.Math.Bool.{and-or_distrib_left}
use Rattle.sap_text.specs.declared.place.Place.{Place}
use Rattle.sap_tree.specs.Prelude.{simple_points, Expression, SimpleCommand, Command, lone, try, if_else, try_then, case_of, last_arm, ElseBlock, no_command, Home, is_dynamic_store, simple_assigns, simple_touches, touches, block_touches, block_assigns, else_touches, list_touches, list_assigns, command_of, commands_of, block_of, arms_of, else_of}
use Rattle.sap_tree.specs.declared.syntax.Block.{Block}
use Rattle.sap_tree.specs.declared.syntax.Arm.{Arm}
use Rattle.sap_tree.specs.declared.syntax.Cmd.{Cmd}
use Rattle.sap_tree.specs.declared.syntax.Decl.{Decl}
use Rattle.sap_tree.specs.Touches.{assigns, else_assigns, arms_touch, arms_assign}
use Rattle.sap_names.specs.declared.entity.Entity.{Entity}
use Rattle.sap_hang.specs.Hang.{Rows}
use Rattle.sap_hang.specs.Sets.{has}
use Rattle.sap_hang.specs.Walks.{Adds, Stands, Part, Walked, command_part, else_part, arms_part, list_part, stored, passing, touched_at, table_of, entities_in, declared_in, home_of}
use Rattle.sap_hang.specs.declared.set.Set.{Set}
use Rattle.sap_hang.specs.declared.standing.Standing.{Standing}
use Rattle.sap_hang.proofs.Adds.{adds_none, adds_same, adds_both, adds_union, stands_alone, stands_same, row_more}

-- what follows from two clauses of a call
pub on_ok_both : {T E P Q R : Type 0} (r : Result T E) → (P → Q → R) → OnOk r P → OnOk r Q → OnOk r R
on_ok_both (Ok x) f p q = f p q
on_ok_both (Err e) f p q = tt

abbrev joined : Part → Part → Part
joined q p = record { points = q.points ++ p.points; touches = λ x. q.touches x || p.touches x; assigns = λ x. q.assigns x || p.assigns x }

module _ (s : Standing) where
  abbrev es : List Entity
  es = entities_in s

  abbrev ds : List Decl
  ds = declared_in s

  abbrev h : Home
  h = home_of s

  at-both : (a b : List Command) (rows : Rows) → touched_at es ds h a ++ (touched_at es ds h b ++ rows) ≡ touched_at es ds h (a ++ b) ++ rows
  at-both a b rows =
      sym (append_assoc (touched_at es ds h a) (touched_at es ds h b) rows)
      ∙ ap (λ (l : Rows). l ++ rows) (sym (map-append (λ (c : Command). passing es (λ x. touches ds h c x)) a b))

  walked_none : (p : Part) (r : List Set) (a t : Set) → p.points ≡ [] → ((x : List ℕ) → p.touches x ≡ false) → ((x : List ℕ) → p.assigns x ≡ false) → Walked s p r a t r a t
  walked_none p r a t e f g = record {
    rows = ap (λ (l : List Command). touched_at es ds h l ++ table_of es r) (sym e);
    assigned = adds_none es (stored ds p.assigns) a (λ x. ap (λ (b : Bool). is_dynamic_store ds x && b) (g x) ∙ and_false (is_dynamic_store ds x));
    touched = adds_none es p.touches t f;
  }

  walked_as : (p q : Part) (r r' : List Set) (a t a' t' : Set) → p.points ≡ q.points → ((x : List ℕ) → p.touches x ≡ q.touches x) → ((x : List ℕ) → p.assigns x ≡ q.assigns x)
      → Walked s p r a t r' a' t' → Walked s q r a t r' a' t'
  walked_as p q r r' a t a' t' e f g w = record {
    rows = w.rows ∙ ap (λ (l : List Command). touched_at es ds h l ++ table_of es r) e;
    assigned = adds_same es (stored ds p.assigns) (stored ds q.assigns) a a' (λ x. ap (λ (b : Bool). is_dynamic_store ds x && b) (g x)) w.assigned;
    touched = adds_same es p.touches q.touches t t' f w.touched;
  }

  walked_both : (p q : Part) (r0 r1 r2 : List Set) (a0 t0 a1 t1 a2 t2 : Set) → Walked s p r0 a0 t0 r1 a1 t1 → Walked s q r1 a1 t1 r2 a2 t2
      → Walked s (joined q p) r0 a0 t0 r2 a2 t2
  walked_both p q r0 r1 r2 a0 t0 a1 t1 a2 t2 v w = record {
    rows = w.rows ∙ ap (λ (l : Rows). touched_at es ds h q.points ++ l) v.rows ∙ at-both q.points p.points (table_of es r0);
    assigned = adds_same es (λ x. stored ds q.assigns x || stored ds p.assigns x) (stored ds (λ x. q.assigns x || p.assigns x)) a0 a2
        (λ x. sym (and-or_distrib_left (is_dynamic_store ds x) (q.assigns x) (p.assigns x)))
        (adds_both es (stored ds p.assigns) (stored ds q.assigns) a0 a1 a2 v.assigned w.assigned);
    touched = adds_both es p.touches q.touches t0 t1 t2 v.touched w.touched;
  }

  -- a command that can have a handler, its point aside
  abbrev bare : SimpleCommand → Part
  bare k = record { points = []; touches = λ x. simple_touches ds h k x; assigns = λ x. simple_assigns k x }

  walked_simple : (k : SimpleCommand) (r : List Set) (a0 t0 a1 t1 : Set) → Adds es (stored ds (λ x. simple_assigns k x)) a0 a1 → Adds es (λ x. simple_touches ds h k x) t0 t1
      → Walked s (bare k) r a0 t0 r a1 t1
  walked_simple k r a0 t0 a1 t1 a t = record { rows = refl; assigned = a; touched = t }

  -- the row of a command in front of those of its blocks
  walked_point : (p : Part) (c : Command) (r0 r1 r2 : List Set) (a0 a1 none here t0 t1 : Set) → ((x : ℕ) → has none x ≡ false) → ((x : List ℕ) → p.touches x ≡ touches ds h c x)
      → Walked s p r0 a0 none r1 a1 here → r2 ≡ r1 ++ here ∷ [] → ((x : ℕ) → has t1 x ≡ (has here x || has t0 x))
      → Walked s (record { points = c ∷ p.points; touches = λ x. touches ds h c x; assigns = p.assigns }) r0 a0 t0 r2 a1 t1
  walked_point p c r0 r1 r2 a0 a1 none here t0 t1 e f w push more =
      let stands : Stands es (λ x. touches ds h c x) here = stands_same es p.touches (λ x. touches ds h c x) here f (stands_alone es p.touches none here e w.touched) in
      record {
        rows = row_more es (λ x. touches ds h c x) here r1 r2 stands push ∙ ap (λ (l : Rows). passing es (λ x. touches ds h c x) ∷ l) w.rows;
        assigned = w.assigned;
        touched = adds_union es (λ x. touches ds h c x) here t0 t1 stands more;
      }

  -- the row of a `fall` in front
  walked_fall : (p : Part) (k : SimpleCommand) (r0 r1 r2 : List Set) (a0 t0 a1 t1 : Set) → Walked s p r0 a0 t0 r1 a1 t1
      → table_of es r2 ≡ touched_at es ds h (simple_points k) ++ table_of es r1
      → Walked s (record { points = simple_points k ++ p.points; touches = p.touches; assigns = p.assigns }) r0 a0 t0 r2 a1 t1
  walked_fall p k r0 r1 r2 a0 t0 a1 t1 w f = record {
    rows = f ∙ ap (λ (l : Rows). touched_at es ds h (simple_points k) ++ l) w.rows ∙ at-both (simple_points k) p.points (table_of es r0);
    assigned = w.assigned;
    touched = w.touched;
  }

  -- lists

  pub list_start : (cs : List Cmd) (n : ℕ) (r : List Set) (a t : Set) → length cs ≤ n → Walked s (list_part s (commands_of (drop n cs))) r a t r a t
  unfolding touches block_touches else_touches arms_touch list_touches assigns block_assigns else_assigns arms_assign list_assigns
  list_start cs n r a t l =
      subst (λ (z : List Cmd). Walked s (list_part s (commands_of z)) r a t r a t) (sym (drop_of_length-le cs l))
      (walked_none (list_part s no_command) r a t refl (λ x. refl) (λ x. refl))

  pub list_step : (cs : List Cmd) (n m : ℕ) (d : Cmd) (r0 r1 r2 : List Set) (a0 t0 a1 t1 a2 t2 : Set) → n < length cs → m ≡ n + 1 → d ≡ get_or cs n d
      → Walked s (list_part s (commands_of (drop m cs))) r0 a0 t0 r1 a1 t1 → Walked s (command_part s (command_of d)) r1 a1 t1 r2 a2 t2
      → Walked s (list_part s (commands_of (drop n cs))) r0 a0 t0 r2 a2 t2
  unfolding touches block_touches else_touches arms_touch list_touches assigns block_assigns else_assigns arms_assign list_assigns
  list_step cs n m d r0 r1 r2 a0 t0 a1 t1 a2 t2 l next e v w =
      let rest = drop m cs in
      let parts : drop n cs ≡ d ∷ rest = drop_more cs n d l ∙ ap (λ (k : ℕ). get_or cs n d ∷ drop k cs) (sym next) ∙ ap (λ (z : Cmd). z ∷ rest) (sym e) in
      subst (λ (z : List Cmd). Walked s (list_part s (commands_of z)) r0 a0 t0 r2 a2 t2) (sym parts)
      (walked_as (joined (command_part s (command_of d)) (list_part s (commands_of rest))) (list_part s (commands_of (d ∷ rest))) r0 r2 a0 t0 a2 t2 refl (λ x. refl) (λ x. refl)
      (walked_both (list_part s (commands_of rest)) (command_part s (command_of d)) r0 r1 r2 a0 t0 a1 t1 a2 t2 v w))

  of_list : (b : Block) (list : List Cmd) (r r' : List Set) (a t a' t' : Set) → list ≡ b.commands.items → Walked s (list_part s (commands_of list)) r a t r' a' t'
      → Walked s (list_part s (commands_of b.commands.items)) r a t r' a' t'
  of_list b list r r' a t a' t' e w = subst (λ (z : List Cmd). Walked s (list_part s (commands_of z)) r a t r' a' t') e w

  -- arms

  pub arms_start : (arms : List Arm) (last : Block) (list : List Cmd) (n : ℕ) (r r' : List Set) (a t a' t' : Set) → length arms ≤ n → list ≡ last.commands.items
      → Walked s (list_part s (commands_of list)) r a t r' a' t' → Walked s (arms_part s (arms_of (drop n arms) (block_of last))) r a t r' a' t'
  unfolding touches block_touches else_touches arms_touch list_touches assigns block_assigns else_assigns arms_assign list_assigns
  arms_start arms last list n r r' a t a' t' l e w =
      subst (λ (z : List Arm). Walked s (arms_part s (arms_of z (block_of last))) r a t r' a' t') (sym (drop_of_length-le arms l))
      (walked_as (list_part s (commands_of last.commands.items)) (arms_part s (last_arm (block_of last))) r r' a t a' t' refl (λ x. refl) (λ x. refl)
      (of_list last list r r' a t a' t' e w))

  pub arms_step : (arms : List Arm) (last : Block) (n m : ℕ) (d : Arm) (list : List Cmd) (r0 r1 r2 : List Set) (a0 t0 a1 t1 a2 t2 : Set)
      → n < length arms → m ≡ n + 1 → d ≡ get_or arms n d
      → list ≡ d.block.commands.items → Walked s (arms_part s (arms_of (drop m arms) (block_of last))) r0 a0 t0 r1 a1 t1
      → Walked s (list_part s (commands_of list)) r1 a1 t1 r2 a2 t2 → Walked s (arms_part s (arms_of (drop n arms) (block_of last))) r0 a0 t0 r2 a2 t2
  unfolding touches block_touches else_touches arms_touch list_touches assigns block_assigns else_assigns arms_assign list_assigns
  arms_step arms last n m d list r0 r1 r2 a0 t0 a1 t1 a2 t2 l next e f v w =
      let rest = drop m arms in
      let here = list_part s (commands_of d.block.commands.items) in
      let parts : drop n arms ≡ d ∷ rest = drop_more arms n d l ∙ ap (λ (k : ℕ). get_or arms n d ∷ drop k arms) (sym next) ∙ ap (λ (z : Arm). z ∷ rest) (sym e) in
      subst (λ (z : List Arm). Walked s (arms_part s (arms_of z (block_of last))) r0 a0 t0 r2 a2 t2) (sym parts)
      (walked_as (joined here (arms_part s (arms_of rest (block_of last)))) (arms_part s (arms_of (d ∷ rest) (block_of last))) r0 r2 a0 t0 a2 t2 refl (λ x. refl) (λ x. refl)
      (walked_both (arms_part s (arms_of rest (block_of last))) here r0 r1 r2 a0 t0 a1 t1 a2 t2 v (of_list d.block list r1 r2 a1 t1 a2 t2 f w)))

  -- what stands behind `else`

  pub else_some : (b : Block) (o : ElseBlock) (list : List Cmd) (r r' : List Set) (a t a' t' : Set) → o ≡ else_of (Some b) → list ≡ b.commands.items
      → Walked s (list_part s (commands_of list)) r a t r' a' t' → Walked s (else_part s o) r a t r' a' t'
  unfolding touches block_touches else_touches arms_touch list_touches assigns block_assigns else_assigns arms_assign list_assigns
  else_some b o list r r' a t a' t' eo e w =
      subst (λ (z : ElseBlock). Walked s (else_part s z) r a t r' a' t') (sym eo)
      (walked_as (list_part s (commands_of b.commands.items)) (else_part s (else_of (Some b))) r r' a t a' t' refl (λ x. refl) (λ x. refl) (of_list b list r r' a t a' t' e w))

  pub else_none : (o : ElseBlock) (r : List Set) (a t : Set) → o ≡ else_of None → Walked s (else_part s o) r a t r a t
  unfolding touches block_touches else_touches arms_touch list_touches assigns block_assigns else_assigns arms_assign list_assigns
  else_none o r a t eo = subst (λ (z : ElseBlock). Walked s (else_part s z) r a t r a t) (sym eo) (walked_none (else_part s (else_of None)) r a t refl (λ x. refl) (λ x. refl))

  -- commands

  pub do_walked : (c : Command) (k : SimpleCommand) (r0 r1 : List Set) (a0 t0 a1 t1 : Set) → c ≡ lone k → Adds es (stored ds (λ x. simple_assigns k x)) a0 a1
      → Adds es (λ x. simple_touches ds h k x) t0 t1 → table_of es r1 ≡ touched_at es ds h (simple_points k) ++ table_of es r0
      → Walked s (command_part s c) r0 a0 t0 r1 a1 t1
  unfolding touches block_touches else_touches arms_touch list_touches assigns block_assigns else_assigns arms_assign list_assigns
  do_walked c k r0 r1 a0 t0 a1 t1 ec a t f =
      subst (λ (z : Command). Walked s (command_part s z) r0 a0 t0 r1 a1 t1) (sym ec)
      (walked_as _ (command_part s (lone k)) r0 r1 a0 t0 a1 t1 (append-nil (simple_points k)) (λ x. refl) (λ x. refl)
      (walked_fall (bare k) k r0 r0 r1 a0 t0 a1 t1 (walked_simple k r0 a0 t0 a1 t1 a t) f))

  pub try_walked : (c : Command) (k : SimpleCommand) (place : Place) (b : Block) (list : List Cmd) (r0 r1 r2 r3 : List Set) (a0 a1 a2 none h1 h2 t0 t1 : Set)
      → c ≡ try k place (block_of b) → list ≡ b.commands.items → ((x : ℕ) → has none x ≡ false) → Walked s (list_part s (commands_of list)) r0 a0 none r1 a1 h1
      → Adds es (stored ds (λ x. simple_assigns k x)) a1 a2 → Adds es (λ x. simple_touches ds h k x) h1 h2
      → r2 ≡ r1 ++ h2 ∷ [] → ((x : ℕ) → has t1 x ≡ (has h2 x || has t0 x)) → table_of es r3 ≡ touched_at es ds h (simple_points k) ++ table_of es r2
      → Walked s (command_part s c) r0 a0 t0 r3 a2 t1
  unfolding touches block_touches else_touches arms_touch list_touches assigns block_assigns else_assigns arms_assign list_assigns
  try_walked c k place b list r0 r1 r2 r3 a0 a1 a2 none h1 h2 t0 t1 ec el e w a t push more f =
      let inner = list_part s (commands_of b.commands.items) in
      let whole = try k place (block_of b) in
      let both = walked_both inner (bare k) r0 r1 r1 a0 none a1 h1 a2 h2 (of_list b list r0 r1 a0 none a1 h1 el w) (walked_simple k r1 a1 h1 a2 h2 a t) in
      let point = walked_point (joined (bare k) inner) whole r0 r1 r2 a0 a2 none h2 t0 t1 e (λ x. refl) both push more in
      subst (λ (z : Command). Walked s (command_part s z) r0 a0 t0 r3 a2 t1) (sym ec)
      (walked_as _ (command_part s whole) r0 r3 a0 t0 a2 t1 refl (λ x. refl) (λ x. refl) (walked_fall _ k r0 r2 r3 a0 t0 a2 t1 point f))

  pub if_walked : (c : Command) (place : Place) (x : Expression) (one : Block) (list : List Cmd) (other : ElseBlock) (r0 r1 r2 r3 : List Set) (a0 a1 a2 none h1 h2 t0 t1 : Set)
      → c ≡ if_else place x (block_of one) other → list ≡ one.commands.items → ((x : ℕ) → has none x ≡ false) → Walked s (else_part s other) r0 a0 none r1 a1 h1
      → Walked s (list_part s (commands_of list)) r1 a1 h1 r2 a2 h2 → r3 ≡ r2 ++ h2 ∷ [] → ((x : ℕ) → has t1 x ≡ (has h2 x || has t0 x))
      → Walked s (command_part s c) r0 a0 t0 r3 a2 t1
  unfolding touches block_touches else_touches arms_touch list_touches assigns block_assigns else_assigns arms_assign list_assigns
  if_walked c place x one list other r0 r1 r2 r3 a0 a1 a2 none h1 h2 t0 t1 ec el e v w push more =
      let inner = list_part s (commands_of one.commands.items) in
      let whole = if_else place x (block_of one) other in
      let both = walked_both (else_part s other) inner r0 r1 r2 a0 none a1 h1 a2 h2 v (of_list one list r1 r2 a1 h1 a2 h2 el w) in
      subst (λ (z : Command). Walked s (command_part s z) r0 a0 t0 r3 a2 t1) (sym ec)
      (walked_as _ (command_part s whole) r0 r3 a0 t0 a2 t1 refl (λ x. refl) (λ x. refl)
      (walked_point (joined inner (else_part s other)) whole r0 r2 r3 a0 a2 none h2 t0 t1 e (λ x. refl) both push more))

  pub then_walked : (c : Command) (k : SimpleCommand) (place : Place) (one other : Block) (la lb : List Cmd) (r0 r1 r2 r3 r4 : List Set) (a0 a1 a2 a3 none h1 h2 h3 t0 t1 : Set)
      → c ≡ try_then k place (block_of one) (block_of other) → la ≡ one.commands.items → lb ≡ other.commands.items → ((x : ℕ) → has none x ≡ false)
      → Walked s (list_part s (commands_of lb)) r0 a0 none r1 a1 h1 → Walked s (list_part s (commands_of la)) r1 a1 h1 r2 a2 h2
      → Adds es (stored ds (λ x. simple_assigns k x)) a2 a3 → Adds es (λ x. simple_touches ds h k x) h2 h3
      → r3 ≡ r2 ++ h3 ∷ [] → ((x : ℕ) → has t1 x ≡ (has h3 x || has t0 x)) → table_of es r4 ≡ touched_at es ds h (simple_points k) ++ table_of es r3
      → Walked s (command_part s c) r0 a0 t0 r4 a3 t1
  unfolding touches block_touches else_touches arms_touch list_touches assigns block_assigns else_assigns arms_assign list_assigns
  then_walked c k place one other la lb r0 r1 r2 r3 r4 a0 a1 a2 a3 none h1 h2 h3 t0 t1 ec ea eb e v w a t push more f =
      let first = list_part s (commands_of one.commands.items) in
      let second = list_part s (commands_of other.commands.items) in
      let whole = try_then k place (block_of one) (block_of other) in
      let both = walked_both second first r0 r1 r2 a0 none a1 h1 a2 h2 (of_list other lb r0 r1 a0 none a1 h1 eb v) (of_list one la r1 r2 a1 h1 a2 h2 ea w) in
      let all = walked_both (joined first second) (bare k) r0 r2 r2 a0 none a2 h2 a3 h3 both (walked_simple k r2 a2 h2 a3 h3 a t) in
      let point = walked_point (joined (bare k) (joined first second)) whole r0 r2 r3 a0 a3 none h3 t0 t1 e (λ x. refl) all push more in
      subst (λ (z : Command). Walked s (command_part s z) r0 a0 t0 r4 a3 t1) (sym ec)
      (walked_as _ (command_part s whole) r0 r4 a0 t0 a3 t1 refl (λ x. refl) (λ x. refl) (walked_fall _ k r0 r3 r4 a0 t0 a3 t1 point f))

  pub case_walked : (c : Command) (place : Place) (x : Expression) (arms list : List Arm) (last : Block) (r0 r1 r2 : List Set) (a0 a1 none here t0 t1 : Set)
      → c ≡ case_of place x (arms_of arms (block_of last)) → list ≡ arms → ((x : ℕ) → has none x ≡ false)
      → Walked s (arms_part s (arms_of list (block_of last))) r0 a0 none r1 a1 here → r2 ≡ r1 ++ here ∷ [] → ((x : ℕ) → has t1 x ≡ (has here x || has t0 x))
      → Walked s (command_part s c) r0 a0 t0 r2 a1 t1
  unfolding touches block_touches else_touches arms_touch list_touches assigns block_assigns else_assigns arms_assign list_assigns
  case_walked c place x arms list last r0 r1 r2 a0 a1 none here t0 t1 ec el e w push more =
      let inner = arms_part s (arms_of arms (block_of last)) in
      let whole = case_of place x (arms_of arms (block_of last)) in
      subst (λ (z : Command). Walked s (command_part s z) r0 a0 t0 r2 a1 t1) (sym ec)
      (walked_as _ (command_part s whole) r0 r2 a0 t0 a1 t1 refl (λ x. refl) (λ x. refl)
      (walked_point inner whole r0 r1 r2 a0 a1 none here t0 t1 e (λ x. refl)
      (subst (λ (z : List Arm). Walked s (arms_part s (arms_of z (block_of last))) r0 a0 none r1 a1 here) el w) push more))
