-- What is added for each command that can have a handler.
use Rattle.sap_lemmas.proofs.Common.{◌≡◌, ◌∙◌, ◌||◌, ◌&&◌, ℕ, Bool, false, List, [], ◌∷◌, ◌++◌, refl, sym, ap, subst, bytes_eq, and_false}
use Rattle.std.proofs.Math.Bool.{and_comm}
use Rattle.sap_text.specs.declared.place.Place.{Place}
use Rattle.sap_tree.specs.Prelude.{simple_points, Expression, TagExpression, SimpleCommand, assign, write, set_tag, set_cell_tag, go_to, fall_to_child, lone, Home, touches, simple_touches, simple_assigns, fall_touches, is_dynamic_kind, is_dynamic_store}
use Rattle.sap_tree.specs.declared.name.Mention.{Mention}
use Rattle.sap_tree.specs.declared.syntax.Decl.{Decl}
use Rattle.sap_names.specs.declared.entity.Entity.{Entity}
use Rattle.sap_hang.specs.Sets.{has}
use Rattle.sap_hang.specs.Walks.{Adds, Stands, stored, table_of, touched_at}
use Rattle.sap_hang.specs.declared.set.Set.{Set}
use Rattle.sap_hang.proofs.Adds.{adds_none, adds_same, adds_union, row_more, stands_alone}

module _ (es : List Entity) (ds : List Decl) (h : Home) where
  abbrev pub Assigns : SimpleCommand → Set → Set → Type 0
  Assigns k a b = Adds es (stored ds (λ x. simple_assigns k x)) a b

  abbrev pub Touches : SimpleCommand → Set → Set → Type 0
  Touches k a b = Adds es (λ x. simple_touches ds h k x) a b

  -- nothing is assigned
  no_assign : (k : SimpleCommand) (a : Set) → ((x : List ℕ) → simple_assigns k x ≡ false) → Assigns k a a
  no_assign k a f = adds_none es (stored ds (λ x. simple_assigns k x)) a (λ x. ap (λ (b : Bool). is_dynamic_store ds x && b) (f x) ∙ and_false (is_dynamic_store ds x))

  pub assign_assigns : (k : SimpleCommand) (name : Mention) (e : Expression) (a b : Set) → k ≡ assign name e → Adds es (stored ds (λ x. bytes_eq name.name x)) a b → Assigns k a b
  assign_assigns k name e a b is w = subst (λ (z : SimpleCommand). Assigns z a b) (sym is) w

  pub assign_touches : (k : SimpleCommand) (name : Mention) (e : Expression) (a b : Set) → k ≡ assign name e → Adds es (stored ds (λ x. bytes_eq name.name x)) a b → Touches k a b
  unfolding simple_touches
  assign_touches k name e a b is w = subst (λ (z : SimpleCommand). Touches z a b) (sym is) w

  pub write_assigns : (k : SimpleCommand) (name : Mention) (i e : Expression) (a b : Set) → k ≡ write name i e → Adds es (stored ds (λ x. bytes_eq name.name x)) a b → Assigns k a b
  write_assigns k name i e a b is w = subst (λ (z : SimpleCommand). Assigns z a b) (sym is) w

  pub write_touches : (k : SimpleCommand) (name : Mention) (i e : Expression) (a b : Set) → k ≡ write name i e → Adds es (stored ds (λ x. bytes_eq name.name x)) a b → Touches k a b
  unfolding simple_touches
  write_touches k name i e a b is w = subst (λ (z : SimpleCommand). Touches z a b) (sym is) w

  pub tag_assigns : (k : SimpleCommand) (place : Place) (name : Mention) (t : TagExpression) (a : Set) → k ≡ set_tag place name t → Assigns k a a
  tag_assigns k place name t a is = subst (λ (z : SimpleCommand). Assigns z a a) (sym is) (no_assign (set_tag place name t) a (λ x. refl))

  pub tag_touches : (k : SimpleCommand) (place : Place) (name : Mention) (t : TagExpression) (a : Set) → k ≡ set_tag place name t → Touches k a a
  unfolding simple_touches
  tag_touches k place name t a is = subst (λ (z : SimpleCommand). Touches z a a) (sym is) (adds_none es (λ x. false) a (λ x. refl))

  pub cell_tag_assigns : (k : SimpleCommand) (place : Place) (name : Mention) (i : Expression) (t : TagExpression) (a : Set) → k ≡ set_cell_tag place name i t → Assigns k a a
  cell_tag_assigns k place name i t a is = subst (λ (z : SimpleCommand). Assigns z a a) (sym is) (no_assign (set_cell_tag place name i t) a (λ x. refl))

  pub cell_tag_touches : (k : SimpleCommand) (place : Place) (name : Mention) (i : Expression) (t : TagExpression) (a : Set) → k ≡ set_cell_tag place name i t → Touches k a a
  unfolding simple_touches
  cell_tag_touches k place name i t a is = subst (λ (z : SimpleCommand). Touches z a a) (sym is) (adds_none es (λ x. false) a (λ x. refl))

  pub goto_assigns : (k : SimpleCommand) (place : Place) (target : Mention) (a : Set) → k ≡ go_to place target → Assigns k a a
  goto_assigns k place target a is = subst (λ (z : SimpleCommand). Assigns z a a) (sym is) (no_assign (go_to place target) a (λ x. refl))

  pub goto_touches : (k : SimpleCommand) (place : Place) (target : Mention) (a b : Set) → k ≡ go_to place target
      → Adds es (λ x. bytes_eq h.name x && is_dynamic_kind h.kind) a b → Touches k a b
  unfolding simple_touches
  goto_touches k place target a b is w =
      subst (λ (z : SimpleCommand). Touches z a b) (sym is)
      (adds_same es (λ x. bytes_eq h.name x && is_dynamic_kind h.kind) (λ x. simple_touches ds h (go_to place target) x) a b
      (λ x. and_comm (bytes_eq h.name x) (is_dynamic_kind h.kind)) w)

  pub fall_assigns : (k : SimpleCommand) (place : Place) (a : Set) → k ≡ fall_to_child place → Assigns k a a
  fall_assigns k place a is = subst (λ (z : SimpleCommand). Assigns z a a) (sym is) (no_assign (fall_to_child place) a (λ x. refl))

  pub fall_adds : (k : SimpleCommand) (place : Place) (falls a b : Set) → k ≡ fall_to_child place → Stands es (λ x. fall_touches ds h.children x) falls
      → ((x : ℕ) → has b x ≡ (has falls x || has a x)) → Touches k a b
  unfolding simple_touches
  fall_adds k place falls a b is st u = subst (λ (z : SimpleCommand). Touches z a b) (sym is) (adds_union es (λ x. fall_touches ds h.children x) falls a b st u)

  -- the row of a `fall`
  pub fall_row : (k : SimpleCommand) (place : Place) (falls none here : Set) (rows new : List Set) → k ≡ fall_to_child place → Stands es (λ x. fall_touches ds h.children x) falls
      → ((x : ℕ) → has none x ≡ false) → ((x : ℕ) → has here x ≡ (has falls x || has none x)) → new ≡ rows ++ here ∷ []
      → table_of es new ≡ touched_at es ds h (simple_points k) ++ table_of es rows
  unfolding simple_touches touches
  fall_row k place falls none here rows new is st e u push =
      row_more es (λ x. touches ds h (lone (fall_to_child place)) x) here rows new
      (stands_alone es (λ x. fall_touches ds h.children x) none here e (adds_union es (λ x. fall_touches ds h.children x) falls none here st u)) push
      ∙ ap (λ (z : SimpleCommand). touched_at es ds h (simple_points z) ++ table_of es rows) (sym is)
