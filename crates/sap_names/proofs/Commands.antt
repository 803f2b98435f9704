-- The faults of commands, noted one part after another.
use Rattle.std.proofs.Common.{◌≡◌, ◌∙◌, ℕ, List, ◌++◌, append_assoc, ap, ap₂, sym, Global}
use Rattle.std.specs.Prelude.{Option, Some, None, Vec}
use Rattle.sap_tree.specs.Prelude.{Command, expression_of, tag_of, simple_of, command_of, block_of, else_of}
use Rattle.sap_tree.specs.declared.syntax.Arm.{Arm}
use Rattle.sap_tree.specs.declared.name.Mention.{Mention}
use Rattle.sap_tree.specs.declared.syntax.Block.{Block}
use Rattle.sap_tree.specs.declared.syntax.Cmd.{Cmd}
use Rattle.sap_tree.specs.declared.syntax.Expr.{Expr}
use Rattle.sap_tree.specs.declared.syntax.Simple.{Simple}
use Rattle.sap_tree.specs.declared.syntax.TagExpr.{TagExpr}
use Rattle.sap_text.specs.declared.place.Place.{Place}
use Rattle.sap_tree.specs.declared.syntax.Cmd.TheVariants as c
use Rattle.sap_tree.specs.declared.syntax.Simple.TheVariants as s
use Rattle.sap_tree.proofs.Views.{command_of-try, command_of-if, command_of-try_then, command_of-case}
use Rattle.sap_names.specs.declared.kind.Declared.{Declared}
use Rattle.sap_names.specs.declared.kind.Use.TheVariants as u
use Rattle.sap_names.specs.Best.{best_of}
use Rattle.sap_names.specs.Entities.{Lookup}
use Rattle.sap_names.specs.Fault.{Fault}
use Rattle.sap_names.specs.Lists.{commands_faults, arms_faults}
use Rattle.sap_names.specs.NameFaults.{expression_faults, tag_faults, simple_faults, command_faults, block_faults, else_faults, use_faults}
use Rattle.sap_names.specs.Widths.{cell_width, index_width, own}
use Rattle.sap_names.proofs.Faults.{both, three}
use Rattle.sap_names.proofs.Lists.{arms_faults-of, block_faults-is}

module _ (levels : List (List ℕ)) (what : Lookup) where
  -- a write to a cell
  pub write_noted : (x : Simple) (target : Mention) (index e : Expr) (w : Option Declared) (i v : Option ℕ) (o m n k : Option Fault)
      → x ≡ s.Write target index e → w ≡ what target.name → i ≡ index_width w → v ≡ cell_width w
      → m ≡ best_of o (use_faults u.Indexed w target.place) → n ≡ best_of m (expression_faults what (expression_of index) i)
      → k ≡ best_of n (expression_faults what (expression_of e) v) → k ≡ best_of o (simple_faults levels what (simple_of x))
  write_noted x target index e w i v o m n k is looked first second p q r =
      three o m n k (use_faults u.Indexed (what target.name) target.place) (expression_faults what (expression_of index) (index_width (what target.name)))
      (expression_faults what (expression_of e) (cell_width (what target.name))) _
      (p ∙ ap (λ (y : Option Declared). best_of o (use_faults u.Indexed y target.place)) looked)
      (q ∙ ap (λ (y : Option ℕ). best_of m (expression_faults what (expression_of index) y)) (first ∙ ap (λ (y : Option Declared). index_width y) looked))
      (r ∙ ap (λ (y : Option ℕ). best_of n (expression_faults what (expression_of e) y)) (second ∙ ap (λ (y : Option Declared). cell_width y) looked))
      (ap (λ (y : Simple). simple_faults levels what (simple_of y)) is)

  -- a new tag for a cell
  pub set_cell_tag_noted : (x : Simple) (place : Place) (target : Mention) (index : Expr) (tag : TagExpr) (w : Option Declared) (i : Option ℕ) (o m n k : Option Fault)
      → x ≡ s.SetCellTag place target index tag → w ≡ what target.name → i ≡ index_width w
      → m ≡ best_of o (use_faults u.Indexed w target.place) → n ≡ best_of m (expression_faults what (expression_of index) i)
      → k ≡ best_of n (tag_faults levels what (tag_of tag)) → k ≡ best_of o (simple_faults levels what (simple_of x))
  set_cell_tag_noted x place target index tag w i o m n k is looked first p q r =
      three o m n k (use_faults u.Indexed (what target.name) target.place) (expression_faults what (expression_of index) (index_width (what target.name)))
      (tag_faults levels what (tag_of tag)) _
      (p ∙ ap (λ (y : Option Declared). best_of o (use_faults u.Indexed y target.place)) looked)
      (q ∙ ap (λ (y : Option ℕ). best_of m (expression_faults what (expression_of index) y)) (first ∙ ap (λ (y : Option Declared). index_width y) looked))
      r
      (ap (λ (y : Simple). simple_faults levels what (simple_of y)) is)

  -- a command with its handler
  pub try_noted : (x : Cmd) (k : Simple) (place : Place) (handler : Block) (cs : List Cmd) (o m n : Option Fault)
      → x ≡ c.Try k place handler → cs ≡ handler.commands.items
      → m ≡ best_of o (simple_faults levels what (simple_of k)) → n ≡ best_of m (commands_faults levels what cs)
      → n ≡ best_of o (command_faults levels what (command_of x))
  try_noted x k place handler cs o m n is same p q =
      both o m n (simple_faults levels what (simple_of k)) (commands_faults levels what handler.commands.items) _ p
      (q ∙ ap (λ (l : List Cmd). best_of m (commands_faults levels what l)) same)
      (ap (λ (y : Command). command_faults levels what y) (ap command_of is ∙ command_of-try k place handler)
      ∙ ap (λ (l : List Fault). simple_faults levels what (simple_of k) ++ l) (block_faults-is levels what handler))

  -- a choice
  pub if_noted : (x : Cmd) (place : Place) (e : Expr) (one : Block) (other : Option Block) (cs : List Cmd) (o m n k : Option Fault)
      → x ≡ c.If place e one other → cs ≡ one.commands.items
      → m ≡ best_of o (expression_faults what (expression_of e) (Some 1)) → n ≡ best_of m (commands_faults levels what cs)
      → k ≡ best_of n (else_faults levels what (else_of other)) → k ≡ best_of o (command_faults levels what (command_of x))
  if_noted x place e one other cs o m n k is same p q r =
      three o m n k (expression_faults what (expression_of e) (Some 1)) (commands_faults levels what one.commands.items) (else_faults levels what (else_of other)) _ p
      (q ∙ ap (λ (l : List Cmd). best_of m (commands_faults levels what l)) same) r
      (ap (λ (y : Command). command_faults levels what y) (ap command_of is ∙ command_of-if place e one other)
      ∙ ap (λ (l : List Fault). expression_faults what (expression_of e) (Some 1) ++ l ++ else_faults levels what (else_of other)) (block_faults-is levels what one))

  -- a command with what follows it where it is accepted and where it is refused
  pub then_noted : (x : Cmd) (k : Simple) (place : Place) (a b : Block) (xs ys : List Cmd) (o m n l : Option Fault)
      → x ≡ c.TryThen k place a b → xs ≡ a.commands.items → ys ≡ b.commands.items
      → m ≡ best_of o (simple_faults levels what (simple_of k)) → n ≡ best_of m (commands_faults levels what xs) → l ≡ best_of n (commands_faults levels what ys)
      → l ≡ best_of o (command_faults levels what (command_of x))
  then_noted x k place a b xs ys o m n l is same last p q r =
      three o m n l (simple_faults levels what (simple_of k)) (commands_faults levels what a.commands.items) (commands_faults levels what b.commands.items) _ p
      (q ∙ ap (λ (cs : List Cmd). best_of m (commands_faults levels what cs)) same) (r ∙ ap (λ (cs : List Cmd). best_of n (commands_faults levels what cs)) last)
      (ap (λ (y : Command). command_faults levels what y) (ap command_of is ∙ command_of-try_then k place a b)
      ∙ ap₂ (λ (f g : List Fault). simple_faults levels what (simple_of k) ++ f ++ g) (block_faults-is levels what a) (block_faults-is levels what b))

  -- a choice of an arm
  pub case_noted : (x : Cmd) (place : Place) (e : Expr) (arms : Vec Arm Global) (last : Block) (asked : Option ℕ) (xs : List Arm) (cs : List Cmd) (o m n l : Option Fault)
      → x ≡ c.Case place e arms last → asked ≡ own what (expression_of e) → xs ≡ arms.items → cs ≡ last.commands.items
      → m ≡ best_of o (expression_faults what (expression_of e) None) → n ≡ best_of m (arms_faults levels what asked xs) → l ≡ best_of n (commands_faults levels what cs)
      → l ≡ best_of o (command_faults levels what (command_of x))
  case_noted x place e arms last asked xs cs o m n l is width same end p q r =
      let own_width = own what (expression_of e) in
      three o m n l (expression_faults what (expression_of e) None) (arms_faults levels what own_width arms.items) (commands_faults levels what last.commands.items) _ p
      (q ∙ ap₂ (λ (w : Option ℕ) (ds : List Arm). best_of m (arms_faults levels what w ds)) width same) (r ∙ ap (λ (ds : List Cmd). best_of n (commands_faults levels what ds)) end)
      (ap (λ (y : Command). command_faults levels what y) (ap command_of is ∙ command_of-case place e arms last)
      ∙ ap (λ (f : List Fault). expression_faults what (expression_of e) None ++ f) (arms_faults-of levels what own_width arms.items (block_of last))
      ∙ sym (append_assoc (expression_faults what (expression_of e) None) (arms_faults levels what own_width arms.items) (block_faults levels what (block_of last)))
      ∙ ap (λ (f : List Fault). expression_faults what (expression_of e) None ++ arms_faults levels what own_width arms.items ++ f) (block_faults-is levels what last))
