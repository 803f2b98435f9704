-- The check sites and the points of commands stand along their tokens.
use Rattle.std.proofs.Common.{◌≡◌, ℕ, List, [], ◌∷◌, refl}
use Rattle.sap_check.specs.Points.{word_of}
use Rattle.sap_lex.proofs.Spelled.{by_test}
use Rattle.sap_parse.specs.Grammar as g
use Rattle.sap_parse.specs.Stages.{Stage}
use Rattle.sap_placed.proofs.Along.{Between, stay, ◌then◌, ◌upto◌, passes, skips, meets}
use Rattle.sap_placed.proofs.Passing.{arm_passed, expr_passed, texpr_passed}
use Rattle.sap_shape.specs.Paths.{place_of}
use Rattle.sap_shape.specs.Sites.{CheckSite, Surroundings, is_site, simple_sites, command_sites, block_sites, else_sites, arms_sites, list_sites}
use Rattle.sap_text.specs.declared.place.Place.{Place}
use Rattle.sap_tree.specs.Points.{simple_points, command_points, block_points, else_points, arms_points, list_points}
use Rattle.sap_tree.specs.Syntax as t

-- what stands at the first token of a simple command
simple_met : {A : Type 0} {place : A → Place} {depth : ℕ} {p q : Stage} {c : t.SimpleCommand} (x : A) → place x ≡ place_of c → g.Simple depth p c q → Between place p (x ∷ []) q
simple_met x e (g.assign a b y) = meets x e a then skips b then expr_passed y
simple_met x e (g.write a b i c d y) = meets x e a then skips b then expr_passed i then skips c then skips d then expr_passed y
simple_met x e (g.set_tag a b n c y d) = meets x e a then skips b then skips n then skips c then texpr_passed y then skips d
simple_met x e (g.set_cell_tag a b n c i d f y h) =
    meets x e a then skips b then skips n then skips c then expr_passed i then skips d then skips f then texpr_passed y then skips h
simple_met x e (g.goto a n) = meets x e a then skips n
simple_met x e (g.fall a) = meets x e a

simple_passed : {A : Type 0} {place : A → Place} {depth : ℕ} {p q : Stage} {c : t.SimpleCommand} → g.Simple depth p c q → Between place p [] q
simple_passed {c = c} a = passes (simple_met {place = place_of} c refl a)

-- check sites

abbrev pub site_place : CheckSite → Place
site_place s = place_of s.command

module _ (h : Surroundings) where
  simple_placed : {depth : ℕ} {p q : Stage} {c : t.SimpleCommand} → g.Simple depth p c q → Between site_place p (simple_sites h c) q
  simple_placed {p = p} {q = q} {c = c} a =
      by_test (λ (sites : List CheckSite). Between site_place p sites q) (is_site h.entities h.home.kind h.home.children c)
      (λ e. simple_met (record { surroundings = h; command = c }) refl a) (λ e. simple_passed a)

  mutual
    command_placed : {depth : ℕ} {p q : Stage} {c : t.Command} → g.Cmd depth p c q → Between site_place p (command_sites h c) q
    command_placed (g.unhandled c a) = simple_placed c upto skips a
    command_placed (g.handled c a b) = simple_placed c then skips a then block_placed b
    command_placed (g.branch a b x c y z) = skips a then skips b then expr_passed x then skips c then block_placed y then else_placed z
    command_placed (g.decided c a x b y) = simple_placed c then skips a then block_placed x then skips b then block_placed y
    command_placed (g.case a b x c d y z e) =
        skips a then skips b then expr_passed x then skips c then skips d then ((arm_placed y then arms_placed z) upto skips e)

    arm_placed : {depth : ℕ} {p q : Stage} {constants : t.Expressions} {b : t.CommandBlock} → g.Arm depth p constants b q → Between site_place p (block_sites h b) q
    arm_placed (g.arm x xs a b) = arm_passed x xs then skips a then block_placed b

    arms_placed : {depth : ℕ} {p q : Stage} {x : t.Arms} → g.Arms depth p x q → Between site_place p (arms_sites h x) q
    arms_placed (g.last a b) = skips a then block_placed b
    arms_placed (g.and_arm a b) = arm_placed a then arms_placed b

    else_placed : {depth : ℕ} {p q : Stage} {x : t.ElseBlock} → g.Else depth p x q → Between site_place p (else_sites h x) q
    else_placed g.no_else = stay
    else_placed (g.else a b) = skips a then block_placed b

    block_placed : {depth : ℕ} {p q : Stage} {x : t.CommandBlock} → g.Block depth p x q → Between site_place p (block_sites h x) q
    block_placed (g.block a cs b) = skips a then (commands_placed cs upto skips b)

    pub commands_placed : {depth : ℕ} {p q : Stage} {x : t.CommandList} → g.Cmds depth p x q → Between site_place p (list_sites h x) q
    commands_placed g.no_cmd = stay
    commands_placed (g.cmd c cs) = command_placed c then commands_placed cs

-- points

abbrev pub word_place : t.Command → Place
word_place c = (word_of c).place

simple_worded : {depth : ℕ} {p q : Stage} {c : t.SimpleCommand} → g.Simple depth p c q → Between word_place p (simple_points c) q
simple_worded {c = t.assign n x} a = simple_passed a
simple_worded {c = t.write n i x} a = simple_passed a
simple_worded {c = t.set_tag place n x} a = simple_passed a
simple_worded {c = t.set_cell_tag place n i x} a = simple_passed a
simple_worded {c = t.go_to place n} a = simple_passed a
simple_worded {c = t.fall_to_child place} a = simple_met (t.lone (t.fall_to_child place)) refl a

mutual
  command_worded : {depth : ℕ} {p q : Stage} {c : t.Command} → g.Cmd depth p c q → Between word_place p (command_points c) q
  command_worded (g.unhandled c a) = simple_worded c upto skips a
  command_worded (g.handled c a b) = simple_worded c then meets _ refl a then block_worded b
  command_worded (g.branch a b x c y z) = meets _ refl a then skips b then expr_passed x then skips c then block_worded y then else_worded z
  command_worded (g.decided c a x b y) = simple_worded c then meets _ refl a then block_worded x then skips b then block_worded y
  command_worded (g.case a b x c d y z e) =
      meets _ refl a then skips b then expr_passed x then skips c then skips d then ((arm_worded y then arms_worded z) upto skips e)

  arm_worded : {depth : ℕ} {p q : Stage} {constants : t.Expressions} {b : t.CommandBlock} → g.Arm depth p constants b q → Between word_place p (block_points b) q
  arm_worded (g.arm x xs a b) = arm_passed x xs then skips a then block_worded b

  arms_worded : {depth : ℕ} {p q : Stage} {x : t.Arms} → g.Arms depth p x q → Between word_place p (arms_points x) q
  arms_worded (g.last a b) = skips a then block_worded b
  arms_worded (g.and_arm a b) = arm_worded a then arms_worded b

  else_worded : {depth : ℕ} {p q : Stage} {x : t.ElseBlock} → g.Else depth p x q → Between word_place p (else_points x) q
  else_worded g.no_else = stay
  else_worded (g.else a b) = skips a then block_worded b

  block_worded : {depth : ℕ} {p q : Stage} {x : t.CommandBlock} → g.Block depth p x q → Between word_place p (block_points x) q
  block_worded (g.block a cs b) = skips a then (commands_worded cs upto skips b)

  pub commands_worded : {depth : ℕ} {p q : Stage} {x : t.CommandList} → g.Cmds depth p x q → Between word_place p (list_points x) q
  commands_worded g.no_cmd = stay
  commands_worded (g.cmd c cs) = command_worded c then commands_worded cs
