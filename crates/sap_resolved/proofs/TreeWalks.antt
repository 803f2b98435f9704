-- What is asked of each command of a design, and what follows for each step of its program.
use Rattle.sap_lemmas.proofs.Common.{◌≡◌, ℕ, ◌+◌, List, [], ◌++◌, true, ◌&&◌, Option, Some, None, length, nat_le, and_parts, three_parts}
use Rattle.sap_tree.specs.Prelude.{most_arms, Expression, SimpleCommand, Command, lone, try, if_else, try_then, case_of, Arms, last_arm, and_arm, CommandBlock, command_block, ElseBlock, no_else, with_else, CommandList, no_command, and_command, is_outermost, is_simple, is_command, is_block, is_else, are_arms, are_commands, has_arm, has_constant, are_constants, arm_count, is_second}
use Rattle.sap_tree.specs.declared.version.Version.{Version}
use Rattle.sap_tree.specs.Walks.{Every, EveryInBlock, EveryInElse, EveryInArms, EveryInList, gathered, gathered_in_block, gathered_in_else, gathered_in_arms, gathered_in_list}
use Rattle.sap_lattice.specs.Levels.{Levels}
use Rattle.sap_maps.specs.Term.{Term}
use Rattle.sap_names.proofs.FaultLemmas.{nil_left, nil_right}
use Rattle.sap_names.specs.declared.entity.Entity.{Entity}
use Rattle.sap_names.specs.Prelude.{Lookup, own, expression_faults, simple_faults, command_faults, arms_faults, block_faults, else_faults, commands_faults}
use Rattle.sap_shape.specs.ShapeFaults.{Body, simple_shape, then_shape, command_shape, block_shape, arms_shape, else_shape, list_shape}
use Rattle.sap_shape.specs.Sites.{Surroundings, simple_sites, command_sites, block_sites}
use Rattle.sap_meaning.specs.Program as program
use Rattle.sap_meaning.specs.Walks as walks
use Rattle.sap_meaning.specs.Walks.{Asks}
use Rattle.sap_resolved.specs.Resolve.{site_number, step_of, command_of, arms_of, block_of, else_of, list_of}
use Rattle.sap_resolved.specs.Terms.{term_of}

-- in a whole design each is whole
module _ (version : Version) where
  abbrev pub Whole : SimpleCommand → Type 0
  Whole c = is_simple version c ≡ true

  abbrev pub Outermost : Option ℕ → Expression → Type 0
  Outermost asked e = is_outermost version e ≡ true

  mutual
    unfolding is_command is_block is_else are_arms are_commands

    every_whole : (c : Command) → is_command version c ≡ true → Every Whole Outermost c
    every_whole (lone c) i = i
    every_whole (try c place handler) i = let j = and_parts (is_simple version c) (is_block version handler) i in (j.0, every_whole_in_block handler j.1)
    every_whole (if_else place e one other) i =
        let j = three_parts (is_outermost version e) (is_block version one) (is_else version other) i in
        (j.0, every_whole_in_block one j.1, every_whole_in_else other j.2)
    every_whole (try_then c place one other) i =
        let j = and_parts (is_second version && is_simple version c && is_block version one) (is_block version other) i in
        let m = three_parts (is_second version) (is_simple version c) (is_block version one) j.0 in
        (m.1, every_whole_in_block one m.2, every_whole_in_block other j.1)
    every_whole (case_of place e arms) i =
        let j = and_parts (is_second version && is_outermost version e && has_arm arms && nat_le (arm_count arms) most_arms) (are_arms version arms) i in
        let m = and_parts (is_second version && is_outermost version e && has_arm arms) (nat_le (arm_count arms) most_arms) j.0 in
        let n = three_parts (is_second version) (is_outermost version e) (has_arm arms) m.0 in
        (n.1, every_whole_in_arms arms j.1)

    pub every_whole_in_block : (b : CommandBlock) → is_block version b ≡ true → EveryInBlock Whole Outermost b
    every_whole_in_block (command_block list after) i = every_whole_in_list list i

    every_whole_in_else : (b : ElseBlock) → is_else version b ≡ true → EveryInElse Whole Outermost b
    every_whole_in_else no_else i = tt
    every_whole_in_else (with_else b) i = every_whole_in_block b i

    every_whole_in_arms : (arms : Arms) → are_arms version arms ≡ true → EveryInArms Whole Outermost arms
    every_whole_in_arms (last_arm b) i = every_whole_in_block b i
    every_whole_in_arms (and_arm constants b arms) i =
        let j = and_parts (has_constant constants && are_constants constants && is_block version b) (are_arms version arms) i in
        let m = and_parts (has_constant constants && are_constants constants) (is_block version b) j.0 in
        (every_whole_in_block b m.1, every_whole_in_arms arms j.1)

    every_whole_in_list : (list : CommandList) → are_commands version list ≡ true → EveryInList Whole Outermost list
    every_whole_in_list no_command i = tt
    every_whole_in_list (and_command c list) i =
        let j = and_parts (is_command version c) (are_commands version list) i in (every_whole c j.0, every_whole_in_list list j.1)

-- in a design without faults of names and widths each is without them
module _ (levels : List (List ℕ)) (what : Lookup) where
  abbrev pub Named : SimpleCommand → Type 0
  Named c = simple_faults levels what c ≡ []

  abbrev pub Fitting : Option ℕ → Expression → Type 0
  Fitting asked e = expression_faults what e asked ≡ []

  mutual
    pub every_named : (c : Command) → command_faults levels what c ≡ [] → Every Named Fitting c
    every_named (lone c) f = f
    every_named (try c place handler) f = (nil_left _ _ f, every_named_in_block handler (nil_right _ _ f))
    every_named (if_else place e one other) f =
        (nil_left _ _ (nil_left _ _ f), every_named_in_block one (nil_right _ _ (nil_left _ _ f)), every_named_in_else other (nil_right _ _ f))
    every_named (try_then c place one other) f =
        (nil_left _ _ (nil_left _ _ f), every_named_in_block one (nil_right _ _ (nil_left _ _ f)), every_named_in_block other (nil_right _ _ f))
    every_named (case_of place e arms) f = (nil_left _ _ f, every_named_in_arms (own what e) arms (nil_right _ _ f))

    pub every_named_in_block : (b : CommandBlock) → block_faults levels what b ≡ [] → EveryInBlock Named Fitting b
    every_named_in_block (command_block list after) f = every_named_in_list list f

    every_named_in_else : (b : ElseBlock) → else_faults levels what b ≡ [] → EveryInElse Named Fitting b
    every_named_in_else no_else f = tt
    every_named_in_else (with_else b) f = every_named_in_block b f

    every_named_in_arms : (asked : Option ℕ) (arms : Arms) → arms_faults levels what asked arms ≡ [] → EveryInArms Named Fitting arms
    every_named_in_arms asked (last_arm b) f = every_named_in_block b f
    every_named_in_arms asked (and_arm constants b arms) f = (every_named_in_block b (nil_right _ _ (nil_left _ _ f)), every_named_in_arms asked arms (nil_right _ _ f))

    every_named_in_list : (list : CommandList) → commands_faults levels what list ≡ [] → EveryInList Named Fitting list
    every_named_in_list no_command f = tt
    every_named_in_list (and_command c list) f = (every_named c (nil_left _ _ f), every_named_in_list list (nil_right _ _ f))

-- in a design without faults of shape each simple command is without them
module _ (es : List Entity) (at : Body) where
  abbrev pub Shaped : SimpleCommand → Type 0
  Shaped c = simple_shape es at c ≡ []

  abbrev pub Any : Option ℕ → Expression → Type 0
  Any asked e = Unit {0}

  mutual
    every_shaped : (c : Command) → command_shape es at c ≡ [] → Every Shaped Any c
    every_shaped (lone c) f = f
    every_shaped (try c place handler) f = (nil_left _ _ (nil_left _ _ f), every_shaped_in_block handler (nil_right _ _ f))
    every_shaped (if_else place e one other) f = (tt, every_shaped_in_block one (nil_left _ _ f), every_shaped_in_else other (nil_right _ _ f))
    every_shaped (try_then c place one other) f =
        let own : then_shape es at c place ≡ [] = nil_left _ _ f in
        let below : block_shape es at one ++ block_shape es at other ≡ [] = nil_right (then_shape es at c place) _ f in
        (nil_left _ _ own, every_shaped_in_block one (nil_left _ _ below), every_shaped_in_block other (nil_right _ _ below))
    every_shaped (case_of place e arms) f = (tt, every_shaped_in_arms arms f)

    pub every_shaped_in_block : (b : CommandBlock) → block_shape es at b ≡ [] → EveryInBlock Shaped Any b
    every_shaped_in_block (command_block list after) f = every_shaped_in_list list f

    every_shaped_in_else : (b : ElseBlock) → else_shape es at b ≡ [] → EveryInElse Shaped Any b
    every_shaped_in_else no_else f = tt
    every_shaped_in_else (with_else b) f = every_shaped_in_block b f

    every_shaped_in_arms : (arms : Arms) → arms_shape es at arms ≡ [] → EveryInArms Shaped Any arms
    every_shaped_in_arms (last_arm b) f = every_shaped_in_block b f
    every_shaped_in_arms (and_arm constants b arms) f = (every_shaped_in_block b (nil_left _ _ f), every_shaped_in_arms arms (nil_right _ _ f))

    every_shaped_in_list : (list : CommandList) → list_shape es at list ≡ [] → EveryInList Shaped Any list
    every_shaped_in_list no_command f = tt
    every_shaped_in_list (and_command c list) f = (every_shaped c (nil_left _ _ f), every_shaped_in_list list (nil_right _ _ f))

-- What is asked of each in two ways gives what is asked of each step, condition and number of the program.
module _ (ls : Levels) (h : Surroundings) (P R : SimpleCommand → Type 0) (Q S : Option ℕ → Expression → Type 0)
    (To : program.Step → Type 0) (ToTerm : Term ℕ → Type 0) (of_step : (n : ℕ) (c : SimpleCommand) → P c → R c → To (step_of ls h n c))
    (of_condition : (e : Expression) → Q (Some 1) e → S (Some 1) e → ToTerm (term_of h.entities e (Some 1)))
    (of_number : (e : Expression) → Q None e → S None e → ToTerm (term_of h.entities e None)) where
  mutual
    every_resolved : (k : ℕ) (c : Command) → Every P Q c → Every R S c → walks.Every (Asks To ToTerm) (command_of ls h k c)
    every_resolved k (lone c) p r = of_step (site_number h k c) c p r
    every_resolved k (try c place handler) p r =
        (of_step (site_number h k c) c p.0 r.0, every_resolved_in_block (k + length (simple_sites h c)) handler p.1 r.1)
    every_resolved k (if_else place e one other) p r =
        (of_condition e p.0 r.0, every_resolved_in_block k one p.1 r.1, every_resolved_in_else (k + length (block_sites h one)) other p.2 r.2)
    every_resolved k (try_then c place one other) p r =
        let i = k + length (simple_sites h c) in (
          of_step (site_number h k c) c p.0 r.0,
          every_resolved_in_block i one p.1 r.1,
          every_resolved_in_block (i + length (block_sites h one)) other p.2 r.2,
        )
    every_resolved k (case_of place e arms) p r = (of_number e p.0 r.0, every_resolved_in_arms k arms p.1 r.1)

    pub every_resolved_in_block : (k : ℕ) (b : CommandBlock) → EveryInBlock P Q b → EveryInBlock R S b → walks.EveryInBlock (Asks To ToTerm) (block_of ls h k b)
    every_resolved_in_block k (command_block list after) p r = every_resolved_in_list k list p r

    every_resolved_in_else : (k : ℕ) (b : ElseBlock) → EveryInElse P Q b → EveryInElse R S b → walks.EveryInBlock (Asks To ToTerm) (else_of ls h k b)
    every_resolved_in_else k no_else p r = tt
    every_resolved_in_else k (with_else b) p r = every_resolved_in_block k b p r

    every_resolved_in_arms : (k : ℕ) (arms : Arms) → EveryInArms P Q arms → EveryInArms R S arms → walks.EveryInArms (Asks To ToTerm) (arms_of ls h k arms)
    every_resolved_in_arms k (last_arm b) p r = every_resolved_in_block k b p r
    every_resolved_in_arms k (and_arm constants b arms) p r =
        (every_resolved_in_block k b p.0 r.0, every_resolved_in_arms (k + length (block_sites h b)) arms p.1 r.1)

    every_resolved_in_list : (k : ℕ) (list : CommandList) → EveryInList P Q list → EveryInList R S list → walks.EveryInBlock (Asks To ToTerm) (list_of ls h k list)
    every_resolved_in_list k no_command p r = tt
    every_resolved_in_list k (and_command c list) p r =
        (every_resolved k c p.0 r.0, every_resolved_in_list (k + length (command_sites h c)) list p.1 r.1)

-- nothing is asked
abbrev AnyCommand : SimpleCommand → Type 0
AnyCommand c = Unit {0}

abbrev AnyTerm : Option ℕ → Expression → Type 0
AnyTerm asked e = Unit {0}

mutual
  any : (c : Command) → Every AnyCommand AnyTerm c
  any (lone c) = tt
  any (try c place handler) = (tt, any_in_block handler)
  any (if_else place e one other) = (tt, any_in_block one, any_in_else other)
  any (try_then c place one other) = (tt, any_in_block one, any_in_block other)
  any (case_of place e arms) = (tt, any_in_arms arms)

  any_in_block : (b : CommandBlock) → EveryInBlock AnyCommand AnyTerm b
  any_in_block (command_block list after) = any_in_list list

  any_in_else : (b : ElseBlock) → EveryInElse AnyCommand AnyTerm b
  any_in_else no_else = tt
  any_in_else (with_else b) = any_in_block b

  any_in_arms : (arms : Arms) → EveryInArms AnyCommand AnyTerm arms
  any_in_arms (last_arm b) = any_in_block b
  any_in_arms (and_arm constants b arms) = (any_in_block b, any_in_arms arms)

  any_in_list : (list : CommandList) → EveryInList AnyCommand AnyTerm list
  any_in_list no_command = tt
  any_in_list (and_command c list) = (any c, any_in_list list)

-- what holds of each step of a resolved design
pub steps_of_block : (ls : Levels) (h : Surroundings) (To : program.Step → Type 0) → ((n : ℕ) (c : SimpleCommand) → To (step_of ls h n c)) → (k : ℕ) (b : CommandBlock)
    → walks.EveryInBlock (Asks To (λ e. Unit {0})) (block_of ls h k b)
steps_of_block ls h To of_step k b =
    every_resolved_in_block ls h AnyCommand AnyCommand AnyTerm AnyTerm To (λ e. Unit {0}) (λ n c p r. of_step n c) (λ e p r. tt) (λ e p r. tt) k b
    (any_in_block b) (any_in_block b)

-- What is gathered in a design and in its program is related where it is so at each simple command of which P holds, and joining keeps it.
module _ (ls : Levels) (h : Surroundings) {A B : Type 0} (none : A) (join : A → A → A) (least : B) (meet : B → B → B) (Rel : A → B → Type 0)
    (at_none : Rel none least) (at_join : (a b : A) (c d : B) → Rel a c → Rel b d → Rel (join a b) (meet c d)) where
  module _ (P : SimpleCommand → Type 0) (Q : Option ℕ → Expression → Type 0) (f : SimpleCommand → A) (g : program.Step → B)
      (at_step : (n : ℕ) (c : SimpleCommand) → P c → Rel (f c) (g (step_of ls h n c))) where
    abbrev in_block : CommandBlock → A
    in_block b = gathered_in_block none join f b

    abbrev in_else : ElseBlock → A
    in_else b = gathered_in_else none join f b

    abbrev of_block : program.Block → B
    of_block b = walks.gathered_in_block least meet g b

    mutual
      pub gathered_resolved : (k : ℕ) (c : Command) → Every P Q c → Rel (gathered none join f c) (walks.gathered least meet g (command_of ls h k c))
      gathered_resolved k (lone c) p = at_step (site_number h k c) c p
      gathered_resolved k (try c place b) p =
          let i = k + length (simple_sites h c) in
          at_join (f c) (in_block b) (g (step_of ls h (site_number h k c) c)) (of_block (block_of ls h i b))
          (at_step (site_number h k c) c p.0) (gathered_in_block_resolved i b p.1)
      gathered_resolved k (if_else place e b other) p =
          let i = k + length (block_sites h b) in
          at_join (in_block b) (in_else other) (of_block (block_of ls h k b)) (of_block (else_of ls h i other)) (gathered_in_block_resolved k b p.1)
          (gathered_in_else_resolved i other p.2)
      gathered_resolved k (try_then c place a b) p =
          let i = k + length (simple_sites h c) in
          let j = i + length (block_sites h a) in
          at_join (f c) (join (in_block a) (in_block b)) (g (step_of ls h (site_number h k c) c)) (meet (of_block (block_of ls h i a)) (of_block (block_of ls h j b)))
          (at_step (site_number h k c) c p.0)
          (at_join (in_block a) (in_block b) (of_block (block_of ls h i a)) (of_block (block_of ls h j b)) (gathered_in_block_resolved i a p.1)
          (gathered_in_block_resolved j b p.2))
      gathered_resolved k (case_of place e arms) p = gathered_in_arms_resolved k arms p.1

      pub gathered_in_block_resolved : (k : ℕ) (b : CommandBlock) → EveryInBlock P Q b → Rel (in_block b) (of_block (block_of ls h k b))
      gathered_in_block_resolved k (command_block list after) p = gathered_in_list_resolved k list p

      gathered_in_else_resolved : (k : ℕ) (b : ElseBlock) → EveryInElse P Q b → Rel (in_else b) (of_block (else_of ls h k b))
      gathered_in_else_resolved k no_else p = at_none
      gathered_in_else_resolved k (with_else b) p = gathered_in_block_resolved k b p

      gathered_in_arms_resolved : (k : ℕ) (arms : Arms) → EveryInArms P Q arms
          → Rel (gathered_in_arms none join f arms) (walks.gathered_in_arms least meet g (arms_of ls h k arms))
      gathered_in_arms_resolved k (last_arm b) p = gathered_in_block_resolved k b p
      gathered_in_arms_resolved k (and_arm constants b arms) p =
          let i = k + length (block_sites h b) in
          at_join (in_block b) (gathered_in_arms none join f arms) (of_block (block_of ls h k b)) (walks.gathered_in_arms least meet g (arms_of ls h i arms))
          (gathered_in_block_resolved k b p.0) (gathered_in_arms_resolved i arms p.1)

      gathered_in_list_resolved : (k : ℕ) (list : CommandList) → EveryInList P Q list → Rel (gathered_in_list none join f list) (of_block (list_of ls h k list))
      gathered_in_list_resolved k no_command p = at_none
      gathered_in_list_resolved k (and_command c list) p =
          let i = k + length (command_sites h c) in
          at_join (gathered none join f c) (gathered_in_list none join f list) (walks.gathered least meet g (command_of ls h k c)) (of_block (list_of ls h i list))
          (gathered_resolved k c p.0) (gathered_in_list_resolved i list p.1)
