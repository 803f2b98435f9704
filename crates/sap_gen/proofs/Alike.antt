-- Two lattices of the same names and the same order give a design the same program, and its states the same rows.
use Rattle.sap_lemmas.proofs.Common.{◌≡◌, ℕ, ◌+◌, List, [], ◌∷◌, ◌++◌, Option, Some, None, ◌-◌, length, map, refl, ap, ap₂, ◌∙◌, if◌then◌else◌, slice_get, unwrap_or}
use Rattle.sap_lattice.specs.Prelude.{name_at, code_of, Levels, level_in, level_named, order_of, Order}
use Rattle.sap_tree.specs.Syntax.{TagExpression, level_of, tag_at, level_at, join_of, TagExpressions, no_tag, and_tag, SimpleCommand, assign, write, set_tag, set_cell_tag, go_to, fall_to_child, Command, lone, try, if_else, try_then, case_of, Arms, last_arm, and_arm, CommandBlock, command_block, ElseBlock, no_else, with_else, CommandList, no_command, and_command, StateTree, state_node, StateList, no_state, and_state, DesignTree}
use Rattle.sap_tree.specs.declared.name.Mention.{Mention}
use Rattle.sap_tree.specs.declared.syntax.Decl.{Decl}
use Rattle.sap_tree.specs.declared.syntax.Decl.TheVariants.{Input, Register, Memory}
use Rattle.sap_tree.specs.declared.syntax.Kind.{Kind}
use Rattle.sap_tree.specs.declared.syntax.Kind.TheVariants.{Dynamic, Enforced}
use Rattle.sap_tree.specs.declared.syntax.Under.{Under}
use Rattle.sap_names.specs.declared.entity.Entity as tree
use Rattle.sap_names.specs.Prelude.{entities_of, what_is, index_width}
use Rattle.sap_meaning.specs.Prelude.{Block, Entity, Group, World, Program, root, root_touches, Store, After, level, number, own, labelled_run}
use Rattle.sap_meaning.specs.Program as program
use Rattle.sap_interface.specs.Prelude.{named_of, Named, name, world}
use Rattle.sap_stim.specs.Rows.{Shown, row_text}
use Rattle.sap_sim.specs.Labelled.LabelledRows.{register_shown, registers_shown}
use Rattle.sap_gen.specs.Design.{generated_design}
use Rattle.sap_gen.specs.Stream.{cycle_count, generated_stream}
use Rattle.sap_gen.specs.Text.{generated_run, refusal_count, row_of_cycle, row_shown, summary, text_over}
use Rattle.sap_resolved.specs.Fill.{filled_group, program_of, table}
use Rattle.sap_resolved.specs.Resolve as resolve
use Rattle.sap_shape.specs.Sites.{Surroundings, simple_sites, command_sites, block_sites, state_sites}
use Rattle.sap_resolved.specs.Terms.{entity_number, level_term, level_terms, term_of}
use Rattle.sap_resolved.specs.Worlds.{all_declared, authority_level, authority_of, declared, declared_level, group_entities, group_children, group_length, is_dynamic_kind, level_number, no_children, state_entities, states_below, states_in, world_of}

module _ (l m : Levels) (names : l.names ≡ m.names) (order : order_of l ≡ order_of m) where
  level_same : (x : Mention) → level_number l x ≡ level_number m x
  level_same x = ap (λ (ns : List (List ℕ)). unwrap_or (level_named ns x.name) (length ns)) names

  bottom_same : (order_of l).bottom ≡ (order_of m).bottom
  bottom_same = ap (λ (o : Order). o.bottom) order

  -- entities

  declared_level_same : (k : Kind) → declared_level l k ≡ declared_level m k
  declared_level_same (Dynamic place) = bottom_same
  declared_level_same (Enforced level under) = level_same level

  authority_level_same : (u : Option Under) → authority_level l u ≡ authority_level m u
  authority_level_same None = bottom_same
  authority_level_same (Some under) = level_same under.level

  authority_same : (k : Kind) → authority_of l k ≡ authority_of m k
  authority_same (Dynamic place) = bottom_same
  authority_same (Enforced level under) = authority_level_same under

  abbrev with_levels : Entity → (declared authority : ℕ) → Entity
  with_levels e d a = record { kind = e.kind; width = e.width; dynamic = e.dynamic; declared = d; authority = a; initial = e.initial }

  declared_same : (d : Decl) → declared l d ≡ declared m d
  declared_same (Input place name width) = ap₂ (with_levels (declared m (Input place name width))) bottom_same bottom_same
  declared_same (Register place name width kind start) = ap₂ (with_levels (declared m (Register place name width kind start))) (declared_level_same kind) (authority_same kind)
  declared_same (Memory place name width depth kind) = ap₂ (with_levels (declared m (Memory place name width depth kind))) (declared_level_same kind) (authority_same kind)

  all_declared_same : (ds : List Decl) → all_declared l ds ≡ all_declared m ds
  all_declared_same [] = refl
  all_declared_same (d ∷ ds) = ap₂ (λ (e : Entity) (es : List Entity). e ∷ es) (declared_same d) (all_declared_same ds)

  mutual
    state_entities_same : (n x : ℕ) (s : StateTree) → state_entities l n x s ≡ state_entities m n x s
    state_entities_same n x (state_node place name kind body children) =
        ap₂ (λ (e : Entity) (es : List Entity). e ∷ es)
        (ap₂ (with_levels (record {
          kind = program.state n (x + states_below children);
          width = 0;
          dynamic =
              is_dynamic_kind kind;
          declared = 0;
          authority = 0;
          initial = 0;
        })) (declared_level_same kind) (authority_same kind))
        (group_entities_same 0 (x + 1) children)

    group_entities_same : (n x : ℕ) (g : StateList) → group_entities l n x g ≡ group_entities m n x g
    group_entities_same n x no_state = refl
    group_entities_same n x (and_state s rest) =
        ap₂ (λ (es fs : List Entity). es ++ fs) (state_entities_same n x s) (group_entities_same (n + 1) (x + states_in s) rest)

  world_same : (d : DesignTree) → world_of l d ≡ world_of m d
  world_same d =
      ap₂ (λ (o : Order) (es : List Entity). let w : World =
      record { order = o; entities = es; children = no_children d.declarations ++ group_children d.states ++ group_length d.states ∷ [] } in w) order
      (ap₂ (λ (es fs : List Entity). es ++ fs) (all_declared_same d.declarations) (group_entities_same 0 (length d.declarations) d.states))

  -- commands

  mutual
    tag_same : (es : List tree.Entity) (t : TagExpression) → level_term l es t ≡ level_term m es t
    tag_same es (level_of x) = ap program.fixed (level_same x)
    tag_same es (tag_at place e) = refl
    tag_same es (level_at place e) = refl
    tag_same es (join_of place parts) = tags_same es parts

    tags_same : (es : List tree.Entity) (ts : TagExpressions) → level_terms l es ts ≡ level_terms m es ts
    tags_same es no_tag = ap program.fixed bottom_same
    tags_same es (and_tag t no_tag) = tag_same es t
    tags_same es (and_tag t (and_tag u parts)) = ap₂ program.both (tag_same es t) (tags_same es (and_tag u parts))

  step_same : (h : Surroundings) (n : ℕ) (k : SimpleCommand) → resolve.step_of l h n k ≡ resolve.step_of m h n k
  step_same h n (assign target e) = refl
  step_same h n (write target index e) = refl
  step_same h n (set_tag place target tag) = ap (program.retag n (entity_number h.entities target.name)) (tag_same h.entities tag)
  step_same h n (set_cell_tag place target index tag) =
      ap (program.retag_cell n (entity_number h.entities target.name) (term_of h.entities index (index_width (what_is h.entities target.name)))) (tag_same h.entities tag)
  step_same h n (go_to place target) = refl
  step_same h n (fall_to_child place) = refl

  mutual
    command_same : (h : Surroundings) (k : ℕ) (c : Command) → resolve.command_of l h k c ≡ resolve.command_of m h k c
    command_same h k (lone c) = ap program.lone (step_same h (resolve.site_number h k c) c)
    command_same h k (try c place handler) =
        ap₂ (λ (s : program.Step) (b : Block). program.try s [] b) (step_same h (resolve.site_number h k c) c) (block_same h (k + length (simple_sites h c)) handler)
    command_same h k (if_else place condition one other) =
        ap₂ (λ (a b : Block). program.if_else [] (term_of h.entities condition (Some 1)) a b) (block_same h k one) (else_same h (k + length (block_sites h one)) other)
    command_same h k (try_then c place accepted refused) =
        ap (λ (s : program.Step). program.try_then s [] (resolve.block_of l h (k + length (simple_sites h c)) accepted)
        (resolve.block_of l h (k + length (simple_sites h c) + length (block_sites h accepted)) refused))
        (step_same h (resolve.site_number h k c) c)
        ∙ ap₂ (λ (a b : Block). program.try_then (resolve.step_of m h (resolve.site_number h k c) c) [] a b) (block_same h (k + length (simple_sites h c)) accepted)
        (block_same h (k + length (simple_sites h c) + length (block_sites h accepted)) refused)
    command_same h k (case_of place e arms) = ap (λ (list : program.Arms). program.case_of [] (term_of h.entities e None) list) (arms_same h k arms)

    arms_same : (h : Surroundings) (k : ℕ) (arms : Arms) → resolve.arms_of l h k arms ≡ resolve.arms_of m h k arms
    arms_same h k (last_arm b) = ap program.last_arm (block_same h k b)
    arms_same h k (and_arm constants b arms) =
        ap₂ (λ (x : Block) (list : program.Arms). program.and_arm (resolve.numbers_of constants) x list) (block_same h k b) (arms_same h (k + length (block_sites h b)) arms)

    block_same : (h : Surroundings) (k : ℕ) (b : CommandBlock) → resolve.block_of l h k b ≡ resolve.block_of m h k b
    block_same h k (command_block cs after) = list_same h k cs

    else_same : (h : Surroundings) (k : ℕ) (b : ElseBlock) → resolve.else_of l h k b ≡ resolve.else_of m h k b
    else_same h k no_else = refl
    else_same h k (with_else b) = block_same h k b

    list_same : (h : Surroundings) (k : ℕ) (cs : CommandList) → resolve.list_of l h k cs ≡ resolve.list_of m h k cs
    list_same h k no_command = refl
    list_same h k (and_command c cs) =
        ap₂ (λ (x : program.Command) (b : Block). program.command_then x b) (command_same h k c) (list_same h (k + length (command_sites h c)) cs)

  -- states

  mutual
    state_same : (es : List tree.Entity) (k x : ℕ) (s : StateTree) → resolve.state_of l es k x s ≡ resolve.state_of m es k x s
    state_same es k x (state_node place name kind body children) =
        ap₂ (λ (b : Block) (g : Group). program.state_node x b g)
        (block_same (record { entities = es; home = record { name = name.name; kind = kind; children = children } }) k body)
        (group_same es (k + length (block_sites (record { entities = es; home = record { name = name.name; kind = kind; children = children } }) body)) (x + 1) children)

    group_same : (es : List tree.Entity) (k x : ℕ) (g : StateList) → resolve.group_of l es k x g ≡ resolve.group_of m es k x g
    group_same es k x no_state = refl
    group_same es k x (and_state s rest) =
        ap₂ (λ (t : program.State) (g : Group). program.and_node t g) (state_same es k x s) (group_same es (k + length (state_sites es s)) (x + states_in s) rest)

  pub program_same : (d : DesignTree) → program_of l d ≡ program_of m d
  program_same d =
      ap₂ (λ (w : World) (g : Group). let p : Program = record { world = w; states = filled_group w (root w) g; hang = table (root w) (root_touches w g) } in p) (world_same d)
      (group_same (entities_of d) 1 (length d.declarations) d.states)

  pub named_same : (d : DesignTree) → named_of l d ≡ named_of m d
  named_same d =
      ap₂ (λ (p : Program) (o : Order). let n : Named = record { program = p; names = map (λ e. e.name.name) (entities_of d); code = code_of o } in n) (program_same d) order

  -- rows

  shown_same : (d : Named) (s : Store) (x : ℕ) → register_shown l d s x ≡ register_shown m d s x
  shown_same d s x =
      ap (λ (ns : List (List ℕ)). let r : Shown =
      record {
        name = name d x;
        value = number (own x) s;
        level =
            Some (name_at ns (level_in (length ns) (level (world d) (own x) s)));
        tag = d.code (level (world d) (own x) s);
      } in r) names

  all_shown_same : (d : Named) (s : Store) (x : ℕ) (es : List Entity) → registers_shown l d s x es ≡ registers_shown m d s x es
  all_shown_same d s x [] = refl
  all_shown_same d s x (e ∷ es) =
      ap₂ (λ (r : Shown) (rest : List Shown). (if program.kind_is_register e.kind then r ∷ [] else []) ++ rest) (shown_same d s x) (all_shown_same d s (x + 1) es)

  row_same : (d : Named) (c : ℕ) (o : Option After) → row_shown l d c o ≡ row_shown m d c o
  row_same d c None = refl
  row_same d c (Some a) = ap (row_text c) (all_shown_same d a.store 0 (world d).entities)

  -- the text of the generated run

  abbrev text_by : Program → Named → (n : ℕ) → List ℕ
  text_by p d n = summary n (refusal_count (labelled_run p (generated_stream n))) ++ row_of_cycle l d (cycle_count n) (labelled_run p (generated_stream n))

  pub text_same : (n : ℕ) → text_over l n ≡ text_over m n
  text_same n =
      ap₂ (λ (p : Program) (d : Named). text_by p d n) (program_same (generated_design n)) (named_same (generated_design n))
      ∙ ap (λ (row : List ℕ). summary n (refusal_count (generated_run m n)) ++ row)
      (row_same (named_of m (generated_design n)) (cycle_count n) (slice_get (generated_run m n) (cycle_count n - 1)))
