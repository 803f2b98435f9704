-- The plain program of a design keeps the rules of its type.
use Rattle.sap_lemmas.proofs.Common.{◌≡◌, ℕ, zero, suc, ◌+◌, ◌≤◌, List, [], ◌∷◌, ◌++◌, map, Bool, true, false, ◌||◌, refl, sym, ap₂, ◌∙◌, subst, if◌then◌else◌, arith, nat_lt, inl, inr, AllByRecursion, pow_pos, true_is_not_false, all_append, or_right, map-append}
use Rattle.sap_resolved.proofs.SizedLemmas.{ranged_width}
use Rattle.sap_net.proofs.NamesLemmas.{among_behind, among_front}
use Rattle.sap_maps.specs.Prelude.{Name}
use Rattle.sap_meaning.specs.Program as program
use Rattle.sap_meaning.specs.Prelude.{World, Kind, entity, root, children, width, is_input, is_register, is_memory, is_dynamic, State, state_node, Group, and_node, Command, lone, try, if_else, try_then, case_of, Arms, last_arm, and_arm, Block, end_block, command_then, kind_is_input, kind_is_register, kind_is_memory, kind_is_state, SizedProgram}
use Rattle.sap_resolved.specs.Sized.Ranges.{IsWidth, Ranged, RangedArms, RangedBlock, RangedState, RangedGroup, RangedProgram}
use Rattle.sap_net.specs.Names.{is_name, is_among, AreDistinct}
use Rattle.sap_ir.specs.Prelude.{Source, IsGuarded, IsPlainVar, IsRegisterVar, IsMemoryVariable, declared, is_helping, variable_names, Nested, declarations, seat_width}
use Rattle.sap_ir.specs.declared.guarded.Var.{Var}
use Rattle.sap_ir.proofs.plain.SeatWidths.{seat_positive, seat_within}
use Rattle.sap_interface.specs.StandsFor.{Named, world, depth}
use Rattle.sap_tagged.specs.Prelude.{Key, value_key, tag_key, first_key, inner_key, key_name, Setting, setting_of, arm_count, wires, wires_block, saved, wires_group, variable, wire, level_at_start, value_var, tag_var, seat_var, for_entities, shown_registers, has_own_tag, tag_registers, seat_registers, site_wires, step_wires, command_wires, arms_wires, block_wires, state_wires, group_wires, first_wires, inner_wires, memory_of, tags_of, plain_of}
use Rattle.sap_tagged.proofs.Members.{In, among_in, in_front}
use Rattle.sap_tagged.proofs.Premises.{Design}
use Rattle.sap_tagged.proofs.Distinct.{once_join, lists_apart, distinct_keys, entities_once, entities_all, entities_named, site_keys, sites_once, sites_named, list_number, all_keys, all_named, register_lists}
use Rattle.sap_tagged.proofs.Conditions.{GroupConditions}
use Rattle.sap_tagged.proofs.Fits.{one_bit}
use Rattle.sap_tagged.proofs.Namings.{key_is_name, key_no_help}

-- what the rules ask of a design's program besides
pub record Fitting (d : Named) (tag : ℕ) : Type 0 where
  pub sized : SizedProgram d.program
  pub ranged : RangedProgram d.program
  pub conditions : GroupConditions (world d) d.program.states
  pub wide : IsWidth tag
  pub few_levels : (world d).order.count ≤ 64

all_named_keys : (d : Named) (P : Name → Type 0) → ((a : Key) → P (key_name d a)) → (ks : List Key) → AllByRecursion P (map (key_name d) ks)
all_named_keys d P f [] = tt
all_named_keys d P f (a ∷ ks) = (f a, all_named_keys d P f ks)

-- kinds

plain_kind : (k : Kind) → (kind_is_input k || (kind_is_register k || kind_is_memory k)) ≡ true → kind_is_state k ≡ false
plain_kind (program.state place last) h = absurd (true_is_not_false (sym h))
plain_kind _ h = refl

module _ (d : Named) (tag sites : ℕ) (design : Design d tag sites) (fit : Fitting d tag) where
  abbrev w : World
  w = world d

  abbrev p : Nested
  p = plain_of d tag sites

  abbrev src : Source
  src = declarations (plain_of d tag sites)

  abbrev set : Setting
  set = setting_of d tag

  each : {A : Type 0} (P : A → Type 0) (picks : ℕ → Bool) (of : ℕ → List A) → ((x : ℕ) → picks x ≡ true → AllByRecursion P (of x))
      → AllByRecursion P (for_entities picks of 0 w.entities)
  each P picks of f = entities_all P picks of f 0 w.entities

  pub all_names : (P : Name → Type 0) → ((a : Key) → P (key_name d a)) → AllByRecursion P (declared src)
  all_names P f =
      subst (λ (ns : List Name). AllByRecursion P ns) (sym (all_named d tag sites design.names)) (all_named_keys d P f (all_keys d tag sites design.names))

  -- widths and first numbers

  value_width : (x : ℕ) → (is_input w x || (is_register w x || is_memory w x)) ≡ true → IsWidth (width w x)
  value_width x h = fit.ranged.widths x (plain_kind (entity w x).kind h)

  inputs_fine : AllByRecursion IsPlainVar src.inputs
  inputs_fine =
      (each IsPlainVar (is_input w) (λ x. value_var d x 0 ∷ tag_var d tag x 0 ∷ []) (λ x h. ((value_width x (rw h refl), refl), ((fit.wide, refl), tt))))

  registers_fine : AllByRecursion IsRegisterVar src.registers
  registers_fine =
      (all_append IsRegisterVar (shown_registers d tag) (tag_registers d tag ++ seat_registers d)
      (each IsRegisterVar (is_register w) (λ x. value_var d x (entity w x).initial ∷ tag_var d tag x (level_at_start d x) ∷ [])
      (λ x h. ((value_width x (or_right (is_input w x) (is_register w x || is_memory w x) (rw h refl)), fit.sized.initials x), ((fit.wide, design.small _), tt))))
      (all_append IsRegisterVar (tag_registers d tag) (seat_registers d)
      (each IsRegisterVar (has_own_tag d) (λ x. tag_var d tag x (level_at_start d x) ∷ []) (λ x h. ((fit.wide, design.small _), tt)))
      (all_append IsRegisterVar (for_entities (λ q. nat_lt 0 (children w q)) (λ q. seat_var d q ∷ []) 0 w.entities) (seat_var d (root w) ∷ [])
      (each IsRegisterVar (λ q. nat_lt 0 (children w q)) (λ q. seat_var d q ∷ []) (λ x h. (seat_fine x, tt))) (seat_fine (root w), tt))))
    where
      seat_fine : (q : ℕ) → IsRegisterVar (seat_var d q)
      seat_fine q = ((seat_positive (children w q), seat_within (children w q)), pow_pos (seat_width (children w q)))

  bit_var : (k : ℕ) → IsPlainVar (wire d k 1)
  bit_var k = (one_bit, refl)

  tag_wire : (k : ℕ) → IsPlainVar (wire d k tag)
  tag_wire k = (fit.wide, refl)

  step_vars : (k : ℕ) → AllByRecursion IsPlainVar (step_wires d tag k)
  step_vars k = (bit_var k, (tag_wire (k + 1), (tag_wire (k + 2), (tag_wire (k + 3), (bit_var (k + 4), tt)))))

  mutual
    command_vars : (k : ℕ) (c : Command) → Ranged w c → AllByRecursion IsPlainVar (command_wires d tag k c)
    command_vars k (lone t) r = step_vars k
    command_vars k (try t hang h) r = all_append IsPlainVar (step_wires d tag k) (block_wires d tag (k + 5) h) (step_vars k) (block_vars (k + 5) h r.1)
    command_vars k (if_else hang e a b) r = (
      tag_wire k,
      (
        tag_wire (k + 1),
        all_append IsPlainVar (block_wires d tag (k + 2) a) (block_wires d tag (k + 2 + wires_block a) b)
            (block_vars (k + 2) a r.1) (block_vars (k + 2 + wires_block a) b r.2),
      ),
    )
    command_vars k (try_then t hang a b) r =
        all_append IsPlainVar (step_wires d tag k) (block_wires d tag (k + 5) a ++ block_wires d tag (k + 5 + wires_block a) b) (step_vars k)
        (all_append IsPlainVar (block_wires d tag (k + 5) a) (block_wires d tag (k + 5 + wires_block a) b) (block_vars (k + 5) a r.1) (block_vars (k + 5 + wires_block a) b r.2))
    command_vars k (case_of hang e arms) r = (
      tag_wire k,
      (
        tag_wire (k + 1),
        (
          (ranged_width w e r.0, refl),
          (((seat_positive (suc (arm_count arms)), seat_within (suc (arm_count arms))), refl), arms_vars (k + 4) arms r.1),
        ),
      ),
    )

    arms_vars : (k : ℕ) (arms : Arms) → RangedArms w arms → AllByRecursion IsPlainVar (arms_wires d tag k arms)
    arms_vars k (last_arm b) r = block_vars k b r
    arms_vars k (and_arm constants b arms) r =
        all_append IsPlainVar (block_wires d tag k b) (arms_wires d tag (k + wires_block b) arms) (block_vars k b r.0) (arms_vars (k + wires_block b) arms r.1)

    block_vars : (k : ℕ) (b : Block) → RangedBlock w b → AllByRecursion IsPlainVar (block_wires d tag k b)
    block_vars k end_block r = tt
    block_vars k (command_then c cs) r = all_append IsPlainVar (command_wires d tag k c) (block_wires d tag (k + wires c) cs)
        (command_vars k c r.0) (block_vars (k + wires c) cs r.1)

  mutual
    state_vars : (k : ℕ) (t : State) → RangedState w t → AllByRecursion IsPlainVar (state_wires d tag k t)
    state_vars k (state_node s b g) r = (
      tag_wire k,
      all_append IsPlainVar (block_wires d tag (k + 1) b) (group_wires d tag (k + 1 + wires_block b) g)
          (block_vars (k + 1) b r.0) (group_vars (k + 1 + wires_block b) g r.1),
    )

    group_vars : (k : ℕ) (g : Group) → RangedGroup w g → AllByRecursion IsPlainVar (group_wires d tag k g)
    group_vars k program.no_node r = tt
    group_vars k (and_node (state_node s b g) rest) r =
        all_append IsPlainVar (state_wires d tag k (state_node s b g)) (group_wires d tag (k + (1 + wires_block b + wires_group g)) rest) (state_vars k (state_node s b g) r.0)
        (group_vars (k + (1 + wires_block b + wires_group g)) rest r.1)

  site_vars : (k n : ℕ) → AllByRecursion IsPlainVar (site_wires d tag k n)
  site_vars k zero = tt
  site_vars k (suc n) = ((one_bit, refl), ((fit.wide, refl), site_vars (k + 1) n))

  wires_fine : AllByRecursion IsPlainVar src.wires
  wires_fine =
      (all_append IsPlainVar (site_wires d tag 1 sites) (first_wires d tag ++ (inner_wires d tag ++ group_wires d tag 0 d.program.states)) (site_vars 1 sites)
      (all_append IsPlainVar (first_wires d tag) (inner_wires d tag ++ group_wires d tag 0 d.program.states)
      (each IsPlainVar (saved w) (λ m. variable (key_name d (first_key m)) tag 0 ∷ []) (λ x h. ((fit.wide, refl), tt)))
      (all_append IsPlainVar (inner_wires d tag) (group_wires d tag 0 d.program.states)
      (each IsPlainVar (λ q. nat_lt 0 (children w q)) (λ q. variable (key_name d (inner_key q)) tag 0 ∷ []) (λ x h. ((fit.wide, refl), tt)))
      (group_vars 0 d.program.states fit.ranged.states))))

  memories_fine : AllByRecursion IsMemoryVariable src.memories
  memories_fine =
      (each IsMemoryVariable (is_memory w) (λ m. memory_of d m ∷ tags_of d tag m)
      (λ m h. (
        (value_width m (or_right (is_input w m) (is_register w m || is_memory w m) (or_right (is_register w m) (is_memory w m) h)), fit.ranged.depths m h, pow_pos (width w m)),
        by m h (is_dynamic w m),
      )))
    where
      by : (m : ℕ) → is_memory w m ≡ true → (b : Bool)
          → AllByRecursion IsMemoryVariable (if b then [] else record { name = key_name d (tag_key m); width = tag; depth = depth d m; start = level_at_start d m } ∷ [])
      by m h true = tt
      by m h false = ((fit.wide, fit.ranged.depths m h, design.small _), tt)

  -- ports

  among_each : (ys : List Name) (xs : List Var) → ((v : Var) → In xs v → is_among v.name ys ≡ true) → AllByRecursion (λ (x : Name). is_among x ys ≡ true) (variable_names xs)
  among_each ys [] f = tt
  among_each ys (x ∷ xs) f = (f x (inl refl), among_each ys xs (λ v i. f v (inr i)))

  ports_declared : AllByRecursion (λ (x : Name). is_among x (variable_names src.registers ++ variable_names src.wires) ≡ true) src.ports
  ports_declared =
      let all = variable_names src.registers ++ variable_names src.wires in
      all_append (λ (x : Name). is_among x all ≡ true) (variable_names (shown_registers d tag)) (variable_names (site_wires d tag 1 sites))
      (among_each all (shown_registers d tag)
      (λ v i. among_front v.name (variable_names src.registers) (variable_names src.wires)
      (among_in src.registers v (in_front (shown_registers d tag) (tag_registers d tag ++ seat_registers d) v i))))
      (among_each all (site_wires d tag 1 sites)
      (λ v i.
      among_behind v.name (variable_names src.registers) (variable_names src.wires)
      (among_in src.wires v (in_front (site_wires d tag 1 sites) (first_wires d tag ++ (inner_wires d tag ++ group_wires d tag 0 d.program.states)) v i))))

  of_sites : (k n : ℕ) → AllByRecursion (λ a. 2 ≤ list_number w a) (site_keys k n)
  of_sites k zero = tt
  of_sites k (suc n) = (omega arith, (omega arith, of_sites (k + 1) n))

  abbrev of_all : (ℕ → Bool) → (ℕ → List Key) → List Key
  of_all picks of = for_entities picks of 0 w.entities

  abbrev port_keys : List Key
  port_keys = of_all (is_register w) (λ x. value_key x ∷ tag_key x ∷ []) ++ site_keys 1 sites

  ports_keys : src.ports ≡ map (key_name d) port_keys
  ports_keys =
      ap₂ (λ (a b : List Name). a ++ b) (entities_named {A =
      Var} (λ x. x.name) d (is_register w) (λ x. value_var d x (entity w x).initial ∷ tag_var d tag x (level_at_start d x) ∷ [])
      (λ x. value_key x ∷ tag_key x ∷ []) (λ x. refl) 0 w.entities) (sites_named d tag 1 sites)
      ∙ sym (map-append (key_name d) (of_all (is_register w) (λ x. value_key x ∷ tag_key x ∷ [])) (site_keys 1 sites))

  ports_once : AreDistinct src.ports
  ports_once =
      subst AreDistinct (sym ports_keys)
      (distinct_keys d design.names port_keys
      (once_join (of_all (is_register w) (λ x. value_key x ∷ tag_key x ∷ [])) (site_keys 1 sites)
      (entities_once (is_register w) (λ x. value_key x ∷ tag_key x ∷ []) (λ m. (refl, (refl, tt))) (λ m. ((refl, tt), (tt, tt))) 0 w.entities) (sites_once 1 sites)
      (lists_apart (list_number w) 1 (of_all (is_register w) (λ x. value_key x ∷ tag_key x ∷ [])) (site_keys 1 sites)
      (entities_all (λ a. list_number w a ≡ 1) (is_register w) (λ x. value_key x ∷ tag_key x ∷ [])
      (λ x h. let r = register_lists (entity w x).kind (is_dynamic w x) h in (r.0, (r.1, tt))) 0 w.entities) (of_sites 1 sites))))

  pub guarded : IsGuarded (declarations (plain_of d tag sites))
  guarded = record {
    named = all_names (λ (x : Name). is_name x ≡ true) (key_is_name d design.names);
    not_helping = all_names (λ (x : Name). is_helping x ≡ false) (key_no_help d design.names);
    declared_once = design.distinct;
    inputs = inputs_fine;
    wires = wires_fine;
    registers = registers_fine;
    memories = memories_fine;
    ports_declared = ports_declared;
    ports_once = ports_once;
    commands = tt;
  }
