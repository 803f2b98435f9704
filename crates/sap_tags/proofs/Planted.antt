-- What a group is after a state, and after each of a list.
use Rattle.std.proofs.Common.{◌≡◌, ℕ, Bool, zero, suc, ◌+◌, ◌<◌, ◌≤◌, List, [], ◌∷◌, ◌++◌, length, get_or, drop, refl, sym, ap, ap₂, ◌∙◌, arith, add-one}
use Rattle.sap_ir.proofs.PlainLemmas.{planted_end}
use Rattle.sap_maps.specs.Maps.{Name}
use Rattle.sap_meaning.specs.Program.{root, listed, Block, State, state_node, Group, no_node, and_node}
use Rattle.sap_meaning.specs.Checks as checks
use Rattle.sap_ir.specs.Prelude.{Body, stop, Forest, none, state, body_of, follow, forest_of, state_before, planted}
use Rattle.sap_ir.specs.declared.plain.nested.PlainState.{PlainState}
use Rattle.sap_ir.specs.declared.plain.nested.PlainState.{PlainState-F, roll-PlainState}
use Rattle.sap_ir.proofs.plain.Views.{follow-more, forest_of-none, forest_of-push, state_before-roll}
use Rattle.sap_program.specs.Prelude.{flags, block_of, state_of, group_of}
use Rattle.sap_program.specs.declared.program.State.{State as StateCode, out-State}
use Rattle.sap_program.specs.declared.program.Command.{Command}
use Rattle.sap_program.specs.declared.home.Home.{Home}
use Rattle.sap_tags_terms.specs.Parts.{commands_wires, state_wires, states_wires}
use Rattle.sap_tags.specs.Built.{commands_body, state_forest, states_forest, top_forest, tops_forest}
use Rattle.sap_tags_terms.specs.Code.{named_in, entities_in, setting_in, home_in}
use Rattle.sap_tagged.specs.Prelude.{first_key, tag_key, wire_key, inner_key, entity_word, var, gives, raises, block_plain, wires_block, wires_state, saves, saved, group_plain, top_plain}
use Rattle.sap_tagged.specs.Setting as pass
use Rattle.sap_tags_terms.specs.declared.setting.Setting.{Setting}
use Rattle.sap_program.proofs.Shown.{state_of-out}
use Rattle.sap_tags_terms.proofs.Listed.{group_of-more, wires_block_are, wires_state_are, state_wires_are, states_drop}
use Rattle.sap_tags_effects.proofs.Raised.{raises_follow, entities_count}
use Rattle.sap_tags_effects.proofs.Pushed.{for_each_follow}

-- groups, one state more

planted_more : (a b c : Forest) → planted (planted a b) c ≡ planted a (planted b c)
planted_more none b c = refl
planted_more (state x d kids rest) b c = ap (state x d kids) (planted_more rest b c)

group_one : (d : pass.Setting) (parent k : ℕ) (t : State) (g : Group)
    → group_plain d parent k (and_node t g) ≡ planted (group_plain d parent k (and_node t no_node)) (group_plain d parent (k + wires_state t) g)
unfolding group_plain
group_one d parent k (state_node x b kids) g = refl

top_one : (d : pass.Setting) (hangs : ℕ → Bool) (k : ℕ) (t : State) (g : Group)
    → top_plain d hangs k (and_node t g) ≡ planted (top_plain d hangs k (and_node t no_node)) (top_plain d hangs (k + wires_state t) g)
unfolding top_plain
top_one d hangs k (state_node x b kids) g = refl

module _ (s : Setting) where
  -- a state

  node_forest : (d : pass.Setting) (parent k x : ℕ) (b : Block) (kids : Group) → group_plain d parent k (and_node (state_node x b kids) no_node)
      ≡ state (d.state_name x) (gives d (wire_key k) (var d (inner_key parent))
      (block_plain d (record { state = x; parent = parent; children = kids }) k (k + 1) b)) (group_plain d x (k + 1 + wires_block b) kids) none
  unfolding group_plain
  node_forest d parent k x b kids = refl

  -- the wires behind those of a body
  behind_body : (k m : ℕ) (t : StateCode) (bl : List Command) → bl ≡ (out-State t).body.items → m ≡ k + 1 + commands_wires bl
      → m ≡ k + 1 + wires_block (block_of (entities_in s) (out-State t).body.items)
  behind_body k m t bl be me =
      me ∙ ap (λ (l : List Command). k + 1 + commands_wires l) be ∙ ap (λ (w : ℕ). k + 1 + w) (sym (wires_block_are (entities_in s) (out-State t).body.items))

  pub state_made : (parent k m : ℕ) (t : StateCode) (at : Home) (bl : List Command) (kl : List StateCode) (y : PlainState-F PlainState) (b1 : Body)
      → at.state ≡ (out-State t).number → at.parent ≡ parent → at.children.now ≡ kl → bl ≡ (out-State t).body.items
      → kl ≡ (out-State t).children.items → m ≡ k + 1 + commands_wires bl
      → y.name ≡ entity_word (named_in s) (out-State t).number
      → b1 ≡ gives (setting_in s) (wire_key k) (var (setting_in s) (inner_key parent)) stop
      → body_of y.cmds.items ≡ follow b1 (commands_body s at k (k + 1) bl)
      → forest_of y.children.items ≡ states_forest s (out-State t).number m kl
      → state_before (roll-PlainState y) none ≡ state_forest s parent k t
  unfolding state_forest states_forest commands_body
  state_made parent k m t at bl kl y b1 xe pe ce be ke me ne e1 body kids =
      let d = setting_in s in
      let n = entities_in s in
      let x = (out-State t).number in
      let b = block_of n (out-State t).body.items in
      let g = group_of n (out-State t).children.items in
      let here : ℕ → ℕ → List StateCode → checks.Home = λ q r l. record { state = q; parent = r; children = group_of n l } in
      let front : Body → Body = λ c. gives d (wire_key k) (var d (inner_key parent)) c in
      let first : body_of y.cmds.items ≡ front (block_plain d (here x parent (out-State t).children.items) k (k + 1) b) =
      body
      ∙ ap (λ (c : Body). follow c (block_plain d (home_in s at) k (k + 1) (block_of n bl))) e1
      ∙ ap₂ (λ (q r : ℕ). front (block_plain d (here q r at.children.now) k (k + 1) (block_of n bl))) xe pe
      ∙ ap₂ (λ (l : List StateCode) (cs : List Command). front (block_plain d (here x parent l) k (k + 1) (block_of n cs))) (ce ∙ ke) be in
      let second : forest_of y.children.items ≡ group_plain d x (k + 1 + wires_block b) g =
      kids ∙ ap₂ (λ (j : ℕ) (l : List StateCode). group_plain d x j (group_of n l)) (behind_body k m t bl be me) ke in
      state_before-roll y none
      ∙ ap₂ (λ (m : Name) (c : Body). state m c (forest_of y.children.items) none) ne first
      ∙ ap (λ (f : Forest). state (d.state_name x) (front (block_plain d (here x parent (out-State t).children.items) k (k + 1) b)) f none) second
      ∙ sym (ap (λ (q : State). group_plain d parent k (and_node q no_node)) (state_of-out n t) ∙ node_forest d parent k x b g)

  -- the states of a group

  module _ (parent : ℕ) where
    pub forest_past : (k : ℕ) (ts : List StateCode) (i : ℕ) → length ts ≤ i → states_forest s parent k (drop i ts) ≡ none
    unfolding states_forest group_plain group_of
    forest_past k [] zero l = refl
    forest_past k [] (suc i) l = refl
    forest_past k (t ∷ ts) zero l = absurd (omega arith)
    forest_past k (t ∷ ts) (suc i) l = forest_past k ts i (omega arith)

    forest_more : (k : ℕ) (t : StateCode) (ts : List StateCode)
        → states_forest s parent k (t ∷ ts) ≡ planted (state_forest s parent k t) (states_forest s parent (k + state_wires t) ts)
    unfolding states_forest state_forest
    forest_more k t ts =
        let d = setting_in s in
        let n = entities_in s in
        ap (group_plain d parent k) (group_of-more n t ts)
        ∙ group_one d parent k (state_of n t) (group_of n ts)
        ∙ ap (λ (w : ℕ). planted (group_plain d parent k (and_node (state_of n t) no_node)) (group_plain d parent (k + w) (group_of n ts))) (wires_state_are n t)

    forest_drop : (k : ℕ) (ts : List StateCode) (i : ℕ) (e : StateCode) → i < length ts
        → states_forest s parent k (drop i ts) ≡ planted (state_forest s parent k (get_or ts i e)) (states_forest s parent (k + state_wires (get_or ts i e)) (drop (i + 1) ts))
    forest_drop k [] i e l = absurd (omega arith)
    forest_drop k (t ∷ ts) zero e l = forest_more k t ts
    forest_drop k (t ∷ ts) (suc i) e l = let r = forest_drop k ts i e (omega arith) in simp (add-one) (simp (add-one) at r)

    pub states_step : (ts : List StateCode) (i : ℕ) (t : StateCode) (k m : ℕ) (now new : List PlainState) (r : PlainState) (all : Forest)
        → i < length ts → t ≡ get_or ts i t → new ≡ now ++ r ∷ [] → state_before r none ≡ state_forest s parent k t → m ≡ k + state_wires t
        → planted (forest_of now) (states_forest s parent k (drop i ts)) ≡ all → planted (forest_of new) (states_forest s parent m (drop (i + 1) ts)) ≡ all
    states_step ts i t k m now new r all l e f g w h =
        ap₂ (λ (b : Forest) (j : ℕ). planted b (states_forest s parent j (drop (i + 1) ts))) (ap forest_of f ∙ forest_of-push now r ∙ ap (planted (forest_of now)) g) w
        ∙ planted_more (forest_of now) (state_forest s parent k t) (states_forest s parent (k + state_wires t) (drop (i + 1) ts))
        ∙ ap (λ (y : StateCode). planted (forest_of now) (planted (state_forest s parent k y) (states_forest s parent (k + state_wires y) (drop (i + 1) ts)))) e
        ∙ ap (planted (forest_of now)) (sym (forest_drop k ts i t l)) ∙ h

    pub states_rest : (ts : List StateCode) (i k : ℕ) (now all : Forest) → length ts ≤ i → planted now (states_forest s parent k (drop i ts)) ≡ all → now ≡ all
    states_rest ts i k now all l h = sym (planted_end now) ∙ ap (planted now) (sym (forest_past k ts i l)) ∙ h

  -- the top-level states

  top_node : (d : pass.Setting) (hangs : ℕ → Bool) (k x : ℕ) (b : Block) (kids : Group) → top_plain d hangs k (and_node (state_node x b kids) no_node)
      ≡ state (d.state_name x) (saves d (gives d (wire_key k) (var d (tag_key x))
      (raises d hangs k (block_plain d (record { state = x; parent = root d.world; children = kids }) k (k + 1) b)))) (group_plain d x (k + 1 + wires_block b) kids) none
  unfolding top_plain
  top_node d hangs k x b kids = refl

  -- the body of a top-level state
  top_body : (hl : List ℕ) (k x : ℕ) (b0 b1 b2 b3 b4 c : Body) → hl ≡ s.program.now.hang → b1 ≡ saves (setting_in s) stop
      → b2 ≡ follow b1 (gives (setting_in s) (wire_key k) (var (setting_in s) (tag_key x)) stop)
      → b3 ≡ follow b2 (raises (setting_in s) (listed (flags (entities_in s) hl)) k stop)
      → b4 ≡ follow b3 c
      → b4 ≡ saves (setting_in s) (gives (setting_in s) (wire_key k) (var (setting_in s) (tag_key x))
      (raises (setting_in s) (listed (flags (entities_in s) s.program.now.hang)) k c))
  top_body hl k x b0 b1 b2 b3 b4 c he e1 e2 e3 e4 =
      let d = setting_in s in
      let level : Body = gives d (wire_key k) (var d (tag_key x)) stop in
      let raise : Body = raises d (listed (flags (entities_in s) hl)) k stop in
      e4 ∙ ap (λ (b : Body). follow b c) (e3 ∙ ap (λ (b : Body). follow b raise) (e2 ∙ ap (λ (b : Body). follow b level) e1))
      ∙ follow-more (follow (saves d stop) level) raise c
      ∙ follow-more (saves d stop) level (follow raise c)
      ∙ for_each_follow d first_key (saved d.world) (λ m. var d (tag_key m)) (gives d (wire_key k) (var d (tag_key x)) (follow raise c))
      ∙ ap (λ (b : Body). saves d (gives d (wire_key k) (var d (tag_key x)) b)) (sym (raises_follow d (listed (flags (entities_in s) hl)) k c))
      ∙ ap (λ (l : List ℕ). saves d (gives d (wire_key k) (var d (tag_key x)) (raises d (listed (flags (entities_in s) l)) k c))) he

  pub top_made : (k m : ℕ) (t : StateCode) (at : Home) (hl : List ℕ) (bl : List Command) (kl : List StateCode) (y : PlainState-F PlainState) (b1 b2 b3 : Body)
      → at.state ≡ (out-State t).number → at.parent ≡ entities_in s → at.children.now ≡ kl → hl ≡ s.program.now.hang
      → bl ≡ (out-State t).body.items → kl ≡ (out-State t).children.items → m ≡ k + 1 + commands_wires bl
      → y.name ≡ entity_word (named_in s) (out-State t).number
      → b1 ≡ saves (setting_in s) stop
      → b2 ≡ follow b1 (gives (setting_in s) (wire_key k) (var (setting_in s) (tag_key (out-State t).number)) stop)
      → b3 ≡ follow b2 (raises (setting_in s) (listed (flags (entities_in s) hl)) k stop)
      → body_of y.cmds.items ≡ follow b3 (commands_body s at k (k + 1) bl)
      → forest_of y.children.items ≡ states_forest s (out-State t).number m kl
      → state_before (roll-PlainState y) none ≡ top_forest s k t
  unfolding top_forest states_forest commands_body
  top_made k m t at hl bl kl y b1 b2 b3 xe pe ce he be ke me ne e1 e2 e3 body kids =
      let d = setting_in s in
      let n = entities_in s in
      let x = (out-State t).number in
      let b = block_of n (out-State t).body.items in
      let g = group_of n (out-State t).children.items in
      let here : ℕ → ℕ → List StateCode → checks.Home = λ q r l. record { state = q; parent = r; children = group_of n l } in
      let r : at.parent ≡ root d.world = pe ∙ sym (entities_count s.program.now.entities.items) in
      let front : Body → Body = λ c. saves d (gives d (wire_key k) (var d (tag_key x)) (raises d (listed (flags n s.program.now.hang)) k c)) in
      let first : body_of y.cmds.items ≡ front (block_plain d (here x (root d.world) (out-State t).children.items) k (k + 1) b) =
      top_body hl k x stop b1 b2 b3 (body_of y.cmds.items) (block_plain d (home_in s at) k (k + 1) (block_of n bl)) he e1 e2 e3 body
      ∙ ap₂ (λ (q r : ℕ). front (block_plain d (here q r at.children.now) k (k + 1) (block_of n bl))) xe r
      ∙ ap₂ (λ (l : List StateCode) (cs : List Command). front (block_plain d (here x (root d.world) l) k (k + 1) (block_of n cs))) (ce ∙ ke) be in
      let second : forest_of y.children.items ≡ group_plain d x (k + 1 + wires_block b) g =
      kids ∙ ap₂ (λ (j : ℕ) (l : List StateCode). group_plain d x j (group_of n l)) (behind_body k m t bl be me) ke in
      state_before-roll y none
      ∙ ap₂ (λ (m : Name) (c : Body). state m c (forest_of y.children.items) none) ne first
      ∙ ap (λ (f : Forest). state (d.state_name x) (front (block_plain d (here x (root d.world) (out-State t).children.items) k (k + 1) b)) f none) second
      ∙ sym (ap (λ (q : State). top_plain d (listed (flags n s.program.now.hang)) k (and_node q no_node)) (state_of-out n t)
      ∙ top_node d (listed (flags n s.program.now.hang)) k x b g)

  tops_past : (k : ℕ) (ts : List StateCode) (i : ℕ) → length ts ≤ i → tops_forest s k (drop i ts) ≡ none
  unfolding tops_forest top_plain group_of
  tops_past k [] zero l = refl
  tops_past k [] (suc i) l = refl
  tops_past k (t ∷ ts) zero l = absurd (omega arith)
  tops_past k (t ∷ ts) (suc i) l = tops_past k ts i (omega arith)

  tops_more : (k : ℕ) (t : StateCode) (ts : List StateCode) → tops_forest s k (t ∷ ts) ≡ planted (top_forest s k t) (tops_forest s (k + state_wires t) ts)
  unfolding tops_forest top_forest
  tops_more k t ts =
      let d = setting_in s in
      let n = entities_in s in
      let hangs = listed (flags n s.program.now.hang) in
      ap (top_plain d hangs k) (group_of-more n t ts)
      ∙ top_one d hangs k (state_of n t) (group_of n ts)
      ∙ ap (λ (w : ℕ). planted (top_plain d hangs k (and_node (state_of n t) no_node)) (top_plain d hangs (k + w) (group_of n ts))) (wires_state_are n t)

  tops_at : (k : ℕ) (ts : List StateCode) (i : ℕ) (e : StateCode) → i < length ts
      → tops_forest s k (drop i ts) ≡ planted (top_forest s k (get_or ts i e)) (tops_forest s (k + state_wires (get_or ts i e)) (drop (i + 1) ts))
  tops_at k [] i e l = absurd (omega arith)
  tops_at k (t ∷ ts) zero e l = tops_more k t ts
  tops_at k (t ∷ ts) (suc i) e l = let r = tops_at k ts i e (omega arith) in simp (add-one) (simp (add-one) at r)

  pub tops_step : (ts : List StateCode) (i : ℕ) (t : StateCode) (k m : ℕ) (now new : List PlainState) (r : PlainState) (all : Forest)
      → i < length ts → t ≡ get_or ts i t → new ≡ now ++ r ∷ [] → state_before r none ≡ top_forest s k t → m ≡ k + state_wires t
      → planted (forest_of now) (tops_forest s k (drop i ts)) ≡ all → planted (forest_of new) (tops_forest s m (drop (i + 1) ts)) ≡ all
  tops_step ts i t k m now new r all l e f g w h =
      ap₂ (λ (b : Forest) (j : ℕ). planted b (tops_forest s j (drop (i + 1) ts))) (ap forest_of f ∙ forest_of-push now r ∙ ap (planted (forest_of now)) g) w
      ∙ planted_more (forest_of now) (top_forest s k t) (tops_forest s (k + state_wires t) (drop (i + 1) ts))
      ∙ ap (λ (y : StateCode). planted (forest_of now) (planted (top_forest s k y) (tops_forest s (k + state_wires y) (drop (i + 1) ts)))) e
      ∙ ap (planted (forest_of now)) (sym (tops_at k ts i t l)) ∙ h

  pub tops_rest : (ts : List StateCode) (i k : ℕ) (now all : Forest) → length ts ≤ i → planted now (tops_forest s k (drop i ts)) ≡ all → now ≡ all
  tops_rest ts i k now all l h = sym (planted_end now) ∙ ap (planted now) (sym (tops_past k ts i l)) ∙ h

  pub tops_are_plain : (k : ℕ) (ts : List StateCode)
      → tops_forest s k ts ≡ top_plain (setting_in s) (listed (flags (entities_in s) s.program.now.hang)) k (group_of (entities_in s) ts)
  unfolding tops_forest
  tops_are_plain k ts = refl

-- before the first of a list
pub planted_none : (ss : List PlainState) (f : Forest) → ss ≡ [] → planted (forest_of ss) f ≡ f
planted_none ss f e = ap (λ (l : List PlainState). planted (forest_of l) f) e ∙ ap (λ (g : Forest). planted g f) forest_of-none

pub states_wires_step : (ts : List StateCode) (i : ℕ) (t : StateCode) (k m all : ℕ) → i < length ts → t ≡ get_or ts i t
    → m ≡ k + state_wires t → k + states_wires (drop i ts) ≡ all → m + states_wires (drop (i + 1) ts) ≡ all
states_wires_step ts i t k m all l e f h =
    let q = states_drop ts i t l ∙ ap (λ (y : StateCode). state_wires y + states_wires (drop (i + 1) ts)) (sym e) in
    omega (arith, q, f, h)

-- the wires of a state: its own, those of its body, and those below it
pub room : (t : StateCode) (bl : List Command) (kl : List StateCode) → bl ≡ (out-State t).body.items → kl ≡ (out-State t).children.items
    → state_wires t ≡ 1 + commands_wires bl + states_wires kl
room t bl kl be ke = state_wires_are t ∙ ap₂ (λ (b : List Command) (g : List StateCode). 1 + commands_wires b + states_wires g) (sym be) (sym ke)
