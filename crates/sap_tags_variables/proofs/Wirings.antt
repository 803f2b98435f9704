-- The wires of lists of commands and of states, from a place on.
use Rattle.sap_lemmas.proofs.Common.{◌≡◌, ℕ, zero, suc, ◌+◌, ◌<◌, ◌≤◌, ◌^◌, List, [], ◌∷◌, ◌++◌, length, get_or, drop, refl, sym, ap, ap₂, ◌∙◌, arith, add-one, append_assoc, Vec, Global, append-nil}
use Rattle.sap_ir.specs.Plain.Nested.{seat_width}
use Rattle.sap_ir.specs.declared.guarded.Var.{Var}
use Rattle.sap_meaning.specs.Program as program
use Rattle.sap_meaning.specs.Prelude.{Arms, last_arm, Block, end_block, command_then, Group, no_node, and_node, state_node, width_of}
use Rattle.sap_program.specs.Views.{term_of, commands_in, arm_block, arms_before, command_of, block_of, state_of, group_of}
use Rattle.sap_program.specs.declared.program.Number.{Number}
use Rattle.sap_program.specs.declared.program.Step.{Step}
use Rattle.sap_program.specs.declared.program.Arm.{Arm}
use Rattle.sap_program.specs.declared.program.Command.{Command}
use Rattle.sap_program.specs.declared.program.State.{State, out-State}
use Rattle.sap_program.specs.declared.program.Command.TheViews as shown
use Rattle.sap_interface.specs.StandsFor.{Named, world}
use Rattle.sap_tagged.specs.Prelude.{pick_width, wires, wires_block, wires_state, wires_group, wire, site_wires, command_wires, arms_wires, block_wires, state_wires, group_wires}
use Rattle.sap_tags_terms.specs.Parts.{arm_wires, commands_wires}
use Rattle.sap_program.proofs.Shown.{command_of-do, command_of-try, command_of-if, command_of-then, command_of-case, state_of-out}
use Rattle.sap_tags_terms.proofs.Listed.{wires_before, wires_arms_are, wires_block_are, arms_drop, arms_past}
use Rattle.sap_tags_terms.proofs.Alone.{alone, alone_next, alone_past, counted}

-- sites

site_more : (d : Named) (tag k n : ℕ) → site_wires d tag k (suc n) ≡ site_wires d tag k n ++ site_wires d tag (k + n) 1
site_more d tag k zero = let z : k + 0 ≡ k = omega arith in rw z refl
site_more d tag k (suc n) =
    let z : k + 1 + n ≡ k + suc n = omega arith in
    ap (λ (r : List Var). site_wires d tag k 1 ++ r) (site_more d tag (k + 1) n ∙ ap (λ m. site_wires d tag (k + 1) n ++ site_wires d tag m 1) z)

pub site_step : (d : Named) (tag n : ℕ) (front old new : List Var) → old ≡ front ++ site_wires d tag 1 n → new ≡ old ++ site_wires d tag (n + 1) 1
    → new ≡ front ++ site_wires d tag 1 (n + 1)
site_step d tag n front old new e f =
    let z : n + 1 ≡ 1 + n = omega arith in
    let a : front ++ site_wires d tag 1 (n + 1) ≡ front ++ (site_wires d tag 1 n ++ site_wires d tag (n + 1) 1) =
    ap (λ m. front ++ site_wires d tag 1 m) (add-one n) ∙ ap (λ (r : List Var). front ++ r) (site_more d tag 1 n)
    ∙ ap (λ m. front ++ (site_wires d tag 1 n ++ site_wires d tag m 1)) (sym z) in
    f ∙ ap (λ (r : List Var). r ++ site_wires d tag (n + 1) 1) e ∙ append_assoc front (site_wires d tag 1 n) (site_wires d tag (n + 1) 1) ∙ sym a

-- lists from a place on

pub block-drop : (n : ℕ) (cs : List Command) (i : ℕ) (c : Command) → i < length cs → c ≡ get_or cs i c
    → block_of n (drop i cs) ≡ command_then (command_of n c) (block_of n (drop (i + 1) cs))
unfolding block_of
block-drop n [] i c l e = absurd (omega arith)
block-drop n (b ∷ cs) zero c l e = ap (λ (x : Command). command_then (command_of n x) (block_of n cs)) (sym e)
block-drop n (b ∷ cs) (suc i) c l e = let r = block-drop n cs i c (omega arith) e in simp (add-one) (simp (add-one) at r)

pub block-past : (n : ℕ) (cs : List Command) (i : ℕ) → length cs ≤ i → block_of n (drop i cs) ≡ end_block
unfolding block_of
block-past n [] zero l = refl
block-past n [] (suc i) l = refl
block-past n (c ∷ cs) zero l = absurd (omega arith)
block-past n (c ∷ cs) (suc i) l = block-past n cs i (omega arith)

pub group-drop : (n : ℕ) (ss : List State) (i : ℕ) (s : State) → i < length ss → s ≡ get_or ss i s
    → group_of n (drop i ss) ≡ and_node (state_of n s) (group_of n (drop (i + 1) ss))
unfolding group_of
group-drop n [] i s l e = absurd (omega arith)
group-drop n (t ∷ ss) zero s l e = ap (λ (x : State). and_node (state_of n x) (group_of n ss)) (sym e)
group-drop n (t ∷ ss) (suc i) s l e = let r = group-drop n ss i s (omega arith) e in simp (add-one) (simp (add-one) at r)

pub group-past : (n : ℕ) (ss : List State) (i : ℕ) → length ss ≤ i → group_of n (drop i ss) ≡ no_node
unfolding group_of
group-past n [] zero l = refl
group-past n [] (suc i) l = refl
group-past n (s ∷ ss) zero l = absurd (omega arith)
group-past n (s ∷ ss) (suc i) l = group-past n ss i (omega arith)

-- how many wires parts have

pub block_in : (n : ℕ) (cs : List Command) (i : ℕ) (c : Command) → i < length cs → c ≡ get_or cs i c → wires (command_of n c) ≤ wires_block (block_of n cs)
unfolding block_of
block_in n [] i c l e = absurd (omega arith)
block_in n (b ∷ cs) zero c l e = let r : wires (command_of n c) ≡ wires (command_of n b) = ap (λ (x : Command). wires (command_of n x)) e in omega (arith, r)
block_in n (b ∷ cs) (suc i) c l e = let r = block_in n cs i c (omega arith) e in omega (arith, r)

pub group_in : (n : ℕ) (ss : List State) (i : ℕ) (s : State) → i < length ss → s ≡ get_or ss i s → wires_state (state_of n s) ≤ wires_group (group_of n ss)
unfolding group_of
group_in n [] i s l e = absurd (omega arith)
group_in n (t ∷ ss) zero s l e = let r : wires_state (state_of n s) ≡ wires_state (state_of n t) = ap (λ (x : State). wires_state (state_of n x)) e in omega (arith, r)
group_in n (t ∷ ss) (suc i) s l e = let r = group_in n ss i s (omega arith) e in omega (arith, r)

pub try_count : (n : ℕ) (c : Command) (s : Step) (hang : List ℕ) (handler : Vec Command Global) (cs : List Command) → c ≡ shown.Try s hang handler → cs ≡ handler.items
    → wires (command_of n c) ≡ 5 + wires_block (block_of n cs)
try_count n c s hang handler cs e f =
    ap (λ (x : Command). wires (command_of n x)) e ∙ ap wires (command_of-try n s hang handler) ∙ ap (λ (x : List Command). 5 + wires_block (block_of n x)) (sym f)

pub if_count : (n : ℕ) (c : Command) (hang : List ℕ) (e : Number) (ys ns : Vec Command Global) → c ≡ shown.If hang e ys ns
    → wires (command_of n c) ≡ 2 + wires_block (block_of n ys.items) + wires_block (block_of n ns.items)
if_count n c hang e ys ns f = let a = ap (λ (x : Command). wires (command_of n x)) f ∙ ap wires (command_of-if n hang e ys ns) in omega (arith, a)

pub then_count : (n : ℕ) (c : Command) (s : Step) (hang : List ℕ) (ys ns : Vec Command Global) → c ≡ shown.TryThen s hang ys ns
    → wires (command_of n c) ≡ 5 + wires_block (block_of n ys.items) + wires_block (block_of n ns.items)
then_count n c s hang ys ns f = let a = ap (λ (x : Command). wires (command_of n x)) f ∙ ap wires (command_of-then n s hang ys ns) in omega (arith, a)

pub case_count : (n : ℕ) (c : Command) (hang : List ℕ) (e : Number) (arms : Vec Arm Global) (cs : Vec Command Global) → c ≡ shown.Case hang e arms cs
    → wires (command_of n c) ≡ 4 + arm_wires arms.items + wires_block (block_of n cs.items)
case_count n c hang e arms cs f =
    let a = ap (λ (x : Command). wires (command_of n x)) f ∙ ap wires (command_of-case n hang e arms cs) in
    let b = wires_before n arms.items (last_arm (block_of n cs.items)) in
    let m = wires_arms_are n arms.items in
    omega (arith, a, b, m)

pub state_count : (n : ℕ) (s : State)
    → wires_state (state_of n s) ≡ 1 + wires_block (block_of n (out-State s).body.items) + wires_group (group_of n (out-State s).children.items)
state_count n s = ap wires_state (state_of-out n s)

-- a state and those behind it

group_wires-more : (d : Named) (tag k : ℕ) (t : program.State) (g : Group) → group_wires d tag k (and_node t g) ≡ state_wires d tag k t ++ group_wires d tag (k + wires_state t) g
group_wires-more d tag k (state_node s b kids) g = refl

-- one part, and those behind it
after_part : (old new part rest all : List Var) → new ≡ old ++ part → old ++ (part ++ rest) ≡ all → new ++ rest ≡ all
after_part old new part rest all h e = ap (λ (l : List Var). l ++ rest) h ∙ append_assoc old part rest ∙ e

module _ (d : Named) (tag n : ℕ) where
  -- the wires of arms, and of the block behind them
  pub arms_before-wires : (k : ℕ) (arms : List Arm) (b : Block)
      → arms_wires d tag k (arms_before n arms (last_arm b)) ≡ arms_wires d tag k (alone n arms) ++ block_wires d tag (k + arm_wires arms) b
  unfolding arms_before arm_wires
  arms_before-wires k [] b = let z : k ≡ k + 0 = omega arith in ap (λ (w : ℕ). block_wires d tag w b) z
  arms_before-wires k (a ∷ arms) b =
      let first : List Var = block_wires d tag k (arm_block n a) in
      let r = arms_before-wires (k + wires_block (arm_block n a)) arms b in
      let same : wires_block (arm_block n a) ≡ wires_block (arm_block 0 a) = wires_block_are n a.block.items ∙ sym (wires_block_are 0 a.block.items) in
      let next : k + wires_block (arm_block n a) + arm_wires arms ≡ k + arm_wires (a ∷ arms) = omega (arith, same) in
      ap (λ (l : List Var). first ++ l) (r ∙ ap (λ (w : ℕ). arms_wires d tag (k + wires_block (arm_block n a)) (alone n arms) ++ block_wires d tag w b) next)
      ∙ sym (append_assoc first (arms_wires d tag (k + wires_block (arm_block n a)) (alone n arms)) (block_wires d tag (k + arm_wires (a ∷ arms)) b))

  -- all of a `case`
  pub case_wired : (k : ℕ) (c : Command) (hang : List ℕ) (e : Number) (arms : Vec Arm Global) (cs : Vec Command Global) (al : List Arm)
      (cl : List Command) (w0 w1 w2 w3 w4 w5 : List Var) (next v u w : ℕ)
      → c ≡ shown.Case hang e arms cs → al ≡ arms.items → cl ≡ cs.items → v ≡ tag
      → w1 ≡ w0 ++ wire d k v ∷ [] → w2 ≡ w1 ++ wire d (k + 1) v ∷ [] → w3 ≡ w2 ++ wire d (k + 2) u ∷ [] → u ≡ width_of (world d) (term_of e) → w4 ≡ w3 ++ wire d (k + 3) w ∷ []
      → w ≡ seat_width (length al + 1) → w5 ≡ w4 ++ arms_wires d tag (k + 4) (alone n al) → next ≡ k + 4 + arm_wires al
      → w5 ++ block_wires d tag next (block_of n cl) ≡ w0 ++ command_wires d tag k (command_of n c)
  case_wired k c hang e arms cs al cl w0 w1 w2 w3 w4 w5 next v u w i ae ce ve e1 e2 e3 ue e4 we e5 ne =
      let last : Block = block_of n cs.items in
      let all : Arms = arms_before n arms.items (last_arm last) in
      let front : List Var → List Var = λ l. wire d k v ∷ wire d (k + 1) v ∷ wire d (k + 2) u ∷ wire d (k + 3) w ∷ l in
      let rest : List Var = arms_wires d tag (k + 4) (alone n al) ++ block_wires d tag next (block_of n cl) in
      let four : w4 ≡ w0 ++ front [] =
      e4 ∙ ap (λ (l : List Var). l ++ wire d (k + 3) w ∷ []) (e3 ∙ ap (λ (l : List Var). l ++ wire d (k + 2) u ∷ []) (e2 ∙ ap (λ (l : List Var). l ++ wire d (k + 1) v ∷ []) e1))
      ∙ ap (λ (l : List Var). (l ++ wire d (k + 2) u ∷ []) ++ wire d (k + 3) w ∷ []) (append_assoc w0 (wire d k v ∷ []) (wire d (k + 1) v ∷ []))
      ∙ ap (λ (l : List Var). l ++ wire d (k + 3) w ∷ []) (append_assoc w0 (wire d k v ∷ wire d (k + 1) v ∷ []) (wire d (k + 2) u ∷ []))
      ∙ append_assoc w0 (wire d k v ∷ wire d (k + 1) v ∷ wire d (k + 2) u ∷ []) (wire d (k + 3) w ∷ []) in
      let made : rest ≡ arms_wires d tag (k + 4) all =
      ap₂ (λ (m : ℕ) (l : List Command). arms_wires d tag (k + 4) (alone n al) ++ block_wires d tag m (block_of n l)) ne ce
      ∙ ap (λ (l : List Arm). arms_wires d tag (k + 4) (alone n l) ++ block_wires d tag (k + 4 + arm_wires l) last) ae
      ∙ sym (arms_before-wires (k + 4) arms.items last) in
      let width : w ≡ pick_width all =
      we ∙ ap (λ (l : List Arm). seat_width (length l + 1)) ae ∙ ap seat_width (add-one (length arms.items))
      ∙ ap (λ (m : ℕ). seat_width (suc m)) (sym (counted n arms.items last)) in
      ap (λ (l : List Var). l ++ block_wires d tag next (block_of n cl)) (e5 ∙ ap (λ (l : List Var). l ++ arms_wires d tag (k + 4) (alone n al)) four)
      ∙ append_assoc (w0 ++ front []) (arms_wires d tag (k + 4) (alone n al)) (block_wires d tag next (block_of n cl))
      ∙ append_assoc w0 (front []) rest
      ∙ ap (λ (l : List Var). w0 ++ front l) made
      ∙ ap₂ (λ (x y : ℕ). w0 ++ wire d k x ∷ wire d (k + 1) x ∷ wire d (k + 2) u ∷ wire d (k + 3) y ∷ arms_wires d tag (k + 4) all) ve width
      ∙ ap (λ (x : ℕ). w0 ++ wire d k tag ∷ wire d (k + 1) tag ∷ wire d (k + 2) x ∷ wire d (k + 3) (pick_width all) ∷ arms_wires d tag (k + 4) all) ue
      ∙ ap (λ (y : program.Command). w0 ++ command_wires d tag k y) (sym (ap (command_of n) i ∙ command_of-case n hang e arms cs))

  module _ (arms : List Arm) (i : ℕ) where
    module _ (a : Arm) (bl : List Command) (k next total : ℕ) (l : i < length arms) (is : a ≡ get_or arms i a) (same : bl ≡ commands_in a) where
      pub arm_count : k + arm_wires (drop i arms) ≡ total → k + (wires_block (block_of n bl) + arm_wires (drop (i + 1) arms)) ≡ total
      arm_count e =
          let q = arms_drop arms i a l ∙ ap (λ (y : Arm). commands_wires (commands_in y) + arm_wires (drop (i + 1) arms)) (sym is) in
          let r = wires_block_are n bl ∙ ap commands_wires same in
          omega (arith, q, r, e)

      pub arm_room : k + arm_wires (drop i arms) ≡ total → total < 2 ^ 32 → k + wires_block (block_of n bl) < 2 ^ 32
      arm_room e m = let r = arm_count e in omega (arith, r, m)

      pub arm_next : next ≡ k + wires_block (block_of n bl) → k + arm_wires (drop i arms) ≡ total → next + arm_wires (drop (i + 1) arms) ≡ total
      arm_next q e = let r = arm_count e in omega (arith, q, r)

      pub arm_step : (old new all : List Var) → new ≡ old ++ block_wires d tag k (block_of n bl) → next ≡ k + wires_block (block_of n bl)
          → old ++ arms_wires d tag k (alone n (drop i arms)) ≡ all → new ++ arms_wires d tag next (alone n (drop (i + 1) arms)) ≡ all
      arm_step old new all h q e =
          let rest = alone n (drop (i + 1) arms) in
          after_part old new (block_wires d tag k (block_of n bl)) (arms_wires d tag next rest) all h
          (ap (λ m. old ++ (block_wires d tag k (block_of n bl) ++ arms_wires d tag m rest)) q
          ∙ ap (λ (cs : List Command). old ++ (block_wires d tag k (block_of n cs) ++ arms_wires d tag (k + wires_block (block_of n cs)) rest)) same
          ∙ ap (λ (x : Arms). old ++ arms_wires d tag k x) (sym (alone_next n arms i a l is)) ∙ e)

    pub arm_end : (k : ℕ) (new all : List Var) → length arms ≤ i → new ++ arms_wires d tag k (alone n (drop i arms)) ≡ all → new ≡ all
    arm_end k new all l e = sym (append-nil new) ∙ ap (λ (x : Arms). new ++ arms_wires d tag k x) (sym (alone_past n arms i l)) ∙ e

    pub arm_last : (k total : ℕ) → length arms ≤ i → k + arm_wires (drop i arms) ≡ total → k ≡ total
    arm_last k total l e = let r = arms_past arms i l in omega (arith, r, e)

  module _ (cs : List Command) (i : ℕ) where
    module _ (c : Command) (k next total : ℕ) (l : i < length cs) (is : c ≡ get_or cs i c) where
      pub block_count : k + wires_block (block_of n (drop i cs)) ≡ total → k + (wires (command_of n c) + wires_block (block_of n (drop (i + 1) cs))) ≡ total
      block_count e = ap (λ (b : Block). k + wires_block b) (sym (block-drop n cs i c l is)) ∙ e

      pub block_room : k + wires_block (block_of n (drop i cs)) ≡ total → total < 2 ^ 32 → k + wires (command_of n c) < 2 ^ 32
      block_room e m = let r = block_count e in omega (arith, r, m)

      pub block_next : next ≡ k + wires (command_of n c) → k + wires_block (block_of n (drop i cs)) ≡ total → next + wires_block (block_of n (drop (i + 1) cs)) ≡ total
      block_next q e = let r = block_count e in omega (arith, q, r)

      pub block_step : (old new all : List Var) → new ≡ old ++ command_wires d tag k (command_of n c) → next ≡ k + wires (command_of n c)
          → old ++ block_wires d tag k (block_of n (drop i cs)) ≡ all → new ++ block_wires d tag next (block_of n (drop (i + 1) cs)) ≡ all
      block_step old new all h q e =
          after_part old new (command_wires d tag k (command_of n c)) (block_wires d tag next (block_of n (drop (i + 1) cs))) all h
          (ap (λ m. old ++ (command_wires d tag k (command_of n c) ++ block_wires d tag m (block_of n (drop (i + 1) cs)))) q
          ∙ ap (λ (b : Block). old ++ block_wires d tag k b) (sym (block-drop n cs i c l is)) ∙ e)

    pub block_end : (k : ℕ) (new all : List Var) → length cs ≤ i → new ++ block_wires d tag k (block_of n (drop i cs)) ≡ all → new ≡ all
    block_end k new all l e = sym (append-nil new) ∙ ap (λ (b : Block). new ++ block_wires d tag k b) (sym (block-past n cs i l)) ∙ e

    pub block_last : (k total : ℕ) → length cs ≤ i → k + wires_block (block_of n (drop i cs)) ≡ total → k ≡ total
    block_last k total l e = let r = ap (λ (b : Block). k + wires_block b) (sym (block-past n cs i l)) ∙ e in omega (arith, r)

  module _ (ss : List State) (i : ℕ) where
    module _ (s : State) (k next total : ℕ) (l : i < length ss) (is : s ≡ get_or ss i s) where
      pub group_count : k + wires_group (group_of n (drop i ss)) ≡ total → k + (wires_state (state_of n s) + wires_group (group_of n (drop (i + 1) ss))) ≡ total
      group_count e = ap (λ (g : Group). k + wires_group g) (sym (group-drop n ss i s l is)) ∙ e

      pub group_room : k + wires_group (group_of n (drop i ss)) ≡ total → total < 2 ^ 32 → k + wires_state (state_of n s) < 2 ^ 32
      group_room e m = let r = group_count e in omega (arith, r, m)

      pub group_next : next ≡ k + wires_state (state_of n s) → k + wires_group (group_of n (drop i ss)) ≡ total → next + wires_group (group_of n (drop (i + 1) ss)) ≡ total
      group_next q e = let r = group_count e in omega (arith, q, r)

      pub group_step : (old new all : List Var) → new ≡ old ++ state_wires d tag k (state_of n s) → next ≡ k + wires_state (state_of n s)
          → old ++ group_wires d tag k (group_of n (drop i ss)) ≡ all → new ++ group_wires d tag next (group_of n (drop (i + 1) ss)) ≡ all
      group_step old new all h q e =
          let rest = group_of n (drop (i + 1) ss) in
          after_part old new (state_wires d tag k (state_of n s)) (group_wires d tag next rest) all h
          (ap (λ m. old ++ (state_wires d tag k (state_of n s) ++ group_wires d tag m rest)) q
          ∙ ap (λ (r : List Var). old ++ r) (sym (group_wires-more d tag k (state_of n s) rest))
          ∙ ap (λ (g : Group). old ++ group_wires d tag k g) (sym (group-drop n ss i s l is)) ∙ e)

    pub group_end : (k : ℕ) (new all : List Var) → length ss ≤ i → new ++ group_wires d tag k (group_of n (drop i ss)) ≡ all → new ≡ all
    group_end k new all l e = sym (append-nil new) ∙ ap (λ (g : Group). new ++ group_wires d tag k g) (sym (group-past n ss i l)) ∙ e

    pub group_last : (k total : ℕ) → length ss ≤ i → k + wires_group (group_of n (drop i ss)) ≡ total → k ≡ total
    group_last k total l e = let r = ap (λ (g : Group). k + wires_group g) (sym (group-past n ss i l)) ∙ e in omega (arith, r)

pub ruleset commands = (command_of-do, command_of-try, command_of-if, command_of-then, append_assoc)

pub ruleset arms = (append-nil)

pub ruleset blocks = (append-nil)

pub ruleset states = (state_of-out, append_assoc)

pub ruleset groups = (append-nil)
