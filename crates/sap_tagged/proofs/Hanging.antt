-- What hangs has a tag that can be assigned.
use Rattle.sap_lemmas.proofs.Common.{◌≡◌, ℕ, suc, Bool, true, false, ◌||◌, List, refl, sym, ◌∙◌, subst, nat_lt, nat_eq, inl, inr, cases_Bool, eqb-true, and_parts, true_is_not_false}
use Rattle.sap_meaning.specs.Prelude.{World, entity, root, is_dynamic, is_input, is_memory, is_register, listed, Step, assign, write, go_to, fall_to_child, Command, lone, try, if_else, try_then, case_of, Block, state_node, Group, no_node, and_node, Every, EveryInBlock, Home, step_assigns, block_assigns, group_assigns, among, step_hangs, hangs, touches, root_touches, listed_alone, FineTerm, FineStep, FineCommand, FineGroup, ExactStep, ExactCommand}
use Rattle.sap_meaning.proofs.ProgramLemmas.{memory_no_input, register_no_input, state_no_input}
use Rattle.sap_meaning.proofs.WalksLemmas.{some_gives, some_in_block_gives, every_with_in_block}
use Rattle.sap_tagged.specs.Stands.{has_tag}
use Rattle.sap_tagged.proofs.Bools.{register_within, memory_within, tagged, tagged_memory}
use Rattle.sap_tagged.proofs.Groups.{IsState, group_states}
use Rattle.sap_tagged.proofs.Bodies.{Hangs, OwnHangs, BlockHangs}

-- a register, a memory, or a state
abbrev pub CanHang : World → ℕ → Type 0
CanHang w x = (nat_lt x (root w) ≡ true) × (is_input w x ≡ false)

register_can : (w : World) (x : ℕ) → is_register w x ≡ true → CanHang w x
register_can w x h = (register_within w x h, register_no_input (entity w x).kind h)

memory_can : (w : World) (x : ℕ) → is_memory w x ≡ true → CanHang w x
memory_can w x h = (memory_within w x h, memory_no_input (entity w x).kind h)

state_can : (w : World) (x : ℕ) → IsState w x → CanHang w x
state_can w x h = (h.declared, state_no_input (entity w x).kind h.kind)

either : {P : Type 0} (a b : Bool) → (a || b) ≡ true → (a ≡ true → P) → (b ≡ true → P) → P
either true b h f g = f refl
either false b h f g = g h

moved : (w : World) (x y : ℕ) → nat_eq x y ≡ true → CanHang w y → CanHang w x
moved w x y e c = subst (CanHang w) (sym (eqb-true x y e)) c

module _ (w : World) (x : ℕ) where
  module _ (q g : Group) where
    step_assigned : (k : Step) → FineStep w q g k → step_assigns k x ≡ true → CanHang w x
    step_assigned (assign site y e) f h = moved w x y h (register_can w y f.0)
    step_assigned (write site m i e) f h = moved w x m h (memory_can w m f.0)
    step_assigned _ f h = absurd (true_is_not_false (sym h))

    block_assigned : (b : Block) → EveryInBlock (FineCommand w q g) b → block_assigns b x ≡ true → CanHang w x
    block_assigned b f h = some_in_block_gives (FineStep w q g) (FineTerm w) (λ k. step_assigns k x) (CanHang w x) step_assigned b f h

  group_assigned : (q : Group) (n : ℕ) (g : Group) → FineGroup w q n g → group_assigns g x ≡ true → CanHang w x
  group_assigned q n no_node f h = absurd (true_is_not_false (sym h))
  group_assigned q n (and_node (state_node s b k) g) f h =
      either (block_assigns b x || group_assigns k x) (group_assigns g x) h
      (λ i. either (block_assigns b x) (group_assigns k x) i (block_assigned q k b f.0.0.steps) (group_assigned k 0 k f.0.1)) (group_assigned q (suc n) g f.1)

  module _ (q : Group) (s : ℕ) (g : Group) (here : IsState w s) (kids : FineGroup w g 0 g) where
    step_hung : (k : Step) → FineStep w q g k → step_hangs s g k x ≡ true → CanHang w x
    step_hung (assign site y e) f h = moved w x y h (register_can w y f.0)
    step_hung (write site m i e) f h = moved w x m h (memory_can w m f.0)
    step_hung (go_to site target) f h = moved w x s h (state_can w s here)
    step_hung (fall_to_child site hang) f h = either (among g x) (group_assigns g x) h (λ i. state_can w x (group_states w g 0 g kids x i)) (group_assigned g 0 g kids)
    step_hung _ f h = absurd (true_is_not_false (sym h))

    hung : (c : Command) → Every (FineCommand w q g) c → hangs s g c x ≡ true → CanHang w x
    hung c f h = some_gives (FineStep w q g) (FineTerm w) (λ k. step_hangs s g k x) (CanHang w x) step_hung c f h

-- a dynamic entity that can hang has a tag
dynamic_tag : (w : World) (x : ℕ) → is_dynamic w x ≡ true → CanHang w x → has_tag w x ≡ true × (is_input w x ≡ false)
dynamic_tag w x t c = elim (cases_Bool (is_memory w x)) [
  | inl m ↦ (tagged_memory w x m t, c.1)
  | inr m ↦ (tagged w x c.0 m, c.1)
]

module _ (w : World) (q : Group) (sp : Home) (here : IsState w sp.state) (kids : FineGroup w sp.children 0 sp.children) where
  touched : (c : Command) → Every (FineCommand w q sp.children) c → Hangs w (touches w sp c)
  touched c f x h =
      let b = and_parts (is_dynamic w x) (hangs sp.state sp.children c x) h in
      dynamic_tag w x b.0 (hung w x q sp.state sp.children here kids c f b.1)

  exact_hangs : (c : Command) (list : List Bool) → Every (FineCommand w q sp.children) c → ((x : ℕ) → listed list x ≡ touches w sp c x) → Hangs w (listed list)
  exact_hangs c list f e x h = touched c f x (sym (e x) ∙ h)

  alone_hangs : (k : Step) → FineStep w q sp.children k → ExactStep w sp k → Hangs w (listed_alone w sp k)
  alone_hangs (go_to site target) f i x h = touched (lone (go_to site target)) f x h
  alone_hangs (fall_to_child site hang) f i x h = exact_hangs (lone (fall_to_child site hang)) hang f i x h
  alone_hangs _ f i x h = absurd (true_is_not_false (sym h))

  own_hangs : (c : Command) → Every (FineCommand w q sp.children) c → ExactCommand w sp c → OwnHangs w sp c
  own_hangs (lone k) f e = alone_hangs k f e
  own_hangs (try k hang b) f e = exact_hangs (try k hang b) hang f e
  own_hangs (if_else hang t a b) f e = exact_hangs (if_else hang t a b) hang f e
  own_hangs (try_then k hang a b) f e = exact_hangs (try_then k hang a b) hang f e
  own_hangs (case_of hang t arms) f e = exact_hangs (case_of hang t arms) hang f e

  pub body_hangs : (b : Block) → EveryInBlock (FineCommand w q sp.children) b → EveryInBlock (ExactCommand w sp) b → BlockHangs w sp b
  body_hangs b f e = every_with_in_block (FineCommand w q sp.children) (ExactCommand w sp) (OwnHangs w sp) own_hangs b f e

pub root_hangs : (w : World) (g : Group) (list : List Bool) → FineGroup w g 0 g → ((x : ℕ) → listed list x ≡ root_touches w g x) → Hangs w (listed list)
root_hangs w g list f e x h =
    let b = and_parts (is_dynamic w x) (among g x || group_assigns g x) (sym (e x) ∙ h) in
    dynamic_tag w x b.0 (either (among g x) (group_assigns g x) b.1 (λ i. state_can w x (group_states w g 0 g f x i)) (group_assigned w x g 0 g f))
