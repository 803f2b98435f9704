-- A store of the machine, by its numbers and what decides all its levels: whose turn it is and the levels of the inputs.
use Rattle.std.proofs.Common.{◌≡◌, ℕ, Bool, true, false, List, [], ◌∷◌, nat_eq, get_or, if◌then◌else◌, refl, sym, ap, ◌∙◌, arith}
use Rattle.std.proofs.lemmas.Grind.{common_steps}
use Rattle.sap_maps.specs.Term.{Term}
use Rattle.sap_meaning.specs.Prelude.{within, assign, write, Block, lone, if_else, command_then, is_dynamic, Store, Slot, own, start, next, start_whole, next_whole, same_slot, put_number, put_level, After, stay, value, tag, Home, test, touches, effect, does_block, first_level}
use Rattle.sap_machine.proofs.Literal.{machine_world}
use Rattle.sap_meaning.proofs.Commands.{same_store, Quiet, accept, take_then, take_else}
use Rattle.sap_machine.proofs.Commands.{nothing_raised}

-- the levels of the inputs, of pc, acc, ir and User; and the place of the current child of the root
pub record Frame : Type 0 where
  pub first : ℕ
  pub second : ℕ
  pub pc : ℕ
  pub acc : ℕ
  pub ir : ℕ
  pub user : ℕ
  pub current : ℕ

abbrev pub levels : Frame → Slot → ℕ
levels f (own x) = get_or (f.first ∷ f.second ∷ f.pc ∷ f.acc ∷ f.ir ∷ 0 ∷ 0 ∷ 0 ∷ 1 ∷ 1 ∷ 2 ∷ 2 ∷ 1 ∷ 2 ∷ 1 ∷ 2 ∷ 0 ∷ 0 ∷ 0 ∷ f.user ∷ []) x 0
levels f (start m i) = first_level machine_world (start m i)
levels f (next m i) = first_level machine_world (next m i)
levels f (start_whole m) = first_level machine_world (start_whole m)
levels f (next_whole m) = first_level machine_world (next_whole m)

-- while the pipeline is at the level of its holder
abbrev pub held_by : (holder first second : ℕ) → Frame
held_by l x y = record { first = x; second = y; pc = l; acc = l; ir = l; user = l; current = 2 }

abbrev pub places : Frame → ℕ → ℕ
places f p = get_or (0 ∷ 0 ∷ 0 ∷ 0 ∷ 0 ∷ 0 ∷ 0 ∷ 0 ∷ 0 ∷ 0 ∷ 0 ∷ 0 ∷ 0 ∷ 0 ∷ 0 ∷ 0 ∷ 0 ∷ 0 ∷ 0 ∷ 0 ∷ f.current ∷ []) p 0

abbrev pub Numbers : Type 0
Numbers = Slot → ℕ

abbrev pub store_of : Frame → Numbers → Store
store_of f v = record { number = v; level = levels f; child = places f }

-- another number at a slot
abbrev pub put : Slot → ℕ → Numbers → Numbers
put z n v = λ y. if same_slot y z then n else v y

-- a level that is put where it stands
kept_at : (k y t : ℕ) (level : Slot → ℕ) → level (own k) ≡ t → (if nat_eq y k then t else level (own y)) ≡ level (own y)
kept_at k y t level e = by (nat_eq y k) refl
  where
    by : (b : Bool) → nat_eq y k ≡ b → (if b then t else level (own y)) ≡ level (own y)
    by true same = let y_is : y ≡ k = grind (arith, common_steps) in sym e ∙ ap (λ x. level (own x)) (sym y_is)
    by false apart = refl

pub level_kept : (k t : ℕ) (s : Store) → s.level (own k) ≡ t → put_level machine_world (own k) t s ≡ s
unfolding put_level
level_kept k t s e = same_store (put_level machine_world (own k) t s) s (λ z. refl) each (λ p. refl)
  where
    each : (z : Slot) → (put_level machine_world (own k) t s).level z ≡ s.level z
    each (own y) = kept_at k y t s.level e
    each (start m i) = refl
    each _ = refl

-- x := e, where its test holds
pub assigned : (at : Home) (enter : ℕ → ℕ → Store → After) (site x : ℕ) (e : Term ℕ) (cs : Block) (pc : ℕ) (f : Frame) (v : Numbers)
    → is_dynamic machine_world x ≡ false → test machine_world at (assign site x e) pc (store_of f v) ≡ true
    → does_block (within machine_world at enter) (command_then (lone (assign site x e)) cs) pc (store_of f v)
    ≡ does_block (within machine_world at enter) cs pc (store_of f (put (own x) (value machine_world e (store_of f v)) v))
unfolding effect put_number
assigned at enter site x e cs pc f v enforced holds =
    accept machine_world at enter cs pc (store_of f v) (assign site x e) (store_of f (put (own x) (value machine_world e (store_of f v)) v)) nothing_raised holds
    (rw enforced (ap stay (level_kept x (levels f (own x)) (store_of f (put (own x) (value machine_world e (store_of f v)) v)) refl)))

-- m[i] := e, where its test holds
pub stored : (at : Home) (enter : ℕ → ℕ → Store → After) (site m : ℕ) (i e : Term ℕ) (cs : Block) (pc : ℕ) (f : Frame) (v : Numbers)
    → is_dynamic machine_world m ≡ false → test machine_world at (write site m i e) pc (store_of f v) ≡ true
    → does_block (within machine_world at enter) (command_then (lone (write site m i e)) cs) pc (store_of f v)
    ≡ does_block (within machine_world at enter) cs pc (store_of f (put (next m (value machine_world i (store_of f v))) (value machine_world e (store_of f v)) v))
unfolding effect put_number
stored at enter site m i e cs pc f v enforced holds =
    accept machine_world at enter cs pc (store_of f v) (write site m i e)
    (store_of f (put (next m (value machine_world i (store_of f v))) (value machine_world e (store_of f v)) v)) nothing_raised holds
    (rw enforced refl)

-- if (e) { a } else { b }
pub chosen : (at : Home) (enter : ℕ → ℕ → Store → After) (e : Term ℕ) (a b cs : Block) (hang : List Bool) (pc : ℕ) (f : Frame) (v yes_v no_v : Numbers) (holds : Bool)
    → Quiet (touches machine_world at (if_else hang e a b)) → machine_world.order.join pc (tag machine_world e (store_of f v)) ≡ pc
    → value machine_world e (store_of f v) ≡ (let n : ℕ = if holds then 1 else 0 in n)
    → does_block (within machine_world at enter) a pc (store_of f v) ≡ stay (store_of f yes_v)
    → does_block (within machine_world at enter) b pc (store_of f v) ≡ stay (store_of f no_v)
    → does_block (within machine_world at enter) (command_then (if_else hang e a b) cs) pc (store_of f v)
    ≡ does_block (within machine_world at enter) cs pc (store_of f (if holds then yes_v else no_v))
chosen at enter e a b cs hang pc f v yes_v no_v true quiet context is then_is else_is =
    take_then machine_world at enter cs pc (store_of f v) e hang a b quiet context (store_of f yes_v) is then_is
chosen at enter e a b cs hang pc f v yes_v no_v false quiet context is then_is else_is =
    take_else machine_world at enter cs pc (store_of f v) e hang a b quiet context (store_of f no_v) is else_is
