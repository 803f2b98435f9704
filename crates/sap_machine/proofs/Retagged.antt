-- setTag of what the kernel retags.
use Rattle.std.proofs.Common.{◌≡◌, ℕ, true, refl, ap, if◌then◌else◌}
use Rattle.sap_meaning.specs.Prelude.{within, Block, fixed, retag, lone, command_then, Store, Slot, own, start, put_level, put_number, After, stay, Home, test, does_block, effect}
use Rattle.sap_meaning.proofs.Commands.{same_store, accept}
use Rattle.sap_machine.proofs.Literal.{machine_world}
use Rattle.sap_machine.proofs.Entities.{entities, apart}
use Rattle.sap_machine.proofs.Commands.{nothing_raised}
use Rattle.sap_machine.proofs.View.{Frame, levels, places, Numbers, store_of, put}

-- what setTag leaves of a number, from level l to level t
abbrev pub tagged_number : (l t k : ℕ) → Numbers → Numbers
tagged_number l t k v = put (own k) (if machine_world.order.le l t then v (own k) else 0) v

-- in the frame g the entity k has the level t, and all else is as in f
abbrev pub Relevels : (k t : ℕ) → (f g : Frame) → Type 0
Relevels k t f g = (v : Numbers) → put_level machine_world (own k) t (store_of f v) ≡ store_of g v

-- so it is where each entity's own level is as in g: no cell has another
relevels : (k t : ℕ) (f g : Frame) → ((v : Numbers) (y : ℕ) → (put_level machine_world (own k) t (store_of f v)).level (own y) ≡ levels g (own y))
    → ((p : ℕ) → places f p ≡ places g p) → Relevels k t f g
unfolding put_level
relevels k t f g own_is seated v = same_store (put_level machine_world (own k) t (store_of f v)) (store_of g v) (λ z. refl) leveled seated
  where
    leveled : (z : Slot) → (put_level machine_world (own k) t (store_of f v)).level z ≡ levels g z
    leveled (own y) = own_is v y
    leveled (start m i) = refl
    leveled _ = refl

pub level_of_pc : (f : Frame) (t : ℕ) → Relevels 2 t f (record f { pc = t })
unfolding put_level
level_of_pc f t = relevels 2 t f (record f { pc = t })
    (λ v. entities (λ y. (put_level machine_world (own 2) t (store_of f v)).level (own y) ≡ levels (record f { pc = t }) (own y))
    refl refl refl refl refl refl refl refl refl refl refl refl refl refl refl refl refl refl refl refl (λ x. simp apart refl)) (λ p. refl)

pub level_of_acc : (f : Frame) (t : ℕ) → Relevels 3 t f (record f { acc = t })
unfolding put_level
level_of_acc f t = relevels 3 t f (record f { acc = t })
    (λ v. entities (λ y. (put_level machine_world (own 3) t (store_of f v)).level (own y) ≡ levels (record f { acc = t }) (own y))
    refl refl refl refl refl refl refl refl refl refl refl refl refl refl refl refl refl refl refl refl (λ x. simp apart refl)) (λ p. refl)

pub level_of_ir : (f : Frame) (t : ℕ) → Relevels 4 t f (record f { ir = t })
unfolding put_level
level_of_ir f t = relevels 4 t f (record f { ir = t })
    (λ v. entities (λ y. (put_level machine_world (own 4) t (store_of f v)).level (own y) ≡ levels (record f { ir = t }) (own y))
    refl refl refl refl refl refl refl refl refl refl refl refl refl refl refl refl refl refl refl refl (λ x. simp apart refl)) (λ p. refl)

pub level_of_user : (f : Frame) (t : ℕ) → Relevels 19 t f (record f { user = t })
unfolding put_level
level_of_user f t = relevels 19 t f (record f { user = t })
    (λ v. entities (λ y. (put_level machine_world (own 19) t (store_of f v)).level (own y) ≡ levels (record f { user = t }) (own y))
    refl refl refl refl refl refl refl refl refl refl refl refl refl refl refl refl refl refl refl refl (λ x. simp apart refl)) (λ p. refl)

-- setTag(k, t), where its test holds
pub retagged : (at : Home) (enter : ℕ → ℕ → Store → After) (site k t : ℕ) (cs : Block) (pc : ℕ) (f g : Frame) (v : Numbers)
    → Relevels k t f g → test machine_world at (retag site k (fixed t)) pc (store_of f v) ≡ true
    → does_block (within machine_world at enter) (command_then (lone (retag site k (fixed t))) cs) pc (store_of f v)
    ≡ does_block (within machine_world at enter) cs pc (store_of g (tagged_number (levels f (own k)) t k v))
unfolding effect put_number
retagged at enter site k t cs pc f g v relevels holds =
    accept machine_world at enter cs pc (store_of f v) (retag site k (fixed t)) (store_of g (tagged_number (levels f (own k)) t k v)) nothing_raised holds
    (ap stay (relevels (tagged_number (levels f (own k)) t k v)))
