-- What a user has of the machine behind each cycle of two runs that agree at its level.
use Rattle.std.proofs.Common.{◌≡◌, inl, inr, ℕ, zero, suc, true, ◌<◌, ◌≤◌, refl, sym, ap, subst, ◌∙◌, arith, rules, List, [], ◌∷◌, length, get_or, Bool, false, ◌⊎◌}
use Rattle.std.specs.List.{AllZip}
use Rattle.std.proofs.lemmas.Bool.{false≢true}
use Rattle.sap_meaning.specs.Prelude.{Store, Slot, own, start, stay, number, level, Tagged, cycle, run_from, first, labelled_run, InputsFit, StreamFits, Alike, High, InputsAgree, RefusalsAgree, SlotsAlike, StatesAgree, StreamsAgree}
use Rattle.sap_meaning.specs.Agree.{RunsAgree}
use Rattle.sap_secure.specs.Laws.{LabelledAgree}
use Rattle.sap_machine.specs.declared.user.User.{User}
use Rattle.sap_machine.specs.declared.user.User.TheVariants.{A, B}
use Rattle.sap_machine.specs.Laws.{after_cycles, SamePart, OthersDontCount, OthersWordDiffers, OthersWordsDontCount}
use Rattle.sap_machine.proofs.Literal.{machine, machine_world}
use Rattle.sap_machine.proofs.Users.{of_user, level_of, words_of, cells_of, pc_of, acc_of}
use Rattle.sap_machine.proofs.View.{Frame, Numbers, store_of}
use Rattle.sap_machine.proofs.Boot.{boot_frame}
use Rattle.sap_machine.proofs.Kernel.{kernel_frame}
use Rattle.sap_machine.proofs.Whole.{At, boots, first_kernel, starts, runs, leaves}
use Rattle.sap_machine.proofs.Run.{words_in, reached}

-- the levels of what belongs to a user
record Levels (u : User) (s : Store) : Type 0 where
  pc : s.level (own (pc_of u)) ≡ level_of u
  acc : s.level (own (acc_of u)) ≡ level_of u
  cell : (k : ℕ) → s.level (start (cells_of u) k) ≡ level_of u
  word : (k : ℕ) → s.level (start (words_of u) k) ≡ level_of u

levels_in : (f : Frame) (v : Numbers) (s : Store) → s ≡ store_of f v → (u : User) → Levels u s
levels_in f v s is = subst (λ (s : Store). (u : User) → Levels u s) (sym is) (of_user (λ u. Levels u (store_of f v)) (search rules) (search rules))

-- they are the same wherever the run is
levels_at : (words : User → ℕ → ℕ) (c : ℕ) (s : Store) → At words c s → (u : User) → Levels u s
levels_at words c s (boots x y v early is now) u = levels_in (boot_frame 0 x y) v s is u
levels_at words c s (first_kernel x y v ec is now) u = levels_in (kernel_frame 0 x y) v s is u
levels_at words c s (starts n x y v ec is now) u = levels_in _ v s is u
levels_at words c s (runs n r d x y v full ec is now) u = levels_in _ v s is u
levels_at words c s (leaves n x y v ec is now) u = levels_in _ v s is u

own_level : (u : User) → machine_world.order.le (level_of u) (level_of u) ≡ true
own_level u = of_user (λ u. machine_world.order.le (level_of u) (level_of u) ≡ true) refl refl u

-- what is at the user's level and looks alike there is the same
same_number : (u : User) (z : Slot) (s t : Store) → SlotsAlike machine_world (level_of u) z s t → level machine_world z s ≡ level_of u → number z s ≡ number z t
same_number u z s t (inl low) is = low.0
same_number u z s t (inr high) is = absurd (false≢true (sym high.0 ∙ ap (λ l. machine_world.order.le l (level_of u)) is ∙ own_level u))

of_states : (u : User) (s t : Store) → Levels u s → StatesAgree machine (level_of u) s t → SamePart machine_world u s t
of_states A s t l agree = record {
  kept = record {
    pc = same_number A (own 8) s t (agree.registers 8 refl) l.pc;
    acc = same_number A (own 9) s t (agree.registers 9 refl) l.acc;
    cell = λ k below. same_number A (start 14 k) s t (agree.enforced_memories 14 k refl refl).0 (l.cell k);
  };
  word = λ k below. same_number A (start 12 k) s t (agree.enforced_memories 12 k refl refl).0 (l.word k);
  pc = agree.registers 2 refl;
  acc = agree.registers 3 refl;
  ir = agree.registers 4 refl;
}
of_states B s t l agree = record {
  kept = record {
    pc = same_number B (own 10) s t (agree.registers 10 refl) l.pc;
    acc = same_number B (own 11) s t (agree.registers 11 refl) l.acc;
    cell = λ k below. same_number B (start 15 k) s t (agree.enforced_memories 15 k refl refl).0 (l.cell k);
  };
  word = λ k below. same_number B (start 13 k) s t (agree.enforced_memories 13 k refl refl).0 (l.word k);
  pc = agree.registers 2 refl;
  acc = agree.registers 3 refl;
  ir = agree.registers 4 refl;
}

-- what holds of each pair holds of the pair at a place
at_place : {X : Type 0} (R : X → X → Type 0) (d : X) (xs ys : List X) → AllZip R xs ys → (c : ℕ) → c < length xs → R (get_or xs c d) (get_or ys c d)
at_place R d [] ys both c below = absurd (omega arith)
at_place R d (x ∷ xs) [] both c below = absurd both
at_place R d (x ∷ xs) (y ∷ ys) both zero below = both.0
at_place R d (x ∷ xs) (y ∷ ys) both (suc c) below = at_place R d xs ys both.1 c (omega arith)

length_run : (s : Store) (stream : List (List Tagged)) → length (run_from machine s stream) ≡ length stream
length_run s [] = refl
length_run s (inputs ∷ rest) = ap suc (length_run (cycle machine inputs s).store rest)

-- before the first cycle
at_first : (u : User) → SamePart machine_world u (first machine_world) (first machine_world)
unfolding first
at_first = of_user (λ u. SamePart machine_world u (first machine_world) (first machine_world)) (search inl) (search inl)

-- so it is for each user, where the runs agree at its level
behind : (s t : List (List Tagged)) → StreamFits machine_world s → (u : User) → RunsAgree machine (level_of u) (labelled_run machine s) (labelled_run machine t)
    → (c : ℕ) → c ≤ length s → SamePart machine_world u (after_cycles machine c s).store (after_cycles machine c t).store
behind s t fit u agree zero short = at_first u
behind s t fit u agree (suc c) short =
    let inside : c < length (labelled_run machine s) = omega (arith, length_run (first machine_world) s) in
    let now = at_place (λ a b. StatesAgree machine (level_of u) a.store b.store
    × RefusalsAgree machine_world.order (level_of u) a.refused b.refused) (stay (first machine_world)) (labelled_run machine s) (labelled_run machine t) agree c inside in
    of_states u (after_cycles machine (suc c) s).store (after_cycles machine (suc c) t).store
    (levels_at (words_in s) (suc c) (after_cycles machine (suc c) s).store (reached s fit c (omega arith)).1 u) now.0

pub others_dont_count : LabelledAgree machine → OthersDontCount machine
others_dont_count agree s t fit_s fit_t A same c short = behind s t fit_s A (agree 1 s t same) c short
others_dont_count agree s t fit_s fit_t B same c short = behind s t fit_s B (agree 2 s t same) c short

-- what is the same, or hidden in both, looks alike

abbrev alike : (l : ℕ) → Tagged → Tagged → Type 0
alike l x y = Alike machine_world.order l (x.number ≡ y.number) x.level y.level

self_alike : (l : ℕ) (x : Tagged) → alike l x x
self_alike l x = by (machine_world.order.le x.level l) refl
  where
    by : (b : Bool) → machine_world.order.le x.level l ≡ b → alike l x x
    by true low = inl (refl, refl, low)
    by false high = inr (high, high)

same_alike : (l : ℕ) (x y : Tagged) → x ≡ y → alike l x y
same_alike l x y e = subst (λ y. alike l x y) e (self_alike l x)

hidden_alike : (l : ℕ) (x y : Tagged) → (x ≡ y) ⊎ (High machine_world.order l x.level × High machine_world.order l y.level) → alike l x y
hidden_alike l x y (inl e) = same_alike l x y e
hidden_alike l x y (inr h) = inr h

inputs_agree : (u : User) (i j : List Tagged) → InputsFit machine_world i → InputsFit machine_world j
    → OthersWordDiffers machine_world u i j → InputsAgree machine_world.order (level_of u) i j
inputs_agree u [] j fi fj d = elim fi [ ]
inputs_agree u (a ∷ []) j fi fj d = elim fi.2 [ ]
inputs_agree u (a ∷ (b ∷ (x ∷ xs))) j fi fj d = elim fi.2.2 [ ]
inputs_agree u (a ∷ (b ∷ [])) [] fi fj d = elim fj [ ]
inputs_agree u (a ∷ (b ∷ [])) (c ∷ []) fi fj d = elim fj.2 [ ]
inputs_agree u (a ∷ (b ∷ [])) (c ∷ (e ∷ (x ∷ xs))) fi fj d = elim fj.2.2 [ ]
inputs_agree A (a ∷ (b ∷ [])) (c ∷ (e ∷ [])) fi fj d = (same_alike 1 a c d.own, (hidden_alike 1 b e d.hidden, tt))
inputs_agree B (a ∷ (b ∷ [])) (c ∷ (e ∷ [])) fi fj d = (hidden_alike 2 a c d.hidden, (same_alike 2 b e d.own, tt))

streams_agree : (u : User) (s t : List (List Tagged)) → StreamFits machine_world s → StreamFits machine_world t → AllZip (OthersWordDiffers machine_world u) s t
    → StreamsAgree machine_world.order (level_of u) s t
streams_agree u [] [] fs ft d = tt
streams_agree u [] (j ∷ t) fs ft d = absurd d
streams_agree u (i ∷ s) [] fs ft d = absurd d
streams_agree u (i ∷ s) (j ∷ t) fs ft d = (inputs_agree u i j fs.0 ft.0 d.0, streams_agree u s t fs.1 ft.1 d.1)

pub others_words_dont_count : OthersDontCount machine → OthersWordsDontCount machine
others_words_dont_count law s t fs ft A d c short = law s t fs ft A (streams_agree A s t fs ft d) c short
others_words_dont_count law s t fs ft B d c short = law s t fs ft B (streams_agree B s t fs ft d) c short
