-- What is found in the commands of a body is what the paths through them say.
use Rattle.sap_lemmas.proofs.Common.{◌≡◌, ◌⊎◌, inl, inr, ℕ, List, [], ◌∷◌, ◌++◌, Bool, true, false, ◌||◌, refl, ap, sym, subst, ◌∙◌, append_assoc, or_cases, or_left, or_right}
use Rattle.sap_text.specs.declared.place.Place.{Place}
use Rattle.sap_tree.specs.Syntax.{SimpleCommand, write, set_cell_tag, fall_to_child, Command, lone, try, if_else, try_then, case_of, Arms, last_arm, and_arm, CommandBlock, command_block, ElseBlock, no_else, with_else, CommandList, no_command, and_command}
use Rattle.sap_names.specs.Prelude.{StandsIn, fault_if}
use Rattle.sap_names.specs.declared.fault.Fault.{Fault}
use Rattle.sap_names.specs.declared.kind.Code.TheVariants.{E14}
use Rattle.sap_shape.specs.Paths.{Path, Through, ThroughBlock, ThroughElse, ThroughArms, ThroughList, IsFall, UpToFall, UpToFallBlock, UpToFallElse, UpToFallArms, UpToFallList, IsOfMemory, place_of, twice_at}
use Rattle.sap_shape.specs.Walk.{Written, Part, nothing, behind, branch, simple, found, found_in_block, found_in_else, found_in_arms, found_in_list, past_simple, entering_simple, second_simple, is_fall, falls, falls_block, falls_else, falls_arms, falls_list}
use Rattle.sap_shape.proofs.Tracks.{past_path, past_kept, Behind, Then, Either, Reaches, Repeats, reaches_behind, reaches_either, reaches_same, repeats_either, repeats_then, repeats_same}

-- a part of a body: what is found in it, whether a `fall` stands in it, the paths through it, and those up to a `fall` in it
pub record Stretch : Type 1 where
  pub part : Part
  pub falls : Bool
  pub Passes : Path → Type 0
  pub Falls : Path → Type 0

pub record Follows (s : Stretch) : Type 0 where
  pub passing : (path : Path) × s.Passes path
  pub falling : s.falls ≡ true → (path : Path) × s.Falls path
  pub fallen : (path : Path) → s.Falls path → s.falls ≡ true
  pub onward : (path : Path) → s.Falls path → (rest : Path) × s.Passes (path ++ rest)
  pub past : Reaches (λ p. (s.part p).past) s.Passes
  pub entering : Reaches (λ p. (s.part p).entering) s.Falls
  pub again : Repeats (λ p. (s.part p).again) s.Passes

-- what was written before, is still afterwards
pub kept : (s : Stretch) → Follows s → (m : List ℕ) (p : Written) → p m ≡ true → (s.part p).past m ≡ true
kept s F m p h = F.past.of_path m p F.passing.0 F.passing.1 (past_kept F.passing.0 p m h)

-- where something is written up to a `fall`, one stands
pub enters : (s : Stretch) → Follows s → (m : List ℕ) (p : Written) → (s.part p).entering m ≡ true → s.falls ≡ true
enters s F m p h = let r = F.entering.on_path m p h in F.fallen r.0 r.1

-- nothing

abbrev no_stretch : Stretch
no_stretch = record { part = nothing; falls = false; Passes = λ path. path ≡ []; Falls = λ path. ⊥ }

nothing_follows : Follows no_stretch
nothing_follows = record {
  passing = ([], refl);
  falling = λ h. cc;
  fallen = λ path t. absurd t;
  onward = λ path t. absurd t;
  past = record { on_path = λ m p h. ([], refl, h); of_path = λ m p path t h. subst (λ (x : Path). past_path x p m ≡ true) t h };
  entering = record { on_path = λ m p h. cc; of_path = λ m p path t h. absurd t };
  again = record { on_path = λ p f h. absurd h; of_path = λ p k path t h. subst (λ (x : Path). Behind p x k) t h };
}

-- one simple command

fall_is : (k : SimpleCommand) → is_fall k ≡ true → IsFall k
fall_is (fall_to_child place) h = tt
fall_is _ h = cc

is_that_fall : (k : SimpleCommand) → IsFall k → is_fall k ≡ true
is_that_fall (fall_to_child place) h = refl
is_that_fall _ h = absurd h

step_entering : (k : SimpleCommand) (p : Written) (m : List ℕ) → entering_simple k p m ≡ true → IsFall k × (past_simple k p m ≡ true)
step_entering (fall_to_child place) p m h = (tt, h)
step_entering _ p m h = cc

fall_entering : (k : SimpleCommand) (p : Written) (m : List ℕ) → IsFall k → past_simple k p m ≡ true → entering_simple k p m ≡ true
fall_entering (fall_to_child place) p m f h = h
fall_entering _ p m f h = absurd f

fault_stands : (test : Bool) (place : Place) (f : Fault) → StandsIn f (fault_if test E14 place) → (test ≡ true) × (f ≡ twice_at place)
fault_stands true place f (inl h) = (refl, h)
fault_stands true place f (inr h) = absurd h
fault_stands false place f h = absurd h

fault_at : (test : Bool) (place : Place) → test ≡ true → StandsIn (twice_at place) (fault_if test E14 place)
fault_at true place h = inl refl
fault_at false place h = cc

step_found : (k : SimpleCommand) (p : Written) (f : Fault) → StandsIn f (second_simple k p) → Behind p (k ∷ []) k × (f ≡ twice_at (place_of k))
step_found (write target index e) p f h =
    let s = fault_stands (p target.name) target.place f h in
    (inl (refl, target.name, refl, s.0), s.1)
step_found (set_cell_tag place target index tag) p f h =
    let s = fault_stands (p target.name) place f h in
    (inl (refl, target.name, refl, s.0), s.1)
step_found _ p f h = absurd h

step_stands : (k : SimpleCommand) (p : Written) (m : List ℕ) → IsOfMemory k m → p m ≡ true → StandsIn (twice_at (place_of k)) (second_simple k p)
step_stands (write target index e) p m w h = fault_at (p target.name) target.place (ap p w ∙ h)
step_stands (set_cell_tag place target index tag) p m w h = fault_at (p target.name) place (ap p w ∙ h)
step_stands _ p m w h = absurd w

one_stands : (j k : SimpleCommand) (p : Written) → Behind p (j ∷ []) k → StandsIn (twice_at (place_of k)) (second_simple j p)
one_stands j k p (inl i) = subst (λ (x : SimpleCommand). StandsIn (twice_at (place_of k)) (second_simple x p)) i.0 (step_stands k p i.1 i.2 i.3)
one_stands j k p (inr i) = absurd i

abbrev One : SimpleCommand → Path → Type 0
One k path = path ≡ k ∷ []

abbrev OneFall : SimpleCommand → Path → Type 0
OneFall k path = IsFall k × (path ≡ k ∷ [])

abbrev one : SimpleCommand → Stretch
one k = record { part = simple k; falls = is_fall k; Passes = One k; Falls = OneFall k }

one_follows : (k : SimpleCommand) → Follows (one k)
one_follows k = record {
  passing = (k ∷ [], refl);
  falling = λ h. (k ∷ [], (fall_is k h, refl));
  fallen = λ path t. is_that_fall k t.0;
  onward = λ path t. ([], ap (λ (x : Path). x ++ []) t.1);
  past = record { on_path = λ m p h. (k ∷ [], refl, h); of_path = λ m p path t h. subst (λ (x : Path). past_path x p m ≡ true) t h };
  entering = record {
    on_path = λ m p h. let s = step_entering k p m h in (k ∷ [], (s.0, refl), s.1);
    of_path = λ m p path t h. fall_entering k p m t.0 (subst (λ (x : Path). past_path x p m ≡ true) t.1 h);
  };
  again = record {
    on_path = λ p f h. let s = step_found k p f h in (k, k ∷ [], refl, s.0, s.1);
    of_path = λ p j path t h. one_stands k j p (subst (λ (x : Path). Behind p x j) t h);
  };
}

-- two parts

abbrev fork : Stretch → Stretch → Stretch
fork s t = record { part = branch s.part t.part; falls = s.falls || t.falls; Passes = Either s.Passes t.Passes; Falls = Either s.Falls t.Falls }

abbrev in_turn : Stretch → Stretch → Stretch
in_turn s t = record {
  part = behind s.part t.part;
  falls = s.falls || t.falls;
  Passes = Then s.Passes t.Passes;
  Falls = Either s.Falls (Then s.Passes t.Falls);
}

module _ (s t : Stretch) (F : Follows s) (G : Follows t) where
  fork_follows : Follows (fork s t)
  fork_follows = record {
    passing = (F.passing.0, inl F.passing.1);
    falling = λ h. elim (or_cases s.falls t.falls h) [
      | inl i ↦ (let r = F.falling i in (r.0, inl r.1))
      | inr i ↦ (let r = G.falling i in (r.0, inr r.1))
    ];
    fallen = λ path u. elim u [ inl i ↦ or_left s.falls t.falls (F.fallen path i) | inr i ↦ or_right s.falls t.falls (G.fallen path i) ];
    onward = λ path u. elim u [
      | inl i ↦ (let r = F.onward path i in (r.0, inl r.1))
      | inr i ↦ (let r = G.onward path i in (r.0, inr r.1))
    ];
    past = reaches_either (λ p. (s.part p).past) (λ p. (t.part p).past) s.Passes t.Passes F.past G.past;
    entering = reaches_either (λ p. (s.part p).entering) (λ p. (t.part p).entering) s.Falls t.Falls F.entering G.entering;
    again = repeats_either (λ p. (s.part p).again) (λ p. (t.part p).again) s.Passes t.Passes F.again G.again;
  }

  in_turn_follows : Follows (in_turn s t)
  in_turn_follows = record {
    passing = (F.passing.0 ++ G.passing.0, (F.passing.0, G.passing.0, F.passing.1, G.passing.1, refl));
    falling = λ h. elim (or_cases s.falls t.falls h) [
      | inl i ↦ (let r = F.falling i in (r.0, inl r.1))
      | inr i ↦ (let r = G.falling i in (F.passing.0 ++ r.0, inr (F.passing.0, r.0, F.passing.1, r.1, refl)))
    ];
    fallen = λ path u. elim u [ inl i ↦ or_left s.falls t.falls (F.fallen path i) | inr i ↦ or_right s.falls t.falls (G.fallen i.1 i.3) ];
    onward = λ path u. elim u [
      | inl i ↦ (
          let r = F.onward path i in
          (r.0 ++ G.passing.0, (path ++ r.0, G.passing.0, r.1, G.passing.1, sym (append_assoc path r.0 G.passing.0))))
      | inr i ↦ (
          let r = G.onward i.1 i.3 in
          (r.0, (i.0, i.1 ++ r.0, i.2, r.1, ap (λ (x : Path). x ++ r.0) i.4 ∙ append_assoc i.0 i.1 r.0)))
    ];
    past = reaches_behind (λ p. (s.part p).past) s.Passes F.past t.Passes F.passing (λ p. (t.part p).past) G.past;
    entering = reaches_either (λ p. (s.part p).entering) (λ p. (t.part (s.part p).past).entering) s.Falls (Then s.Passes t.Falls) F.entering
        (reaches_behind (λ p. (s.part p).past) s.Passes F.past t.Falls F.passing (λ p. (t.part p).entering) G.entering);
    again = repeats_then (λ p. (s.part p).past) (λ p. (s.part p).again) (λ p. (t.part p).again) s.Passes t.Passes F.passing G.passing F.past F.again G.again;
  }

-- the same paths in other words
module _ (s : Stretch) (V W : Path → Type 0) (to : (path : Path) → s.Passes path → V path) (from : (path : Path) → V path → s.Passes path)
    (to_fall : (path : Path) → s.Falls path → W path) (from_fall : (path : Path) → W path → s.Falls path) (F : Follows s) where
  reworded : Follows (record { part = s.part; falls = s.falls; Passes = V; Falls = W })
  reworded = record {
    passing = (F.passing.0, to F.passing.0 F.passing.1);
    falling = λ h. let r = F.falling h in (r.0, to_fall r.0 r.1);
    fallen = λ path t. F.fallen path (from_fall path t);
    onward = λ path t. let r = F.onward path (from_fall path t) in (r.0, to (path ++ r.0) r.1);
    past = reaches_same (λ p. (s.part p).past) s.Passes V to from F.past;
    entering = reaches_same (λ p. (s.part p).entering) s.Falls W to_fall from_fall F.entering;
    again = repeats_same (λ p. (s.part p).again) s.Passes V to from F.again;
  }

-- a simple command, and what comes behind it

abbrev Next : SimpleCommand → (Path → Type 0) → Path → Type 0
Next k V path = (rest : Path) × V rest × (path ≡ k ∷ rest)

to_next : (k : SimpleCommand) (V : Path → Type 0) (path : Path) → Then (One k) V path → Next k V path
to_next k V path t = (t.1, t.3, t.4 ∙ ap (λ (x : Path). x ++ t.1) t.2)

from_next : (k : SimpleCommand) (V : Path → Type 0) (path : Path) → Next k V path → Then (One k) V path
from_next k V path t = (k ∷ [], t.0, refl, t.1, t.2)

-- `or_next` is for a `try`, whose path may end with its command
module _ (k : SimpleCommand) (V : Path → Type 0) where
  or_next : (path : Path) → Then (One k) (Either (λ x. x ≡ []) V) path → One k path ⊎ Next k V path
  or_next path t =
      let r = to_next k (Either (λ x. x ≡ []) V) path t in
      elim r.1 [ inl e ↦ inl (r.2 ∙ ap (λ (x : Path). k ∷ x) e) | inr i ↦ inr (r.0, i, r.2) ]

  from_or_next : (path : Path) → One k path ⊎ Next k V path → Then (One k) (Either (λ x. x ≡ []) V) path
  from_or_next path (inl e) = from_next k (Either (λ x. x ≡ []) V) path ([], inl refl, e)
  from_or_next path (inr t) = from_next k (Either (λ x. x ≡ []) V) path (t.0, inr t.1, t.2)

  or_next_fall : (path : Path) → Either (OneFall k) (Then (One k) (Either (λ x. ⊥) V)) path → OneFall k path ⊎ Next k V path
  or_next_fall path (inl e) = inl e
  or_next_fall path (inr t) =
      let r = to_next k (Either (λ x. ⊥) V) path t in
      elim r.1 [ inl e ↦ absurd e | inr i ↦ inr (r.0, i, r.2) ]

  from_or_next_fall : (path : Path) → OneFall k path ⊎ Next k V path → Either (OneFall k) (Then (One k) (Either (λ x. ⊥) V)) path
  from_or_next_fall path (inl e) = inl e
  from_or_next_fall path (inr t) = inr (from_next k (Either (λ x. ⊥) V) path (t.0, inr t.1, t.2))

-- behind a command with `then`, either block
module _ (k : SimpleCommand) (V W : Path → Type 0) where
  next_either : (path : Path) → Then (One k) (Either V W) path → Next k V path ⊎ Next k W path
  next_either path t =
      let r = to_next k (Either V W) path t in
      elim r.1 [ inl i ↦ inl (r.0, i, r.2) | inr i ↦ inr (r.0, i, r.2) ]

  from_next_either : (path : Path) → Next k V path ⊎ Next k W path → Then (One k) (Either V W) path
  from_next_either path (inl t) = from_next k (Either V W) path (t.0, inl t.1, t.2)
  from_next_either path (inr t) = from_next k (Either V W) path (t.0, inr t.1, t.2)

  next_either_fall : (path : Path) → Either (OneFall k) (Then (One k) (Either V W)) path → OneFall k path ⊎ (Next k V path ⊎ Next k W path)
  next_either_fall path (inl e) = inl e
  next_either_fall path (inr t) = inr (next_either path t)

  from_next_either_fall : (path : Path) → OneFall k path ⊎ (Next k V path ⊎ Next k W path) → Either (OneFall k) (Then (One k) (Either V W)) path
  from_next_either_fall path (inl e) = inl e
  from_next_either_fall path (inr t) = inr (from_next_either path t)

-- the parts of a body

abbrev pub of_command : Command → Stretch
of_command c = record { part = found c; falls = falls c; Passes = Through c; Falls = UpToFall c }

abbrev pub of_block : CommandBlock → Stretch
of_block b = record { part = found_in_block b; falls = falls_block b; Passes = ThroughBlock b; Falls = UpToFallBlock b }

abbrev of_else : ElseBlock → Stretch
of_else b = record { part = found_in_else b; falls = falls_else b; Passes = ThroughElse b; Falls = UpToFallElse b }

abbrev of_arms : Arms → Stretch
of_arms arms = record { part = found_in_arms arms; falls = falls_arms arms; Passes = ThroughArms arms; Falls = UpToFallArms arms }

abbrev pub of_list : CommandList → Stretch
of_list cs = record { part = found_in_list cs; falls = falls_list cs; Passes = ThroughList cs; Falls = UpToFallList cs }

mutual
  pub command_follows : (c : Command) → Follows (of_command c)
  command_follows (lone k) = one_follows k
  command_follows (try k place b) =
      let handled = fork_follows no_stretch (of_block b) nothing_follows (block_follows b) in
      let whole = in_turn_follows (one k) (fork no_stretch (of_block b)) (one_follows k) handled in
      reworded (in_turn (one k) (fork no_stretch (of_block b))) (Through (try k place b)) (UpToFall (try k place b))
      (or_next k (ThroughBlock b)) (from_or_next k (ThroughBlock b)) (or_next_fall k (UpToFallBlock b))
      (from_or_next_fall k (UpToFallBlock b)) whole
  command_follows (if_else place e b other) = fork_follows (of_block b) (of_else other) (block_follows b) (else_follows other)
  command_follows (try_then k place a b) =
      let either_one = fork_follows (of_block a) (of_block b) (block_follows a) (block_follows b) in
      let whole = in_turn_follows (one k) (fork (of_block a) (of_block b)) (one_follows k) either_one in
      reworded (in_turn (one k) (fork (of_block a) (of_block b))) (Through (try_then k place a b)) (UpToFall (try_then k place a b))
      (next_either k (ThroughBlock a) (ThroughBlock b))
      (from_next_either k (ThroughBlock a) (ThroughBlock b)) (next_either_fall k (UpToFallBlock a) (UpToFallBlock b))
      (from_next_either_fall k (UpToFallBlock a) (UpToFallBlock b)) whole
  command_follows (case_of place e arms) = arms_follow arms

  pub block_follows : (b : CommandBlock) → Follows (of_block b)
  block_follows (command_block cs after) = list_follows cs

  else_follows : (b : ElseBlock) → Follows (of_else b)
  else_follows no_else = nothing_follows
  else_follows (with_else b) = block_follows b

  arms_follow : (arms : Arms) → Follows (of_arms arms)
  arms_follow (last_arm b) = block_follows b
  arms_follow (and_arm constants b arms) = fork_follows (of_block b) (of_arms arms) (block_follows b) (arms_follow arms)

  pub list_follows : (cs : CommandList) → Follows (of_list cs)
  list_follows no_command = nothing_follows
  list_follows (and_command c cs) = in_turn_follows (of_command c) (of_list cs) (command_follows c) (list_follows cs)
