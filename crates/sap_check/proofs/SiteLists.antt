-- The sites of lists of commands and of states, from a place on.
use Rattle.sap_lemmas.proofs.Common.{◌≡◌, ℕ, ◌+◌, ◌<◌, ◌≤◌, List, [], ◌∷◌, ◌++◌, length, get_or, drop, refl, sym, ap, ◌∙◌, at_drop_all, at_drop_more, append_assoc, Some, map, map-append, append-nil}
use Rattle.sap_tree.specs.Prelude.{tree_of, StateTree, command_of, commands_of, block_of, arm_block_of, arms_of, else_of, state_of, states_of}
use Rattle.sap_tree.specs.declared.syntax.Block.{Block}
use Rattle.sap_tree.specs.declared.syntax.Arm.{Arm}
use Rattle.sap_tree.specs.declared.syntax.Cmd.{Cmd}
use Rattle.sap_tree.specs.declared.syntax.State.{State, out-State}
use Rattle.sap_tree.specs.declared.syntax.Decl.{Decl}
use Rattle.sap_tree.specs.declared.version.Version.{Version}
use Rattle.sap_names.specs.Entities.{entities_of}
use Rattle.sap_names.specs.declared.entity.Entity.{Entity}
use Rattle.sap_tree.proofs.Views.{state_of-out}
use Rattle.sap_check.specs.declared.site.Site.{Site}
use Rattle.sap_shape.specs.Sites.{Surroundings, command_sites, block_sites, else_sites, state_sites}
use Rattle.sap_shape.specs.Sites as sites
use Rattle.sap_shape.specs.Lists as shape_lists
use Rattle.sap_check.specs.Sites.{site_of, sites_of}
use Rattle.sap_check.specs.Lists.{list_sites, arms_sites, group_sites}

-- one part, and those behind it
pub after_part : {A : Type 0} (old new part rest all : List A) → new ≡ old ++ part → all ≡ part ++ rest → new ++ rest ≡ old ++ all
after_part old new part rest all h e = ap (λ l. l ++ rest) h ∙ append_assoc old part rest ∙ ap (λ l. old ++ l) (sym e)

module _ (h : Surroundings) where
  list_sites-drop : (cs : List Cmd) (n : ℕ) (d : Cmd) → n < length cs → d ≡ get_or cs n d
      → list_sites h (drop n cs) ≡ map site_of (command_sites h (command_of d)) ++ list_sites h (drop (n + 1) cs)
  unfolding list_sites
  list_sites-drop cs n d l e =
      at_drop_more (list_sites h) cs n d l ∙ ap (λ (x : Cmd). list_sites h (x ∷ drop (n + 1) cs)) (sym e)
      ∙ map-append site_of (command_sites h (command_of d)) (sites.list_sites h (commands_of (drop (n + 1) cs)))

  pub list_sites-past : (cs : List Cmd) (n : ℕ) → length cs ≤ n → list_sites h (drop n cs) ≡ []
  unfolding list_sites
  list_sites-past cs n l = at_drop_all (list_sites h) cs n l

  pub sites_step : (cs : List Cmd) (n : ℕ) (d : Cmd) (old new : List Site) → n < length cs → d ≡ get_or cs n d → new ≡ old ++ map site_of (command_sites h (command_of d))
      → new ++ list_sites h (drop (n + 1) cs) ≡ old ++ list_sites h (drop n cs)
  sites_step cs n d old new l e k = after_part old new _ _ _ k (list_sites-drop cs n d l e)

  arms_sites-drop : (arms : List Arm) (n : ℕ) (d : Arm) (cs : List Cmd) → n < length arms → d ≡ get_or arms n d → cs ≡ d.block.commands.items
      → arms_sites h (drop n arms) ≡ list_sites h cs ++ arms_sites h (drop (n + 1) arms)
  unfolding arms_sites list_sites shape_lists.arms_sites
  arms_sites-drop arms n d cs l e f =
      at_drop_more (arms_sites h) arms n d l ∙ ap (λ (a : Arm). arms_sites h (a ∷ drop (n + 1) arms)) (sym e)
      ∙ map-append site_of (block_sites h (arm_block_of d)) (shape_lists.arms_sites h (drop (n + 1) arms))
      ∙ ap (λ (k : List Cmd). list_sites h k ++ arms_sites h (drop (n + 1) arms)) (sym f)

  pub arms_sites-past : (arms : List Arm) (n : ℕ) → length arms ≤ n → arms_sites h (drop n arms) ≡ []
  unfolding arms_sites shape_lists.arms_sites
  arms_sites-past arms n l = at_drop_all (arms_sites h) arms n l

  pub arms_step : (arms : List Arm) (n : ℕ) (d : Arm) (cs : List Cmd) (old new : List Site) → n < length arms → d ≡ get_or arms n d
      → cs ≡ d.block.commands.items → new ≡ old ++ list_sites h cs
      → new ++ arms_sites h (drop (n + 1) arms) ≡ old ++ arms_sites h (drop n arms)
  arms_step arms n d cs old new l e f k = after_part old new _ _ _ k (arms_sites-drop arms n d cs l e f)

  pub arms_sites-of : (arms : List Arm) (last : Block) → map site_of (sites.arms_sites h (arms_of arms (block_of last))) ≡ arms_sites h arms ++ list_sites h last.commands.items
  unfolding arms_sites list_sites shape_lists.arms_sites
  arms_sites-of [] last = refl
  arms_sites-of (arm ∷ arms) last =
      let here = map site_of (block_sites h (arm_block_of arm)) in
      let end = list_sites h last.commands.items in
      map-append site_of (block_sites h (arm_block_of arm)) (sites.arms_sites h (arms_of arms (block_of last)))
      ∙ ap (λ (l : List Site). here ++ l) (arms_sites-of arms last)
      ∙ sym (append_assoc here (arms_sites h arms) end)
      ∙ ap (λ (l : List Site). l ++ end) (sym (map-append site_of (block_sites h (arm_block_of arm)) (shape_lists.arms_sites h arms)))

  pub block_sites-is : (b : Block) → map site_of (block_sites h (block_of b)) ≡ list_sites h b.commands.items
  unfolding list_sites
  block_sites-is b = refl

  pub else_sites-is : (b : Block) → map site_of (else_sites h (else_of (Some b))) ≡ list_sites h b.commands.items
  unfolding list_sites
  else_sites-is b = refl

module _ (es : List Entity) where
  group_sites-drop : (ss : List State) (n : ℕ) (d : State) → n < length ss → d ≡ get_or ss n d
      → group_sites es (drop n ss) ≡ map site_of (state_sites es (state_of d)) ++ group_sites es (drop (n + 1) ss)
  unfolding group_sites
  group_sites-drop ss n d l e =
      at_drop_more (group_sites es) ss n d l ∙ ap (λ (x : State). group_sites es (x ∷ drop (n + 1) ss)) (sym e)
      ∙ map-append site_of (state_sites es (state_of d)) (sites.states_sites es (states_of (drop (n + 1) ss)))

  pub group_sites-past : (ss : List State) (n : ℕ) → length ss ≤ n → group_sites es (drop n ss) ≡ []
  unfolding group_sites
  group_sites-past ss n l = at_drop_all (group_sites es) ss n l

  pub states_step : (ss : List State) (n : ℕ) (d : State) (old new : List Site) → n < length ss → d ≡ get_or ss n d → new ≡ old ++ map site_of (state_sites es (state_of d))
      → new ++ group_sites es (drop (n + 1) ss) ≡ old ++ group_sites es (drop n ss)
  states_step ss n d old new l e k = after_part old new _ _ _ k (group_sites-drop ss n d l e)

  pub state_sites-is : (s : State) → map site_of (state_sites es (state_of s))
      ≡ list_sites (record { entities = es; home = record { name = (out-State s).name.name; kind = (out-State s).kind; children = states_of (out-State s).children.items } })
      (out-State s).body.commands.items
      ++ group_sites es (out-State s).children.items
  unfolding list_sites group_sites
  state_sites-is s = ap (λ (t : StateTree). map site_of (state_sites es t)) (state_of-out s) ∙ map-append site_of _ _

pub sites_whole : (v : Version) (ds : List Decl) (ss : List State) (es : List Entity) (old new : List Site) (seen : List State) → es ≡ entities_of (tree_of v ds ss) → seen ≡ ss
    → old ≡ [] → new ≡ old ++ group_sites es seen → new ≡ sites_of (tree_of v ds ss)
unfolding group_sites
sites_whole v ds ss es old new seen a b c h = h ∙ rw (a, b, c) refl

-- at the end nothing is left
pub list_end : (h : Surroundings) (cs : List Cmd) (n : ℕ) (new all : List Site) → length cs ≤ n → new ++ list_sites h (drop n cs) ≡ all → new ≡ all
list_end h cs n new all l e = sym (append-nil new) ∙ ap (λ (r : List Site). new ++ r) (sym (list_sites-past h cs n l)) ∙ e

pub arms_end : (h : Surroundings) (arms : List Arm) (n : ℕ) (new all : List Site) → length arms ≤ n → new ++ arms_sites h (drop n arms) ≡ all → new ≡ all
arms_end h arms n new all l e = sym (append-nil new) ∙ ap (λ (r : List Site). new ++ r) (sym (arms_sites-past h arms n l)) ∙ e

pub group_end : (es : List Entity) (ss : List State) (n : ℕ) (new all : List Site) → length ss ≤ n → new ++ group_sites es (drop n ss) ≡ all → new ≡ all
group_end es ss n new all l e = sym (append-nil new) ∙ ap (λ (r : List Site). new ++ r) (sym (group_sites-past es ss n l)) ∙ e

pub ruleset lists = (list_sites-past, arms_sites-past, group_sites-past)

pub ruleset blocks = (block_sites-is, else_sites-is, arms_sites-of, append_assoc, map-append)

pub ruleset states = (state_sites-is, append_assoc)
