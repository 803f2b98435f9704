-- The check sites, the points and the entities of a design stand along the tokens of its text.
use Rattle.std.proofs.Common.{ℕ, List, [], ◌∷◌, refl}
use Rattle.std.specs.Prelude.{map}
use Rattle.sap_check.specs.Points.{points_of, word_of}
use Rattle.sap_check.specs.Sites.{site_of, sites_of}
use Rattle.sap_check.specs.declared.point.Point.{Point}
use Rattle.sap_check.specs.declared.site.Site.{Site}
use Rattle.sap_names.specs.Entities.{declared_in, entities_of, entity_of, group_entities, state_entities}
use Rattle.sap_names.specs.declared.entity.Entity.{Entity}
use Rattle.sap_parse.specs.Grammar as g
use Rattle.sap_parse.specs.Stages.{Stage}
use Rattle.sap_parse.specs.Text.{IsText}
use Rattle.sap_placed.proofs.Along.{Between, stay, ◌then◌, ◌upto◌, mapped, passes, skips, meets, rise_along}
use Rattle.sap_placed.proofs.Commands.{commands_placed, commands_worded, site_place, word_place}
use Rattle.sap_placed.proofs.Passing.{header_passed, initial_passed, kind_passed}
use Rattle.sap_placed.proofs.Tokens.{tokens_rise}
use Rattle.sap_placed.specs.Placed.{Rise}
use Rattle.sap_shape.specs.Sites.{state_sites, states_sites}
use Rattle.sap_text.specs.declared.place.Place.{Place}
use Rattle.sap_tree.specs.Points as tree
use Rattle.sap_tree.specs.Syntax as t
use Rattle.sap_tree.specs.Touches.{home_of}
use Rattle.sap_tree.specs.declared.syntax.Decl.{Decl}

-- entities

abbrev name_place : Entity → Place
name_place e = e.name.place

declaration_named : {p q : Stage} {d : Decl} → g.Declaration p d q → Between name_place p (entity_of d ∷ []) q
declaration_named (g.input a n b w c) = skips a then meets _ refl n then skips b then skips w then skips c
declaration_named (g.register a n b w k i c) = skips a then meets _ refl n then skips b then skips w then kind_passed k then initial_passed i then skips c
declaration_named (g.memory a n b w c d e k f) =
    skips a then meets _ refl n then skips b then skips w then skips c then skips d then skips e then kind_passed k then skips f

declarations_named : {p q : Stage} {ds : List Decl} → g.Declarations p ds q → Between name_place p (declared_in ds) q
declarations_named g.no_declaration = stay
declarations_named (g.declaration d ds) = declaration_named d then declarations_named ds

mutual
  state_named : {depth : ℕ} {p q : Stage} {s : t.StateTree} → g.State depth p s q → Between name_place p (state_entities s) q
  state_named (g.state a n k b cs ss c) =
      skips a then meets _ refl n then kind_passed k then skips b then passes (commands_worded cs) then (states_named ss upto skips c)

  states_named : {depth : ℕ} {p q : Stage} {ss : t.StateList} → g.States depth p ss q → Between name_place p (group_entities ss) q
  states_named g.no_state = stay
  states_named (g.and_state s ss) = state_named s then states_named ss

design_named : {p q : Stage} {d : t.DesignTree} → g.Design p d q → Between name_place p (entities_of d) q
design_named (g.design h ds s ss) = header_passed h then declarations_named ds then state_named s then states_named ss

-- the declarations have no check site and no point
declarations_passed : {A : Type 0} {place : A → Place} {p q : Stage} {ds : List Decl} → g.Declarations p ds q → Between place p [] q
declarations_passed ds = passes (declarations_named ds)

-- check sites

module _ (es : List Entity) where
  mutual
    state_placed : {depth : ℕ} {p q : Stage} {s : t.StateTree} → g.State depth p s q → Between site_place p (state_sites es s) q
    state_placed {s = s} (g.state a n k b cs ss c) =
        skips a then skips n then kind_passed k then skips b then commands_placed (record { entities = es; home = home_of s }) cs
        then (states_placed ss upto skips c)

    states_placed : {depth : ℕ} {p q : Stage} {ss : t.StateList} → g.States depth p ss q → Between site_place p (states_sites es ss) q
    states_placed g.no_state = stay
    states_placed (g.and_state s ss) = state_placed s then states_placed ss

  design_placed : {p q : Stage} {d : t.DesignTree} → g.Design p d q → Between site_place p (states_sites es d.states) q
  design_placed (g.design h ds s ss) = header_passed h then declarations_passed ds then state_placed s then states_placed ss

-- points

abbrev point_place : tree.Point → Place
point_place p = word_place p.command

mutual
  state_worded : {depth : ℕ} {p q : Stage} {s : t.StateTree} → g.State depth p s q → Between point_place p (tree.state_points s) q
  state_worded (g.state a n k b cs ss c) =
      skips a then skips n then kind_passed k then skips b then mapped (tree.point _) point_place (commands_worded cs) then (states_worded ss upto skips c)

  states_worded : {depth : ℕ} {p q : Stage} {ss : t.StateList} → g.States depth p ss q → Between point_place p (tree.states_points ss) q
  states_worded g.no_state = stay
  states_worded (g.and_state s ss) = state_worded s then states_worded ss

design_worded : {p q : Stage} {d : t.DesignTree} → g.Design p d q → Between point_place p (tree.points_of d) q
design_worded (g.design h ds s ss) = header_passed h then declarations_passed ds then state_worded s then states_worded ss

-- so their places rise

pub sites_rise : (text : List ℕ) (design : t.DesignTree) → IsText text design → Rise (map (λ (s : Site). s.place) (sites_of design))
sites_rise text design d =
    rise_along (mapped site_of (λ s. s.place) (design_placed (entities_of design) d.whole.design)) (tokens_rise text d.tokens d.lexed)

pub points_rise : (text : List ℕ) (design : t.DesignTree) → IsText text design → Rise (map (λ (p : Point). p.place) (points_of design))
points_rise text design d =
    rise_along (mapped (λ (p : tree.Point). word_of p.command) (λ p. p.place) (design_worded d.whole.design)) (tokens_rise text d.tokens d.lexed)

pub entities_rise : (text : List ℕ) (design : t.DesignTree) → IsText text design → Rise (map (λ (e : Entity). e.name.place) (entities_of design))
entities_rise text design d = rise_along (design_named d.whole.design) (tokens_rise text d.tokens d.lexed)
