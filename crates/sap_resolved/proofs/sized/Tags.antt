-- A tag expression in which no fault stands has levels of the lattice, and expressions that fit.
use Rattle.std.proofs.Common.{◌≡◌, ℕ, ◌<◌, List, [], length, None, sym, subst}
use Rattle.sap_tree.specs.Syntax.{TagExpression, level_of, tag_at, level_at, join_of, TagExpressions, no_tag, and_tag}
use Rattle.sap_lattice.specs.Levels.{Levels, order_of}
use Rattle.sap_names.specs.Prelude.{what_is, tag_faults, tags_faults}
use Rattle.sap_names.specs.declared.entity.Entity.{Entity}
use Rattle.sap_meaning.specs.Prelude.{World, FineLevel, SizedLevel}
use Rattle.sap_resolved.specs.Worlds.{level_number}
use Rattle.sap_resolved.proofs.WorldsLemmas.{known_level}
use Rattle.sap_resolved.specs.Terms.{level_term, level_terms}
use Rattle.sap_resolved.proofs.sized.Faultless.{none_two}
use Rattle.sap_resolved.proofs.sized.Declared.{Resolved}
use Rattle.sap_resolved.proofs.sized.Expressions.{expression_fitted}

-- What is known of the names of a design, its levels' names included.
pub record Ready (ls : Levels) (es : List Entity) (w : World) : Type 0 where
  pub names : Resolved es w
  pub count : w.order.count ≡ length ls.names
  pub bottom : (order_of ls).bottom < w.order.count

module _ (ls : Levels) (es : List Entity) (w : World) (r : Ready ls es w) where
  mutual
    pub tag_fitted : (t : TagExpression) → tag_faults ls.names (what_is es) t ≡ [] → FineLevel w (level_term ls es t) × SizedLevel w (level_term ls es t)
    tag_fitted (level_of m) h = (subst (λ (k : ℕ). level_number ls m < k) (sym r.count) (known_level ls m h).0, tt)
    tag_fitted (tag_at place e) h = let f = expression_fitted es w r.names e None h in (f.fine, (f.fits, f.indexed))
    tag_fitted (level_at place e) h = let f = expression_fitted es w r.names e None h in (f.fine, (f.fits, f.indexed))
    tag_fitted (join_of place parts) h = tags_fitted parts h

    tags_fitted : (ts : TagExpressions) → tags_faults ls.names (what_is es) ts ≡ [] → FineLevel w (level_terms ls es ts) × SizedLevel w (level_terms ls es ts)
    tags_fitted no_tag h = (r.bottom, tt)
    tags_fitted (and_tag t no_tag) h = tag_fitted t (none_two (tag_faults ls.names (what_is es) t) [] h).0
    tags_fitted (and_tag t (and_tag u ts)) h =
        let n = none_two (tag_faults ls.names (what_is es) t) (tags_faults ls.names (what_is es) (and_tag u ts)) h in
        let a = tag_fitted t n.0 in
        let b = tags_fitted (and_tag u ts) n.1 in
        ((a.0, b.0), (a.1, b.1))
