-- A program that is made of its parts.
use Rattle.sap_lemmas.proofs.Common.{◌≡◌, ℕ, List, Bool, length, map, sym, ap, ap₂, ◌∙◌, length_map}
use Rattle.sap_tree.specs.Prelude.{DesignTree, root_touches}
use Rattle.sap_lattice.specs.Prelude.{Levels, order_of, Order}
use Rattle.sap_names.specs.Entities.{entities_of}
use Rattle.sap_names.specs.declared.entity.Entity.{Entity}
use Rattle.sap_meaning.specs.Program as program
use Rattle.sap_hang.specs.Hang.{Table, IsHangTable}
use Rattle.sap_resolved.specs.Fill.{program_of}
use Rattle.sap_resolved.specs.Resolve.{states_of}
use Rattle.sap_shape.specs.Sites.{check_sites}
use Rattle.sap_resolved.specs.Worlds.{world_of}
use Rattle.sap_resolved.specs.Kept.Hangs.{group_rows, row_of, rows_of}
use Rattle.sap_program.specs.Prelude.{IsProgramOf, flags, entity_of, group_of, count}
use Rattle.sap_program.specs.declared.program.Program.{Program}
use Rattle.sap_resolve.specs.Lists.{names_of, own_names}
use Rattle.sap_resolve.specs.Rows.{rows_in, root_row_in, group_with}
use Rattle.sap_resolve.proofs.Placed.{placed, root_placed}

abbrev build : Order → List program.Entity → List ℕ → program.Group → List Bool → program.Program
build o entities children states hang = record { world = record { order = o; entities = entities; children = children }; states = states; hang = hang }

build_same : (o : Order) (a b : List program.Entity) (c d : List ℕ) (s t : program.Group) (h i : List Bool) → a ≡ b → c ≡ d → s ≡ t → h ≡ i → build o a c s h ≡ build o b d t i
build_same o a b c d s t h i e f g k = ap₂ (λ (x : List program.Entity) (y : List ℕ). build o x y s h) e f ∙ ap₂ (λ (x : program.Group) (y : List Bool). build o b d x y) g k

-- where the code sees these entities, levels and tree as the design's
pub program_made : (ls m : Levels) (d e : DesignTree) (es : List Entity) (t : Table) (p : Program) → m ≡ ls → e ≡ d → es ≡ entities_of d → IsHangTable d t
    → (group_rows (program_of ls d).states ≡ rows_of d) × ((program_of ls d).hang ≡ row_of (entities_of d) (root_touches d))
    → map entity_of p.entities.items ≡ (world_of m e).entities → own_names p.entities.items ≡ names_of (entities_of e) → p.children.items ≡ (world_of ls e).children
    → group_of (length es) p.states.items ≡ group_with (rows_in (length es) t) 1 (states_of m e) → p.sites ≡ length (check_sites e)
    → flags (length es) p.hang ≡ root_row_in (length es) t → IsProgramOf ls d p
program_made ls m d e es t p a b c is agree entities named children states sites hang =
    let names = named ∙ ap (λ (x : DesignTree). names_of (entities_of x)) b in
    let counted : count p ≡ length (entities_of d) = sym (length_map (λ x. x.name) p.entities.items) ∙ ap length names ∙ length_map (λ x. x.name.name) (entities_of d) in
    let same : length es ≡ length (entities_of d) = ap length c in
    record {
      program = build_same (order_of ls) _ _ _ _ _ _ _ _
          (entities ∙ ap₂ (λ (l : Levels) (x : DesignTree). (world_of l x).entities) a b)
          (children ∙ ap (λ (x : DesignTree). (world_of ls x).children) b)
          (ap (λ (n : ℕ). group_of n p.states.items) (counted ∙ sym same) ∙ states ∙ ap (λ (n : ℕ). group_with (rows_in n t) 1 (states_of m e)) same
          ∙ ap₂ (λ (l : Levels) (x : DesignTree). group_with (rows_in (length (entities_of d)) t) 1 (states_of l x)) a b ∙ placed ls d t is agree.0)
          (ap (λ (n : ℕ). flags n p.hang) (counted ∙ sym same) ∙ hang ∙ ap (λ (n : ℕ). root_row_in n t) same ∙ root_placed d t is ∙ sym agree.1);
      names = names;
      sites = sites ∙ ap (λ (x : DesignTree). length (check_sites x)) b;
    }
