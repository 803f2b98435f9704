-- What surrounds an expression that is read where some facts hold.
use Rattle.sap_lemmas.proofs.Common.{◌≡◌, ℕ, ◌==◌, List, [], false, sym, ◌∙◌, subst}
use Rattle.sap_maps.specs.Prelude.{Name, Valuation, Scope}
use Rattle.sap_net.specs.Prelude.{Shapes, operand_value}
use Rattle.sap_net.specs.declared.parts.Wire.{Wire}
use Rattle.sap_lower.specs.declared.facts.Fact.{Fact}
use Rattle.sap_lower.specs.declared.parts.Part.{Part}
use Rattle.sap_lower.specs.Facts.{facts_of}
use Rattle.sap_lower.specs.Commands.{entries_plain, entries_under}
use Rattle.sap_lower.specs.Lowering.{Low, present}
use Rattle.sap_lower.specs.Reads.{entries_seen}
use Rattle.sap_lower.proofs.Entries.{present_seen}
use Rattle.sap_lower.proofs.Known.{FactsHold, facts_hold, seen_value, seen_wide}
use Rattle.sap_lower.proofs.Means.{Around, Stands}
use Rattle.sap_lower.proofs.Shared.{Gives}

module _ (ms : Shapes) (vars : Scope) (vw widths : Name → ℕ) (v : Valuation) (es : List (Name × Part)) (value : Name → ℕ) (cells : Name → ℕ → ℕ)
    (around : Around ms vars vw widths v es value cells) where
  around_seen : (ws : List Wire) → Gives widths v ws → (fs : List Fact) → FactsHold v fs → Around ms vars vw widths v (entries_seen ws fs es) value cells
  around_seen ws given fs hold =
      record {
        declared = around.declared;
        env = λ n u h.
            let o = around.env n u h in
            let p = present es n in
            subst (λ (q : Part). Stands widths v q u (value n)) (sym (present_seen ws fs es n))
            (record {
              shows = record {
                value = seen_value widths v ws given fs hold p.operand ∙ o.shows.value;
                wide = seen_wide widths v ws given fs p.operand ∙ o.shows.wide;
                width = o.shows.width;
              };
              below = o.below;
            });
        memories = around.memories;
      }

  pub around_plain : Around ms vars vw widths v (entries_plain es) value cells
  around_plain = around_seen [] tt [] tt

  -- where the gate isn't 0
  pub around_under : (z : Low) → Gives widths v z.wires → (n : ℕ) → operand_value v z.part.operand ≡ n → (n == 0) ≡ false
      → Around ms vars vw widths v (entries_under z es) value cells
  around_under z given n e f =
      let on : (operand_value v z.part.operand == 0) ≡ false = subst (λ (k : ℕ). (k == 0) ≡ false) (sym e) f in
      around_seen z.wires given (facts_of z.wires z.part.operand) (facts_hold widths v z.wires given z.part.operand on)
