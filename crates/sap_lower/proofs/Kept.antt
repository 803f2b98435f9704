-- What names the netlist of a program declares.
use Rattle.sap_lemmas.proofs.Common.{◌≡◌, ◌⊎◌, ◌&&◌, ◌||◌, List, [], ◌∷◌, ◌++◌, Bool, true, not, sym, ap, ◌∙◌, inl, inr, AllByRecursion, cases_Bool, or_other, all_append}
use Rattle.sap_net.proofs.NamesLemmas.{among_append, each_among, among_each}
use Rattle.sap_maps.specs.Maps.{Name}
use Rattle.sap_net.specs.Prelude.{is_among, IsHelpingName, names_of}
use Rattle.sap_net.specs.declared.parts.Wire.{Wire}
use Rattle.sap_ir.specs.Prelude.{Source, variable_names, memory_names, IsGuarded}
use Rattle.sap_lower.specs.Lowered.{last_lowering, listed, all_wires, unported, names_declared}
use Rattle.sap_lower.specs.Same.{IsKept}
use Rattle.sap_lower.proofs.Fits.{IsHelper}
use Rattle.sap_lower.proofs.Declares.{unported_among}
use Rattle.sap_lower.proofs.Names.{outs_named}
use Rattle.sap_lower.proofs.Listed.{into_listed, listed_port}
use Rattle.sap_lower.proofs.Result.{of_unported}

helping_names : (ws : List Wire) → AllByRecursion IsHelper ws → AllByRecursion IsHelpingName (names_of ws)
helping_names [] a = tt
helping_names (w ∷ ws) a = ((a.0.0, a.0.2), helping_names ws a.1)

no_port : (a p : Bool) → (a && not p) ≡ true → p ≡ true → ⊥
no_port true true h e = cc
no_port _ _ h e = cc

abbrev IsNamed : Source → Name → Type 0
IsNamed s x = IsKept s x ⊎ IsHelpingName x

module _ (s : Source) (g : IsGuarded s) (helping : AllByRecursion IsHelper (last_lowering s).wires) where
  abbrev all : List Name
  all = names_of (all_wires s)

  abbrev helpers : List Name
  helpers = names_of (last_lowering s).wires

  abbrev shown : List Name
  shown = variable_names (listed s.ports s.wires)

  port_named : (x : Name) → is_among x s.ports ≡ true → IsNamed s x
  port_named x h =
      let rs = variable_names s.registers in
      let ws = variable_names s.wires in
      let d = among_each (λ n. is_among n (rs ++ ws) ≡ true) s.ports g.ports_declared x h in
      elim (cases_Bool (is_among x rs)) [
        | inl t ↦ inl (inr (inl t))
        | inr f ↦ inl (inr (inr (inr (into_listed s.ports s.wires x (or_other (is_among x rs) (is_among x ws) (sym (among_append x rs ws) ∙ d) f) h))))
      ]

  all_among : (x : Name) → is_among x all ≡ true → (is_among x helpers || is_among x shown) ≡ true
  all_among x h =
      sym (among_append x helpers shown) ∙ sym (ap (λ (ns : List Name). is_among x ns) (outs_named (last_lowering s).entries (last_lowering s).wires (listed s.ports s.wires))) ∙ h

  wire_named : (x : Name) → is_among x (unported s.ports all) ≡ true → IsNamed s x
  wire_named x h =
      elim (cases_Bool (is_among x helpers)) [
        | inl t ↦ inr (among_each IsHelpingName helpers (helping_names (last_lowering s).wires helping) x t)
        | inr f ↦
            let p = listed_port s.ports s.wires x (or_other (is_among x helpers) (is_among x shown) (all_among x (of_unported s.ports all x h)) f) in
            absurd (no_port (is_among x all) (is_among x s.ports) (sym (unported_among s.ports all x) ∙ h) p)
      ]

  pub names_kept : AllByRecursion (λ x. IsKept s x ⊎ IsHelpingName x) (names_declared s (all_wires s))
  names_kept =
      let rs = variable_names s.registers in
      let ms = memory_names s.memories in
      all_append (IsNamed s) (variable_names s.inputs) _ (each_among (IsNamed s) (variable_names s.inputs) (λ x h. inl (inl h)))
      (all_append (IsNamed s) s.ports _ (each_among (IsNamed s) s.ports port_named)
      (all_append (IsNamed s) (unported s.ports all) _ (each_among (IsNamed s) (unported s.ports all) wire_named)
      (all_append (IsNamed s) (unported s.ports rs) ms (each_among (IsNamed s) (unported s.ports rs) (λ x h. inl (inr (inl (of_unported s.ports rs x h)))))
      (each_among (IsNamed s) ms (λ x h. inl (inr (inr (inl h))))))))
