-- A file whose places are moved has the same netlist.
use Rattle.sap_lemmas.proofs.Common.{◌≡◌, ℕ, List, [], ◌∷◌, refl, sym, ap, ◌∙◌, map}
use Rattle.sap_vtext.specs.Items.{Operand, Right, Item, File}
use Rattle.sap_vtext.specs.Items as item
use Rattle.sap_vtext.specs.Modules.{netlist_of}
use Rattle.sap_vtext.proofs.Bare.{bare_name, bare_operand, bare_right, bare_item, bare_port, bare}
use Rattle.sap_vtext.proofs.BareNet.{bare_netlist}
use Rattle.sap_explain.proofs.Moved.{moved_operand, moved_right, moved_item, moved_port, moved}

module _ (move : ℕ → ℕ) where
  all_bare : {A : Type 0} (m b : A → A) → ((x : A) → b (m x) ≡ b x) → (xs : List A) → map b (map m xs) ≡ map b xs
  all_bare m b e [] = refl
  all_bare m b e (x ∷ xs) = let p = e x in let q = all_bare m b e xs in cc

  operand : (x : Operand) → bare_operand (moved_operand move x) ≡ bare_operand x
  operand (item.named x) = refl
  operand (item.constant c) = refl

  right : (x : Right) → bare_right (moved_right move x) ≡ bare_right x
  right (item.copy x) = ap item.copy (operand x)
  right (item.one op x) = ap (item.one op) (operand x)
  right (item.two op x y) = let a = operand x in let b = operand y in cc
  right (item.choose c x y) = let a = operand c in let b = operand x in let d = operand y in cc
  right (item.concat xs) = ap item.concat (all_bare (moved_operand move) bare_operand operand xs)
  right (item.slice x high low) = refl
  right (item.cell m index) = ap (item.cell (bare_name m)) (operand index)

  one_item : (x : Item) → bare_item (moved_item move x) ≡ bare_item x
  one_item (item.assign x r) = ap (item.assign (bare_name x)) (right r)
  one_item (item.always x next) = ap (item.always (bare_name x)) (operand next)
  one_item (item.always_cell condition x index value) = let a = operand condition in let b = operand index in let c = operand value in cc
  one_item (item.wire n x) = refl
  one_item _ = refl

  bare_same : (f : File) → bare (moved move f) ≡ bare f
  bare_same f =
      ap (λ ps. let v : File = record { module_name = f.module_name; ports = ps; items = map bare_item (map (moved_item move) f.items) } in v)
      (all_bare (moved_port move) bare_port (λ p. refl) f.ports)
      ∙ ap (λ xs. let v : File = record { module_name = f.module_name; ports = map bare_port f.ports; items = xs } in v)
      (all_bare (moved_item move) bare_item one_item f.items)

  pub moved_netlist : (f : File) → netlist_of (moved move f) ≡ netlist_of f
  moved_netlist f = sym (bare_netlist (moved move f)) ∙ ap netlist_of (bare_same f) ∙ bare_netlist f
