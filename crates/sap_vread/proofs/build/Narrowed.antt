-- The numbers of a file without a fault are below 4096 already.
use Rattle.sap_lemmas.proofs.Common.{◌≡◌, ℕ, ◌+◌, ◌^◌, ◌<◌, ◌≤◌, List, [], ◌∷◌, ◌++◌, true, cond, refl, sym, ap, ◌∙◌, inl, inr, arith, append_assoc, map, flat_map, AllByRecursion, lt-ltb, pow_mono, all_parts}
use Rattle.sap_vtext.specs.Items.{Mention, Number, Constant, Operand, Right, Port, Item, File}
use Rattle.sap_vtext.specs.Items as item
use Rattle.sap_text.specs.Best.{StandsIn}
use Rattle.sap_vtext.specs.Widths.{constant_fits}
use Rattle.sap_vtext.specs.Faults.{as_value, operand_constants, right_constants, HasIndex, IsFaultless}
use Rattle.sap_vtext.proofs.Good.{above_of}
use Rattle.sap_vread.specs.Build.Narrow.{narrow, narrow_number, narrow_constant, narrow_operand, narrow_right, narrow_port, narrow_item, narrow_file}
use Rattle.sap_vread.proofs.build.Sound.{good_use, good_constants, slice_fits, good_depth, small_port, small_range, Part}
use Rattle.sap_vread.proofs.build.Parts.{item_in, shape_below}
use Rattle.sap_vread.proofs.build.Readable.{small_constant, fine_shape, fine_width}

pub narrow_small : (n : ℕ) → n < 4096 → narrow n ≡ n
narrow_small n h = ap (λ b. cond b n 0) (lt-ltb n 4096 h)

number_same : (n : Number) → n.value < 4096 → narrow_number n ≡ n
number_same n h = ap (λ v. let m : Number = record { place = n.place; value = v } in m) (narrow_small n.value h)

constant_same : (c : Constant) → constant_fits c ≡ true → narrow_constant c ≡ c
constant_same c h =
    let s = small_constant c h in
    let high = s.width.1 in
    let small : c.width < 4096 = omega arith in
    ap (λ w. let k : Constant = record { place = c.place; width = w; value = c.value } in k) (narrow_small c.width small)

operand_same : (o : Operand) → AllByRecursion (λ c. constant_fits c ≡ true) (operand_constants o) → narrow_operand o ≡ o
operand_same (item.named x) h = refl
operand_same (item.constant c) h = ap item.constant (constant_same c h.0)

operands_same : (os : List Operand) → AllByRecursion (λ c. constant_fits c ≡ true) (flat_map operand_constants os) → map narrow_operand os ≡ os
operands_same [] h = refl
operands_same (o ∷ os) h =
    let p = all_parts (λ c. constant_fits c ≡ true) (operand_constants o) (flat_map operand_constants os) h in
    let a = operand_same o p.0 in
    let b = operands_same os p.1 in
    cc

module _ (f : File) (h : IsFaultless f) where
  right_same : (x : Mention) (right : Right) → Part (item.assign x right) f.items
      → AllByRecursion (λ c. constant_fits c ≡ true) (right_constants right) → narrow_right right ≡ right
  right_same x (item.copy o) p c = ap item.copy (operand_same o c)
  right_same x (item.one op o) p c = ap (item.one op) (operand_same o c)
  right_same x (item.two op o q) p c =
      let s = all_parts (λ k. constant_fits k ≡ true) (operand_constants o) (operand_constants q) c in
      let a = operand_same o s.0 in
      let b = operand_same q s.1 in
      cc
  right_same x (item.choose k o q) p c =
      let s = all_parts (λ z. constant_fits z ≡ true) (operand_constants k) (operand_constants o ++ operand_constants q) c in
      let t = all_parts (λ z. constant_fits z ≡ true) (operand_constants o) (operand_constants q) s.1 in
      let a = operand_same k s.0 in
      let b = operand_same o t.0 in
      let d = operand_same q t.1 in
      cc
  right_same x (item.concat os) p c = ap item.concat (operands_same os c)
  right_same x (item.slice y high low) p c =
      let i = item_in f (item.assign x (item.slice y high low)) p in
      let g = good_use f h (above_of f.ports p.before) (item.assign x (item.slice y high low)) i (record { manner = as_value; name = y }) (inr (inl refl)) in
      let q = slice_fits f h (above_of f.ports p.before) x y high low g.shape i g.declared in
      let below = shape_below f p.before (item.assign x (item.slice y high low) ∷ p.after) y.name g.shape p.is g.declared in
      let wide = (fine_width g.shape (fine_shape f h y.name g.shape below)).1 in
      let order = q.0 in
      let top = q.1 in
      let a : narrow high ≡ high = narrow_small high (omega arith) in
      let b : narrow low ≡ low = narrow_small low (omega arith) in
      cc
  right_same x (item.cell m index) p c = ap (item.cell m) (operand_same index c)

  depth_small : (n : ℕ) → HasIndex (n + 1) → n < 4096
  depth_small n d =
      let low = d.1.0 in
      let high = d.1.1 in
      let most : 2 ^ d.0 ≤ 2 ^ 12 = pow_mono high in
      let is = d.1.2 in
      let top : 2 ^ 12 ≡ 4096 = refl in
      omega arith

  item_same : (x : Item) → Part x f.items → narrow_item x ≡ x
  item_same (item.wire range x) p =
      let small = small_range f h (above_of f.ports p.before) (item.wire range x) (item_in f (item.wire range x) p) range (inl refl) in
      ap (λ n. item.wire n x) (number_same range (omega arith))
  item_same (item.register range x) p =
      let small = small_range f h (above_of f.ports p.before) (item.register range x) (item_in f (item.register range x) p) range (inl refl) in
      ap (λ n. item.register n x) (number_same range (omega arith))
  item_same (item.memory range x last) p =
      let i = item_in f (item.memory range x last) p in
      let small = small_range f h (above_of f.ports p.before) (item.memory range x last) i range (inl refl) in
      let deep = depth_small last.value (good_depth f h (above_of f.ports p.before) range last x i) in
      ap (λ n. item.memory n x (narrow_number last)) (number_same range (omega arith)) ∙ ap (item.memory range x) (number_same last deep)
  item_same (item.integer place) p = refl
  item_same (item.assign x right) p =
      ap (item.assign x) (right_same x right p (good_constants f h (above_of f.ports p.before) (item.assign x right) (item_in f (item.assign x right) p)))
  item_same (item.initial x value) p = refl
  item_same (item.initial_cells place bound x value) p = refl
  item_same (item.always x next) p =
      ap (item.always x) (operand_same next (good_constants f h (above_of f.ports p.before) (item.always x next) (item_in f (item.always x next) p)))
  item_same (item.always_cell condition x index value) p =
      let c = good_constants f h (above_of f.ports p.before) (item.always_cell condition x index value) (item_in f (item.always_cell condition x index value) p) in
      let s = all_parts (λ z. constant_fits z ≡ true) (operand_constants condition) (operand_constants index ++ operand_constants value) c in
      let t = all_parts (λ z. constant_fits z ≡ true) (operand_constants index) (operand_constants value) s.1 in
      let a = operand_same condition s.0 in
      let b = operand_same index t.0 in
      let d = operand_same value t.1 in
      cc

  items_same : (before rest : List Item) → f.items ≡ before ++ rest → map narrow_item rest ≡ rest
  items_same before [] e = refl
  items_same before (x ∷ rest) e =
      let a = item_same x (record { before = before; after = rest; is = e }) in
      let b = items_same (before ++ x ∷ []) rest (e ∙ sym (append_assoc before (x ∷ []) rest)) in
      cc

  port_same : (p : Port) → StandsIn p f.ports → narrow_port p ≡ p
  port_same p m =
      let small = small_port f h p m in
      ap (λ n. let q : Port = record { direction = p.direction; range = n; name = p.name } in q) (number_same p.range (omega arith))

  ports_same : (ps : List Port) → ((p : Port) → StandsIn p ps → StandsIn p f.ports) → map narrow_port ps ≡ ps
  ports_same [] k = refl
  ports_same (p ∷ ps) k =
      let a = port_same p (k p (inl refl)) in
      let b = ports_same ps (λ q m. k q (inr m)) in
      cc

  pub file_same : narrow_file f ≡ f
  file_same =
      ap (λ ps. let g : File = record { module_name = f.module_name; ports = ps; items = map narrow_item f.items } in g) (ports_same f.ports (λ p m. m))
      ∙ ap (λ xs. let g : File = record { module_name = f.module_name; ports = f.ports; items = xs } in g) (items_same [] f.items refl)
