-- The printed first contents and edges have no fault.
use Rattle.sap_lemmas.proofs.Common.{◌≡◌, ℕ, arith, List, [], ◌∷◌, ◌++◌, true, false, Some, refl, sym, ap, ◌∙◌, append_assoc, ◌||◌, map, AllByRecursion, bytes_eq, or_false, all_append, or_left, or_parts}
use Rattle.sap_maps.specs.Prelude.{Name, find}
use Rattle.sap_net.specs.Prelude.{is_among, AreDistinct, Net, IsWidth, IsRegister, IsMemory, IsNetlist, readable}
use Rattle.sap_net.specs.declared.parts.Register.{Register}
use Rattle.sap_net.specs.declared.parts.Memory.{Memory}
use Rattle.sap_vtext.specs.Items as item
use Rattle.sap_vtext.specs.Names.{register, memory, shape_above, item_declarations, Setting, assign, initial, always, target_of, is_target, is_set, has_integer, known_above}
use Rattle.sap_vtext.specs.Widths.{constant_fits, operand_width, value_width, register_width, memory_width}
use Rattle.sap_vtext.specs.Faults.{as_memory, Use, operand_uses, operand_constants}
use Rattle.sap_vtext.proofs.Good.{IsGoodUse, above_of, AreGood}
use Rattle.sap_vprint.specs.Printed.{mention, entities, operand_of, initial_of, initial_cells_of, always_of, always_cell_of}
use Rattle.sap_vprint.proofs.Operands.{Sees, operand_good, operand_fits, operand_is, index_good, fits_is, constant_is, no_differ}
use Rattle.sap_vprint.proofs.Stages.{integer_append, fresh_target, ports, found_kept, set_more}

-- none of these is set so far
abbrev pub AreFresh : {A : Type 0} → (A → Name) → Setting → List A → List item.Item → Type 0
AreFresh name s xs before = AllByRecursion (λ x. is_set s (name x) before ≡ false) xs

-- an item that declares nothing and is no assign
pub record IsQuiet (y : item.Item) : Type 0 where
  pub declares : item_declarations y ≡ []
  pub assigns : (x : Name) → is_target assign x (target_of y) ≡ false

module _ (n : Net) (h : IsNetlist n) where
  -- what holds behind the assigns
  pub record Stage (before : List item.Item) : Type 0 where
    pub sees : Sees n (above_of (ports n h) before) (readable n)
    pub integer : (m : Memory) (ms : List Memory) → n.memories ≡ m ∷ ms → has_integer before ≡ true

  pub stage_more : (before : List item.Item) (y : item.Item) → IsQuiet y → Stage before → Stage (before ++ (y ∷ []))
  stage_more before y q g = record {
    sees = record {
      found = found_kept n h before y q.declares g.sees.found;
      values = λ x w f.
          ap (value_width (find (entities n) x))
          (set_more n h assign x before y ∙ ap (λ b. is_set assign x before || b) (q.assigns x) ∙ or_false (is_set assign x before))
          ∙ g.sees.values x w f;
      cells = g.sees.cells;
      deep = g.sees.deep;
    };
    integer = λ m ms e. integer_append before (y ∷ []) ∙ or_left (has_integer before) _ (g.integer m ms e);
  }

  -- one more that is set leaves the others, whose names differ, fresh
  fresh_more : {A : Type 0} (name : A → Name) (s : Setting) (x : Name) (xs : List A) (before : List item.Item) (y : item.Item) → is_among x (map name xs) ≡ false
      → ((z : Name) → is_target s z (target_of y) ≡ bytes_eq x z) → AreFresh name s xs before → AreFresh name s xs (before ++ (y ∷ []))
  fresh_more name s x [] before y new is g = tt
  fresh_more name s x (z ∷ zs) before y new is g =
      let w = or_parts (bytes_eq x (name z)) (is_among x (map name zs)) new in (
        set_more n h s (name z) before y ∙ ap (λ b. is_set s (name z) before || b) (is (name z) ∙ w.0) ∙ or_false (is_set s (name z) before) ∙ g.0,
        fresh_more name s x zs before y w.1 is g.1,
      )

  abbrev pub AreRegisters : List Register → Type 0
  AreRegisters rs = AllByRecursion (λ r. (find (entities n) r.name ≡ Some (register r.width)) × IsWidth r.width × IsRegister (readable n) r) rs

  abbrev pub AreStores : List Memory → Type 0
  AreStores ms = AllByRecursion (λ m. (find (entities n) m.name ≡ Some (memory m.width m.depth)) × IsWidth m.width × IsMemory (readable n) m) ms

  register_quiet : (r : Register) → IsQuiet (initial_of r)
  register_quiet r = record { declares = refl; assigns = λ x. refl }

  pub initials_good : (rs : List Register) (before : List item.Item) → Stage before → AreFresh (λ r. r.name) initial rs before
      → AreDistinct (map (λ r. r.name) rs) → AreRegisters rs
      → AreGood (ports n h) before (map initial_of rs)
  initials_good [] before g f d m = tt
  initials_good (r ∷ rs) before g f d m =
      let a = above_of (ports n h) before in
      let declared = g.sees.found r.name ∙ m.0.0 in
      let fits = fits_is r.width r.start m.0.1 m.0.2.0 in (
        record {
          fresh = λ t e. fresh_target t (record { setting = initial; name = mention r.name }) before e f.0;
          uses = (record { shape = register r.width; declared = declared; suits = refl; assigned = λ u e q. absurd (cc) }, tt);
          ranges = tt;
          constants = (fits, tt);
          pairs = (no_differ (register_width (shape_above a r.name)) _ r.width (ap register_width declared) (constant_is r.width r.start fits), tt);
          indexes = tt;
          fit = tt;
        },
        initials_good rs (before ++ (initial_of r ∷ [])) (stage_more before (initial_of r) (register_quiet r) g)
            (fresh_more (λ z. z.name) initial r.name rs before (initial_of r) d.0 (λ z. refl) f.1) d.1 m.1,
      )

  same_depth : {x y z w : ℕ} → Some (memory x y) ≡ Some (memory z w) → y ≡ w
  same_depth k = cc

  pub initial_cells_good : (ms done : List Memory) (before : List item.Item) → n.memories ≡ done ++ ms → Stage before
      → AreFresh (λ m. m.name) initial ms before → AreDistinct (map (λ m. m.name) ms) → AreStores ms
      → AreGood (ports n h) before (map initial_cells_of ms)
  initial_cells_good [] done before e g f d m = tt
  initial_cells_good (x ∷ xs) done before e g f d m =
      let a = above_of (ports n h) before in
      let declared = g.sees.found x.name ∙ m.0.0 in
      let fits = fits_is x.width x.start m.0.1 m.0.2.start in (
        record {
          fresh = λ t p. fresh_target t (record { setting = initial; name = mention x.name }) before p f.0;
          uses = (record { shape = memory x.width x.depth; declared = declared; suits = refl; assigned = λ u p q. absurd (cc) }, tt);
          ranges = tt;
          constants = (fits, tt);
          pairs = (no_differ (memory_width (shape_above a x.name)) _ x.width (ap memory_width declared) (constant_is x.width x.start fits), tt);
          indexes = tt;
          fit = (some_memory done e, λ w v p. same_depth (sym declared ∙ p));
        },
        initial_cells_good xs (done ++ (x ∷ [])) (before ++ (initial_cells_of x ∷ [])) (e ∙ sym (append_assoc done (x ∷ []) xs))
            (stage_more before (initial_cells_of x) (record { declares = refl; assigns = λ y. refl }) g)
            (fresh_more (λ z. z.name) initial x.name xs before (initial_cells_of x) d.0 (λ z. refl) f.1) d.1 m.1,
      ) where
        some_memory : (done : List Memory) → n.memories ≡ done ++ (x ∷ xs) → has_integer before ≡ true
        some_memory [] e = g.integer x xs e
        some_memory (y ∷ ys) e = g.integer y (ys ++ (x ∷ xs)) e

  pub always_good : (rs : List Register) (before : List item.Item) → Stage before → AreFresh (λ r. r.name) always rs before → AreDistinct (map (λ r. r.name) rs) → AreRegisters rs
      → AreGood (ports n h) before (map always_of rs)
  always_good [] before g f d m = tt
  always_good (r ∷ rs) before g f d m =
      let a = above_of (ports n h) before in
      let declared = g.sees.found r.name ∙ m.0.0 in (
        record {
          fresh = λ t e. fresh_target t (record { setting = always; name = mention r.name }) before e f.0;
          uses = (
            record { shape = register r.width; declared = declared; suits = refl; assigned = λ u e q. absurd (cc) },
            operand_good n a (readable n) g.sees r.next r.width m.0.2.1,
          );
          ranges = tt;
          constants = operand_fits n a (readable n) g.sees r.next r.width m.0.1 m.0.2.1;
          pairs = (no_differ (register_width (shape_above a r.name)) _ r.width (ap register_width declared) (operand_is n a (readable n) g.sees r.next r.width m.0.1 m.0.2.1), tt);
          indexes = tt;
          fit = tt;
        },
        always_good rs (before ++ (always_of r ∷ [])) (stage_more before (always_of r) (record { declares = refl; assigns = λ y. refl }) g)
            (fresh_more (λ z. z.name) always r.name rs before (always_of r) d.0 (λ z. refl) f.1) d.1 m.1,
      )

  pub always_cells_good : (ms : List Memory) (before : List item.Item) → Stage before → AreFresh (λ m. m.name) always ms before → AreDistinct (map (λ m. m.name) ms) → AreStores ms
      → AreGood (ports n h) before (map always_cell_of ms)
  always_cells_good [] before g f d m = tt
  always_cells_good (x ∷ xs) before g f d m =
      let a = above_of (ports n h) before in
      let declared = g.sees.found x.name ∙ m.0.0 in
      let s = m.0.2 in
      let top = s.depth.1 in
      let deep : IsWidth s.bits = (s.depth.0, omega arith) in
      let one : IsWidth 1 = (omega arith, omega arith) in
      let enable = operand_of x.enable in
      let index = operand_of x.index in
      let value = operand_of x.value in
      let target : Use = record { manner = as_memory; name = mention x.name } in (
        record {
          fresh = λ t e. fresh_target t (record { setting = always; name = mention x.name }) before e f.0;
          uses = all_append (IsGoodUse a) (operand_uses enable) (target ∷ (operand_uses index ++ operand_uses value)) (operand_good n a (readable n) g.sees x.enable 1 s.enable) (
            record { shape = memory x.width x.depth; declared = declared; suits = refl; assigned = λ u e q. absurd (cc) },
            all_append (IsGoodUse a) (operand_uses index) (operand_uses value) (operand_good n a (readable n) g.sees x.index s.bits s.index)
                (operand_good n a (readable n) g.sees x.value x.width s.value),
          );
          ranges = tt;
          constants = all_append (λ c. constant_fits c ≡ true) (operand_constants enable)
              (operand_constants index ++ operand_constants value) (operand_fits n a (readable n) g.sees x.enable 1 one s.enable)
              (all_append (λ c. constant_fits c ≡ true) (operand_constants index) (operand_constants value) (operand_fits n a (readable n) g.sees x.index s.bits deep s.index)
              (operand_fits n a (readable n) g.sees x.value x.width m.0.1 s.value));
          pairs = (
            no_differ (operand_width (known_above a) enable) (Some 1) 1 (operand_is n a (readable n) g.sees x.enable 1 one s.enable) refl,
            (no_differ (memory_width (shape_above a x.name)) _ x.width (ap memory_width declared) (operand_is n a (readable n) g.sees x.value x.width m.0.1 s.value), tt),
          );
          indexes = (index_good n a (readable n) g.sees x.name x.index s.bits x.width deep (declared ∙ ap (λ d. Some (memory x.width d)) s.depth.2) s.index, tt);
          fit = tt;
        },
        always_cells_good xs (before ++ (always_cell_of x ∷ [])) (stage_more before (always_cell_of x) (record { declares = refl; assigns = λ y. refl }) g)
            (fresh_more (λ z. z.name) always x.name xs before (always_cell_of x) d.0 (λ z. refl) f.1) d.1 m.1,
      )
