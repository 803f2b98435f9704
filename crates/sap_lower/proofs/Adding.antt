-- What holds of wires as one is added holds of them as a program is lowered.
use Rattle.sap_lemmas.proofs.Common.{ℕ, Bool, true, false, List, [], ◌∷◌, Option, Some, None, if◌then◌else◌}
use Rattle.sap_bits.specs.declared.Op2.{Op2}
use Rattle.sap_maps.specs.Prelude.{Name, Term, cell, one, two, choose, join, part}
use Rattle.sap_net.specs.Rules.{Shapes}
use Rattle.sap_net.specs.declared.parts.Operand.{Operand}
use Rattle.sap_net.specs.declared.parts.Operand.TheVariants.{Named, Constant}
use Rattle.sap_net.specs.declared.parts.Right.{Right}
use Rattle.sap_net.specs.declared.parts.Right.TheVariants.{Choose}
use Rattle.sap_net.specs.declared.parts.Wire.{Wire}
use Rattle.sap_ir.specs.Prelude.{Action, set, put, Command}
use Rattle.sap_lower.specs.declared.parts.Part.{Part}
use Rattle.sap_lower.specs.declared.parts.WritePort.{WritePort}
use Rattle.sap_lower.specs.declared.lowering.Lowering.{Lowering}
use Rattle.sap_lower.specs.Facts.{is_zero}
use Rattle.sap_lower.specs.Lowering.{nothing, present, Low, plus, copied, placed, calculated, leaves_nothing, low_two, sliced, is_outside, low_slice, low}
use Rattle.sap_fold.specs.Folding.{same_operand, settled}
use Rattle.sap_lower.specs.Writes.{reads_cell, spared, low_write}
use Rattle.sap_lower.specs.Commands.{chosen_unless, entries_plain, entries_under, port_of, taken_over, low_set, low_put, low_action, low_command, low_commands}

-- of wires before and after: where none is added, where some are and then others, and where one is
pub record OfEach (R : List Wire → List Wire → Type 0) : Type 0 where
  pub none : (ws : List Wire) → R ws ws
  pub both : (ws xs ys : List Wire) → R ws xs → R xs ys → R ws ys
  pub wire : (ws : List Wire) (u : ℕ) (r : Right) → R ws (plus ws u r).wires

module _ (R : List Wire → List Wire → Type 0) (each : OfEach R) where
  -- expressions

  none_or : (b : Bool) (ws : List Wire) (p : Part) (after : Low) → R ws after.wires → R ws (if b then record { wires = ws; part = p } else after).wires
  none_or true ws p after h = each.none ws
  none_or false ws p after h = h

  placed_added : (o : Option Operand) (ws : List Wire) (u : ℕ) (r : Right) → R ws (placed o ws u r).wires
  placed_added (Some o) ws u r = each.none ws
  placed_added None ws u r = each.wire ws u r

  pub calculated_added : (ws : List Wire) (u : ℕ) (r : Right) → R ws (calculated ws u r).wires
  unfolding calculated
  calculated_added ws u r = placed_added (copied (settled u r)) ws u r

  pub two_added : (op : Op2) (x y : Part) (ws : List Wire) → R ws (low_two op x y ws).wires
  two_added op x y ws = none_or (leaves_nothing op x.width y.operand) ws _ _ (calculated_added ws _ _)

  sliced_added : (o : Operand) (hi lo : ℕ) (ws : List Wire) → R ws (sliced o hi lo ws).wires
  sliced_added (Named x) hi lo ws = each.wire ws _ _
  sliced_added (Constant w n) hi lo ws = each.none ws

  pub slice_added : (o : Operand) (hi lo : ℕ) (ws : List Wire) → R ws (low_slice o hi lo ws).wires
  slice_added o hi lo ws = none_or (is_outside hi lo) ws nothing (sliced o hi lo ws) (sliced_added o hi lo ws)

  pub low_added : (ms : Shapes) (es : List (Name × Part)) (t : Term Name) (ws : List Wire) → R ws (low ms es t ws).wires
  low_added ms es (cell m i) ws =
      let y = low ms es i ws in
      each.both ws y.wires _ (low_added ms es i ws) (each.wire y.wires _ _)
  low_added ms es (one op a) ws =
      let x = low ms es a ws in
      each.both ws x.wires _ (low_added ms es a ws) (calculated_added x.wires _ _)
  low_added ms es (two op a b) ws =
      let x = low ms es a ws in
      let y = low ms es b x.wires in
      each.both ws x.wires _ (low_added ms es a ws) (each.both x.wires y.wires _ (low_added ms es b x.wires) (two_added op x.part y.part y.wires))
  low_added ms es (choose c a b) ws =
      let z = low ms es c ws in
      let x = low ms es a z.wires in
      let y = low ms es b x.wires in
      let made = calculated_added y.wires x.part.width (Choose z.part.operand x.part.operand y.part.operand) in
      each.both ws z.wires _ (low_added ms es c ws) (each.both z.wires x.wires _ (low_added ms es a z.wires) (each.both x.wires y.wires _ (low_added ms es b x.wires) made))
  low_added ms es (join a b) ws =
      let x = low ms es a ws in
      let y = low ms es b x.wires in
      each.both ws x.wires _ (low_added ms es a ws) (each.both x.wires y.wires _ (low_added ms es b x.wires) (each.wire y.wires _ _))
  low_added ms es (part a hi lo) ws =
      let x = low ms es a ws in
      each.both ws x.wires _ (low_added ms es a ws) (slice_added x.part.operand hi lo x.wires)
  low_added ms es _ ws = each.none ws

  -- commands

  pub unless_added : (kept : Bool) (es : List (Name × Part)) (n : Name) (c a : Operand) (ws : List Wire) → R ws (chosen_unless kept es n c a ws).wires
  unless_added true es n c a ws = each.none ws
  unless_added false es n c a ws = each.wire ws _ _

  set_added : (ms : Shapes) (s : Lowering) (c : Term Name) (n : Name) (t : Term Name) → R s.wires (low_set ms s c n t).wires
  set_added ms s c n t =
      let es = entries_plain s.entries in
      let z = low ms es c s.wires in
      let seen = entries_under z s.entries in
      let x = low ms seen t z.wires in
      let same = same_operand x.part.operand (present seen n).operand in
      let last = unless_added same s.entries n z.part.operand x.part.operand x.wires in
      each.both s.wires z.wires _ (low_added ms es c s.wires) (each.both z.wires x.wires _ (low_added ms seen t z.wires) last)

  pub over_added : (first : Bool) (ws : List Wire) (w : ℕ) (c n o : Operand) → R ws (taken_over first ws w c n o).wires
  over_added true ws w c n o = each.none ws
  over_added false ws w c n o = each.wire ws _ _

  pub spared_added : (keeps : Bool) (c t : Operand) (a b : Part) (ws : List Wire) → R ws (spared keeps c t a b ws).wires
  spared_added true c t a b ws = each.wire ws _ _
  spared_added false c t a b ws = calculated_added ws _ _

  pub write_added : (ms : Shapes) (es : List (Name × Part)) (m : Name) (c i : Operand) (t : Term Name) (ws : List Wire) → R ws (low_write ms es m c i t ws).wires
  write_added ms es m c i (choose t a b) ws =
      let z = low ms es t ws in
      let x = low ms es a z.wires in
      let y = low ms es b x.wires in
      let last = spared_added (reads_cell y.wires m i x.part.operand) c z.part.operand x.part y.part y.wires in
      each.both ws z.wires _ (low_added ms es t ws) (each.both z.wires x.wires _ (low_added ms es a z.wires) (each.both x.wires y.wires _ (low_added ms es b x.wires) last))
  write_added ms es m c i t ws = low_added ms es t ws

  put_added : (ms : Shapes) (es : List (Name × Part)) (m : Name) (p : WritePort) (c i t : Term Name) (ws : List Wire) → R ws (low_put ms es m p c i t ws).wires
  put_added ms es m p c i t ws =
      let plain = entries_plain es in
      let z = low ms plain c ws in
      let seen = entries_under z es in
      let y = low ms seen i z.wires in
      let x = low_write ms seen m z.part.operand y.part.operand t y.wires in
      let e = plus x.wires 1 (Choose x.write.when (Constant 1 1) p.enable) in
      let first = is_zero p.enable in
      let j = taken_over first e.wires p.bits x.write.when y.part.operand p.index in
      let last = over_added first j.wires p.width x.write.when x.write.value p.value in
      let index = over_added first e.wires p.bits x.write.when y.part.operand p.index in
      let port = each.both x.wires e.wires _ (each.wire x.wires _ _) (each.both e.wires j.wires _ index last) in
      each.both ws z.wires _ (low_added ms plain c ws) (each.both z.wires y.wires _ (low_added ms seen i z.wires) (each.both y.wires x.wires _ (write_added ms seen m z.part.operand y.part.operand t y.wires) port))

  action_added : (ms : Shapes) (s : Lowering) (c : Term Name) (a : Action) → R s.wires (low_action ms s c a).wires
  action_added ms s c (set x t) = set_added ms s c x t
  action_added ms s c (put m i t) = put_added ms s.entries m (port_of s.ports m) c i t s.wires

  pub commands_added : (ms : Shapes) (cs : List Command) (s : Lowering) → R s.wires (low_commands ms s cs).wires
  commands_added ms [] s = each.none s.wires
  commands_added ms (c ∷ cs) s =
      each.both s.wires (low_command ms s c).wires _ (action_added ms s c.when c.act) (commands_added ms cs (low_command ms s c))
