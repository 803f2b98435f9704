-- What the type of flat lists of assignments keeps, as a test.
use Rattle.std.specs.Prelude.{ℕ, zero, suc, ◌+◌, ◌-◌, ◌^◌, ◌==◌, ◌&&◌, ◌||◌, not, nat_lt, nat_le, Bool, true, false, List, [], ◌∷◌, ◌++◌, Option, Some, None}
use Rattle.std.specs.List.{list_all}
use Rattle.sap_bits.specs.Arithmetic.{width1, width2}
use Rattle.sap_bits.specs.declared.Op2.{Op2}
use Rattle.sap_bits.specs.declared.Op2.TheVariants.{Shl, Shr}
use Rattle.sap_maps.specs.Maps.{Name}
use Rattle.sap_maps.specs.Scope.{Scope, find}
use Rattle.sap_maps.specs.Term.{Term, constant, read, cell, one, two, choose, join, part, term_width}
use Rattle.sap_net.specs.Names.{is_name, is_among}
use Rattle.sap_net.specs.Rules.{Shapes}
use Rattle.sap_ir.specs.declared.guarded.Var.{Var}
use Rattle.sap_ir.specs.declared.guarded.MemoryVariable.{MemoryVariable}
use Rattle.sap_ir.specs.Source.{Action, set, put, Command, Source, readable, shapes, width_of}
use Rattle.sap_ir.specs.IsGuarded.{assignable, variable_names, declared, is_helping}

-- The number is a width: 1 to 64.
abbrev pub is_width : ℕ → Bool
is_width w = nat_le 1 w && nat_le w 64

-- The name was found with this width.
abbrev pub is_found : (width : ℕ) → Option ℕ → Bool
is_found u None = false
is_found u (Some w) = w == u

-- The name was found and its width is fine.
abbrev pub of_width : (ℕ → Bool) → Option ℕ → Bool
of_width fine None = false
of_width fine (Some u) = fine u

-- The memory was found and its width and depth are fine.
abbrev pub of_shape : (width_is_fine depth_is_fine : ℕ → Bool) → Option (ℕ × ℕ) → Bool
of_shape f g None = false
of_shape f g (Some e) = f e.0 && g e.1

-- The second operand's width fits the operator: that of the first, but any for a shift.
abbrev pub count_fits : Op2 → (w t : ℕ) → Bool
count_fits Shl w t = true
count_fits Shr w t = true
count_fits _ w t = t == w

-- The term has the width that is asked for, and its names are readable with their widths.
abbrev pub term_is_fine : (memories : Shapes) (readable : Scope) (widths : Name → ℕ) (width : ℕ) → Term Name → Bool
term_is_fine ms sc widths u (constant w n) = w == u && nat_lt n (2 ^ u)
term_is_fine ms sc widths u (read x) = is_found u (find sc x)
term_is_fine ms sc widths u (cell m i) =
    let b = term_width widths i in is_width b && of_shape (λ w. w == u) (λ d. d == 2 ^ b) (find ms m)
    && term_is_fine ms sc widths b i
term_is_fine ms sc widths u (one op a) =
    let w = term_width widths a in is_width w && term_is_fine ms sc widths w a && u == width1 op w
term_is_fine ms sc widths u (two op a b) =
    let w = term_width widths a in
    let t = term_width widths b in
    is_width w && is_width t && term_is_fine ms sc widths w a && term_is_fine ms sc widths t b
    && count_fits op w t && u == width2 op w
term_is_fine ms sc widths u (choose c a b) =
    term_is_fine ms sc widths 1 c && term_is_fine ms sc widths u a && term_is_fine ms sc widths u b
term_is_fine ms sc widths u (join a b) =
    let w = term_width widths a in
    let t = term_width widths b in
    is_width w && is_width t && term_is_fine ms sc widths w a && term_is_fine ms sc widths t b && u == w + t
term_is_fine ms sc widths u (part a hi lo) =
    let w = term_width widths a in
    is_width w && term_is_fine ms sc widths w a && nat_le lo hi && nat_lt hi w && u == hi + 1 - lo

-- The term can be read here with the width that is asked for.
abbrev pub value_is_fine : Source → Term Name → (width : ℕ) → Bool
value_is_fine s a u = term_is_fine (shapes s) (readable s) (width_of s) u a

-- The action assigns or writes what can be, with fine terms.
abbrev pub action_is_fine : Source → Action → Bool
action_is_fine s (set x a) = of_width (value_is_fine s a) (find (assignable s) x)
action_is_fine s (put m i a) =
    let b = term_width (width_of s) i in
    is_width b && value_is_fine s i b && of_shape (value_is_fine s a) (λ d. d == 2 ^ b) (find (shapes s) m)

-- The guard has one bit and the action is fine.
abbrev pub command_is_fine : Source → Command → Bool
command_is_fine s c = value_is_fine s c.when 1 && action_is_fine s c.act

-- No name stands twice.
abbrev pub are_distinct : List Name → Bool
are_distinct [] = true
are_distinct (x ∷ xs) = not (is_among x xs) && are_distinct xs

-- A variable without a start number.
abbrev pub is_plain_var : Var → Bool
is_plain_var x = is_width x.width && x.start == 0

-- A register whose start fits its width.
abbrev pub is_register_var : Var → Bool
is_register_var x = is_width x.width && nat_lt x.start (2 ^ x.width)

-- One of 2, 4, .. 2 ^ most.
abbrev pub is_power : (most : ℕ) → ℕ → Bool
is_power zero d = false
is_power (suc k) d = d == 2 ^ suc k || is_power k d

-- A memory whose depth is a power of two and whose start fits.
abbrev pub is_memory_variable : MemoryVariable → Bool
is_memory_variable m = is_width m.width && is_power 12 m.depth && nat_lt m.start (2 ^ m.width)

-- The list of guarded commands is well formed.
unfoldable pub is_guarded : Source → Bool
is_guarded s =
    list_all is_name (declared s) && list_all (λ x. not (is_helping x)) (declared s) && are_distinct (declared s)
    && list_all is_plain_var s.inputs && list_all is_plain_var s.wires
    && list_all is_register_var s.registers && list_all is_memory_variable s.memories
    && list_all (λ x. is_among x (variable_names s.registers ++ variable_names s.wires)) s.ports && are_distinct s.ports
    && list_all (command_is_fine s) s.commands
