-- The definitions at known numbers.
use Rattle.sap_lemmas.proofs.Common.{◌≡◌, ℕ, ◌+◌, List, [], ◌∷◌, map, ◌∙◌, Some, None, true, false, refl, lit<, lit≤, codes}
use lib.Count.{ones}
use Rattle.sap_bits.specs.declared.Op1.TheVariants.{Not, Neg, AllOnes, AnyOne, Odd}
use Rattle.sap_bits.specs.declared.Op2.TheVariants.{Add, Sub, Mul, And, Or, Xor, Eq, Ne, Lt, Le, Shl, Shr}
use Rattle.sap_maps.specs.Maps.{Valuation}
use Rattle.sap_net.specs.declared.parts.Operand.{Operand}
use Rattle.sap_net.specs.declared.parts.Operand.TheVariants.{Named, Constant}
use Rattle.sap_net.specs.declared.parts.Right.{Right}
use Rattle.sap_net.specs.declared.parts.Right.TheVariants.{Copy, One, Two, Choose, Concat, Slice, Cell}
use Rattle.sap_net.specs.declared.parts.Memory.{Memory}
use Rattle.sap_net.specs.declared.parts.PortKind.TheVariants as kind
use Rattle.sap_net.specs.Names.{is_name}
use Rattle.sap_net.specs.Net.{Net}
use Rattle.sap_net.specs.Summing.{summing}
use Rattle.sap_net.specs.Values.{right_value}
use Rattle.sap_net.specs.Rules.{IsWidth}
use Rattle.sap_net.specs.IsNetlist.{IsNetlist}
use Rattle.sap_net.specs.Runs.{IsCycle, written, observed}

-- names
good_name : is_name (codes "v_x1") ≡ true
unfolding is_name
good_name = refl

no_digit_first : is_name (codes "1x") ≡ false
unfolding is_name
no_digit_first = refl

no_keyword : is_name (codes "endmodule") ≡ false
unfolding is_name
no_keyword = refl

no_counter : is_name (codes "i") ≡ false
unfolding is_name
no_counter = refl

-- every name is 5 here, and cell k of every memory is k + 1
abbrev fives : Valuation
fives = record { value = λ _. 5; cell = λ _ k. k + 1 }

abbrev value : Right → ℕ
value r = right_value (λ _. 8) fives r

abbrev c8 : ℕ → Operand
c8 n = Constant 8 n

abbrev five : Operand
five = Named (codes "v_a")

-- right sides, each with its number
abbrev right_sides : List (Right × ℕ)
right_sides =
    (Copy five, 5) ∷
    (One Not five, 250) ∷
    (One Neg five, 251) ∷
    (One Neg (c8 0), 0) ∷
    (One AllOnes (c8 255), 1) ∷
    (One AnyOne five, 1) ∷
    (One Odd (c8 7), 1) ∷
    (Two Add five (c8 255), 4) ∷
    (Two Sub five (c8 7), 254) ∷
    (Two Mul five (c8 100), 244) ∷
    (Two And five (c8 12), 4) ∷
    (Two Or five (c8 12), 13) ∷
    (Two Xor five (c8 12), 9) ∷
    (Two Eq five (c8 5), 1) ∷
    (Two Ne five (c8 5), 0) ∷
    (Two Lt five (c8 5), 0) ∷
    (Two Le five (c8 5), 1) ∷
    (Two Shl five (Constant 64 6), 64) ∷
    (Two Shl five (Constant 64 9), 0) ∷
    (Two Shr five (Constant 64 2), 1) ∷
    (Two Shr five (Constant 64 9), 0) ∷
    (Choose (Constant 1 1) five (c8 9), 5) ∷
    (Choose (Constant 1 0) five (c8 9), 9) ∷
    (Concat (Constant 2 3 ∷ five ∷ Constant 4 1 ∷ []), 12369) ∷
    (Slice (codes "v_a") 2 1, 2) ∷
    (Cell (codes "v_m") (Constant 2 3), 4) ∷
    []

right_side_values : map (λ e. value e.0) right_sides ≡ map (λ e. e.1) right_sides
unfolding ones
right_side_values = refl

-- a memory's write
abbrev store : ℕ → Memory
store enable = record { name = codes "v_m"; width = 8; depth = 4; start = 0; enable = Constant 1 enable; index = Constant 2 3; value = five }

cell_written : written fives (store 1) 3 ≡ 5
cell_written = refl

other_cell_kept : written fives (store 1) 2 ≡ 3
other_cell_kept = refl

write_disabled : written fives (store 0) 3 ≡ 4
write_disabled = refl

-- Two registers that swap their numbers, 1 and 2 at first: both are updated at one edge.
abbrev swap : Net
swap =
    record {
      module_name = codes "top";
      names = codes "v_x" ∷ codes "v_y" ∷ [];
      ports = record { name = codes "v_x"; kind = kind.Register } ∷ record { name = codes "v_y"; kind = kind.Register } ∷ [];
      inputs = [];
      wires = [];
      registers = record { name = codes "v_x"; width = 8; start = 1; next = Named (codes "v_y") } ∷ record {
        name = codes "v_y";
        width = 8;
        start = 2;
        next = Named (codes "v_x");
      } ∷ [];
      memories = [];
    }

swapped : (v : Valuation) → IsCycle swap None [] v → ((observed swap v).value (codes "v_x") ≡ 2) × ((observed swap v).value (codes "v_y") ≡ 1)
swapped v c = (c.begins.0.1.0, c.begins.0.0)

swapped_back : (p v : Valuation) → IsCycle swap None [] p → IsCycle swap (Some p) [] v → ((observed swap v).value (codes "v_x") ≡ 1) × ((observed swap v).value (codes "v_y") ≡ 2)
swapped_back p v c d = (d.begins.0.1.0 ∙ c.begins.0.0, d.begins.0.0 ∙ c.begins.0.1.0)

byte_wide : IsWidth 8
byte_wide = (lit≤ tt, lit≤ tt)

pub summing_rules : IsNetlist summing
unfolding is_name
summing_rules =
    record {
      module_named = refl;
      named = (refl, (refl, (refl, (refl, (refl, tt)))));
      declared_once = (refl, (refl, (refl, (refl, (refl, tt)))));
      declared = λ x. refl;
      registers_in_order = refl;
      memories_in_order = refl;
      ports_first = refl;
      ports_show = (refl, (refl, (refl, (refl, tt))));
      inputs_are_ports = refl;
      values = (byte_wide, refl, refl, (byte_wide, refl, refl, tt));
      memory_shapes = (byte_wide, refl, tt);
      assigns = (
        byte_wide,
        refl,
        refl,
        (8, 8, byte_wide, byte_wide, refl, refl, refl, refl),
        (byte_wide, refl, refl, (2, refl, (refl, lit< tt)), tt),
      );
      nexts = ((lit< tt, refl), tt);
      writes = (
        record {
          bits = 2;
          depth = (lit≤ tt, lit≤ tt, refl);
          start = lit< tt;
          enable = (refl, lit< tt);
          index = (refl, lit< tt);
          value = refl;
        },
        tt,
      );
    }
