-- What most proofs name: of the standard library, and of the lemmas beside. Declares nothing.
pub use Rattle.std.proofs.Common.{add-one, ap, append-nil, append_assoc, ap₂, arith, bit_and, bit_or, Bool, Bor, bytes_eq, codes, cond, count_ones, drop}
pub use Rattle.std.proofs.Common.{eq-eqb, eq-zero-or-pos, eqb, eqb→eq, Err, false, filter, flat_map, get_or, get_or-set_other, get_or-take, IfErr, IfOk}
pub use Rattle.std.proofs.Common.{IfSome, if◌then◌else◌, inl, inr, is_some, IsErrOf, IsOkUnless, IsTrue, leb, length, length-append, length-drop}
pub use Rattle.std.proofs.Common.{length-take, List, lit<, lit≤, ltb, map, MatchOption, max, min, nat_eq, nat_le, nat_lt, None, not, Ok, OnOk, Option}
pub use Rattle.std.proofs.Common.{option_map, position, refl, replicate, Result, rules, set, slice_get, slice_index, slice_index_or, slice_set, Some}
pub use Rattle.std.proofs.Common.{string_bytes, subst, suc, sum_by, sym, T, take, take-take, tests, true, true≢false, unwrap_or, zero, ℕ, [], ⊎_elim, ◌%◌}
pub use Rattle.std.proofs.Common.{◌&&◌, ◌*◌, ◌++◌, ◌+◌, ◌-◌, ◌/◌, ◌<◌, ◌==◌, ◌^◌, ◌||◌, ◌↔◌, ◌∙◌, ◌∷◌, ◌≡◌, ◌≢◌, ◌≤◌, ◌⊎◌}
pub use Rattle.std.proofs.Math.ListN.{drop_of_length-le, length-set}
pub use Rattle.std.proofs.Math.Nat.{add-mul, mod-eq_of_lt, mod-lt, mul-le-mul_left, mul_comm, pow-le-pow_right, pow-suc}
pub use Rattle.std.proofs.Math.Pow.{pow_mono, pow_pos}
pub use Rattle.std.proofs.Math.Seq.{drop-cons, take-add, take-append-add, take-append_seam}
pub use Rattle.std.proofs.lemmas.Bool.{and_from, and_parts, both_ways, cases_Bool, cases_eq, cases_lt, cases_order, eqb-false, eqb-true, false_from_ne_true}
pub use Rattle.std.proofs.lemmas.Bool.{false≢true, le-leb, le-ltb, leb-false, leb-true, lt-leb, lt-ltb, ltb-false, ltb-true, ne_eqb, not-false, not-true}
pub use Rattle.std.proofs.lemmas.Bool.{or_cases, or_from, or_left, or_parts, or_right}
pub use Rattle.std.proofs.lemmas.Bool.Decides.{Decides-eqb, nat_tests}
pub use Rattle.std.proofs.lemmas.Cmp.{nat_list_eq_equiv}
pub use Rattle.std.proofs.lemmas.Fmt.{decimal_digit, decimal_injective, decimal_is_IsNumeral, decimal_nonempty, decimal_step, digits_decimal}
pub use Rattle.std.proofs.lemmas.Fmt.{digits_value-decimal, length-decimal-le}
pub use Rattle.std.proofs.lemmas.Grind.{common_steps, flat_map-append, get_or-set_at}
pub use Rattle.std.proofs.lemmas.Iterator.{YieldsList-from_slice}
pub use Rattle.std.proofs.lemmas.List.{at_drop_all, at_drop_more, drop-append-le, drop-drop, drop-take, drop_all, drop_more, get_or-append-add}
pub use Rattle.std.proofs.lemmas.List.{get_or_append_left, get_or_default, get_or_past, length-map, length-replicate, length-take-le, map-append, map_more}
pub use Rattle.std.proofs.lemmas.List.{places, take-append-drop, take-append-le, take_all, take_more, take_more_set, take_rest, with_items_is}
pub use Rattle.std.proofs.lemmas.List.Elements.{filter-append}
pub use Rattle.std.proofs.lemmas.List.Folds.{list_any-append}
pub use Rattle.std.proofs.lemmas.List.Sums.{sum_by-cons}
pub use Rattle.std.proofs.lemmas.Nat.{and_comm, div-mul-add, or_comm, pow-add, pow_below}
pub use Rattle.std.proofs.lemmas.Nat.Bits.{bit_at_or, same_from_bits}
pub use Rattle.std.proofs.lemmas.Option.{get_or_from_slice_get, none-some, same_Some, slice_get-get_or, slice_get-map, slice_get_past, slice_get_read}
pub use Rattle.std.proofs.lemmas.Option.{slice_get_within}
pub use Rattle.std.proofs.lemmas.Result.{err_from_is_err_and, IfOk-weaker, on_err_weaker, on_ok_weaker}
pub use Rattle.std.proofs.lemmas.Simd.{map-map}
pub use Rattle.std.proofs.lemmas.Slice.Eq.{bytes_eq-Decides}
pub use Rattle.std.specs.Char.{digit_value, is_ascii_digit}
pub use Rattle.std.specs.Fmt.{digits}
pub use Rattle.std.specs.Int.{bit_at}
pub use Rattle.std.specs.Int.Bits.{and_zero_l, or_zero_l, or_zero_r}
pub use Rattle.std.specs.List.{after_first, AllByRecursion, AllZip, before_first, last_or, list_all, list_any, position_or_len, prefix_len, range_with_len}
pub use Rattle.std.specs.List.{starts_with}
pub use Rattle.std.specs.Map.{keys_of, lookup}
pub use Rattle.std.specs.Option.{option_or}
pub use Rattle.std.specs.Prelude.{All, Contains, count_by, decimal, find, fold, IfNone, is_ok, IsSome, OnErr, option_and_then, option_copied, slice_range}
pub use Rattle.std.specs.Prelude.{take_while, vec_capacity}
pub use Rattle.std.specs.Str.{byte, IsUtf8}
pub use Rattle.std.specs.Str.Parse.{digits_value, digits_value_after}
pub use Rattle.std.specs.declared.alloc.Global.{Global}
pub use Rattle.std.specs.declared.vec.Vec.{Vec}
pub use Rattle.sap_lemmas.proofs.Bools.{and_false, and_left, and_right, and_true, iff_same, neither_left, neither_right, or_assoc, or_equal, or_false}
pub use Rattle.sap_lemmas.proofs.Bools.{or_other, or_true, three_parts, true_is_not_false}
pub use Rattle.sap_lemmas.proofs.Everywhere.{all_append, all_filter, all_follow, all_of_map, all_of_test, all_parts, all_second, map_of_all, run_passes}
pub use Rattle.sap_lemmas.proofs.Lists.{after_part, append_three, drop_past, joined_on_last, length_map, take_front}
pub use Rattle.sap_lemmas.proofs.Numbers.{above_unequal, equal_of_test, less_test_of_positive, one_more, positive_of_test, same_power, test_of_equal}
pub use Rattle.sap_lemmas.proofs.Numbers.{test_of_positive, test_of_same, test_symmetric, zero_of_test}
pub use Rattle.sap_lemmas.proofs.Options.{on_ok, some_same, some_unique}
pub use Rattle.sap_lemmas.proofs.Texts.{bytes_eq_apart_back, bytes_eq_same, bytes_eq_symmetric, digits_model, equal_of_bytes_eq}
