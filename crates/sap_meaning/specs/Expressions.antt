-- The number and the level of an expression, and of a tag expression, in a store.
use Rattle.std.specs.Prelude.{ℕ, nat_lt, if◌then◌else◌}
use Rattle.sap_lattice.specs.Order.{Order}
use Rattle.sap_maps.specs.Term.{Term, constant, read, cell, one, two, choose, join, part, term_width, term_value}
use Rattle.sap_meaning.specs.Program.{World, width, LevelTerm, fixed, of, at_place, both}
use Rattle.sap_meaning.specs.Store.{Store, own, start, number, level}

-- The width of an expression.
abbrev pub width_of : World → Term ℕ → ℕ
width_of w e = term_width (width w) e

-- The number of an expression in a store. A read of a memory sees its start part.
abbrev pub value : World → Term ℕ → Store → ℕ
value w e s = term_value (width w) (λ x. number (own x) s) (λ m i. number (start m i) s) e

-- The tag is the join of the levels of all that is read; a memory read joins those of the index and of the cell.
abbrev pub tag : World → Term ℕ → Store → ℕ
tag w (constant u n) s = w.order.bottom
tag w (read x) s = level w (own x) s
tag w (cell m i) s = w.order.join (tag w i s) (level w (start m (value w i s)) s)
tag w (one op a) s = tag w a s
tag w (two op a b) s = w.order.join (tag w a s) (tag w b s)
tag w (choose c a b) s = w.order.join (tag w c s) (w.order.join (tag w a s) (tag w b s))
tag w (join a b) s = w.order.join (tag w a s) (tag w b s)
tag w (part a hi lo) s = tag w a s

-- `level_at` is the level at a place of the lattice file, the top beyond the last.
abbrev pub level_at : Order → ℕ → ℕ
level_at o n = if nat_lt n o.count then n else o.top

-- `new_level` is the level that a tag expression gives.
abbrev pub new_level : World → LevelTerm → Store → ℕ
new_level w (fixed n) s = n
new_level w (of e) s = tag w e s
new_level w (at_place e) s = level_at w.order (value w e s)
new_level w (both a b) s = w.order.join (new_level w a s) (new_level w b s)

-- `told` is the information level of a tag expression: the bottom for a written level, the tag of `e` for `tag(e)` and
-- for `level(e)`, and for a join the join of both.
abbrev pub told : World → LevelTerm → Store → ℕ
told w (fixed n) s = w.order.bottom
told w (of e) s = tag w e s
told w (at_place e) s = tag w e s
told w (both a b) s = w.order.join (told w a s) (told w b s)
