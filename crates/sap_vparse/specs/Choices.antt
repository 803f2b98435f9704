-- What the reader chooses by the next token.
use Rattle.sap_bits.specs.declared.Op1.TheVariants as unary
use Rattle.sap_bits.specs.declared.Op2.TheVariants as binary
use Rattle.sap_vtext.specs.Tokens as t
use Rattle.sap_vparse.specs.Reading.{Head, of_word, of_sign, of_name}
use Rattle.sap_vparse.specs.declared.choice.AfterHead.TheVariants as a
use Rattle.sap_vparse.specs.declared.choice.AfterHead.{AfterHead}
use Rattle.sap_vparse.specs.declared.choice.ItemHead.TheVariants as i
use Rattle.sap_vparse.specs.declared.choice.ItemHead.{ItemHead}
use Rattle.sap_vparse.specs.declared.choice.RightHead.TheVariants as r
use Rattle.sap_vparse.specs.declared.choice.RightHead.{RightHead}

-- The form of a right side that begins with a sign.
abbrev pub sign_right : t.Sign → RightHead
sign_right t.tilde = r.One unary.Not
sign_right t.minus = r.One unary.Neg
sign_right t.ampersand = r.One unary.AllOnes
sign_right t.bar = r.One unary.AnyOne
sign_right t.caret = r.One unary.Odd
sign_right t.open_brace = r.Concat
sign_right _ = r.Constant

-- The form of a right side by its first token.
unfoldable pub right_head : Head → RightHead
right_head (of_sign sign) = sign_right sign
right_head of_name = r.Name
right_head _ = r.Constant

-- What follows a first operand, by the sign behind it.
abbrev pub sign_after : t.Sign → AfterHead
sign_after t.plus = a.Two binary.Add
sign_after t.minus = a.Two binary.Sub
sign_after t.star = a.Two binary.Mul
sign_after t.ampersand = a.Two binary.And
sign_after t.bar = a.Two binary.Or
sign_after t.caret = a.Two binary.Xor
sign_after t.equal = a.Two binary.Eq
sign_after t.not_equal = a.Two binary.Ne
sign_after t.less = a.Two binary.Lt
sign_after t.less_or_equal = a.Two binary.Le
sign_after t.shift_left = a.Two binary.Shl
sign_after t.shift_right = a.Two binary.Shr
sign_after t.question = a.Choose
sign_after _ = a.End

-- What follows a first operand, by the token behind it.
unfoldable pub after_head : Head → AfterHead
after_head (of_sign sign) = sign_after sign
after_head _ = a.End

-- The form of an item that begins with a keyword.
abbrev pub word_item : t.Word → ItemHead
word_item t.wire_word = i.Wire
word_item t.reg_word = i.Register
word_item t.integer_word = i.Integer
word_item t.assign_word = i.Assign
word_item t.initial_word = i.Initial
word_item _ = i.Always

-- The form of an item by its first token.
unfoldable pub item_head : Head → ItemHead
item_head (of_word word) = word_item word
item_head _ = i.Always
