-- The constructs at whose tokens no check site, no point and no entity stands.
use Rattle.std.proofs.Common.{ℕ, [], Option}
use Rattle.sap_parse.specs.Grammar as g
use Rattle.sap_parse.specs.Stages.{Stage}
use Rattle.sap_placed.proofs.Along.{Between, stay, ◌then◌, skips}
use Rattle.sap_text.specs.declared.place.Place.{Place}
use Rattle.sap_tree.specs.Syntax as t
use Rattle.sap_tree.specs.declared.syntax.Kind.{Kind}
use Rattle.sap_tree.specs.declared.syntax.Numeral.{Numeral}
use Rattle.sap_tree.specs.declared.syntax.Under.{Under}
use Rattle.sap_tree.specs.declared.version.Version.{Version}

bounds_passed : {A : Type 0} {place : A → Place} {p q : Stage} {high low : ℕ} → g.Bounds p high low q → Between place p [] q
bounds_passed (g.bounds a b c d e) = skips a then skips b then skips c then skips d then skips e

mutual
  pub expr_passed : {A : Type 0} {place : A → Place} {p q : Stage} {x : t.Expression} → g.Expr p x q → Between place p [] q
  expr_passed (g.only b) = bin_passed b
  expr_passed (g.choice b s y c z) = bin_passed b then skips s then expr_passed y then skips c then expr_passed z

  bin_passed : {A : Type 0} {place : A → Place} {l : ℕ} {p q : Stage} {x : t.Expression} → g.Bin l p x q → Between place p [] q
  bin_passed (g.operand u) = unary_passed u
  bin_passed (g.chain h b o) = bin_passed b then others_passed o

  others_passed : {A : Type 0} {place : A → Place} {l : ℕ} {p q : Stage} {x y : t.Expression} → g.Others l x p y q → Between place p [] q
  others_passed g.no_other = stay
  others_passed (g.other o level s b more) = skips s then bin_passed b then others_passed more

  unary_passed : {A : Type 0} {place : A → Place} {p q : Stage} {x : t.Expression} → g.Unary p x q → Between place p [] q
  unary_passed (g.signed o s u) = skips s then unary_passed u
  unary_passed (g.unsigned b) = post_passed b

  post_passed : {A : Type 0} {place : A → Place} {p q : Stage} {x : t.Expression} → g.Post p x q → Between place p [] q
  post_passed (g.post b c) = prim_passed b then cuts_passed c

  cuts_passed : {A : Type 0} {place : A → Place} {p q : Stage} {x y : t.Expression} → g.Cuts x p y q → Between place p [] q
  cuts_passed g.no_cut = stay
  cuts_passed (g.cut b c) = bounds_passed b then cuts_passed c

  prim_passed : {A : Type 0} {place : A → Place} {p q : Stage} {x : t.Expression} → g.Prim p x q → Between place p [] q
  prim_passed (g.number a) = skips a
  prim_passed (g.sized a) = skips a
  prim_passed (g.read a) = skips a
  prim_passed (g.cell a b i c) = skips a then skips b then expr_passed i then skips c
  prim_passed (g.parentheses a x b) = skips a then expr_passed x then skips b
  prim_passed (g.concat a x b y xs c) = skips a then expr_passed x then skips b then expr_passed y then parts_passed xs then skips c
  prim_passed (g.zext a b x c n d) = skips a then skips b then expr_passed x then skips c then skips n then skips d

  parts_passed : {A : Type 0} {place : A → Place} {p q : Stage} {xs : t.Expressions} → g.Parts p xs q → Between place p [] q
  parts_passed g.no_part = stay
  parts_passed (g.part a x xs) = skips a then expr_passed x then parts_passed xs

mutual
  pub texpr_passed : {A : Type 0} {place : A → Place} {p q : Stage} {x : t.TagExpression} → g.Texpr p x q → Between place p [] q
  texpr_passed (g.level a) = skips a
  texpr_passed (g.tag_of a b x c) = skips a then skips b then expr_passed x then skips c
  texpr_passed (g.level_at a b x c) = skips a then skips b then expr_passed x then skips c
  texpr_passed (g.join a b x c y xs d) = skips a then skips b then texpr_passed x then skips c then texpr_passed y then texprs_passed xs then skips d

  texprs_passed : {A : Type 0} {place : A → Place} {p q : Stage} {xs : t.TagExpressions} → g.Texprs p xs q → Between place p [] q
  texprs_passed g.no_tag = stay
  texprs_passed (g.tag a x xs) = skips a then texpr_passed x then texprs_passed xs

constant_passed : {A : Type 0} {place : A → Place} {p q : Stage} {x : t.Expression} → g.Constant p x q → Between place p [] q
constant_passed (g.plain a) = skips a
constant_passed (g.wide a) = skips a

constants_passed : {A : Type 0} {place : A → Place} {p q : Stage} {xs : t.Expressions} → g.Constants p xs q → Between place p [] q
constants_passed g.no_constant = stay
constants_passed (g.constant a x xs) = skips a then constant_passed x then constants_passed xs

-- the constants of an arm
pub arm_passed : {A : Type 0} {place : A → Place} {p q r : Stage} {x : t.Expression} {xs : t.Expressions} → g.Constant p x q → g.Constants q xs r → Between place p [] r
arm_passed a b = constant_passed a then constants_passed b

authority_passed : {A : Type 0} {place : A → Place} {p q : Stage} {x : Option Under} → g.Authority p x q → Between place p [] q
authority_passed g.no_authority = stay
authority_passed (g.authority a b) = skips a then skips b

pub kind_passed : {A : Type 0} {place : A → Place} {p q : Stage} {x : Kind} → g.KindOf p x q → Between place p [] q
kind_passed (g.dynamic a) = skips a
kind_passed (g.enforced a b x) = skips a then skips b then authority_passed x

pub initial_passed : {A : Type 0} {place : A → Place} {p q : Stage} {x : Option Numeral} → g.Initial p x q → Between place p [] q
initial_passed g.no_initial = stay
initial_passed (g.initial a b) = skips a then skips b

pub header_passed : {A : Type 0} {place : A → Place} {p q : Stage} {x : Version} → g.Header p x q → Between place p [] q
header_passed g.no_header = stay
header_passed (g.header a b c) = skips a then skips b then skips c
