-- Numbers, variants and options that may be variables.
use Rattle.std.specs.Prelude.{ℕ, ℤ, pos, neg_ℤ, ◌+ℤ◌, ◌≤ℤ◌, List, [], ◌∷◌}
use Rattle.cm_term.specs.declared.atom.Num.{Num}
use Rattle.cm_term.specs.declared.atom.Num.TheVariants as num
use Rattle.cm_term.specs.declared.atom.Tag.{Tag}
use Rattle.cm_term.specs.declared.atom.Tag.TheVariants as tag
use Rattle.cm_term.specs.declared.atom.Opt.{Opt}
use Rattle.cm_term.specs.declared.atom.Opt.TheVariants as opt
use Rattle.cm_term.specs.Valuation.{Var, OfNumber, OfTag, OfOption}

-- the number
abbrev pub num_under : (ℕ → ℤ) → Num → ℤ
num_under n (num.Const k) = k
num_under n (num.Plus x k) = n x.0 +ℤ k

-- the variant's number
abbrev pub tag_under : (ℕ → ℕ) → Tag → ℕ
tag_under t (tag.Const ty index) = index
tag_under t (tag.Var x) = t x.0

-- 0 none, 1 some
abbrev pub opt_under : (ℕ → ℕ) → Opt → ℕ
opt_under p opt.None = 0
opt_under p opt.Some = 1
opt_under p (opt.Var o) = p o.0

-- a number is a variable's value and an offset; variable 0 is the number 0
abbrev pub var_of : Num → ℕ
var_of (num.Const k) = 0
var_of (num.Plus x k) = x.0

abbrev pub offset_of : Num → ℤ
offset_of (num.Const k) = k
offset_of (num.Plus x k) = k

-- the number that is so much more
abbrev pub shifted : Num → ℤ → Num
shifted (num.Const k) by = num.Const (k +ℤ by)
shifted (num.Plus x k) by = num.Plus x (k +ℤ by)

-- how far a shifted number or offset is from 0 at most
abbrev pub offset_limit : ℕ
offset_limit = 1000000000

abbrev pub IsOffset : ℤ → Type 0
IsOffset n = (neg_ℤ (pos offset_limit) ≤ℤ n) × (n ≤ℤ pos offset_limit)

abbrev pub vars_of_num : Num → List Var
vars_of_num (num.Const k) = []
vars_of_num (num.Plus x k) = OfNumber x.0 ∷ []

abbrev pub vars_of_tag : Tag → List Var
vars_of_tag (tag.Const ty index) = []
vars_of_tag (tag.Var x) = OfTag x.0 ∷ []

abbrev pub vars_of_opt : Opt → List Var
vars_of_opt opt.None = []
vars_of_opt opt.Some = []
vars_of_opt (opt.Var o) = OfOption o.0 ∷ []
