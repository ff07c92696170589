-- Lists that are read item by item.
use Rattle.std.proofs.Common.{◌++◌, append_assoc, sym, ◌≡◌, ℕ, true, List, [], ◌∷◌, Option, Some, refl, ap, ◌∙◌}
use Rattle.cm_model.specs.declared.place.Place.{Place}
use Rattle.cm_tokens.specs.declared.token.Token.{Token}
use Rattle.cm_tokens.specs.declared.token.Token.TheVariants as token
use Rattle.cm_syntax.specs.declared.tree.Tree.{Tree}
use Rattle.cm_syntax.specs.declared.tree.Decl.{Decl}
use Rattle.cm_syntax.specs.declared.tree.Part.{Part}
use Rattle.cm_syntax.specs.declared.tree.Stmt.{Stmt}
use Rattle.cm_syntax.specs.declared.tree.Expr.{Expr}
use Rattle.cm_syntax.specs.declared.tree.Cmp.{Cmp}
use Rattle.cm_syntax.specs.declared.tree.Set.{Set}
use Rattle.cm_syntax.specs.declared.tree.Primary.{Primary}
use Rattle.cm_syntax.specs.declared.fault.SyntaxFault.{SyntaxFault}
use Rattle.cm_syntax.specs.Text.{place_of}
use Rattle.cm_syntax.specs.inner.Machine as m
use Rattle.cm_syntax.specs.inner.Machine.{Exactly, AName, ANumber, ANum, AType, APart, MoreParts, Params, Internals}
use Rattle.cm_syntax.specs.inner.Machine.{MoreNames, Key, Where, ADecl, Decls, ABlock, Stmts, AStmt, Index, Else}
use Rattle.cm_syntax.specs.inner.Machine.{AnExpr, MoreCmps, Ands, Ors, ACmp, Right, ASum, AnOffset, AUnary, APost}
use Rattle.cm_syntax.specs.inner.Machine.{Fields, With, MoreSets, ASet, APrim, BehindName, Args, MoreArgs, Text, Stack}
use Rattle.cm_syntax.specs.inner.Machine.{Values, Shift, Takes, mapped, shift, reading, Ahead, head, Gives, followed_by}
use Rattle.cm_syntax.specs.inner.Machine.{Partly, ValueOf, Stops, Passes, Halts, part_of, after_name, sum_of, cmp_of}
use Rattle.cm_syntax.specs.inner.Machine.{expr_of, assign_of, if_of, block_of, state_of, tree_of, starts_number}
use Rattle.cm_syntax.specs.inner.Machine.{starts_name, starts_num, no_name, no_relation, no_close_curly, no_end}
use Rattle.cm_syntax.specs.inner.Machine.{no_close_round, no_not}
use Rattle.cm_syntax.proofs.Steps.{same_read, passes_to, halts_at, stops_by, memory, reads_ok, reads_err}
use Rattle.std.proofs.lemmas.List.{append-nil}
use Rattle.cm_syntax.proofs.NextToken.{no_comma, no_and, no_or, no_dot}
use Rattle.cm_syntax.proofs.Skips.{skip_more_parts, skip_more_names, skip_more_sets, skip_more_args, skip_ands}
use Rattle.cm_syntax.proofs.Skips.{skip_ors, skip_fields}

pub none_more_parts : (a : Ahead) (xs : ValueOf MoreParts) → xs ≡ [] → Partly MoreParts followed_by xs a a
unfolding Partly
none_more_parts a xs e = λ st k. ap (λ ys. reading a.opened (MoreParts ∷ st) (λ v. k (ys ++ v.0, v.1)) a.left) (sym e)

more_parts_item : (b c : Ahead) (p : Place) (st : Stack) → head b.left ≡ Some token.Comma → Passes b p c
    → (k : Values (MoreParts ∷ st) → Tree) → reading b.opened (MoreParts ∷ st) k b.left ≡ reading c.opened
    (APart ∷ MoreParts ∷ st) (λ v. k (v.0 ∷ v.1.0, v.1.1)) c.left
more_parts_item b c p st h q k = passes_to MoreParts token.Comma b c p st (APart ∷ MoreParts ∷ st)
    (λ v. (v.0 ∷ v.1.0, v.1.1)) h q refl k

-- one more item at the end
grown_more_parts : (d : Ahead) (st : Stack) (k : Values (MoreParts ∷ st) → Tree) (xs ys : List Part) (x : Part)
    → ys ≡ xs ++ x ∷ [] → reading d.opened (MoreParts ∷ st) (λ v. k (xs ++ x ∷ v.0, v.1)) d.left
    ≡ reading d.opened (MoreParts ∷ st) (λ v. k (ys ++ v.0, v.1)) d.left
grown_more_parts d st k xs ys x e = rw e (simp append_assoc)

pub grow_more_parts : (a b c d : Ahead) (xs ys : List Part) (x : Part) (p : Place) → Partly MoreParts followed_by xs a b
    → head b.left ≡ Some token.Comma → Passes b p c → Gives APart c x d → ys ≡ xs ++ x ∷ []
    → Partly MoreParts followed_by ys a d
unfolding Partly Gives
grow_more_parts a b c d xs ys x p part h q g e = λ st k. part st k ∙ more_parts_item b c p st h q
    (λ v. k (xs ++ v.0, v.1)) ∙ g (MoreParts ∷ st) (λ v. k (xs ++ v.0 ∷ v.1.0, v.1.1))
    ∙ grown_more_parts d st k xs ys x e

pub halts_more_parts : (a b : Ahead) (xs : List Part) (e : SyntaxFault) → Partly MoreParts followed_by xs a b
    → head b.left ≡ Some token.Comma → Halts b e → Stops MoreParts a e
unfolding Partly
halts_more_parts a b xs e part h q = stops_by MoreParts MoreParts a b e (λ st k. (
  st,
  (λ v. k (xs ++ v.0, v.1)),
  part st k,
)) (halts_at MoreParts token.Comma b e h q (λ p st. (
  (APart ∷ MoreParts ∷ st),
  (λ v. (v.0 ∷ v.1.0, v.1.1)),
  refl,
)))

pub stops_more_parts : (a b c : Ahead) (xs : List Part) (p : Place) (e : SyntaxFault)
    → Partly MoreParts followed_by xs a b → head b.left ≡ Some token.Comma → Passes b p c → Stops APart c e
    → Stops MoreParts a e
unfolding Partly
stops_more_parts a b c xs p e part h q z = stops_by MoreParts APart a c e (λ st k. (
  MoreParts ∷ st,
  (λ v. k (xs ++ v.0 ∷ v.1.0, v.1.1)),
  part st k ∙ more_parts_item b c p st h q (λ v. k (xs ++ v.0, v.1)),
)) z

pub ends_more_parts : (a b : Ahead) (xs : List Part) → Partly MoreParts followed_by xs a b
    → no_comma (head b.left) ≡ true → Gives MoreParts a xs b
unfolding Partly Gives
ends_more_parts a b xs part h = λ st k. part st k ∙ skip_more_parts b h st (λ v. k (xs ++ v.0, v.1))
    ∙ ap (λ ys. reading b.opened st (λ v. k (ys, v)) b.left) (append-nil xs)

pub ruleset items_more_parts = (
  none_more_parts,
  grow_more_parts,
  halts_more_parts,
  stops_more_parts,
  ends_more_parts,
  memory,
  reads_ok,
  reads_err,
)

pub none_more_names : (a : Ahead) (xs : ValueOf MoreNames) → xs ≡ [] → Partly MoreNames followed_by xs a a
unfolding Partly
none_more_names a xs e = λ st k. ap (λ ys. reading a.opened (MoreNames ∷ st) (λ v. k (ys ++ v.0, v.1)) a.left) (sym e)

more_names_item : (b c : Ahead) (p : Place) (st : Stack) → head b.left ≡ Some token.Comma → Passes b p c
    → (k : Values (MoreNames ∷ st) → Tree) → reading b.opened (MoreNames ∷ st) k b.left ≡ reading c.opened
    (AName ∷ MoreNames ∷ st) (λ v. k (v.0 ∷ v.1.0, v.1.1)) c.left
more_names_item b c p st h q k = passes_to MoreNames token.Comma b c p st (AName ∷ MoreNames ∷ st)
    (λ v. (v.0 ∷ v.1.0, v.1.1)) h q refl k

-- one more item at the end
grown_more_names : (d : Ahead) (st : Stack) (k : Values (MoreNames ∷ st) → Tree) (xs ys : List (List ℕ)) (x : List ℕ)
    → ys ≡ xs ++ x ∷ [] → reading d.opened (MoreNames ∷ st) (λ v. k (xs ++ x ∷ v.0, v.1)) d.left
    ≡ reading d.opened (MoreNames ∷ st) (λ v. k (ys ++ v.0, v.1)) d.left
grown_more_names d st k xs ys x e = rw e (simp append_assoc)

pub grow_more_names : (a b c d : Ahead) (xs ys : List (List ℕ)) (x : List ℕ) (p : Place)
    → Partly MoreNames followed_by xs a b → head b.left ≡ Some token.Comma → Passes b p c → Gives AName c x d
    → ys ≡ xs ++ x ∷ [] → Partly MoreNames followed_by ys a d
unfolding Partly Gives
grow_more_names a b c d xs ys x p part h q g e = λ st k. part st k ∙ more_names_item b c p st h q
    (λ v. k (xs ++ v.0, v.1)) ∙ g (MoreNames ∷ st) (λ v. k (xs ++ v.0 ∷ v.1.0, v.1.1))
    ∙ grown_more_names d st k xs ys x e

pub halts_more_names : (a b : Ahead) (xs : List (List ℕ)) (e : SyntaxFault) → Partly MoreNames followed_by xs a b
    → head b.left ≡ Some token.Comma → Halts b e → Stops MoreNames a e
unfolding Partly
halts_more_names a b xs e part h q = stops_by MoreNames MoreNames a b e (λ st k. (
  st,
  (λ v. k (xs ++ v.0, v.1)),
  part st k,
)) (halts_at MoreNames token.Comma b e h q (λ p st. (
  (AName ∷ MoreNames ∷ st),
  (λ v. (v.0 ∷ v.1.0, v.1.1)),
  refl,
)))

pub stops_more_names : (a b c : Ahead) (xs : List (List ℕ)) (p : Place) (e : SyntaxFault)
    → Partly MoreNames followed_by xs a b → head b.left ≡ Some token.Comma → Passes b p c → Stops AName c e
    → Stops MoreNames a e
unfolding Partly
stops_more_names a b c xs p e part h q z = stops_by MoreNames AName a c e (λ st k. (
  MoreNames ∷ st,
  (λ v. k (xs ++ v.0 ∷ v.1.0, v.1.1)),
  part st k ∙ more_names_item b c p st h q (λ v. k (xs ++ v.0, v.1)),
)) z

pub ends_more_names : (a b : Ahead) (xs : List (List ℕ)) → Partly MoreNames followed_by xs a b
    → no_comma (head b.left) ≡ true → Gives MoreNames a xs b
unfolding Partly Gives
ends_more_names a b xs part h = λ st k. part st k ∙ skip_more_names b h st (λ v. k (xs ++ v.0, v.1))
    ∙ ap (λ ys. reading b.opened st (λ v. k (ys, v)) b.left) (append-nil xs)

pub ruleset items_more_names = (
  none_more_names,
  grow_more_names,
  halts_more_names,
  stops_more_names,
  ends_more_names,
  memory,
  reads_ok,
  reads_err,
)

pub none_more_sets : (a : Ahead) (xs : ValueOf MoreSets) → xs ≡ [] → Partly MoreSets followed_by xs a a
unfolding Partly
none_more_sets a xs e = λ st k. ap (λ ys. reading a.opened (MoreSets ∷ st) (λ v. k (ys ++ v.0, v.1)) a.left) (sym e)

more_sets_item : (b c : Ahead) (p : Place) (st : Stack) → head b.left ≡ Some token.Comma → Passes b p c
    → (k : Values (MoreSets ∷ st) → Tree) → reading b.opened (MoreSets ∷ st) k b.left ≡ reading c.opened
    (ASet ∷ MoreSets ∷ st) (λ v. k (v.0 ∷ v.1.0, v.1.1)) c.left
more_sets_item b c p st h q k = passes_to MoreSets token.Comma b c p st (ASet ∷ MoreSets ∷ st)
    (λ v. (v.0 ∷ v.1.0, v.1.1)) h q refl k

-- one more item at the end
grown_more_sets : (d : Ahead) (st : Stack) (k : Values (MoreSets ∷ st) → Tree) (xs ys : List Set) (x : Set)
    → ys ≡ xs ++ x ∷ [] → reading d.opened (MoreSets ∷ st) (λ v. k (xs ++ x ∷ v.0, v.1)) d.left
    ≡ reading d.opened (MoreSets ∷ st) (λ v. k (ys ++ v.0, v.1)) d.left
grown_more_sets d st k xs ys x e = rw e (simp append_assoc)

pub grow_more_sets : (a b c d : Ahead) (xs ys : List Set) (x : Set) (p : Place) → Partly MoreSets followed_by xs a b
    → head b.left ≡ Some token.Comma → Passes b p c → Gives ASet c x d → ys ≡ xs ++ x ∷ []
    → Partly MoreSets followed_by ys a d
unfolding Partly Gives
grow_more_sets a b c d xs ys x p part h q g e = λ st k. part st k ∙ more_sets_item b c p st h q
    (λ v. k (xs ++ v.0, v.1)) ∙ g (MoreSets ∷ st) (λ v. k (xs ++ v.0 ∷ v.1.0, v.1.1))
    ∙ grown_more_sets d st k xs ys x e

pub halts_more_sets : (a b : Ahead) (xs : List Set) (e : SyntaxFault) → Partly MoreSets followed_by xs a b
    → head b.left ≡ Some token.Comma → Halts b e → Stops MoreSets a e
unfolding Partly
halts_more_sets a b xs e part h q = stops_by MoreSets MoreSets a b e (λ st k. (
  st,
  (λ v. k (xs ++ v.0, v.1)),
  part st k,
)) (halts_at MoreSets token.Comma b e h q (λ p st. (
  (ASet ∷ MoreSets ∷ st),
  (λ v. (v.0 ∷ v.1.0, v.1.1)),
  refl,
)))

pub stops_more_sets : (a b c : Ahead) (xs : List Set) (p : Place) (e : SyntaxFault) → Partly MoreSets followed_by xs a b
    → head b.left ≡ Some token.Comma → Passes b p c → Stops ASet c e → Stops MoreSets a e
unfolding Partly
stops_more_sets a b c xs p e part h q z = stops_by MoreSets ASet a c e (λ st k. (
  MoreSets ∷ st,
  (λ v. k (xs ++ v.0 ∷ v.1.0, v.1.1)),
  part st k ∙ more_sets_item b c p st h q (λ v. k (xs ++ v.0, v.1)),
)) z

pub ends_more_sets : (a b : Ahead) (xs : List Set) → Partly MoreSets followed_by xs a b → no_comma (head b.left) ≡ true
    → Gives MoreSets a xs b
unfolding Partly Gives
ends_more_sets a b xs part h = λ st k. part st k ∙ skip_more_sets b h st (λ v. k (xs ++ v.0, v.1))
    ∙ ap (λ ys. reading b.opened st (λ v. k (ys, v)) b.left) (append-nil xs)

pub ruleset items_more_sets = (
  none_more_sets,
  grow_more_sets,
  halts_more_sets,
  stops_more_sets,
  ends_more_sets,
  memory,
  reads_ok,
  reads_err,
)

pub none_more_args : (a : Ahead) (xs : ValueOf MoreArgs) → xs ≡ [] → Partly MoreArgs followed_by xs a a
unfolding Partly
none_more_args a xs e = λ st k. ap (λ ys. reading a.opened (MoreArgs ∷ st) (λ v. k (ys ++ v.0, v.1)) a.left) (sym e)

more_args_item : (b c : Ahead) (p : Place) (st : Stack) → head b.left ≡ Some token.Comma → Passes b p c
    → (k : Values (MoreArgs ∷ st) → Tree) → reading b.opened (MoreArgs ∷ st) k b.left ≡ reading c.opened
    (AnExpr ∷ MoreArgs ∷ st) (λ v. k (v.0 ∷ v.1.0, v.1.1)) c.left
more_args_item b c p st h q k = passes_to MoreArgs token.Comma b c p st (AnExpr ∷ MoreArgs ∷ st)
    (λ v. (v.0 ∷ v.1.0, v.1.1)) h q refl k

-- one more item at the end
grown_more_args : (d : Ahead) (st : Stack) (k : Values (MoreArgs ∷ st) → Tree) (xs ys : List Expr) (x : Expr)
    → ys ≡ xs ++ x ∷ [] → reading d.opened (MoreArgs ∷ st) (λ v. k (xs ++ x ∷ v.0, v.1)) d.left
    ≡ reading d.opened (MoreArgs ∷ st) (λ v. k (ys ++ v.0, v.1)) d.left
grown_more_args d st k xs ys x e = rw e (simp append_assoc)

pub grow_more_args : (a b c d : Ahead) (xs ys : List Expr) (x : Expr) (p : Place) → Partly MoreArgs followed_by xs a b
    → head b.left ≡ Some token.Comma → Passes b p c → Gives AnExpr c x d → ys ≡ xs ++ x ∷ []
    → Partly MoreArgs followed_by ys a d
unfolding Partly Gives
grow_more_args a b c d xs ys x p part h q g e = λ st k. part st k ∙ more_args_item b c p st h q
    (λ v. k (xs ++ v.0, v.1)) ∙ g (MoreArgs ∷ st) (λ v. k (xs ++ v.0 ∷ v.1.0, v.1.1))
    ∙ grown_more_args d st k xs ys x e

pub halts_more_args : (a b : Ahead) (xs : List Expr) (e : SyntaxFault) → Partly MoreArgs followed_by xs a b
    → head b.left ≡ Some token.Comma → Halts b e → Stops MoreArgs a e
unfolding Partly
halts_more_args a b xs e part h q = stops_by MoreArgs MoreArgs a b e (λ st k. (
  st,
  (λ v. k (xs ++ v.0, v.1)),
  part st k,
)) (halts_at MoreArgs token.Comma b e h q (λ p st. (
  (AnExpr ∷ MoreArgs ∷ st),
  (λ v. (v.0 ∷ v.1.0, v.1.1)),
  refl,
)))

pub stops_more_args : (a b c : Ahead) (xs : List Expr) (p : Place) (e : SyntaxFault)
    → Partly MoreArgs followed_by xs a b → head b.left ≡ Some token.Comma → Passes b p c → Stops AnExpr c e
    → Stops MoreArgs a e
unfolding Partly
stops_more_args a b c xs p e part h q z = stops_by MoreArgs AnExpr a c e (λ st k. (
  MoreArgs ∷ st,
  (λ v. k (xs ++ v.0 ∷ v.1.0, v.1.1)),
  part st k ∙ more_args_item b c p st h q (λ v. k (xs ++ v.0, v.1)),
)) z

pub ends_more_args : (a b : Ahead) (xs : List Expr) → Partly MoreArgs followed_by xs a b → no_comma (head b.left) ≡ true
    → Gives MoreArgs a xs b
unfolding Partly Gives
ends_more_args a b xs part h = λ st k. part st k ∙ skip_more_args b h st (λ v. k (xs ++ v.0, v.1))
    ∙ ap (λ ys. reading b.opened st (λ v. k (ys, v)) b.left) (append-nil xs)

pub ruleset items_more_args = (
  none_more_args,
  grow_more_args,
  halts_more_args,
  stops_more_args,
  ends_more_args,
  memory,
  reads_ok,
  reads_err,
)

pub none_ands : (a : Ahead) (xs : ValueOf Ands) → xs ≡ [] → Partly Ands followed_by xs a a
unfolding Partly
none_ands a xs e = λ st k. ap (λ ys. reading a.opened (Ands ∷ st) (λ v. k (ys ++ v.0, v.1)) a.left) (sym e)

ands_item : (b c : Ahead) (p : Place) (st : Stack) → head b.left ≡ Some token.And → Passes b p c
    → (k : Values (Ands ∷ st) → Tree) → reading b.opened (Ands ∷ st) k b.left ≡ reading c.opened (ACmp ∷ Ands ∷ st)
    (λ v. k (v.0 ∷ v.1.0, v.1.1)) c.left
ands_item b c p st h q k = passes_to Ands token.And b c p st (ACmp ∷ Ands ∷ st) (λ v. (v.0 ∷ v.1.0, v.1.1)) h q refl k

-- one more item at the end
grown_ands : (d : Ahead) (st : Stack) (k : Values (Ands ∷ st) → Tree) (xs ys : List Cmp) (x : Cmp) → ys ≡ xs ++ x ∷ []
    → reading d.opened (Ands ∷ st) (λ v. k (xs ++ x ∷ v.0, v.1)) d.left ≡ reading d.opened (Ands ∷ st)
    (λ v. k (ys ++ v.0, v.1)) d.left
grown_ands d st k xs ys x e = rw e (simp append_assoc)

pub grow_ands : (a b c d : Ahead) (xs ys : List Cmp) (x : Cmp) (p : Place) → Partly Ands followed_by xs a b
    → head b.left ≡ Some token.And → Passes b p c → Gives ACmp c x d → ys ≡ xs ++ x ∷ []
    → Partly Ands followed_by ys a d
unfolding Partly Gives
grow_ands a b c d xs ys x p part h q g e = λ st k. part st k ∙ ands_item b c p st h q (λ v. k (xs ++ v.0, v.1))
    ∙ g (Ands ∷ st) (λ v. k (xs ++ v.0 ∷ v.1.0, v.1.1))
    ∙ grown_ands d st k xs ys x e

pub halts_ands : (a b : Ahead) (xs : List Cmp) (e : SyntaxFault) → Partly Ands followed_by xs a b
    → head b.left ≡ Some token.And → Halts b e → Stops Ands a e
unfolding Partly
halts_ands a b xs e part h q = stops_by Ands Ands a b e (λ st k. (st, (λ v. k (xs ++ v.0, v.1)), part st k))
    (halts_at Ands token.And b e h q (λ p st. ((ACmp ∷ Ands ∷ st), (λ v. (v.0 ∷ v.1.0, v.1.1)), refl)))

pub stops_ands : (a b c : Ahead) (xs : List Cmp) (p : Place) (e : SyntaxFault) → Partly Ands followed_by xs a b
    → head b.left ≡ Some token.And → Passes b p c → Stops ACmp c e → Stops Ands a e
unfolding Partly
stops_ands a b c xs p e part h q z = stops_by Ands ACmp a c e (λ st k. (
  Ands ∷ st,
  (λ v. k (xs ++ v.0 ∷ v.1.0, v.1.1)),
  part st k ∙ ands_item b c p st h q (λ v. k (xs ++ v.0, v.1)),
)) z

pub ends_ands : (a b : Ahead) (xs : List Cmp) → Partly Ands followed_by xs a b → no_and (head b.left) ≡ true
    → Gives Ands a xs b
unfolding Partly Gives
ends_ands a b xs part h = λ st k. part st k ∙ skip_ands b h st (λ v. k (xs ++ v.0, v.1))
    ∙ ap (λ ys. reading b.opened st (λ v. k (ys, v)) b.left) (append-nil xs)

pub ruleset items_ands = (none_ands, grow_ands, halts_ands, stops_ands, ends_ands, memory, reads_ok, reads_err)

pub none_ors : (a : Ahead) (xs : ValueOf Ors) → xs ≡ [] → Partly Ors followed_by xs a a
unfolding Partly
none_ors a xs e = λ st k. ap (λ ys. reading a.opened (Ors ∷ st) (λ v. k (ys ++ v.0, v.1)) a.left) (sym e)

ors_item : (b c : Ahead) (p : Place) (st : Stack) → head b.left ≡ Some token.Or → Passes b p c
    → (k : Values (Ors ∷ st) → Tree) → reading b.opened (Ors ∷ st) k b.left ≡ reading c.opened (ACmp ∷ Ors ∷ st)
    (λ v. k (v.0 ∷ v.1.0, v.1.1)) c.left
ors_item b c p st h q k = passes_to Ors token.Or b c p st (ACmp ∷ Ors ∷ st) (λ v. (v.0 ∷ v.1.0, v.1.1)) h q refl k

-- one more item at the end
grown_ors : (d : Ahead) (st : Stack) (k : Values (Ors ∷ st) → Tree) (xs ys : List Cmp) (x : Cmp) → ys ≡ xs ++ x ∷ []
    → reading d.opened (Ors ∷ st) (λ v. k (xs ++ x ∷ v.0, v.1)) d.left ≡ reading d.opened (Ors ∷ st)
    (λ v. k (ys ++ v.0, v.1)) d.left
grown_ors d st k xs ys x e = rw e (simp append_assoc)

pub grow_ors : (a b c d : Ahead) (xs ys : List Cmp) (x : Cmp) (p : Place) → Partly Ors followed_by xs a b
    → head b.left ≡ Some token.Or → Passes b p c → Gives ACmp c x d → ys ≡ xs ++ x ∷ [] → Partly Ors followed_by ys a d
unfolding Partly Gives
grow_ors a b c d xs ys x p part h q g e = λ st k. part st k ∙ ors_item b c p st h q (λ v. k (xs ++ v.0, v.1))
    ∙ g (Ors ∷ st) (λ v. k (xs ++ v.0 ∷ v.1.0, v.1.1))
    ∙ grown_ors d st k xs ys x e

pub halts_ors : (a b : Ahead) (xs : List Cmp) (e : SyntaxFault) → Partly Ors followed_by xs a b
    → head b.left ≡ Some token.Or → Halts b e → Stops Ors a e
unfolding Partly
halts_ors a b xs e part h q = stops_by Ors Ors a b e (λ st k. (st, (λ v. k (xs ++ v.0, v.1)), part st k))
    (halts_at Ors token.Or b e h q (λ p st. ((ACmp ∷ Ors ∷ st), (λ v. (v.0 ∷ v.1.0, v.1.1)), refl)))

pub stops_ors : (a b c : Ahead) (xs : List Cmp) (p : Place) (e : SyntaxFault) → Partly Ors followed_by xs a b
    → head b.left ≡ Some token.Or → Passes b p c → Stops ACmp c e → Stops Ors a e
unfolding Partly
stops_ors a b c xs p e part h q z = stops_by Ors ACmp a c e (λ st k. (
  Ors ∷ st,
  (λ v. k (xs ++ v.0 ∷ v.1.0, v.1.1)),
  part st k ∙ ors_item b c p st h q (λ v. k (xs ++ v.0, v.1)),
)) z

pub ends_ors : (a b : Ahead) (xs : List Cmp) → Partly Ors followed_by xs a b → no_or (head b.left) ≡ true
    → Gives Ors a xs b
unfolding Partly Gives
ends_ors a b xs part h = λ st k. part st k ∙ skip_ors b h st (λ v. k (xs ++ v.0, v.1))
    ∙ ap (λ ys. reading b.opened st (λ v. k (ys, v)) b.left) (append-nil xs)

pub ruleset items_ors = (none_ors, grow_ors, halts_ors, stops_ors, ends_ors, memory, reads_ok, reads_err)

pub none_fields : (a : Ahead) (xs : ValueOf Fields) → xs ≡ [] → Partly Fields followed_by xs a a
unfolding Partly
none_fields a xs e = λ st k. ap (λ ys. reading a.opened (Fields ∷ st) (λ v. k (ys ++ v.0, v.1)) a.left) (sym e)

fields_item : (b c : Ahead) (p : Place) (st : Stack) → head b.left ≡ Some token.Dot → Passes b p c
    → (k : Values (Fields ∷ st) → Tree) → reading b.opened (Fields ∷ st) k b.left ≡ reading c.opened
    (AName ∷ Fields ∷ st) (λ v. k (v.0 ∷ v.1.0, v.1.1)) c.left
fields_item b c p st h q k = passes_to Fields token.Dot b c p st (AName ∷ Fields ∷ st) (λ v. (v.0 ∷ v.1.0, v.1.1))
    h q refl k

-- one more item at the end
grown_fields : (d : Ahead) (st : Stack) (k : Values (Fields ∷ st) → Tree) (xs ys : List (List ℕ)) (x : List ℕ)
    → ys ≡ xs ++ x ∷ [] → reading d.opened (Fields ∷ st) (λ v. k (xs ++ x ∷ v.0, v.1)) d.left
    ≡ reading d.opened (Fields ∷ st) (λ v. k (ys ++ v.0, v.1)) d.left
grown_fields d st k xs ys x e = rw e (simp append_assoc)

pub grow_fields : (a b c d : Ahead) (xs ys : List (List ℕ)) (x : List ℕ) (p : Place) → Partly Fields followed_by xs a b
    → head b.left ≡ Some token.Dot → Passes b p c → Gives AName c x d → ys ≡ xs ++ x ∷ []
    → Partly Fields followed_by ys a d
unfolding Partly Gives
grow_fields a b c d xs ys x p part h q g e = λ st k. part st k ∙ fields_item b c p st h q (λ v. k (xs ++ v.0, v.1))
    ∙ g (Fields ∷ st) (λ v. k (xs ++ v.0 ∷ v.1.0, v.1.1))
    ∙ grown_fields d st k xs ys x e

pub halts_fields : (a b : Ahead) (xs : List (List ℕ)) (e : SyntaxFault) → Partly Fields followed_by xs a b
    → head b.left ≡ Some token.Dot → Halts b e → Stops Fields a e
unfolding Partly
halts_fields a b xs e part h q = stops_by Fields Fields a b e (λ st k. (st, (λ v. k (xs ++ v.0, v.1)), part st k))
    (halts_at Fields token.Dot b e h q (λ p st. ((AName ∷ Fields ∷ st), (λ v. (v.0 ∷ v.1.0, v.1.1)), refl)))

pub stops_fields : (a b c : Ahead) (xs : List (List ℕ)) (p : Place) (e : SyntaxFault) → Partly Fields followed_by xs a b
    → head b.left ≡ Some token.Dot → Passes b p c → Stops AName c e → Stops Fields a e
unfolding Partly
stops_fields a b c xs p e part h q z = stops_by Fields AName a c e (λ st k. (
  Fields ∷ st,
  (λ v. k (xs ++ v.0 ∷ v.1.0, v.1.1)),
  part st k ∙ fields_item b c p st h q (λ v. k (xs ++ v.0, v.1)),
)) z

pub ends_fields : (a b : Ahead) (xs : List (List ℕ)) → Partly Fields followed_by xs a b → no_dot (head b.left) ≡ true
    → Gives Fields a xs b
unfolding Partly Gives
ends_fields a b xs part h = λ st k. part st k ∙ skip_fields b h st (λ v. k (xs ++ v.0, v.1))
    ∙ ap (λ ys. reading b.opened st (λ v. k (ys, v)) b.left) (append-nil xs)

pub ruleset items_fields = (
  none_fields,
  grow_fields,
  halts_fields,
  stops_fields,
  ends_fields,
  memory,
  reads_ok,
  reads_err,
)

pub none_stmts : (a : Ahead) (xs : ValueOf Stmts) → xs ≡ [] → Partly Stmts followed_by xs a a
unfolding Partly
none_stmts a xs e = λ st k. ap (λ ys. reading a.opened (Stmts ∷ st) (λ v. k (ys ++ v.0, v.1)) a.left) (sym e)

pub more_stmts_at : (o : Option Token) (p : Place) (st : Stack) → no_close_curly o ≡ true
    → m.stmts_at o p st ≡ mapped (λ v. (v.0 ∷ v.1.0, v.1.1)) (m.stmt_at o p (Stmts ∷ st))
more_stmts_at (Some token.CloseCurly) p st h = cc
more_stmts_at o p st h = refl

stmts_item : (b : Ahead) (st : Stack) (k : Values (Stmts ∷ st) → Tree) → no_close_curly (head b.left) ≡ true
    → reading b.opened (Stmts ∷ st) k b.left ≡ reading b.opened (AStmt ∷ Stmts ∷ st) (λ v. k (v.0 ∷ v.1.0, v.1.1))
    b.left
stmts_item b st k h = same_read b.opened (AStmt ∷ Stmts ∷ st) (Stmts ∷ st) (λ v. (v.0 ∷ v.1.0, v.1.1))
    k b.left (more_stmts_at (head b.left) (place_of b.left) st h)

-- one more item at the end
grown_stmts : (d : Ahead) (st : Stack) (k : Values (Stmts ∷ st) → Tree) (xs ys : List Stmt) (x : Stmt)
    → ys ≡ xs ++ x ∷ [] → reading d.opened (Stmts ∷ st) (λ v. k (xs ++ x ∷ v.0, v.1)) d.left
    ≡ reading d.opened (Stmts ∷ st) (λ v. k (ys ++ v.0, v.1)) d.left
grown_stmts d st k xs ys x e = rw e (simp append_assoc)

pub grow_stmts : (a b d : Ahead) (xs ys : List Stmt) (x : Stmt) → Partly Stmts followed_by xs a b
    → no_close_curly (head b.left) ≡ true → Gives AStmt b x d → ys ≡ xs ++ x ∷ [] → Partly Stmts followed_by ys a d
unfolding Partly Gives
grow_stmts a b d xs ys x part h g e = λ st k. part st k ∙ stmts_item b st (λ v. k (xs ++ v.0, v.1)) h
    ∙ g (Stmts ∷ st) (λ v. k (xs ++ v.0 ∷ v.1.0, v.1.1))
    ∙ grown_stmts d st k xs ys x e

pub stops_stmts : (a b : Ahead) (xs : List Stmt) (e : SyntaxFault) → Partly Stmts followed_by xs a b
    → no_close_curly (head b.left) ≡ true → Stops AStmt b e → Stops Stmts a e
unfolding Partly
stops_stmts a b xs e part h z = stops_by Stmts AStmt a b e (λ st k. (
  Stmts ∷ st,
  (λ v. k (xs ++ v.0 ∷ v.1.0, v.1.1)),
  part st k ∙ stmts_item b st (λ v. k (xs ++ v.0, v.1)) h,
)) z

pub halts_stmts : (a b : Ahead) (xs : List Stmt) (e : SyntaxFault) → Partly Stmts followed_by xs a b
    → head b.left ≡ Some token.CloseCurly → Halts b e → Stops Stmts a e
unfolding Partly
halts_stmts a b xs e part h q = stops_by Stmts Stmts a b e (λ st k. (st, (λ v. k (xs ++ v.0, v.1)), part st k))
    (halts_at Stmts token.CloseCurly b e h q (λ p st. (st, (λ v. ([], v)), refl)))

pub ends_stmts : (a b c : Ahead) (xs : List Stmt) (p : Place) → Partly Stmts followed_by xs a b
    → head b.left ≡ Some token.CloseCurly → Passes b p c → Gives Stmts a xs c
unfolding Partly Gives
ends_stmts a b c xs p part h q = λ st k. part st k ∙ passes_to Stmts token.CloseCurly b c p st st (λ v. ([], v))
    h q refl (λ v. k (xs ++ v.0, v.1)) ∙ ap (λ ys. reading c.opened st (λ v. k (ys, v)) c.left) (append-nil xs)

pub ruleset items_stmts = (none_stmts, grow_stmts, halts_stmts, stops_stmts, ends_stmts, memory, reads_ok, reads_err)

pub none_decls : (a : Ahead) (xs : ValueOf Decls) → xs ≡ [] → Partly Decls followed_by xs a a
unfolding Partly
none_decls a xs e = λ st k. ap (λ ys. reading a.opened (Decls ∷ st) (λ v. k (ys ++ v.0, v.1)) a.left) (sym e)

pub more_decls_at : (o : Option Token) (p : Place) (st : Stack) → no_end o ≡ true
    → m.decls_at o p st ≡ mapped (λ v. (v.0 ∷ v.1.0, v.1.1)) (m.decl_at o p (Decls ∷ st))
more_decls_at (Some token.End) p st h = cc
more_decls_at o p st h = refl

decls_item : (b : Ahead) (st : Stack) (k : Values (Decls ∷ st) → Tree) → no_end (head b.left) ≡ true
    → reading b.opened (Decls ∷ st) k b.left ≡ reading b.opened (ADecl ∷ Decls ∷ st) (λ v. k (v.0 ∷ v.1.0, v.1.1))
    b.left
decls_item b st k h = same_read b.opened (ADecl ∷ Decls ∷ st) (Decls ∷ st) (λ v. (v.0 ∷ v.1.0, v.1.1))
    k b.left (more_decls_at (head b.left) (place_of b.left) st h)

-- one more item at the end
grown_decls : (d : Ahead) (st : Stack) (k : Values (Decls ∷ st) → Tree) (xs ys : List Decl) (x : Decl)
    → ys ≡ xs ++ x ∷ [] → reading d.opened (Decls ∷ st) (λ v. k (xs ++ x ∷ v.0, v.1)) d.left
    ≡ reading d.opened (Decls ∷ st) (λ v. k (ys ++ v.0, v.1)) d.left
grown_decls d st k xs ys x e = rw e (simp append_assoc)

pub grow_decls : (a b d : Ahead) (xs ys : List Decl) (x : Decl) → Partly Decls followed_by xs a b
    → no_end (head b.left) ≡ true → Gives ADecl b x d → ys ≡ xs ++ x ∷ [] → Partly Decls followed_by ys a d
unfolding Partly Gives
grow_decls a b d xs ys x part h g e = λ st k. part st k ∙ decls_item b st (λ v. k (xs ++ v.0, v.1)) h
    ∙ g (Decls ∷ st) (λ v. k (xs ++ v.0 ∷ v.1.0, v.1.1))
    ∙ grown_decls d st k xs ys x e

pub stops_decls : (a b : Ahead) (xs : List Decl) (e : SyntaxFault) → Partly Decls followed_by xs a b
    → no_end (head b.left) ≡ true → Stops ADecl b e → Stops Decls a e
unfolding Partly
stops_decls a b xs e part h z = stops_by Decls ADecl a b e (λ st k. (
  Decls ∷ st,
  (λ v. k (xs ++ v.0 ∷ v.1.0, v.1.1)),
  part st k ∙ decls_item b st (λ v. k (xs ++ v.0, v.1)) h,
)) z

pub halts_decls : (a b : Ahead) (xs : List Decl) (e : SyntaxFault) → Partly Decls followed_by xs a b
    → head b.left ≡ Some token.End → Halts b e → Stops Decls a e
unfolding Partly
halts_decls a b xs e part h q = stops_by Decls Decls a b e (λ st k. (st, (λ v. k (xs ++ v.0, v.1)), part st k))
    (halts_at Decls token.End b e h q (λ p st. (st, (λ v. ([], v)), refl)))

pub ends_decls : (a b c : Ahead) (xs : List Decl) (p : Place) → Partly Decls followed_by xs a b
    → head b.left ≡ Some token.End → Passes b p c → Gives Decls a xs c
unfolding Partly Gives
ends_decls a b c xs p part h q = λ st k. part st k ∙ passes_to Decls token.End b c p st st (λ v. ([], v))
    h q refl (λ v. k (xs ++ v.0, v.1)) ∙ ap (λ ys. reading c.opened st (λ v. k (ys, v)) c.left) (append-nil xs)

pub ruleset items_decls = (none_decls, grow_decls, halts_decls, stops_decls, ends_decls, memory, reads_ok, reads_err)
