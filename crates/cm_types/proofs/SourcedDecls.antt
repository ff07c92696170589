-- What the tokens of a text give for the declarations of its tree.
use Rattle.std.proofs.Common.{◌≡◌, ℕ, ◌+◌, ◌≤◌, true, List, [], ◌∷◌, ◌++◌, map, refl, ◌∙◌, arith}
use Rattle.std.specs.List.{list_all}
use Rattle.std.proofs.lemmas.Bool.{and_from, le-leb}
use Rattle.std.proofs.lemmas.List.Folds.{list_all-append}
use Rattle.cm_model.specs.Names.{is_name}
use Rattle.cm_model.specs.Weights.{shifts_of, body_shifts}
use Rattle.cm_tokens.specs.declared.token.Token.{Token}
use Rattle.cm_tokens.specs.declared.token.Token.TheVariants as token
use Rattle.cm_syntax.specs.Form.{each_after}
use Rattle.cm_syntax.specs.Spelling as spelled
use Rattle.cm_syntax.specs.Spelling.{names_after, listed, num_form, type_form, part_form, expr_form, block_form}
use Rattle.cm_syntax.specs.Spelling.{decl_form, internal_form}
use Rattle.cm_syntax.specs.declared.tree.Part.{Part}
use Rattle.cm_syntax.specs.declared.tree.Expr.{Expr}
use Rattle.cm_syntax.specs.declared.tree.Block.{Block}
use Rattle.cm_syntax.specs.declared.tree.Decl.{Decl}
use Rattle.cm_syntax.specs.declared.tree.Decl.TheVariants as decl
use Rattle.cm_syntax.specs.declared.tree.Tree.{Tree}
use Rattle.cm_typing.specs.Expressions.{expr_told}
use Rattle.cm_typing.specs.Statements.{of_block}
use Rattle.cm_types.proofs.Items.{Each}
use Rattle.cm_types.proofs.Passing.{Fine, opened, closed, name_passed, num_passes, names_passed, type_passes}
use Rattle.cm_types.proofs.Passing.{part_gives, Gives, after_gives, listed_gives}
use Rattle.cm_types.proofs.NestedExprs.{expr_nests}
use Rattle.cm_types.proofs.NestedStmts.{few_in, block_nests}
use Rattle.cm_types.proofs.TypedRoutines.{names_in}
use Rattle.cm_types.proofs.FromText.{FromText, IsShallowExpr, IsShallowBlock}

abbrev IsName : ℕ → List ℕ → Type 0
IsName n x = is_name x ≡ true

abbrev name_of : Part → List ℕ
name_of p = p.name

parts_give : (ps : List Part) → Each (Gives IsName part_form name_of) ps
parts_give [] = tt
parts_give (p ∷ ps) = (part_gives p, parts_give ps)

all_names : (n : ℕ) (ps : List Part) → Each (IsName n) (map name_of ps) → list_all is_name (names_in ps) ≡ true
all_names n [] h = refl
all_names n (p ∷ ps) h = and_from (is_name p.name) (list_all is_name (names_in ps)) h.0 (all_names n ps h.1)

with_name : (x : List ℕ) (xs : List (List ℕ)) → is_name x ≡ true → list_all is_name xs ≡ true → list_all is_name
    (x ∷ xs) ≡ true
with_name x xs h e = and_from (is_name x) (list_all is_name xs) h e

abbrev DeclGives : Decl → Type 0
DeclGives x = (n : ℕ) (ts : List Token) → n ≤ 64 → Fine n ((decl_form x).writes ts) → FromText x × Fine n ts

-- an expression and a semicolon
invariant_gives : (e : Expr) (n : ℕ) (ts : List Token) → n ≤ 64 → Fine n ((expr_form e).writes (token.Semicolon ∷ ts))
    → IsShallowExpr e × Fine n ts
invariant_gives e n ts le h =
    let a = expr_nests e n (token.Semicolon ∷ ts) le h in
    (λ s l. le-leb (shifts_of (expr_told e s l).0.expr) 65 (few_in e n a.0 s l), a.1)

body_gives : (b : Block) (n : ℕ) (ts : List Token) → n ≤ 64 → Fine n ((block_form b).writes ts) → IsShallowBlock b
    × Fine n ts
body_gives b n ts le h =
    let a = block_nests b n ts le h in (λ s l. le-leb (body_shifts ((of_block s b).told l).0.steps) 65 (a.0 s l), a.1)

internal_gives : (qs : List Part) (n : ℕ) (ts : List Token) → n ≤ 64 → Fine n ((internal_form qs).writes ts)
    → (list_all is_name (names_in qs) ≡ true) × Fine n ts
internal_gives [] n ts le h = (refl, h)
internal_gives (q ∷ qs) n ts le h =
    let p = part_gives q n ((each_after token.Comma (map part_form qs)).writes ts) le h in
    let rest = after_gives IsName part_form name_of token.Comma (λ n ts h. h) qs (parts_give qs) n ts le p.1 in
    (with_name q.name (names_in qs) p.0 (all_names n qs rest.0), rest.1)

decl_gives : (x : Decl) → DeclGives x
decl_gives (decl.Sort p x) n ts le h =
    let q = name_passed n x (token.Semicolon ∷ ts) h in
    (record { names = with_name x [] q.0 refl; shallow = tt }, q.1)
decl_gives (decl.Int p x low high) n ts le h =
    let second = (num_form high).writes (token.Semicolon ∷ ts) in
    let q = name_passed n x ((num_form low).writes (token.DotDot ∷ second)) h in
    let a = num_passes low n (token.DotDot ∷ second) le q.1 in
    (record { names = with_name x [] q.0 refl; shallow = tt }, num_passes high n (token.Semicolon ∷ ts) le a)
decl_gives (decl.Enum p x y ys) n ts le h =
    let last = names_after token.Comma ys (token.CloseCurly ∷ ts) in
    let q = name_passed n x (token.OpenCurly ∷ token.Name y ∷ last) h in
    let o = opened n (token.Name y ∷ last) q.1 in
    let a = name_passed (n + 1) y last o.1 in
    let c = names_passed token.Comma (λ n ts h. h) ys (n + 1) (token.CloseCurly ∷ ts) a.1 in
    (record { names = with_name x (y ∷ ys) q.0 (with_name y ys a.0 c.0); shallow = tt }, closed n ts c.1)
decl_gives (decl.Record p x r rs) n ts le h =
    let last = (each_after token.Comma (map part_form rs)).writes (token.CloseCurly ∷ ts) in
    let q = name_passed n x (token.OpenCurly ∷ (part_form r).writes last) h in
    let o = opened n ((part_form r).writes last) q.1 in
    let a = part_gives r (n + 1) last o.0 o.1 in
    let c = after_gives IsName part_form name_of token.Comma (λ n ts h. h) rs (parts_give rs) (n + 1)
    (token.CloseCurly ∷ ts) o.0 a.1 in (
      record {
        names = with_name x (names_in (r ∷ rs)) q.0 (with_name r.name (names_in rs) a.0
            (all_names (n + 1) rs c.0));
        shallow = tt;
      },
      closed n ts c.1,
    )
decl_gives (decl.Cell p x t) n ts le h =
    let q = name_passed n x (token.Colon ∷ (type_form t).writes (token.Semicolon ∷ ts)) h in
    (record { names = with_name x [] q.0 refl; shallow = tt }, type_passes t n (token.Semicolon ∷ ts) le q.1)
decl_gives (decl.CellWhere p x t e) n ts le h =
    let last = token.Where ∷ (expr_form e).writes (token.Semicolon ∷ ts) in
    let q = name_passed n x (token.Colon ∷ (type_form t).writes last) h in
    let a = invariant_gives e n ts le (type_passes t n last le q.1) in
    (record { names = with_name x [] q.0 refl; shallow = a.0 }, a.1)
decl_gives (decl.Map p x k t) n ts le h =
    let last = token.Arrow ∷ (type_form t).writes (token.Semicolon ∷ ts) in
    let q = name_passed n x (token.Colon ∷ token.Map ∷ (type_form k).writes last) h in (
      record { names = with_name x [] q.0 refl; shallow = tt },
      type_passes t n (token.Semicolon ∷ ts) le
          (type_passes k n last le q.1),
    )
decl_gives (decl.MapWhere p x k t e) n ts le h =
    let end = token.Where ∷ (expr_form e).writes (token.Semicolon ∷ ts) in
    let last = token.Arrow ∷ (type_form t).writes end in
    let q = name_passed n x (token.Colon ∷ token.Map ∷ (type_form k).writes last) h in
    let a = invariant_gives e n ts le (type_passes t n end le (type_passes k n last le q.1)) in
    (record { names = with_name x [] q.0 refl; shallow = a.0 }, a.1)
decl_gives (decl.Function p x ps t b) n ts le h =
    let behind = token.Arrow ∷ (type_form t).writes ((block_form b).writes ts) in
    let inner = (listed (map part_form ps)).writes (token.CloseRound ∷ behind) in
    let q = name_passed n x (token.OpenRound ∷ inner) h in
    let o = opened n inner q.1 in
    let a = listed_gives IsName part_form name_of ps (parts_give ps) (n + 1) (token.CloseRound ∷ behind) o.0 o.1 in
    let c = body_gives b n ts le (type_passes t n ((block_form b).writes ts) le (closed n behind a.1)) in
    (record { names = with_name x (names_in ps) q.0 (all_names (n + 1) ps a.0); shallow = c.0 }, c.1)
decl_gives (decl.Call p x ps qs t b) n ts le h =
    let behind = token.Arrow ∷ (type_form t).writes ((block_form b).writes ts) in
    let second = (internal_form qs).writes (token.CloseRound ∷ behind) in
    let inner = (listed (map part_form ps)).writes second in
    let q = name_passed n x (token.OpenRound ∷ inner) h in
    let o = opened n inner q.1 in
    let a = listed_gives IsName part_form name_of ps (parts_give ps) (n + 1) second o.0 o.1 in
    let i = internal_gives qs (n + 1) (token.CloseRound ∷ behind) o.0 a.1 in
    let c = body_gives b n ts le (type_passes t n ((block_form b).writes ts) le (closed n behind i.1)) in
    let both : list_all is_name (names_in ps ++ names_in qs) ≡ true =
    list_all-append is_name (names_in ps) (names_in qs)
    ∙ and_from (list_all is_name (names_in ps)) (list_all is_name (names_in qs)) (all_names (n + 1) ps a.0) i.0 in
    (record { names = with_name x (names_in ps ++ names_in qs) q.0 both; shallow = c.0 }, c.1)

decls_give : (xs : List Decl) (n : ℕ) (ts : List Token) → n ≤ 64
    → Fine n ((spelled.each (map decl_form xs)).writes ts) → Each FromText xs
decls_give [] n ts le h = tt
decls_give (x ∷ xs) n ts le h =
    let p = decl_gives x n ((spelled.each (map decl_form xs)).writes ts) le h in (p.0, decls_give xs n ts le p.1)

-- THE DECLARATIONS OF A TREE whose tokens have at most 64 brackets open, and names that are names
pub tree_gives : (tree : Tree) → Fine 0 (spelled.tokens_of tree) → Each FromText (tree.first ∷ tree.more)
tree_gives tree h =
    let p = decl_gives tree.first 0 ((spelled.each (map decl_form tree.more)).writes (token.End ∷ []))
    (omega arith) h in
    (p.0, decls_give tree.more 0 (token.End ∷ []) (omega arith) p.1)
