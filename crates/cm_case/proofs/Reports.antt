-- A report grows by one path after another.
use Rattle.std.proofs.Common.{◌≡◌, ◌⊎◌, inl, inr, ℕ, zero, suc, List, [], ◌∷◌, ◌++◌, length, slice_get, Some}
use Rattle.std.proofs.Common.{refl, sym, ap, ◌∙◌, subst}
use Rattle.std.specs.List.{AllByRecursion, list_all}
use Rattle.cm_model.specs.Tables.{Tables}
use Rattle.cm_model.specs.declared.pair.Pair.{Pair}
use Rattle.cm_world.specs.Over.{IsPath}
use Rattle.cm_world.specs.declared.world.World.{World}
use Rattle.cm_world.specs.World.{IsWorldOf}
use Rattle.cm_world.specs.Path.{path_of_world}
use Rattle.cm_cond.specs.declared.report.Case.{Case}
use Rattle.cm_cond.specs.declared.report.Condition.{Condition}
use Rattle.cm_cond.specs.declared.report.PairReport.{PairReport}
use Rattle.cm_cond.specs.declared.report.PairReport.TheVariants as report
use Rattle.cm_cond.specs.Form.{is_case, is_report, path_limit}
use Rattle.std.proofs.lemmas.Bool.{and_from, le-leb}
use Rattle.std.proofs.Common.{◌≤◌, leb, true, arith}
use Rattle.cm_forks.specs.Paths.{After, IsNext, IsPast}
use Rattle.cm_case.specs.Right.{CommutesOn, IsRightCase}
use Rattle.cm_case.specs.Report.{Ascend, AreThePaths, AreTheCases, IsRightReport}
use Rattle.cm_case.specs.Growing.{Going, last_of}

abbrev Path : Type 0
Path = List ℕ

found_first : {X : Type 0} (xs ys : List X) (i : ℕ) (x : X) → slice_get xs i ≡ Some x → slice_get (xs ++ ys) i ≡ Some x
found_first [] ys i x at = absurd (cc)
found_first (z ∷ xs) ys zero x at = at
found_first (z ∷ xs) ys (suc i) x at = found_first xs ys i x at

found_last : {X : Type 0} (xs : List X) (x : X) → slice_get (xs ++ x ∷ []) (length xs) ≡ Some x
found_last [] x = refl
found_last (z ∷ xs) x = found_last xs x

pub last_is : (ps : List Path) (p : Path) → last_of (ps ++ p ∷ []) ≡ Some p
last_is [] p = refl
last_is (q ∷ []) p = refl
last_is (q ∷ r ∷ ps) p = last_is (r ∷ ps) p

ascend_more : (ps : List Path) (p : Path) → Ascend ps → After (last_of ps) p → Ascend (ps ++ p ∷ [])
ascend_more [] p up after = tt
ascend_more (q ∷ []) p up after = (after, tt)
ascend_more (q ∷ r ∷ ps) p up after = (up.0, ascend_more (r ∷ ps) p up.1 after)

module _ (t : Tables) (p : Pair) where
  abbrev IsOne : Path → Type 0
  IsOne = IsPath t p

  pub none_yet : Going t p [] []
  none_yet = record { are = tt; ascend = tt; others = λ path is. inr tt; cases_are = tt }

  all_more : (P : Path → Type 0) (paths : List Path) (path : Path) → AllByRecursion P paths → P path
      → AllByRecursion P (paths ++ path ∷ [])
  all_more P [] path h is = (is, tt)
  all_more P (q ∷ paths) path h is = (h.0, all_more P paths path h.1 is)

  others_more : (paths : List Path) (path : Path) → IsNext (IsPath t p) (last_of paths) path
      → ((q : Path) → IsPath t p q → ((i : ℕ) × (slice_get paths i ≡ Some q)) ⊎ After (last_of paths) q)
      → (q : Path) → IsPath t p q
      → ((i : ℕ) × (slice_get (paths ++ path ∷ []) i ≡ Some q)) ⊎ After (last_of (paths ++ path ∷ [])) q
  others_more paths path next others q is = elim (others q is) [
    | inl f ↦ inl (f.0, found_first paths (path ∷ []) f.0 q f.1)
    | inr after ↦ elim (next.least q is after) [
      | inl same ↦ inl (length paths, found_last paths path ∙ ap Some (sym same))
      | inr before ↦ inr (subst (λ o. After o q) (sym (last_is paths path)) before)
    ]
  ]

  with_case : (paths : List Path) (cases : List Case) (path : Path) (c : Case) → AreTheCases t p paths cases
      → IsRightCase t p path c → AreTheCases t p (paths ++ path ∷ []) (cases ++ c ∷ [])
  with_case [] [] path c h right = inl (c, [], refl, right, tt)
  with_case [] (d ∷ cases) path c h right = absurd h
  with_case (q ∷ paths) cases path c (inl h) right =
      inl (h.0, h.1 ++ c ∷ [], ap (λ cs. cs ++ c ∷ []) h.2, h.3, with_case paths h.1 path c h.4 right)
  with_case (q ∷ paths) cases path c (inr h) right = inr (h.0, with_case paths cases path c h.1 right)

  without : (paths : List Path) (cases : List Case) (path : Path) → AreTheCases t p paths cases
      → (CommutesOn t p path → ⊥) → AreTheCases t p (paths ++ path ∷ []) cases
  without [] [] path h never = inr (never, tt)
  without [] (d ∷ cases) path h never = absurd h
  without (q ∷ paths) cases path (inl h) never = inl (h.0, h.1, h.2, h.3, without paths h.1 path h.4 never)
  without (q ∷ paths) cases path (inr h) never = inr (h.0, without paths cases path h.1 never)

  pub going_with : (paths : List Path) (cases : List Case) (path : Path) (c : Case) → Going t p paths cases
      → IsNext (IsPath t p) (last_of paths) path → IsRightCase t p path c
      → Going t p (paths ++ path ∷ []) (cases ++ c ∷ [])
  going_with paths cases path c g next right = record {
    are = all_more (IsPath t p) paths path g.are next.is_path;
    ascend = ascend_more paths path g.ascend next.above;
    others = others_more paths path next g.others;
    cases_are = with_case paths cases path c g.cases_are right;
  }

  pub going_without : (paths : List Path) (cases : List Case) (path : Path) → Going t p paths cases
      → IsNext (IsPath t p) (last_of paths) path → (CommutesOn t p path → ⊥) → Going t p (paths ++ path ∷ []) cases
  going_without paths cases path g next never = record {
    are = all_more (IsPath t p) paths path g.are next.is_path;
    ascend = ascend_more paths path g.ascend next.above;
    others = others_more paths path next g.others;
    cases_are = without paths cases path g.cases_are never;
  }

  -- behind the last path
  pub all_paths : (paths : List Path) (cases : List Case) → Going t p paths cases → IsPast (IsPath t p) (last_of paths)
      → AreThePaths t p paths
  all_paths paths cases g past = record {
    are = g.are;
    ascend = g.ascend;
    all = λ path is. elim (g.others path is) [
      | inl f ↦ f
      | inr after ↦ absurd (past path is after)
    ];
  }

  -- right cases are spelled as reports are
  cases_spelled : (paths : List Path) (cases : List Case) → AreTheCases t p paths cases
      → list_all (is_case t p) cases ≡ true
  cases_spelled [] [] h = refl
  cases_spelled [] (c ∷ cases) h = absurd h
  cases_spelled (q ∷ paths) cases (inl h) =
      subst (λ cs. list_all (is_case t p) cs ≡ true) (sym h.2)
      (and_from (is_case t p h.0) (list_all (is_case t p) h.1) h.3.well_formed (cases_spelled paths h.1 h.4))
  cases_spelled (q ∷ paths) cases (inr h) = cases_spelled paths cases h.1

  some_found : (paths : List Path) (i : ℕ) (q : Path) → slice_get paths i ≡ Some q → 1 ≤ length paths
  some_found [] i q at = absurd (cc)
  some_found (r ∷ paths) i q at = omega arith

  -- and so are right reports of a pair that has a world, where the limit is one that words may give
  pub report_spelled : (limit : ℕ) (r : PairReport) → (u : World) → IsWorldOf t p u → IsRightReport t p limit r
      → ((n : ℕ) (k : Condition) → r ≡ report.Cases n k → n ≤ path_limit) → is_report t p r ≡ true
  report_spelled limit (report.Over x) u world right few = refl
  report_spelled limit (report.Cases n k) u world right few =
      let found = right.2.all (path_of_world t p u) (record { world = u; is_world = world; has = refl }) in
      let some = some_found right.1 found.0 (path_of_world t p u) found.1 in
      and_from _ (list_all (is_case t p) k.cases)
      (and_from (leb 1 n) (leb n path_limit) (le-leb 1 n (subst (λ m. 1 ≤ m) right.3 some))
      (le-leb n path_limit (few n k refl))) (cases_spelled right.1 k.cases right.4)
