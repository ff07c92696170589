-- The report at the end of the paths.
use Rattle.std.proofs.Common.{◌≡◌, [], refl, sym, ◌∙◌, subst, arith}
use Rattle.cm_cond.specs.declared.report.PairReport.TheVariants as report
use Rattle.cm_case.specs.Report.{IsRightReport}
use Rattle.cm_case.specs.Growing.{Going}
use Rattle.cm_case.proofs.Reports.{none_yet}
use Rattle.cm_analyze.proofs.report.report_of.Goals as goal

pub loop-paths-init : goal.loop-paths-init
loop-paths-init g c = (
  record {
    paths = [];
    going = subst (λ cs. Going c.args.walk.now.model c.args.walk.now.pair_of [] cs) (sym c.new-cases.ensures)
        (none_yet c.args.walk.now.model c.args.walk.now.pair_of);
    last = sym c.requires.last;
    given = sym c.requires.given;
  },
  c.requires.given,
  record { model = c.requires.model; pair_of = c.requires.pair; limit_is = c.requires.limit },
  refl,
  (λ h. h),
)

pub returns-in-End-clause-right : goal.returns-in-End-clause-right
returns-in-End-clause-right g c =
    subst (IsRightReport c.args.subject.model.now c.args.subject.pair c.args.limit) (sym c.cases_of.ensures.cases)
    (subst (λ n. IsRightReport c.args.subject.model.now c.args.subject.pair n
    (report.Cases c.loop-paths.paths (record { cases = c.go_on.new.cases }))) c.loop-paths.invariant.2.limit_is
    (subst (λ n. IsRightReport c.args.subject.model.now c.args.subject.pair c.loop-paths.walk.limit
    (report.Cases n (record { cases = c.go_on.new.cases }))) c.loop-paths.invariant.1
    (c.in_ok-go_on.ensures.end c.in-End.is c.loop-paths.invariant.0)))

pub returns-in-End-2-clause-right : goal.returns-in-End-2-clause-right
returns-in-End-2-clause-right g c =
    subst (IsRightReport c.args.subject.model.now c.args.subject.pair c.args.limit)
    (sym c.cases_of-in-End-2.ensures.cases)
    (subst (λ n. IsRightReport c.args.subject.model.now c.args.subject.pair n
    (report.Cases c.args.limit (record { cases = c.go_on-2.new.cases }))) c.loop-paths.invariant.2.limit_is
    (subst (λ n. IsRightReport c.args.subject.model.now c.args.subject.pair c.loop-paths.walk.limit
    (report.Cases n (record { cases = c.go_on-2.new.cases }))) (c.loop-paths.invariant.1 ∙ last)
    (c.in_ok-go_on-2.ensures.end c.in-End-2.is c.loop-paths.invariant.0)))
  where
    last : c.loop-paths.paths ≡ c.args.limit
    last = omega (arith, c.loop-paths-test.false, c.loop-paths.auto.paths-end)
