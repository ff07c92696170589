use Rattle.std.proofs.Common.{arith, ◌≡◌, ℕ, List, ◌%◌, ◌^◌, ◌<◌, ◌≤◌, length, mod-eq_of_lt, subst, sym, take}
use Rattle.std.specs.Str.Parse.{digits_value}
use Rattle.std.proofs.lemmas.Slice.{between_to_end}
use Rattle.std.proofs.Math.Nat.{pow-le-pow_right}
use Rattle.cm_text.specs.Run.{IsRun}
use Rattle.cm_text.proofs.Fronts.{none_at_above, none_at_long, none_at_none, none_at_zero, run_below, run_numeral}
use Rattle.cm_text.proofs.number.short_number_at.Goals as goal

room : (base longest most : ℕ) → 2 ≤ base → longest ≤ 64 → most < base ^ longest → most < base ^ 64
room base longest most low few holds = omega (arith, holds, pow-le-pow_right {n = base} (omega arith) few)

-- what few digits write modulo 2^64 is what they write
exact : (base longest : ℕ) (text : List ℕ) (count n v : ℕ) → 2 ≤ base → base ^ longest ≤ 2 ^ 64 → count ≤ longest
    → IsRun base text count v → n ≡ v % 2 ^ 64 → (n ≡ v) × (n < base ^ longest)
exact base longest text count n v low fits few run is =
    let below = run_below base longest text count v low run few in
    let same : v % 2 ^ 64 ≡ v = mod-eq_of_lt (omega (arith, below, fits)) in
    (omega (arith, is, same), omega (arith, is, same, below))

pub returns-then-count-eq0 : goal.returns-then-count-eq0
returns-then-count-eq0 c =
    let text = c.args.text.now in
    let v = digits_value c.args.base (take c.run_at-n.result.1 text) in
    none_at_none c.args.base c.args.most text v c.requires.low c.requires.high
    (room c.args.base c.args.longest c.args.most c.requires.low c.requires.few c.requires.holds)
    (subst (λ k. IsRun c.args.base text k v) c.if-count-eq0.true c.run_at-n.ensures.run)

pub returns-then-count-longest : goal.returns-then-count-longest
returns-then-count-longest c =
    let text = c.args.text.now in
    let count = c.run_at-n.result.1 in
    none_at_long c.args.base c.args.most c.args.longest text count (digits_value c.args.base (take count text))
    c.requires.low c.requires.high c.requires.some c.requires.few c.requires.holds c.run_at-n.ensures.run
    c.if-count-longest.true

pub returns-then-not-is_plain : goal.returns-then-not-is_plain
returns-then-not-is_plain c =
    let text = c.args.text.now in
    let count = c.run_at-n.result.1 in
    let zero = c.if-not-is_plain.ensures in
    none_at_zero c.args.base c.args.most text count (digits_value c.args.base (take count text)) c.requires.low
    c.requires.high
    (room c.args.base c.args.longest c.args.most c.requires.low c.requires.few c.requires.holds)
    c.run_at-n.ensures.run zero.0 zero.1

pub returns-then-n-most : goal.returns-then-n-most
returns-then-n-most c =
    let text = c.args.text.now in
    let count = c.run_at-n.result.1 in
    let v = digits_value c.args.base (take count text) in
    let is = exact c.args.base c.args.longest text count c.run_at-n.result.0 v c.requires.low c.requires.fits
    (omega (arith, c.if-count-longest.false)) c.run_at-n.ensures.run c.run_at-n.ensures.value in
    none_at_above c.args.base c.args.most text count v c.requires.low c.requires.high
    (room c.args.base c.args.longest c.args.most c.requires.low c.requires.few c.requires.holds)
    c.run_at-n.ensures.run (omega (arith, is.0, c.if-n-most.true))

pub returns : goal.returns
returns c =
    let text = c.args.text.now in
    let count = c.run_at-n.result.1 in
    let v = digits_value c.args.base (take count text) in
    let run = c.run_at-n.ensures.run in
    let is = exact c.args.base c.args.longest text count c.run_at-n.result.0 v c.requires.low c.requires.fits
    (omega (arith, c.if-count-longest.false)) run c.run_at-n.ensures.value in
    let same : IsRun c.args.base text count c.run_at-n.result.0 = subst (λ n. IsRun c.args.base text count n)
    (sym is.0) run in
    let fits : c.run_at-n.result.0 < c.args.base ^ 64 = room c.args.base c.args.longest c.run_at-n.result.0
    c.requires.low c.requires.few is.1 in
    rw (between_to_end text count (length text) (omega arith)) (
      run_numeral c.args.base text count c.run_at-n.result.0 c.requires.low c.requires.high fits same
          (omega (arith, c.if-count-eq0.false)) c.if-not-is_plain.ensures,
      omega (arith, c.if-n-most.false),
      run.ends,
    )
