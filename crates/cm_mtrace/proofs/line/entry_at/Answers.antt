use Rattle.std.proofs.Common.{arith, ◌++◌}
use Rattle.cm_text.specs.Numeral.{hexadecimal}
use Rattle.cm_mtrace.specs.inner.Reading.{with_size}
use Rattle.cm_mtrace.proofs.Entries.{after_core, after_marks, after_addr, after_size}
use Rattle.cm_mtrace.proofs.line.entry_at.Goals as goal

pub returns-in_default-marks_at : goal.returns-in_default-marks_at
returns-in_default-marks_at c e rest is line =
    let core = after_core c.args.text.now c.in-Some.rest.now rest c.in-Some.core e c.in-Some.ensures.1
    is c.in-Some.ensures.0 c.in-Some.ensures.2 line in
    c.in_default-marks_at.ensures e.who e.kind (hexadecimal e.addr ++ with_size e.size rest) core.1

pub returns-in_default-hexadecimal_at : goal.returns-in_default-hexadecimal_at
returns-in_default-hexadecimal_at c e rest is line =
    let core = after_core c.args.text.now c.in-Some.rest.now rest c.in-Some.core e c.in-Some.ensures.1
    is c.in-Some.ensures.0 c.in-Some.ensures.2 line in
    let m = c.in-Some-marks_at in
    let marks = after_marks c.in-Some.rest.now m.rest.now (hexadecimal e.addr ++ with_size e.size rest)
    m.who e.who m.kind e.kind m.ensures core.1 in
    c.in_default-hexadecimal_at.ensures e.addr (with_size e.size rest) (omega (arith, is.range.some, is.range.last))
    (λ d. omega (arith, d.below)) marks

pub returns-in_default-size_at : goal.returns-in_default-size_at
returns-in_default-size_at c e rest is line =
    let core = after_core c.args.text.now c.in-Some.rest.now rest c.in-Some.core e c.in-Some.ensures.1
    is c.in-Some.ensures.0 c.in-Some.ensures.2 line in
    let m = c.in-Some-marks_at in
    let marks = after_marks c.in-Some.rest.now m.rest.now (hexadecimal e.addr ++ with_size e.size rest)
    m.who e.who m.kind e.kind m.ensures core.1 in
    let a = c.in-Some-hexadecimal_at in
    let addr = after_addr m.rest.now a.rest.now rest a.addr e a.ensures.1 is a.ensures.0 a.ensures.2 marks in
    c.in_default-size_at.ensures e.size rest is.size addr.1

pub returns-then-not-is_in_range : goal.returns-then-not-is_in_range
returns-then-not-is_in_range c e rest is line =
    let core = after_core c.args.text.now c.in-Some.rest.now rest c.in-Some.core e c.in-Some.ensures.1
    is c.in-Some.ensures.0 c.in-Some.ensures.2 line in
    let m = c.in-Some-marks_at in
    let marks = after_marks c.in-Some.rest.now m.rest.now (hexadecimal e.addr ++ with_size e.size rest)
    m.who e.who m.kind e.kind m.ensures core.1 in
    let a = c.in-Some-hexadecimal_at in
    let addr = after_addr m.rest.now a.rest.now rest a.addr e a.ensures.1 is a.ensures.0 a.ensures.2 marks in
    let s = c.in-Some-size_at in
    let size = after_size a.rest.now s.rest.now rest s.size e.size s.ensures.0 is.size s.ensures.1 addr.1 in
    let no = c.if-not-is_in_range.ensures.1 (
      omega (arith, size.0, is.range.some),
      omega (arith, addr.0, size.0, is.range.last),
    ) in
    cc
