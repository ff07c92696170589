-- The lines of an entry, counted from the first.
use Rattle.std.proofs.Common.{arith, ◌≡◌, ℕ, ◌+◌, ◌-◌, ◌*◌, ◌/◌, ◌%◌, ◌<◌, max}
use Rattle.cm_mtrace.specs.Lines.{Covers, IsInRange}
use Rattle.cm_mtrace.specs.declared.item.Entry.{Entry}

pub covered : (e : Entry) (line : ℕ) → IsInRange e → Covers e line
    → (k : ℕ) × (k < (e.addr % 64 + e.size + 63) / 64) × (line ≡ e.addr - e.addr % 64 + 64 * k)
covered e line range h =
    let b = h.byte in (
      line / 64 - e.addr / 64,
      omega (arith, h.aligned, b.1, b.2, b.3, b.4),
      omega
          (arith, h.aligned, b.1, b.2, b.3, b.4),
    )

pub covers : (e : Entry) (line k : ℕ) → IsInRange e → k < (e.addr % 64 + e.size + 63) / 64
    → line ≡ e.addr - e.addr % 64 + 64 * k → Covers e line
covers e line k range below is =
    record {
      aligned = omega (arith, is);
      byte =
          (max e.addr line, omega arith, omega (arith, is, below, range.some), omega arith, omega (arith, is));
    }
