-- The cache lines of an entry. A line has 64 bytes and is named by the address of the first.
use Rattle.std.specs.Prelude.{◌≡◌, ℕ, ◌+◌, ◌%◌, ◌^◌, ◌<◌, ◌≤◌}
use Rattle.cm_mtrace.specs.declared.item.Entry.{Entry}

-- the entry has a byte, and its last byte has an address
pub record IsInRange (e : Entry) : Type 0 where
  pub some : 1 ≤ e.size
  pub last : e.addr + e.size ≤ 2 ^ 64

-- one of the line's 64 bytes is a byte of the entry
pub record Covers (e : Entry) (line : ℕ) : Type 0 where
  pub aligned : line % 64 ≡ 0
  pub byte : (b : ℕ) × (e.addr ≤ b) × (b < e.addr + e.size) × (line ≤ b) × (b < line + 64)
