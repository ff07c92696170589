-- The line of an entry, part by part.
use Rattle.std.proofs.Common.{arith, ◌≡◌, ℕ, ◌^◌, ◌<◌, ◌≤◌, List, ◌∷◌, ◌++◌, codes, decimal, sym, ◌∙◌, append_assoc}
use Rattle.cm_text.specs.Numeral.{BeginsWithDigit, hexadecimal}
use Rattle.cm_text.proofs.Fronts.{same_numeral}
use Rattle.cm_mtrace.specs.inner.Reading.{with_marks, with_size}
use Rattle.cm_mtrace.specs.Trace.{IsEntry, kind_text, line_of, mark_text}
use Rattle.cm_mtrace.specs.declared.item.Entry.{Entry}
use Rattle.cm_mtrace.specs.declared.item.Item.TheVariants as items
use Rattle.cm_mtrace.specs.declared.item.Kind.{Kind}
use Rattle.cm_mtrace.specs.declared.item.Kind.TheVariants.{Read, Write}
use Rattle.cm_mtrace.specs.declared.item.Who.{Who}
use Rattle.cm_mtrace.specs.declared.item.Who.TheVariants.{A, B, Other}

-- an entry's line, and what stands behind it
pub entry_line : (e : Entry) (rest : List ℕ) → line_of (items.Entry e) ++ codes "\n" ++ rest ≡ decimal e.core
    ++ with_marks e.who e.kind (hexadecimal e.addr ++ with_size e.size rest)
entry_line e rest = simp append_assoc

after_mark : (v w : Who) (a b : List ℕ) → mark_text v ++ 32 ∷ a ≡ mark_text w ++ 32 ∷ b → a ≡ b
after_mark A A a b e = cc
after_mark A B a b e = cc
after_mark A Other a b e = cc
after_mark B A a b e = cc
after_mark B B a b e = cc
after_mark B Other a b e = cc
after_mark Other A a b e = cc
after_mark Other B a b e = cc
after_mark Other Other a b e = cc

after_kind : (j k : Kind) (a b : List ℕ) → kind_text j ++ 32 ∷ a ≡ kind_text k ++ 32 ∷ b → a ≡ b
after_kind Read Read a b e = cc
after_kind Read Write a b e = cc
after_kind Write Read a b e = cc
after_kind Write Write a b e = cc

pub same_tail : (x y : ℕ) (xs ys : List ℕ) → x ∷ xs ≡ y ∷ ys → xs ≡ ys
same_tail x y xs ys e = cc

-- behind the core of an entry's line
pub after_core : (text after rest : List ℕ) (core : ℕ) (e : Entry) → core ≤ 1023 → IsEntry e
    → text ≡ decimal core ++ after → ¬ BeginsWithDigit 10 after → text ≡ line_of (items.Entry e) ++ codes "\n" ++ rest
    → (core ≡ e.core) × (after ≡ with_marks e.who e.kind (hexadecimal e.addr ++ with_size e.size rest))
after_core text after rest core e within is spelled none line =
    same_numeral 10 core e.core after (with_marks e.who e.kind (hexadecimal e.addr ++ with_size e.size rest))
    (omega arith) (omega arith) (omega arith) (omega (arith, is.core)) none (λ d. omega (arith, d.below))
    (sym spelled ∙ line ∙ entry_line e rest)

-- behind its marks
pub after_marks : (text after tail : List ℕ) (v w : Who) (j k : Kind) → text ≡ with_marks v j after
    → text ≡ with_marks w k tail → after ≡ tail
after_marks text after tail v w j k spelled line =
    after_kind j k after tail (after_mark v w _ _ (same_tail _ _ _ _ (sym spelled ∙ line)))

-- behind its address
pub after_addr : (text after rest : List ℕ) (addr : ℕ) (e : Entry) → addr < 2 ^ 64 → IsEntry e
    → text ≡ hexadecimal addr ++ after → ¬ BeginsWithDigit 16 after → text ≡ hexadecimal e.addr ++ with_size e.size rest
    → (addr ≡ e.addr) × (after ≡ with_size e.size rest)
after_addr text after rest addr e fits is spelled none line =
    same_numeral 16 addr e.addr after (with_size e.size rest) (omega arith) (omega arith) (omega arith)
    (omega (arith, is.range.some, is.range.last)) none (λ d. omega (arith, d.below)) (sym spelled ∙ line)

-- and behind its size
pub after_size : (text after rest : List ℕ) (m n : ℕ) → m ≤ 4096 → n ≤ 4096 → text ≡ with_size m after
    → text ≡ with_size n rest → (m ≡ n) × (after ≡ rest)
after_size text after rest m n small small' spelled line =
    let same = same_numeral 10 m n (10 ∷ after) (10 ∷ rest) (omega arith) (omega arith) (omega arith)
    (omega arith) (λ d. omega (arith, d.below)) (λ d. omega (arith, d.below))
    (same_tail _ _ _ _ (sym spelled ∙ line)) in
    (same.0, same_tail _ _ _ _ same.1)
