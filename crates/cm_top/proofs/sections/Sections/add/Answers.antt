use Rattle.std.proofs.Common.{List, ◌≡◌, ◌++◌, ◌∷◌, [], refl, sym, subst}
use Rattle.cm_judge.specs.Judge.{StandsFor}
use Rattle.cm_mtrace.specs.Trace.{Section, items_of}
use Rattle.cm_mtrace.specs.declared.Entry.{Entry}
use Rattle.cm_mtrace.specs.declared.Item.{Item}
use Rattle.cm_top.specs.inner.Sections.{Have}
use Rattle.cm_top.specs.declared.sections.Sections.{Sections}
use Rattle.cm_top.proofs.SectionSteps.{entry_more, on_ok}
use Rattle.cm_top.proofs.sections.Sections.add.Goals as goal

pub returns-in-Entry : goal.returns-in-Entry
returns-in-Entry c =
    let old = c.args.self.now in
    let new : Sections = record {
      alloc = old.alloc;
      judge = c.add.new.self;
      current = old.current;
      ended =
          old.ended;
    } in
    on_ok c.add.result ((es : List Entry) → StandsFor old.judge es → StandsFor new.judge (es ++ c.in-Entry.e ∷ []))
    ((its rest : List Item) (sections : List Section) → Have old its
    → items_of sections ≡ its ++ c.args.item.now ∷ rest → Have new (its ++ c.args.item.now ∷ []))
    (λ stands its rest sections have is.
    subst (λ i. items_of sections ≡ its ++ i ∷ rest → Have new (its ++ i ∷ [])) (sym c.in-Entry.is)
    (entry_more old.current old new its rest sections c.in-Entry.e refl stands have) is) c.add.ensures.ok
