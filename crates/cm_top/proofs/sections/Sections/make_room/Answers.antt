use Rattle.std.proofs.Common.{refl}
use Rattle.cm_top.specs.declared.sections.Sections.{Sections}
use Rattle.cm_top.proofs.SectionSteps.{have_with}
use Rattle.cm_top.proofs.sections.Sections.make_room.Goals as goal

pub returns : goal.returns
returns c its have =
    let old = c.args.self.now in
    let new : Sections = record {
      alloc = old.alloc;
      judge = c.make_room.new.self;
      current = old.current;
      ended =
          old.ended;
    } in
    have_with old.current old new its refl c.make_room.ensures.stands have
