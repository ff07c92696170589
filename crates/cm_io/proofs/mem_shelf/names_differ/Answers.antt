use Rattle.std.proofs.Common.{◌≡◌, take, length, refl, subst, arith}
use Rattle.std.proofs.Math.Seq.{take-length}
use Rattle.std.specs.List.{AllPairs}
use Rattle.cm_io.proofs.Names.{Apart, apart-more, apart-not}
use Rattle.cm_io.proofs.mem_shelf.names_differ.Goals as goal

pub returns-then-has_name : goal.returns-then-has_name
returns-then-has_name c = (
  λ wrong. absurd (cc),
  λ apart. absurd (apart-not _ c.loop-at.at c.index-files-at.result _ (omega arith)
      c.index-files-at.is c.as_str.ensures (c.if-has_name.ensures.0 refl) apart),
)

pub loop-at-preserved : goal.loop-at-preserved
loop-at-preserved c =
    apart-more _ c.loop-at.at c.index-files-at.result _ (omega arith) c.index-files-at.is c.as_str.ensures
    c.loop-at.invariant (λ found. cc (c.if-has_name.ensures.1 found))

pub returns : goal.returns
returns c =
    let ended : c.loop-at.at ≡ length c.args.files.now = omega arith in
    let whole : take c.loop-at.at c.args.files.now ≡ c.args.files.now = rw ended (take-length _) in
    (λ _. subst (AllPairs Apart) whole c.loop-at.invariant, λ _. refl)
