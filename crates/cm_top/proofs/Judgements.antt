-- What is wanted for a trace whose sections were judged.
use Rattle.std.proofs.Common.{◌≡◌, ℕ, List, [], ◌∷◌, ◌++◌, map, None, Some, Option, ap, sym, subst, refl}
use Rattle.std.specs.Io.KnownBytes.{Appends}
use Rattle.cm_mtrace.specs.Trace.{IsFirstBad, Section}
use Rattle.cm_mtrace.proofs.Bad.{trace_good}
use Rattle.cm_top.specs.Judging.{IsJudged, IsJudgedInPart, IsRefusedAt, IsWithin}
use Rattle.cm_top.specs.Fetch.{OfFile}
use Rattle.cm_top.specs.Output.{AreAllConflicts, IsJudgement, TakesFront, closing, header, joined, section_texts}
use Rattle.cm_top.specs.Output.{judge_status}
use Rattle.cm_top.specs.inner.Pieces.{piece_of, pieces_of}
use Rattle.cm_top.specs.inner.Run.{IsJudgedAs}
use Rattle.cm_top.specs.inner.Sections.{AreJudged}
use Rattle.cm_top.specs.declared.sections.Judged.{Judged}
use Rattle.cm_top.specs.declared.status.Status.{Status}

abbrev pub lines_of_all : List Judged → List (List ℕ)
lines_of_all judged = map (λ j. j.lines) judged

conflicts_of : (sections : List Section) (judged : List Judged) → AreJudged sections judged
    → AreAllConflicts sections (lines_of_all judged)
conflicts_of [] [] all = tt
conflicts_of [] (j ∷ judged) all = absurd all
conflicts_of (s ∷ sections) [] all = absurd all
conflicts_of (s ∷ sections) (j ∷ judged) all = (all.0.1, conflicts_of sections judged all.1)

texts_of : (sections : List Section) (judged : List Judged) → AreJudged sections judged
    → section_texts sections (lines_of_all judged) ≡ map piece_of judged
texts_of [] [] all = refl
texts_of [] (j ∷ judged) all = absurd all
texts_of (s ∷ sections) [] all = absurd all
texts_of (s ∷ sections) (j ∷ judged) all =
    (λ i. piece_of (record { name = all.0.0 i; lines = j.lines }) ∷ texts_of sections judged all.1 i)

pub wanted : (bytes : List ℕ) (judged : List Judged) → IsJudgedAs bytes judged
    → IsJudgement bytes (pieces_of judged) (judge_status (lines_of_all judged))
wanted bytes judged is = (
  is.0,
  lines_of_all judged,
  is.1,
  conflicts_of is.0 judged is.2,
  ap (λ t. header ∷ (t ++ closing ∷ []))
      (sym (texts_of is.0 judged is.2)),
  refl,
)

pub of_file_map : (told : Option (Option (List ℕ))) (P Q : List ℕ → Type 0) → ((bytes : List ℕ) → P bytes → Q bytes)
    → OfFile told P → OfFile told Q
of_file_map None P Q f p = tt
of_file_map (Some None) P Q f p = p
of_file_map (Some (Some file)) P Q f p = f file p

pub judged_whole : (told : Option (Option (List ℕ))) (old new : Option (List ℕ)) (judged : List Judged)
    (status : Status) → OfFile told (λ bytes. IsWithin bytes × IsJudgedAs bytes judged)
    → Appends old new (joined (pieces_of judged)) → status ≡ judge_status (lines_of_all judged)
    → OfFile told (IsJudged old new status)
judged_whole told old new judged status is taken ends =
    of_file_map told (λ bytes. IsWithin bytes × IsJudgedAs bytes judged) (IsJudged old new status)
    (λ bytes j. (
      j.0,
      pieces_of judged,
      subst (IsJudgement bytes (pieces_of judged)) (sym ends)
          (wanted bytes judged j.1),
      taken,
    )) is

pub judged_part : (told : Option (Option (List ℕ))) (old new : Option (List ℕ)) (judged : List Judged)
    → OfFile told (λ bytes. IsWithin bytes × IsJudgedAs bytes judged) → TakesFront old new (pieces_of judged)
    → OfFile told (IsJudgedInPart old new)
judged_part told old new judged is taken =
    of_file_map told (λ bytes. IsWithin bytes × IsJudgedAs bytes judged) (IsJudgedInPart old new)
    (λ bytes j. (j.0, judge_status (lines_of_all judged), pieces_of judged, wanted bytes judged j.1, taken)) is

-- a text with a bad line is no trace
pub refused_at : (line : ℕ) (bytes : List ℕ) → IsWithin bytes → IsFirstBad bytes line → IsRefusedAt line bytes
refused_at line bytes within first = (within, (λ sections trace. trace_good sections bytes trace line first.bad), first)
