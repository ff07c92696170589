-- A name has no comma.
use Rattle.std.proofs.Common.{◌≢◌, ◌∙◌, ◌<◌, ◌&&◌, ℕ, List, length, get_or, ap, sym}
use Rattle.std.specs.Bool.{IsTrue}
use Rattle.std.specs.List.{list_all}
use Rattle.std.proofs.lemmas.Bool.{and_parts, true≢false}
use Rattle.std.proofs.lemmas.List.Folds.{list_all_at}
use Rattle.cm_model.specs.Names.{begins_with_letter, is_name, is_name_byte}

pub name_lacks_comma : (name : List ℕ) → IsTrue (is_name name) → (i : ℕ) → i < length name → get_or name i 0 ≢ 44
name_lacks_comma name is i within at =
    let spelled = (and_parts (begins_with_letter name && list_all is_name_byte name) _ is).0 in
    let all = (and_parts (begins_with_letter name) (list_all is_name_byte name) spelled).1 in
    true≢false (sym all ∙ list_all_at is_name_byte name i 0 within (ap is_name_byte at))
