-- Worked examples of the text.
use Rattle.std.proofs.Common.{◌≡◌, ◌++◌, codes, refl}
use Rattle.std.specs.Fmt.{digits}
use Rattle.cm_load.specs.Text.{call_line, text_of}

pub with_one_call : text_of 1
    ≡ codes "sort K;\nsort V;\nstate m0: map K -> V;\nstate m1: map K -> V;\nstate m2: map K -> V;\n"
    ++ codes "call p0(k: K, l: K, v: V) -> bool { m0[k] = v; m0[l] = v; return true; }\n"
unfolding text_of digits
with_one_call = refl

pub with_two_calls : text_of 2
    ≡ codes "sort K;\nsort V;\nstate m0: map K -> V;\nstate m1: map K -> V;\nstate m2: map K -> V;\n"
    ++ codes "call p0(k: K, l: K, v: V) -> bool { m0[k] = v; m0[l] = v; return true; }\n"
    ++ codes "call p1(k: K, l: K, v: V) -> bool { m1[k] = v; m1[l] = v; return true; }\n"
unfolding text_of digits
with_two_calls = refl

-- the last call of the largest model, on the third map
pub last_call : call_line 59
    ≡ codes "call p59(k: K, l: K, v: V) -> bool { m2[k] = v; m2[l] = v; return true; }\n"
unfolding digits
last_call = refl
