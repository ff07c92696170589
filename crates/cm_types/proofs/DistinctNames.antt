-- A tree in which no rule fails declares each name once.
use Rattle.std.proofs.Common.{◌≡◌, ℕ, ◌+◌, inl, inr, not, Bool, true, false, List, [], ◌∷◌, ◌++◌, map, length, drop}
use Rattle.std.proofs.Common.{refl, sym, ap, ◌∙◌, subst, append_assoc}
use Rattle.std.specs.List.{list_all, flat_map}
use Rattle.std.proofs.lemmas.Bool.{and_parts, and_from}
use Rattle.std.proofs.lemmas.List.{append-nil}
use Rattle.std.proofs.lemmas.Grind.{flat_map-append}
use Rattle.cm_model.specs.Limits.{declaration_limit, function_limit, call_limit}
use Rattle.cm_model.specs.Names.{is_name, is_among, are_distinct, enum_names, declared_names}
use Rattle.cm_model.specs.declared.place.Place.{Place}
use Rattle.cm_model.specs.declared.ty.IntDecl.{IntDecl}
use Rattle.cm_model.specs.declared.ty.EnumDecl.{EnumDecl}
use Rattle.cm_model.specs.declared.ty.RecDecl.{RecDecl}
use Rattle.cm_model.specs.declared.body.StateDecl.{StateDecl}
use Rattle.cm_model.specs.declared.body.Call.{Call}
use Rattle.cm_syntax.specs.declared.tree.Decl.{Decl}
use Rattle.cm_syntax.specs.declared.tree.Decl.TheVariants as decl
use Rattle.cm_typing.specs.declared.names.Entry.{Entry}
use Rattle.cm_typing.specs.declared.names.Entry.TheVariants as entry
use Rattle.cm_typing.specs.declared.scope.Scope.{Scope}
use Rattle.cm_typing.specs.declared.scope.Draft.{Draft}
use Rattle.cm_typing.specs.Told.{rule}
use Rattle.cm_typing.specs.Names.{Names, is_taken, more}
use Rattle.cm_typing.specs.Rules as rules
use Rattle.cm_typing.specs.Declarations.{new_name, next_named, variant_told, variants_told, declare, decl_told}
use Rattle.cm_typing.specs.Declarations.{decls_told, tables_in}
use Rattle.cm_types.proofs.Items.{Each, no_more, holds, not_true, map_more}
use Rattle.cm_types.proofs.DistinctLists.{among_more, distinct_more, taken_more, false_if}
use Rattle.cm_types.proofs.TypedRoutines.{names_in}
use Rattle.cm_types.proofs.FromText.{FromText}

-- names that are declared once each, are names, and are taken in a table
pub record Once (d : Names) (xs : List (List ℕ)) : Type 0 where
  pub distinct : are_distinct xs ≡ true
  pub names : list_all is_name xs ≡ true
  pub taken : (n : List ℕ) → is_among n xs ≡ true → is_taken n d ≡ true

all_in : {X : Type 0} (p : X → Bool) (xs ys : List X) (x : X) → list_all p (xs ++ ys) ≡ true → p x ≡ true
    → list_all p (xs ++ x ∷ ys) ≡ true
all_in p [] ys x h e = and_from (p x) (list_all p ys) e h
all_in p (y ∷ xs) ys x h e = let q = and_parts (p y) (list_all p (xs ++ ys)) h in and_from (p y)
    (list_all p (xs ++ x ∷ ys)) q.0 (all_in p xs ys x q.1 e)

-- one more declared name, anywhere
once_more : (n : List ℕ) (e : Entry) (d : Names) (xs ys : List (List ℕ)) → Once d (xs ++ ys) → is_name n ≡ true
    → is_taken n d ≡ false
    → Once (more d n e) (xs ++ n ∷ ys)
once_more n e d xs ys o k f = record {
  distinct = distinct_more n xs ys o.distinct (false_if (is_among n (xs ++ ys)) (λ h. let t = o.taken n h in cc));
  names = all_in is_name xs ys n o.names k;
  taken = λ m h. taken_more m n d e (elim (among_more m n xs ys h) [ inl a ↦ inr a | inr a ↦ inl (o.taken m a) ]);
}

-- the same where the names so far and the new ones are written otherwise
once_at : (n : List ℕ) (e : Entry) (d : Names) (old xs ys new : List (List ℕ)) → old ≡ xs ++ ys → xs ++ n ∷ ys ≡ new
    → Once d old
    → is_name n ≡ true → is_taken n d ≡ false → Once (more d n e) new
once_at n e d old xs ys new p q o k f = subst (Once (more d n e)) q (once_more n e d xs ys (subst (Once d) p o) k f)

free : (at : Place) (n : List ℕ) (s : Scope) → (new_name at n s).1 ≡ [] → is_taken n s.names ≡ false
free at n s h = not_true (is_taken n s.names) (holds (not (is_taken n s.names)) rules.taken at h)

free_first : (at : Place) (n : List ℕ) (before limit : ℕ) (s : Scope) → (next_named at n before limit s).1 ≡ []
    → is_taken n s.names ≡ false
free_first at n before limit s h = free at n s (no_more (new_name at n s).1 _ h).0

variants_once : (at : Place) (k : ℕ) (vs : List (List ℕ)) (i : ℕ) (s : Scope) (xs ys : List (List ℕ))
    → Once s.names (xs ++ ys)
    → list_all is_name vs ≡ true → (variants_told at k i vs s).1 ≡ [] → Once (variants_told at k i vs s).0.names
    (xs ++ (vs ++ ys))
variants_once at k [] i s xs ys o g h = o
variants_once at k (v ∷ vs) i s xs ys o g h =
    let p = no_more (variant_told at k i v s).1 _ h in
    let q = no_more (new_name at v s).1 [] p.0 in
    let names = and_parts (is_name v) (list_all is_name vs) g in
    let e = entry.Variant k i in
    let one = once_at v e s.names (xs ++ ys) xs ys ((xs ++ v ∷ []) ++ ys) refl (sym (append_assoc xs (v ∷ []) ys)) o
    names.0 (free at v s q.0) in
    subst (Once (variants_told at k (i + 1) vs (declare s v e)).0.names) (append_assoc xs (v ∷ []) (vs ++ ys))
    (variants_once at k vs (i + 1) (declare s v e) (xs ++ v ∷ []) ys one names.1 p.1)

-- where a name stands among the names of seven kinds

module _ (n : List ℕ) (a b c d e f g : List (List ℕ)) where
  in_1 : a ++ n ∷ (b ++ c ++ d ++ e ++ f ++ g) ≡ (a ++ n ∷ []) ++ b ++ c ++ d ++ e ++ f ++ g
  in_1 = simp append_assoc

  in_2 : (a ++ b) ++ n ∷ (c ++ d ++ e ++ f ++ g) ≡ a ++ (b ++ n ∷ []) ++ c ++ d ++ e ++ f ++ g
  in_2 = simp append_assoc

  in_3 : (vs : List (List ℕ)) → (a ++ b ++ c ++ n ∷ []) ++ (vs ++ (d ++ e ++ f ++ g)) ≡ a ++ b ++
      (c ++ n ∷ vs) ++ d ++ e ++ f ++ g
  in_3 vs =
      let p = a ++ b ++ c in
      let ys = d ++ e ++ f ++ g in
      append_assoc p (n ∷ []) (vs ++ ys) ∙ sym (append_assoc p (n ∷ vs) ys) ∙ apart (n ∷ vs)
    where
      apart : (x : List (List ℕ)) → (a ++ b ++ c ++ x) ++ (d ++ e ++ f ++ g) ≡ a ++ b ++ (c ++ x) ++ d ++ e ++ f ++ g
      apart x = simp append_assoc

  in_4 : (a ++ b ++ c ++ d) ++ n ∷ (e ++ f ++ g) ≡ a ++ b ++ c ++ (d ++ n ∷ []) ++ e ++ f ++ g
  in_4 = simp append_assoc

  in_5 : (a ++ b ++ c ++ d ++ e) ++ n ∷ (f ++ g) ≡ a ++ b ++ c ++ d ++ (e ++ n ∷ []) ++ f ++ g
  in_5 = simp append_assoc

  in_6 : (a ++ b ++ c ++ d ++ e ++ f) ++ n ∷ g ≡ a ++ b ++ c ++ d ++ e ++ (f ++ n ∷ []) ++ g
  in_6 = simp append_assoc

  in_7 : (a ++ b ++ c ++ d ++ e ++ f ++ g) ++ n ∷ [] ≡ a ++ b ++ c ++ d ++ e ++ f ++ (g ++ n ∷ [])
  in_7 = simp append_assoc

module _ (a b c d e f g : List (List ℕ)) where
  at_1 : a ++ b ++ c ++ d ++ e ++ f ++ g ≡ a ++ (b ++ c ++ d ++ e ++ f ++ g)
  at_1 = simp append_assoc

  at_2 : a ++ b ++ c ++ d ++ e ++ f ++ g ≡ (a ++ b) ++ (c ++ d ++ e ++ f ++ g)
  at_2 = simp append_assoc

  at_3 : a ++ b ++ c ++ d ++ e ++ f ++ g ≡ (a ++ b ++ c) ++ (d ++ e ++ f ++ g)
  at_3 = simp append_assoc

  at_4 : a ++ b ++ c ++ d ++ e ++ f ++ g ≡ (a ++ b ++ c ++ d) ++ (e ++ f ++ g)
  at_4 = simp append_assoc

  at_5 : a ++ b ++ c ++ d ++ e ++ f ++ g ≡ (a ++ b ++ c ++ d ++ e) ++ (f ++ g)
  at_5 = simp append_assoc

  at_6 : a ++ b ++ c ++ d ++ e ++ f ++ g ≡ (a ++ b ++ c ++ d ++ e ++ f) ++ g
  at_6 = simp append_assoc

-- bool stands first
abbrev pub StartsWithOne : Draft → Type 0
StartsWithOne d = (b : EnumDecl) × (zs : List EnumDecl) × (d.enums ≡ b ∷ zs)

starts_still : (x : Decl) (s : Scope) (d : Draft) → StartsWithOne d → StartsWithOne (decl_told x s d).0.1
starts_still (decl.Sort at n) s d h = h
starts_still (decl.Int at n low high) s d h = h
starts_still (decl.Enum at n v vs) s d h =
    let y : EnumDecl = record { name = n; variants = v ∷ vs } in (h.0, h.1 ++ y ∷ [], ap (λ l. l ++ y ∷ []) h.2)
starts_still (decl.Record at n p ps) s d h = h
starts_still (decl.Cell at n v) s d h = h
starts_still (decl.CellWhere at n v e) s d h = h
starts_still (decl.Map at n k v) s d h = h
starts_still (decl.MapWhere at n k v e) s d h = h
starts_still (decl.Function at n ps r b) s d h = h
starts_still (decl.Call at n ps qs r b) s d h = h

dropped : (es : List EnumDecl) (b : EnumDecl) (zs : List EnumDecl) (y : EnumDecl) → es ≡ b ∷ zs
    → flat_map enum_names (drop 1 es) ++ enum_names y ≡ flat_map enum_names (drop 1 (es ++ y ∷ []))
dropped es b zs y e =
    subst (λ l. flat_map enum_names (drop 1 l) ++ enum_names y ≡ flat_map enum_names (drop 1 (l ++ y ∷ []))) (sym e)
    (sym (flat_map-append enum_names zs (y ∷ []) ∙ ap (λ l. flat_map enum_names zs ++ l) (append-nil (enum_names y))))

module _ (d : Draft) where
  abbrev I : List (List ℕ)
  I = map (λ x. x.name) d.ints

  abbrev E : List (List ℕ)
  E = flat_map enum_names (drop 1 d.enums)

  abbrev R : List (List ℕ)
  R = map (λ x. x.name) d.records

  abbrev T : List (List ℕ)
  T = map (λ x. x.name) d.states

  abbrev F : List (List ℕ)
  F = map (λ x. x.name) d.funs

  abbrev C : List (List ℕ)
  C = map (λ x. x.name) d.calls

  -- a state more
  state_once : (s : Scope) (at : Place) (y : StateDecl) (e : Entry) → Once s.names (declared_names (tables_in d))
      → is_name y.name ≡ true
      → (next_named at y.name (length d.states) declaration_limit s).1 ≡ []
      → Once (more s.names y.name e) (declared_names (tables_in (record d { states = d.states ++ y ∷ [] })))
  state_once s at y e o k h =
      once_at y.name e s.names _ (d.sorts ++ I ++ E ++ R ++ T) (F ++ C) _ (at_5 d.sorts I E R T F C)
      (in_5 y.name d.sorts I E R T F C ∙ ap (λ z. d.sorts ++ I ++ E ++ R ++ z ++ F ++ C)
      (sym (map_more (λ (x : StateDecl). x.name) d.states y)))
      o k (free_first at y.name (length d.states) declaration_limit s h)

first_name : (n : List ℕ) (ns : List (List ℕ)) → list_all is_name (n ∷ ns) ≡ true → is_name n ≡ true
first_name n ns h = (and_parts (is_name n) (list_all is_name ns) h).0

pub decl_once : (x : Decl) (s : Scope) (d : Draft) → FromText x → StartsWithOne d
    → Once s.names (declared_names (tables_in d))
    → (decl_told x s d).1 ≡ [] → Once (decl_told x s d).0.0.names (declared_names (tables_in (decl_told x s d).0.1))
decl_once (decl.Sort at n) s d k b o h =
    let p = no_more (next_named at n (length d.sorts) declaration_limit s).1 _ h in
    once_at n (entry.Sort (length d.sorts)) s.names _ d.sorts (I d ++ E d ++ R d ++ T d ++ F d ++ C d) _
    (at_1 d.sorts (I d) (E d) (R d) (T d) (F d) (C d))
    (in_1 n d.sorts (I d) (E d) (R d) (T d) (F d) (C d)) o (first_name n [] k.names)
    (free_first at n (length d.sorts) declaration_limit s p.0)
decl_once (decl.Int at n low high) s d k b o h =
    let p = no_more (next_named at n (length d.ints) declaration_limit s).1 _ h in
    once_at n (entry.Int (length d.ints)) s.names _ (d.sorts ++ I d) (E d ++ R d ++ T d ++ F d ++ C d) _
    (at_2 d.sorts (I d) (E d) (R d) (T d) (F d) (C d))
    (in_2 n d.sorts (I d) (E d) (R d) (T d) (F d) (C d)
    ∙ ap (λ z. d.sorts ++ z ++ E d ++ R d ++ T d ++ F d ++ C d) (sym (map_more (λ (x : IntDecl). x.name) d.ints _)))
    o (first_name n [] k.names) (free_first at n (length d.ints) declaration_limit s p.0)
decl_once (decl.Enum at n v vs) s d k b o h =
    let e = entry.Enum (length d.enums) in
    let y : EnumDecl = record { name = n; variants = v ∷ vs } in
    let names = and_parts (is_name n) (list_all is_name (v ∷ vs)) k.names in
    let ys = R d ++ T d ++ F d ++ C d in
    let p = no_more (next_named at n (length d.enums) (declaration_limit + 1) s).1 _ h in
    let q = no_more (rule _ rules.variants at).1 _ p.1 in
    let r = no_more (variants_told at (length d.enums) 0 (v ∷ vs) (declare s n e)).1 [] q.1 in
    let one = once_at n e s.names (declared_names (tables_in d)) (d.sorts ++ I d ++ E d) ys
    ((d.sorts ++ I d ++ E d ++ n ∷ []) ++ ys)
    (at_3 d.sorts (I d) (E d) (R d) (T d) (F d) (C d)) (moved n d.sorts (I d) (E d) ys) o names.0
    (free_first at n (length d.enums) (declaration_limit + 1) s p.0) in
    subst (Once (variants_told at (length d.enums) 0 (v ∷ vs) (declare s n e)).0.names)
    (in_3 n d.sorts (I d) (E d) (R d) (T d) (F d) (C d) (v ∷ vs)
    ∙ ap (λ z. d.sorts ++ I d ++ z ++ R d ++ T d ++ F d ++ C d) (dropped d.enums b.0 b.1 y b.2))
    (variants_once at (length d.enums) (v ∷ vs) 0 (declare s n e) (d.sorts ++ I d ++ E d ++ n ∷ []) ys one names.1 r.0)
  where
    moved : (n : List ℕ) (a b c ys : List (List ℕ)) → (a ++ b ++ c) ++ n ∷ ys ≡ (a ++ b ++ c ++ n ∷ []) ++ ys
    moved n a b c ys = simp append_assoc
decl_once (decl.Record at n q qs) s d k b o h =
    let p = no_more (next_named at n (length d.records) declaration_limit s).1 _ h in
    once_at n _ s.names _ (d.sorts ++ I d ++ E d ++ R d) (T d ++ F d ++ C d) _ (at_4 d.sorts (I d) (E d) (R d) (T d)
    (F d) (C d))
    (in_4 n d.sorts (I d) (E d) (R d) (T d) (F d) (C d)
    ∙ ap (λ z. d.sorts ++ I d ++ E d ++ z ++ T d ++ F d ++ C d) (sym (map_more (λ (x : RecDecl). x.name) d.records _)))
    o (first_name n (names_in (q ∷ qs)) k.names) (free_first at n (length d.records) declaration_limit s p.0)
decl_once (decl.Cell at n v) s d k b o h =
    state_once d s at _ _ o (first_name n [] k.names)
    (no_more (next_named at n (length d.states) declaration_limit s).1 _ h).0
decl_once (decl.CellWhere at n v e) s d k b o h =
    state_once d s at _ _ o (first_name n [] k.names)
    (no_more (next_named at n (length d.states) declaration_limit s).1 _ h).0
decl_once (decl.Map at n q v) s d k b o h =
    state_once d s at _ _ o (first_name n [] k.names)
    (no_more (next_named at n (length d.states) declaration_limit s).1 _ h).0
decl_once (decl.MapWhere at n q v e) s d k b o h =
    state_once d s at _ _ o (first_name n [] k.names)
    (no_more (next_named at n (length d.states) declaration_limit s).1 _ h).0
decl_once (decl.Function at n ps r x) s d k b o h =
    let p = no_more (next_named at n (length d.funs) function_limit s).1 _ h in
    once_at n _ s.names _ (d.sorts ++ I d ++ E d ++ R d ++ T d ++ F d) (C d) _ (at_6 d.sorts (I d) (E d) (R d) (T d)
    (F d) (C d))
    (in_6 n d.sorts (I d) (E d) (R d) (T d) (F d) (C d)
    ∙ ap (λ z. d.sorts ++ I d ++ E d ++ R d ++ T d ++ z ++ C d) (sym (map_more (λ (x : Call). x.name) d.funs _)))
    o (first_name n (names_in ps) k.names) (free_first at n (length d.funs) function_limit s p.0)
decl_once (decl.Call at n ps qs r x) s d k b o h =
    let p = no_more (next_named at n (length d.calls) call_limit s).1 _ h in
    once_at n _ s.names _ (d.sorts ++ I d ++ E d ++ R d ++ T d ++ F d ++ C d) [] _
    (sym (append-nil (d.sorts ++ I d ++ E d ++ R d ++ T d ++ F d ++ C d)))
    (in_7 n d.sorts (I d) (E d) (R d) (T d) (F d) (C d)
    ∙ ap (λ z. d.sorts ++ I d ++ E d ++ R d ++ T d ++ F d ++ z) (sym (map_more (λ (x : Call). x.name) d.calls _)))
    o (first_name n (names_in ps ++ names_in qs) k.names) (free_first at n (length d.calls) call_limit s p.0)

pub decls_once : (xs : List Decl) (s : Scope) (d : Draft) → Each FromText xs → StartsWithOne d
    → Once s.names (declared_names (tables_in d))
    → (decls_told xs s d).1 ≡ [] → Once (decls_told xs s d).0.0.names
    (declared_names (tables_in (decls_told xs s d).0.1))
decls_once [] s d k b o h = o
decls_once (x ∷ xs) s d k b o h =
    let e = (decl_told x s d).0 in
    let p = no_more (decl_told x s d).1 _ h in
    decls_once xs e.0 e.1 k.1 (starts_still x s d b) (decl_once x s d k.0 b o p.0) p.1
