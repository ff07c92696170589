-- Parameters and bodies of functions and calls, in which no rule fails.
use Rattle.std.proofs.Common.{◌≡◌, ℕ, ◌≤◌, ◌||◌, ltb, leb, not, true, false, List, [], ◌∷◌, ◌++◌, map, length, sum}
use Rattle.std.proofs.Common.{Option, Some, is_some, refl, sym, ap, ◌∙◌, append_assoc}
use Rattle.std.specs.List.{list_all}
use Rattle.std.specs.Str.{bytes_eq}
use Rattle.std.proofs.lemmas.Bool.{and_parts, and_from}
use Rattle.std.proofs.lemmas.List.{append-nil}
use Rattle.std.proofs.lemmas.Slice.Eq.{bytes_eq-Decides}
use Rattle.cm_model.specs.Tables.{Tables}
use Rattle.cm_model.specs.Limits.{parameters_width_limit, parameters_integer_limit, body_weight_limit}
use Rattle.cm_model.specs.Types.{is_type_in_use, widths, record_integers}
use Rattle.cm_model.specs.Types as types
use Rattle.cm_model.specs.Names.{is_among, are_distinct, part_names}
use Rattle.cm_model.specs.Blocks.{block_typing, typing_of, always_returns, returns, is_in_order, endings_of}
use Rattle.cm_model.specs.Weights.{body_weight}
use Rattle.cm_model.specs.WellTyped as well
use Rattle.cm_model.specs.declared.ty.Part.{Part as ModelPart}
use Rattle.cm_syntax.specs.declared.tree.Part.{Part}
use Rattle.cm_syntax.specs.declared.tree.«Type».{«Type» as TypeTree}
use Rattle.cm_syntax.specs.declared.tree.Block.{Block}
use Rattle.cm_typing.specs.declared.flat.Flat.{Flat}
use Rattle.cm_typing.specs.declared.names.Entry.{Entry}
use Rattle.cm_typing.specs.declared.names.Entry.TheVariants as entry
use Rattle.cm_typing.specs.declared.scope.Scope.{Scope}
use Rattle.cm_typing.specs.declared.told.Params.{Params}
use Rattle.cm_typing.specs.declared.told.Routine.{Routine}
use Rattle.cm_typing.specs.Told.{rule}
use Rattle.cm_typing.specs.Names.{Names, is_taken}
use Rattle.cm_typing.specs.Rules as rules
use Rattle.cm_typing.specs.Flats as flats
use Rattle.cm_typing.specs.Flats.{widths_of, integers_of, are_parameters, ty_of, ty_of_flat}
use Rattle.cm_typing.specs.Types.{type_told}
use Rattle.cm_typing.specs.Statements.{unbound, of_block}
use Rattle.cm_typing.specs.Declarations.{model_part, no_params, params_told, param_told, all_params_told}
use Rattle.cm_typing.specs.Declarations.{returning_told, weight_told, body_told, reply_in, routine_told}
use Rattle.cm_types.proofs.Items.{no_more, holds, not_true, or_false, map_more, length_map}
use Rattle.cm_types.proofs.DistinctLists.{taken_is, distinct_more, apart_more, false_if}
use Rattle.cm_types.proofs.Measured.{IsFlat, in_use}
use Rattle.cm_types.proofs.Standing.{types_in, Fits, ScopeFits, local_more}
use Rattle.cm_types.proofs.Recorded.{AreFlat, flat_more, widths_are, integers_all}
use Rattle.cm_types.proofs.TypedParts.{BoolFirst, type_sound}
use Rattle.cm_types.proofs.TypedStmts.{block_sound}
use Rattle.cm_types.proofs.ExprRules.{map_map}

abbrev pub names_in : List Part → List (List ℕ)
names_in = map (λ p. p.name)

module _ (t : Tables) (m b : ℕ) (has_bool : BoolFirst t) (few : m ≤ length t.records) (s : Scope)
    (f : ScopeFits t m b s) where
  -- parameters that are done, with the locals that they are
  pub record ParamsFit (q : Params) (l : Names) : Type 0 where
    pub locals : Fits t m b (types_in l) l
    pub same : types_in l ≡ map (λ p. p.ty) q.parts
    pub flats : AreFlat t m q.types q.parts
    pub names : map (λ e. e.0) l ≡ part_names q.parts
    pub distinct : are_distinct (part_names q.parts) ≡ true
    pub apart : (n : List ℕ) → is_taken n s.names ≡ true → is_among n (part_names q.parts) ≡ false

  pub none_fit : ParamsFit no_params []
  none_fit = record { locals = tt; same = refl; flats = tt; names = refl; distinct = refl; apart = λ n h. refl }

  param_fits : (p : Part) (q : Params) (l : Names) → ParamsFit q l → (param_told q p s l).1 ≡ []
      → ParamsFit (param_told q p s l).0.0 (param_told q p s l).0.1
  param_fits p q l k h =
      let o = (type_told p.value s.names).0 in
      let a = no_more (unbound p.at p.name s l).1 _ h in
      let c = no_more (rule (ltb (length l) parameters_width_limit) rules.many s.at).1 _ a.1 in
      let e = no_more (type_told p.value s.names).1 [] c.1 in
      let new = or_false (is_taken p.name s.names) (is_taken p.name l)
      (not_true _ (holds (not (is_taken p.name s.names || is_taken p.name l)) rules.taken p.at a.0)) in
      let x = type_sound t m b has_bool few p.value s.names f.names e.0 in
      let d = local_more t m b l p.name o x.0 k.locals x.1 x.2 in
      let part = model_part p.name o in
      let ty_is : part.ty ≡ ty_of_flat x.0 = ap ty_of x.1 in
      let grown : part_names (q.parts ++ part ∷ []) ≡ part_names q.parts ++ p.name ∷ [] =
      map_more (λ (z : ModelPart). z.name) q.parts part in
      let absent : is_among p.name (part_names q.parts) ≡ false = sym (taken_is p.name l
      ∙ ap (is_among p.name) k.names) ∙ new.1 in
      let still : part_names q.parts ++ [] ≡ part_names q.parts = append-nil (part_names q.parts) in
      record {
        locals = d.0;
        same = d.1 ∙ ap (λ ts. ts ++ ty_of_flat x.0 ∷ []) k.same
            ∙ ap (λ u. map (λ (z : ModelPart). z.ty) q.parts ++ u ∷ []) (sym ty_is)
            ∙ sym (map_more (λ (z : ModelPart). z.ty) q.parts part);
        flats = flat_more t m q.types q.parts o part x.0 k.flats x.1 ty_is x.2;
        names = map_more (λ (e : List ℕ × Entry). e.0) l (p.name, entry.Local (length l) o)
            ∙ ap (λ ns. ns ++ p.name ∷ []) k.names ∙ sym grown;
        distinct = ap are_distinct grown
            ∙ distinct_more p.name (part_names q.parts) [] (ap are_distinct still ∙ k.distinct)
            (ap (is_among p.name) still ∙ absent);
        apart = λ n h. ap (is_among n) grown
            ∙ apart_more n p.name (part_names q.parts) [] (ap (is_among n) still ∙ k.apart n h)
            (other n p.name h new.0);
      }
    where
      other : (n m : List ℕ) → is_taken n s.names ≡ true → is_taken m s.names ≡ false → bytes_eq n m ≡ false
      other n m h e = false_if (bytes_eq n m) (λ same. let is : is_taken m s.names ≡ true =
          ap (λ x. is_taken x s.names) (sym ((bytes_eq-Decides n m).0 same)) ∙ h in cc)

  pub params_fit : (ps : List Part) (q : Params) (l : Names) → ParamsFit q l → (params_told q ps s l).1 ≡ []
      → ParamsFit (params_told q ps s l).0.0 (params_told q ps s l).0.1
      × (part_names (params_told q ps s l).0.0.parts ≡ part_names q.parts ++ names_in ps)
  params_fit [] q l k h = (k, sym (append-nil (part_names q.parts)))
  params_fit (p ∷ ps) q l k h =
      let x = (param_told q p s l).0 in
      let a = no_more (param_told q p s l).1 _ h in
      let rest = params_fit ps x.0 x.1 (param_fits p q l k a.0) a.1 in (
        rest.0,
        rest.1 ∙ ap (λ ns. ns ++ names_in ps) (map_more (λ (z : ModelPart). z.name) q.parts
            (model_part p.name (type_told p.value s.names).0))
            ∙ append_assoc (part_names q.parts) (p.name ∷ []) (names_in ps),
      )

  -- A function or call

  used_all : (os : List (Option Flat)) (ps : List ModelPart) → AreFlat t m os ps → list_all (is_type_in_use t)
      (map (λ p. p.ty) ps) ≡ true
  used_all [] [] h = refl
  used_all (o ∷ os) (p ∷ ps) h =
      and_from (is_type_in_use t p.ty) _ (ap (is_type_in_use t) h.0.2 ∙ in_use t m h.0.0 h.0.3 few) (used_all os ps h.1)
  used_all [] (p ∷ ps) h = absurd h
  used_all (o ∷ os) [] h = absurd h

  parameters_fit : (os : List (Option Flat)) (ps : List ModelPart) → AreFlat t m os ps → are_parameters os ≡ true
      → well.are_parameters t (map (λ p. p.ty) ps) ≡ true
  parameters_fit os ps h so =
      let ts = map (λ (p : ModelPart). p.ty) ps in
      let c = and_parts (leb (widths_of os) parameters_width_limit) (leb (integers_of os) parameters_integer_limit)
      so in
      let w : map (types.width_of t) ts ≡ map flats.width_in os =
      map_map (λ (p : ModelPart). p.ty) (types.width_of t) ps ∙ widths_are t m (widths t.records)
      (λ r lt. refl) os ps h in
      let i : map (types.integers_of t) ts ≡ map flats.integers_in os =
      map_map (λ (p : ModelPart). p.ty) (types.integers_of t) ps ∙ integers_all t m (record_integers t.records)
      (λ r lt. refl) os ps h in
      and_from (list_all (is_type_in_use t) ts) _ (used_all os ps h)
      (and_from (leb (sum (map (types.width_of t) ts)) parameters_width_limit)
      (leb (sum (map (types.integers_of t) ts)) parameters_integer_limit)
      (ap (λ ns. leb (sum ns) parameters_width_limit) w ∙ c.0) (ap (λ ns. leb (sum ns) parameters_integer_limit) i
      ∙ c.1))

  pub record IsRoutine (n : List ℕ) (ps qs : List Part) (x : Routine) : Type 0 where
    pub name : x.call.name ≡ n
    pub flats : AreFlat t m x.types x.call.params
    pub parameters : well.are_parameters t (map (λ p. p.ty) x.call.params) ≡ true
    pub names : part_names x.call.params ≡ names_in ps ++ names_in qs
    pub distinct : are_distinct (part_names x.call.params) ≡ true
    pub apart : (n : List ℕ) → is_taken n s.names ≡ true → is_among n (part_names x.call.params) ≡ false
    pub outer : x.call.outer ≡ length ps
    pub reply : (r : Flat) × (x.reply ≡ Some r) × (x.call.reply ≡ ty_of_flat r) × IsFlat t m r
    pub typed : is_some (block_typing (map (typing_of t b x.call.reply) x.call.body) (map (λ p. p.ty) x.call.params))
        ≡ true
    pub returns : always_returns x.call.body ≡ true
    pub weight : x.weight ≡ body_weight s.weights x.call.body
    pub light : leb (body_weight s.weights x.call.body) body_weight_limit ≡ true

  pub routine_fits : (n : List ℕ) (ps qs : List Part) (r : TypeTree) (x : Block) → (routine_told n ps qs r x s).1 ≡ []
      → IsRoutine n ps qs (routine_told n ps qs r x s).0
  routine_fits n ps qs r x h =
      let all = all_params_told ps qs no_params s [] in
      let o = (type_told r s.names).0 in
      let here = reply_in s o in
      let l = all.0.2 in
      let first = params_told no_params ps s [] in
      let second = params_told first.0.0 qs s first.0.1 in
      let p = no_more all.1 _ h in
      let q = no_more (type_told r s.names).1 _ p.1 in
      let a = no_more (body_told x here l).1 [] q.1 in
      let c = no_more first.1 _ p.0 in
      let d = no_more second.1 _ c.1 in
      let e = no_more (rule (are_parameters second.0.0.types) rules.many s.at).1 [] d.1 in
      let j = params_fit ps no_params [] none_fit c.0 in
      let k = params_fit qs first.0.0 first.0.1 j.0 d.0 in
      let u = type_sound t m b has_bool few r s.names f.names q.0 in
      let told = (of_block here x).told l in
      let g = no_more (returning_told x here l).1 _ a.0 in
      let i = no_more told.1 _ g.0 in
      let v = no_more (rule told.0.returns rules.returns x.at).1 [] i.1 in
      let w = no_more (weight_told told.0.steps here).1 [] g.1 in
      let z = no_more (rule (leb (body_weight s.weights told.0.steps) body_weight_limit) rules.heavy s.at).1 [] w.0 in
      let reply_is : ty_of o ≡ ty_of_flat u.0 = ap ty_of u.1 in
      let body = block_sound t m b has_bool few here (record { names = f.names; records = f.records }) u.0 u.1 x l
      k.0.locals i.0 in
      let counted : length first.0.1 ≡ length ps =
      sym (length_map (λ (e : List ℕ × Entry). e.0) first.0.1) ∙ ap length (j.0.names ∙ j.1)
      ∙ length_map (λ (y : Part). y.name) ps in
      record {
        name = refl;
        flats = k.0.flats;
        parameters = parameters_fit second.0.0.types second.0.0.parts k.0.flats
            (holds (are_parameters second.0.0.types) rules.many s.at e.0);
        names = k.1 ∙ ap (λ ns. ns ++ names_in qs) j.1;
        distinct = k.0.distinct;
        apart = k.0.apart;
        outer = counted;
        reply = (u.0, u.1, reply_is, u.2);
        typed =
            ap (λ y. is_some (block_typing (map (typing_of t b y) told.0.steps)
            (map (λ (p : ModelPart). p.ty) second.0.0.parts))) reply_is
            ∙ ap (λ ts. is_some (block_typing (map (typing_of t b (ty_of_flat u.0)) told.0.steps) ts)) (sym k.0.same)
            ∙ body.typed;
        returns =
            and_from (returns (endings_of told.0.steps)) (is_in_order (endings_of told.0.steps))
            (body.returns ∙ holds told.0.returns rules.returns x.at v.0) body.order;
        weight = refl;
        light = holds (leb (body_weight s.weights told.0.steps) body_weight_limit) rules.heavy s.at z.0;
      }
