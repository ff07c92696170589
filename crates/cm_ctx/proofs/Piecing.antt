-- A context with one piece more.
use Rattle.std.proofs.Common.{◌≡◌, ◌≢◌, ◌<◌, ◌≤◌, ◌+◌, ◌==◌, ◌↔◌, ℕ, zero, suc, Bool, true, false}
use Rattle.std.proofs.Common.{List, [], ◌∷◌, ◌++◌, map, length, slice_get, Some, None}
use Rattle.std.proofs.Common.{refl, sym, ap, subst, ◌∙◌, arith}
use Rattle.std.proofs.lemmas.List.{length-append, length-map}
use Rattle.std.proofs.lemmas.Bool.Decides.{nat_tests}
use Rattle.cm_sorts.specs.Partition.{Partition}
use Rattle.cm_sorts.specs.Partition as sorts
use Rattle.cm_order.specs.Differences.{Differences}
use Rattle.cm_order.specs.Differences as order
use Rattle.cm_term.specs.declared.term.Term.{Term}
use Rattle.cm_term.specs.Valuation.{Valuation, valuation}
use Rattle.cm_term.specs.Terms.{value_of}
use Rattle.cm_ctx.specs.declared.choice.Choice.{Choice}
use Rattle.cm_ctx.specs.declared.piece.Counts.{Counts}
use Rattle.cm_ctx.specs.declared.piece.ElementPart.{ElementPart}
use Rattle.cm_ctx.specs.declared.piece.TagPart.{TagPart}
use Rattle.cm_ctx.specs.declared.piece.OptionPart.{OptionPart}
use Rattle.cm_ctx.specs.declared.piece.Piece.{Piece}
use Rattle.cm_ctx.specs.Choices.{Fits, choice_of, IsChoice, AreChoices}
use Rattle.cm_ctx.specs.Choices as choices
use Rattle.cm_ctx.specs.Making.{counted, first_counts}
use Rattle.cm_ctx.specs.Giving.{EachFrom, Gives}
use Rattle.cm_ctx.specs.Contexts.{Context, context, counts_of, payloads_in, payloads_of, sorts_in, Holds, Keeps}
use Rattle.cm_ctx.specs.Asking.{InRow}
use Rattle.cm_ctx.specs.Proper.{IsEarlier, AreEarlier, IsProper}
use Rattle.cm_ctx.specs.Grown.{LiesIn, tag_choices, option_choices, RestsBelow, IsFitting, Grows}
use Rattle.cm_ctx.proofs.Each.{each_there_append, each_map, each_so, each_pair}
use Rattle.cm_ctx.proofs.Indexing.{payloads_append, sorts_append}
use Rattle.cm_ctx.proofs.Ranges.{all_append}
use Rattle.cm_ctx.proofs.Rows.{row_more}

-- a choice that nothing is known of has any of its numbers
free_fits : (n m : ℕ) → Fits (choice_of n) m ↔ (m < n)
free_fits n m = first (n == 1) refl
  where
    first : (b : Bool) → (n == 1) ≡ b → Fits (choice_of n) m ↔ (m < n)
    first true e = let one : n ≡ 1 = grind (arith, nat_tests) in (
      (λ f. f.within),
      (λ h. record { within = h; decided = rw e (let zero : m ≡ 0 = omega arith in zero) }),
    )
    first false e = ((λ f. f.within), (λ h. record { within = h; decided = rw e tt }))

choice_proper : (n : ℕ) → 0 < n → n ≤ 64 → IsChoice (choice_of n)
choice_proper n some few = first (n == 1) refl
  where
    none_some : {A : Type 0} (a : A) → Some a ≡ None → ⊥
    none_some a e = cc

    first : (b : Bool) → (n == 1) ≡ b → IsChoice (choice_of n)
    first true e = record {
      some = some;
      few = few;
      decided = rw e some;
      single = λ d. absurd (none_some 0 (rw e at d));
    }
    first false e = record { some = some; few = few; decided = rw e tt; single = λ d. more e }
      where
        more : (n == 1) ≡ false → 1 < n
        more f = let other : n ≢ 1 = (λ g. absurd (grind (arith, nat_tests))) in omega arith

tags_satisfied : (cs : List Choice) (ds : List TagPart) (t : ℕ → ℕ)
    → choices.Satisfies (cs ++ tag_choices ds) t ↔ (choices.Satisfies cs t
    × EachFrom (λ x (d : TagPart). t x < d.variants) (length cs) ds)
tags_satisfied cs ds t =
    let cut = each_there_append (λ x (c : Choice). Fits c (t x)) cs (tag_choices ds) in
    let mapped = each_map (λ x (c : Choice). Fits c (t x)) (λ (d : TagPart). choice_of d.variants) (length cs) ds in (
      (λ s. let c = cut.0 s in (
        c.0,
        each_so (λ x (d : TagPart). Fits (choice_of d.variants) (t x)) (λ x
            (d : TagPart). t x < d.variants) (length cs) ds (λ x d low high f. f.within) (mapped.0 c.1),
      )),
      (λ s. cut.1 (
        s.0,
        mapped.1 (each_so (λ x (d : TagPart). t x < d.variants)
            (λ x (d : TagPart). Fits (choice_of d.variants) (t x)) (length cs) ds
            (λ x d low high f. (free_fits d.variants (t x)).1 f) s.1),
      )),
    )

options_satisfied : (cs : List Choice) (ds : List OptionPart) (t : ℕ → ℕ)
    → choices.Satisfies (cs ++ option_choices ds) t
    ↔ (choices.Satisfies cs t × EachFrom (λ x (d : OptionPart). t x < 2) (length cs) ds)
options_satisfied cs ds t =
    let cut = each_there_append (λ x (c : Choice). Fits c (t x)) cs (option_choices ds) in
    let mapped = each_map (λ x (c : Choice). Fits c (t x)) (λ (d : OptionPart). choice_of 2) (length cs) ds in (
      (λ s. let c = cut.0 s in (
        c.0,
        each_so (λ x (d : OptionPart). Fits (choice_of 2) (t x)) (λ x
            (d : OptionPart). t x < 2) (length cs) ds (λ x d low high f. f.within) (mapped.0 c.1),
      )),
      (λ s. cut.1 (
        s.0,
        mapped.1 (each_so (λ x (d : OptionPart). t x < 2)
            (λ x (d : OptionPart). Fits (choice_of 2) (t x)) (length cs) ds
            (λ x d low high f. (free_fits 2 (t x)).1 f) s.1),
      )),
    )

payloads_hold : (ps : List Piece) (p : Piece) (v : Valuation)
    → Holds (payloads_of (ps ++ p ∷ [])) v ↔ (Holds (payloads_of ps) v
    × EachFrom (λ o (d : OptionPart). v.payload o ≡ value_of v d.payload)
    (length (payloads_of ps)) p.variables.options)
payloads_hold ps p v = rw (payloads_append ps p) (
    let cut = each_there_append (λ o (u : Term). v.payload o ≡ value_of v u) (payloads_of ps)
    (payloads_in p.variables.options) in
    let mapped = each_map (λ o (u : Term). v.payload o ≡ value_of v u) (λ (d : OptionPart). d.payload)
    (length (payloads_of ps)) p.variables.options in (
      (λ s. let c = cut.0 s in (c.0, mapped.0 c.1)),
      (λ s. cut.1 (s.0, mapped.1 s.1)),
    ))

-- a payload that rests on earlier options
rests_earlier : (c : Counts) (k : ℕ) (d : OptionPart) → RestsBelow c k d → IsEarlier k d.payload
rests_earlier c k d h e n t p f g same = h (valuation e n t p f) (valuation e n t p g)
    (record {
      elements = λ x lt. refl;
      numbers = λ x lt. refl;
      tags = λ x lt. refl;
      present = λ x lt. refl;
      payloads = same;
    })

earlier_more : (ps : List Piece) (p : Piece) → AreEarlier (payloads_of ps) → IsFitting p
    → p.from.options ≡ length (payloads_of ps) → AreEarlier (payloads_of (ps ++ p ∷ []))
earlier_more ps p h fit row = rw (payloads_append ps p) (
    (each_there_append IsEarlier (payloads_of ps) (payloads_in p.variables.options)).1 (
      h,
      (each_map IsEarlier (λ (d : OptionPart). d.payload) (length (payloads_of ps)) p.variables.options).1
          (each_so (RestsBelow (counted p.from p.variables)) (λ k (d : OptionPart). IsEarlier k d.payload)
          (length (payloads_of ps)) p.variables.options
          (λ k d low high r. rests_earlier (counted p.from p.variables) k d r)
          (subst (λ x. EachFrom (RestsBelow (counted p.from p.variables)) x p.variables.options) row fit.payloads)),
    ))

all_map : {A B : Type 0} (P : B → Type 0) (f : A → B) (xs : List A)
    → ((i : ℕ) (a : A) → slice_get xs i ≡ Some a → P (f a)) → (i : ℕ) (b : B) → slice_get (map f xs) i ≡ Some b → P b
all_map P f [] h i b at = absurd (cc)
all_map P f (x ∷ xs) h zero b at = let same : f x ≡ b = cc in subst P same (h zero x refl)
all_map P f (x ∷ xs) h (suc i) b at = all_map P f xs (λ j a e. h (suc j) a e) i b at

module _ (n : Counts) (c : Context) (proper : IsProper n c) (p : Piece) (fit : IsFitting p)
    (from : p.from ≡ counts_of c) (k : Partition) (b : Differences)
    (more_sorts : k.sorts ≡ c.classes.sorts ++ map (λ (d : ElementPart). d.sort) p.variables.elements)
    (same_sorts : (e : ℕ → ℕ) → sorts.Satisfies k e ↔ sorts.Satisfies c.classes e)
    (more_numbers : length b ≡ length c.bounds + length p.variables.numbers)
    (kept_numbers : order.Keeps c.bounds b (λ m. EachFrom (LiesIn m) (length c.bounds) p.variables.numbers)) where
  row : p.from.options ≡ length (payloads_of c.pieces)
  row = ap (λ (x : Counts). x.options) from ∙ proper.payloads

  abbrev pub grown : Context
  grown = context k b (c.tags ++ tag_choices p.variables.tags) (c.options ++ option_choices p.variables.options)
      (c.pieces ++ p ∷ [])

  as_many_sorts : length k.sorts ≡ length c.classes.sorts + length p.variables.elements
  as_many_sorts = ap length more_sorts ∙ length-append c.classes.sorts (map
      (λ (d : ElementPart). d.sort) p.variables.elements)
      ∙ ap (λ x. length c.classes.sorts + x) (length-map p.variables.elements (λ (d : ElementPart). d.sort))

  as_many_tags : length (c.tags ++ tag_choices p.variables.tags) ≡ length c.tags + length p.variables.tags
  as_many_tags = length-append c.tags (tag_choices p.variables.tags)
      ∙ ap (λ x. length c.tags + x) (length-map p.variables.tags (λ (d : TagPart). choice_of d.variants))

  as_many_options : length (c.options ++ option_choices p.variables.options)
      ≡ length c.options + length p.variables.options
  as_many_options = length-append c.options (option_choices p.variables.options)
      ∙ ap (λ x. length c.options + x) (length-map p.variables.options (λ (d : OptionPart). choice_of 2))

  as_many_payloads : length (payloads_of (c.pieces ++ p ∷ [])) ≡ length
      (payloads_of c.pieces) + length p.variables.options
  as_many_payloads = ap length (payloads_append c.pieces p)
      ∙ length-append (payloads_of c.pieces) (payloads_in p.variables.options)
      ∙ ap (λ x. length (payloads_of c.pieces) + x) (length-map p.variables.options (λ (d : OptionPart). d.payload))

  counts_more : counts_of grown ≡ counted (counts_of c) p.variables
  counts_more = rw (as_many_sorts, more_numbers, as_many_tags, as_many_options) refl

  kept_more : Keeps c grown (Gives (counts_of c) p.variables)
  kept_more v =
      let present : ℕ → OptionPart → Type 0 = λ x d. v.present x < 2 in
      let payload : ℕ → OptionPart → Type 0 = λ o d. v.payload o ≡ value_of v d.payload in
      let pair = each_pair present payload (length c.options) p.variables.options in (
        (λ s.
            let ts = (tags_satisfied c.tags p.variables.tags v.tag).0 s.tags in
            let os = (options_satisfied c.options p.variables.options v.present).0 s.options in
            let ns = (kept_numbers v.number).0 s.numbers in
            let hs = (payloads_hold c.pieces p v).0 s.payloads in (
              record {
                elements = (same_sorts v.element).0 s.elements;
                numbers = ns.0;
                tags = ts.0;
                options = os.0;
                payloads = hs.0;
              },
              record {
                numbers = ns.1;
                tags = ts.1;
                options = pair.1 (
                  os.1,
                  subst (λ x. EachFrom payload x p.variables.options) (sym proper.payloads) hs.1,
                );
              },
            )),
        (λ g.
            let both = pair.0 g.1.options in
            record {
              elements = (same_sorts v.element).1 g.0.elements;
              numbers = (kept_numbers v.number).1 (g.0.numbers, g.1.numbers);
              tags = (tags_satisfied c.tags p.variables.tags v.tag).1 (g.0.tags, g.1.tags);
              options = (options_satisfied c.options p.variables.options v.present).1 (g.0.options, both.0);
              payloads = (payloads_hold c.pieces p v).1
                  (g.0.payloads, subst (λ x. EachFrom payload x p.variables.options) proper.payloads both.1);
            }),
      )

  pub grows_more : Grows c p grown
  grows_more = record { pieces = refl; counts_grow = counts_more; sorts = more_sorts; kept = kept_more }

  pub proper_more : sorts.IsSatisfiable k → order.IsSatisfiable b → IsProper (counted n p.variables) grown
  proper_more some_sorts some_numbers = record {
    counts = ap (λ (x : Counts). counted x p.variables) proper.counts ∙ sym counts_more;
    sorts = more_sorts ∙ ap (λ ss. ss ++ sorts_in p.variables.elements) proper.sorts ∙ sym (sorts_append c.pieces p);
    elements = some_sorts;
    numbers = some_numbers;
    zero = omega (arith, more_numbers, proper.zero);
    tags = all_append IsChoice c.tags (tag_choices p.variables.tags) proper.tags
        (all_map IsChoice (λ (d : TagPart). choice_of d.variants) p.variables.tags
        (λ i d at. let e = fit.tags i d at in choice_proper d.variants e.some e.few));
    options = all_append IsChoice c.options (option_choices p.variables.options) proper.options
        (all_map IsChoice (λ (d : OptionPart). choice_of 2) p.variables.options
        (λ i d at. choice_proper 2 (omega arith) (omega arith)));
    payloads = as_many_options ∙ ap (λ x. x + length p.variables.options) proper.payloads ∙ sym as_many_payloads;
    row = subst (InRow first_counts (c.pieces ++ p ∷ [])) (sym counts_more)
        (row_more first_counts (counts_of c) c.pieces p proper.row from);
    earlier = earlier_more c.pieces p proper.earlier fit row;
  }

  -- the same of a context that is equal to this one
  module _ (m : Counts) (ts os : List Choice) (ps : List Piece) (same_counts : m ≡ counted n p.variables)
      (same_tags : ts ≡ c.tags ++ tag_choices p.variables.tags)
      (same_options : os ≡ c.options ++ option_choices p.variables.options)
      (same_pieces : ps ≡ c.pieces ++ p ∷ []) where
    pub proper_given : sorts.IsSatisfiable k → order.IsSatisfiable b → IsProper m (context k b ts os ps)
    proper_given some_sorts some_numbers = rw (
      same_counts,
      same_tags,
      same_options,
      same_pieces,
    ) (proper_more some_sorts some_numbers)

    pub grows_given : Grows c p (context k b ts os ps)
    grows_given = rw (same_tags, same_options, same_pieces) grows_more
