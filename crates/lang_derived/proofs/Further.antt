-- What a step leaves to be derived: the parts of the form that it takes over, and what it writes behind a derived name.
use Rattle.std.specs.Prelude.{◌≡◌, ℕ, zero, suc, ◌+◌, ◌-◌, ◌<◌, Bool, true, false, List, [], ◌∷◌, ◌++◌, length, Option, Some, None, if◌then◌else◌, codes, refl}
use Rattle.std.proofs.Common.{arith, ap, subst, sym}
use Rattle.std.proofs.Math.Seq.{take-length, drop-length}
use Rattle.base.specs.Data.{Item, item, integer, character, symbol, string, vector, nil, list, Items, no_item, item_and, items_list, no_tail, dotted}
use Rattle.base.specs.DataMeasures.{size_of, sizes_of}
use Rattle.base.specs.AllOf.{AllOf, all_both}
use Rattle.base.specs.DataParts.{of_list}
use Rattle.lang_derived.specs.Pieces.{Piece, taken, parens, Pieces, no_piece, piece_and, pieces_of, listed, form, all_taken}
use Rattle.lang_derived.specs.Asked.{list_items}
use Rattle.lang_derived.specs.Patterns.{a_datum, inside, others, Patterns, patterns, Parts, joined, opened, fit, fit_all}
use Rattle.lang_derived.specs.RightSides.{Template, datum, all_of, the_setter, the_quotation, the_symbol, new_symbol, new_behind, own_symbol, group, for_each, Templates, no_template, template_and, part_of, of_first, setter_piece, write, write_all, grouped, written}
use Rattle.lang_derived.specs.Quotation.{template}
use Rattle.lang_derived.specs.Table.{Row, row, true_symbol, table, is_derived, conditional_rows, binding_rows, case_rows, case_using_rows, loop_rows, place_rows, function_rows, condition_rows, class_rows, quotation_rows}
use Rattle.lang_derived.specs.Derived.{row_right, derivation}
use Rattle.lang_derived.specs.Ends.{piece_weight, pieces_weight, IfDerived, AllFurther, AllFurtherIn}
use Rattle.lang_derived.proofs.Parts.{AllOfSome, GoesDown, OfParts, items_too, part_too, fit_all_too}
use Rattle.lang_derived.proofs.Quotations.{AllIn, TemplateKeeps, template_kept}
use Rattle.lang_derived.proofs.Names.{free_front, front_free, both_true, PlainWord, setter_named}
use Rattle.lang_derived.proofs.Writing.{repeated_each}
use Rattle.lang_derived.proofs.Derivations.{OfRight, OfDerivation, OfArguments, RowKeeps, AllGroups, passed_groups, row_kept, derivation_kept}

-- the sizes of data in a list
abbrev pub sizes_in : List Item → ℕ
sizes_in [] = 0
sizes_in (d ∷ ds) = size_of d + sizes_in ds

abbrev pub sizes_some : Option (List Item) → ℕ
sizes_some None = 0
sizes_some (Some ds) = sizes_in ds

-- templates that write no derived name in front

abbrev mutual
  apart : Template → Bool
  apart (datum i) = true
  apart (all_of i) = true
  apart (the_setter i) = true
  apart (the_quotation i) = true
  apart (the_symbol text) = true
  apart (new_symbol n) = true
  apart (new_behind i) = true
  apart own_symbol = true
  apart (group xs) = if free_front xs then all_apart xs else false
  apart (for_each i ps xs) = all_apart xs

  all_apart : Templates → Bool
  all_apart no_template = true
  all_apart (template_and x xs) = if apart x then all_apart xs else false

-- what holds of parts of the form holds of what is left of the form that makes a quotation
further_in : (F : Piece → Type 0) (xs : List Piece) → AllOf (AllFurther F) xs → AllFurtherIn F (pieces_of xs)
further_in F [] h = tt
further_in F (x ∷ xs) h = (h.0, further_in F xs h.1)

all_further : (F : Piece → Type 0) (xs : Pieces) → AllIn (AllFurther F) xs → AllFurtherIn F xs
all_further F no_piece h = tt
all_further F (piece_and x xs) h = (h.0, all_further F xs h.1)

quotation_further : (F : Piece → Type 0) → TemplateKeeps (λ d. F (taken d)) (AllFurther F)
unfolding is_derived table conditional_rows binding_rows case_rows case_using_rows loop_rows place_rows function_rows condition_rows class_rows quotation_rows
quotation_further F = record {
  of_taken = λ d h. h;
  of_quoted = λ d h. (tt, (tt, (h, tt)));
  of_empty = (tt, (tt, ((tt, tt), tt)));
  of_vector = λ x h. (tt, (tt, (h, tt)));
  of_listed = λ x h. (tt, (tt, (h, tt)));
  of_prefix = λ name x h. (tt, (tt, ((tt, (tt, (tt, tt))), (h, tt))));
  of_appended = λ xs h. (tt, (tt, all_further F xs h));
}

module _ (F : Piece → Type 0) (down : GoesDown (λ d. F (taken d))) (names : List (List ℕ)) (s : ℕ) where
  taken_further : (ds : List Item) → AllOf (λ d. F (taken d)) ds → AllOf (AllFurther F) (all_taken ds)
  taken_further [] h = tt
  taken_further (d ∷ ds) h = (h.0, taken_further ds h.1)

  first_further : (ds : List Item) → AllOf (λ d. F (taken d)) ds → AllFurther F (of_first (λ d. taken d) ds)
  first_further [] h = (tt, tt)
  first_further (d ∷ ds) h = h.0

  quoted_further : (ds : List Item) → AllOf (λ d. F (taken d)) ds → AllFurther F (of_first (template names 0) ds)
  quoted_further [] h = (tt, tt)
  quoted_further (d ∷ ds) h = template_kept (λ e. F (taken e)) (AllFurther F) down (quotation_further F) names 0 d h.0

  word_further : (x : Piece) → PlainWord x → AllFurther F x
  word_further x w = subst (AllFurther F) (sym w.is) tt

  mutual
    unfolding write

    write_further : (x : Template) → apart x ≡ true → (own : ℕ) (parts : Parts) → OfParts (λ d. F (taken d)) parts → AllOf (AllFurther F) (write names s x own parts)
    write_further (datum i) a own parts h = (first_further (part_of parts i) (part_too (λ d. F (taken d)) parts i h), tt)
    write_further (all_of i) a own parts h = taken_further (part_of parts i) (part_too (λ d. F (taken d)) parts i h)
    write_further (the_setter i) a own parts h = (word_further (setter_piece names (part_of parts i)) (setter_named names (part_of parts i)), tt)
    write_further (the_quotation i) a own parts h = (quoted_further (part_of parts i) (part_too (λ d. F (taken d)) parts i h), tt)
    write_further (the_symbol text) a own parts h = (tt, tt)
    write_further (new_symbol n) a own parts h = (tt, tt)
    write_further (new_behind i) a own parts h = (tt, tt)
    write_further own_symbol a own parts h = (tt, tt)
    write_further (group xs) a own parts h =
        let b : (free_front xs ≡ true) × (all_apart xs ≡ true) = both_true (free_front xs) (all_apart xs) a in (
          (
            subst (λ v. IfDerived v (F (listed (write_all names s xs own parts)))) (sym (front_free names s xs b.0 own parts)) tt,
            further_in F (write_all names s xs own parts) (all_write_further xs b.1 own parts h),
          ),
          tt,
        )
    write_further (for_each i ps xs) a own parts h =
        repeated_each (λ d. F (taken d)) (AllFurther F) down names ps (λ n found. write_all names s xs n found) (all_write_further xs a)
        (part_of parts i) (part_too (λ d. F (taken d)) parts i h) s

    all_write_further : (xs : Templates) → all_apart xs ≡ true → (own : ℕ) (parts : Parts) → OfParts (λ d. F (taken d)) parts
        → AllOf (AllFurther F) (write_all names s xs own parts)
    all_write_further no_template a own parts h = tt
    all_write_further (template_and x xs) a own parts h =
        let b : (apart x ≡ true) × (all_apart xs ≡ true) = both_true (apart x) (all_apart xs) a in
        all_both (AllFurther F) (write names s x own parts) (write_all names s xs own parts) (write_further x b.0 own parts h) (all_write_further xs b.1 own parts h)

-- the arguments of a form: F holds of each as a part that is taken over, and of all that is smaller than the form, in parentheses
pub record Arguments (F : Piece → Type 0) (ds : List Item) : Type 0 where
  pub parts : AllOf (λ d. F (taken d)) ds
  pub smaller : (xs : Pieces) → piece_weight (parens xs) < 2 + sizes_in ds → F (parens xs)

abbrev FurtherRow : (Piece → Type 0) → Row → Type 0
FurtherRow F r = RowKeeps (Arguments F) (AllFurther F) r

apart_row : (F : Piece → Type 0) → GoesDown (λ d. F (taken d)) → (r : Row) → all_apart r.right ≡ true → FurtherRow F r
apart_row F down r a names s ds h =
    row_kept (λ d. F (taken d)) (AllFurther F) names s r (all_write_further F down names s r.right a s) (fit_all names r.parts ds)
    (fit_all_too (λ d. F (taken d)) down names r.parts ds h.parts)

-- the rows that write a derived name

weight_taken : (ds : List Item) → pieces_weight (pieces_of (all_taken ds)) ≡ sizes_in ds
weight_taken [] = refl
weight_taken (d ∷ ds) = ap (λ (n : ℕ). size_of d + n) (weight_taken ds)

both_weight : (xs ys : List Piece) → pieces_weight (pieces_of (xs ++ ys)) ≡ pieces_weight (pieces_of xs) + pieces_weight (pieces_of ys)
both_weight [] ys = omega arith
both_weight (x ∷ xs) ys = omega (arith, both_weight xs ys)

all_weight : (ds : List Item) → pieces_weight (pieces_of (all_taken ds ++ [])) ≡ sizes_in ds
all_weight ds = omega (arith, both_weight (all_taken ds) [], weight_taken ds)

pub sizes_listed : (ds : Items) → sizes_in (items_list ds) ≡ sizes_of ds
unfolding size_of
sizes_listed no_item = refl
sizes_listed (item_and d ds) = ap (λ (n : ℕ). size_of d + n) (sizes_listed ds)

above_items : (d : Item) → sizes_some (list_items d) < size_of d
unfolding size_of
above_items (item p (integer n)) = omega arith
above_items (item p (character c)) = omega arith
above_items (item p (symbol s)) = omega arith
above_items (item p (string bytes)) = omega arith
above_items (item p (vector ds)) = omega arith
above_items (item p nil) = omega arith
above_items (item p (list ds no_tail)) = omega (arith, sizes_listed ds)
above_items (item p (list ds (dotted d))) = omega arith

pub size_above : (d : Item) → 0 < size_of d
size_above d = omega (arith, above_items d)

rest_fits : (names : List (List ℕ)) (ds : List Item) → fit_all names (patterns (others ∷ [])) ds ≡ Some (ds ∷ [])
unfolding fit
rest_fits names ds =
    let e : length ds - 0 ≡ length ds = omega arith in
    rw (e, take-length ds, drop-length ds) refl

two_parts : (names : List (List ℕ)) (d : Item) (ds : List Item) → fit_all names (patterns (a_datum ∷ others ∷ [])) (d ∷ ds) ≡ Some ((d ∷ []) ∷ ds ∷ [])
unfolding fit
two_parts names d ds = ap (joined (Some ((d ∷ []) ∷ []))) (rest_fits names ds)

no_parts : (names : List (List ℕ)) → fit_all names (patterns (a_datum ∷ others ∷ [])) [] ≡ None
unfolding fit
no_parts names = refl

opened_first : (names : List (List ℕ)) (ps : Patterns) (d : Item) (ds : List Item)
    → fit_all names (patterns (inside ps ∷ others ∷ [])) (d ∷ ds) ≡ joined (opened (λ es. fit_all names ps es) (list_items d)) (Some (ds ∷ []))
unfolding fit
opened_first names ps d ds = ap (joined (opened (λ es. fit_all names ps es) (list_items d))) (rest_fits names ds)

none_opened : (names : List (List ℕ)) (ps : Patterns) → fit_all names (patterns (inside ps ∷ others ∷ [])) [] ≡ None
unfolding fit
none_opened names ps = refl

-- (and a b*) → (cond (a (and b*)))
abbrev and_more : Row
and_more =
    row (codes "and") (a_datum ∷ others ∷ [])
    (written (codes "cond") (grouped (datum 0 ∷ written (codes "and") (all_of 1 ∷ []) ∷ []) ∷ []))
    []

-- (or a b*) → (cond (a) (t (or b*)))
abbrev or_more : Row
or_more =
    row (codes "or") (a_datum ∷ others ∷ [])
    (written (codes "cond") (grouped (datum 0 ∷ []) ∷ grouped (true_symbol ∷ written (codes "or") (all_of 1 ∷ []) ∷ []) ∷ []))
    []

-- (let* (b c*) f*) → (let (b) (let* (c*) f*))
abbrev let_more : Row
let_more =
    row (codes "let*") (inside (patterns (a_datum ∷ others ∷ [])) ∷ others ∷ [])
    (written (codes "let") (grouped (all_of 0 ∷ []) ∷ written (codes "let*") (grouped (all_of 1 ∷ []) ∷ all_of 2 ∷ []) ∷ []))
    []

module _ (F : Piece → Type 0) (names : List (List ℕ)) (s : ℕ) where
  abbrev Made : Row → Option Parts → Type 0
  Made r found = OfRight (AllFurther F) (row_right names s r found)

  rest_further : (ds : List Item) → AllOf (λ d. F (taken d)) ds → AllFurtherIn F (pieces_of (all_taken ds ++ []))
  rest_further [] h = tt
  rest_further (d ∷ ds) h = (h.0, rest_further ds h.1)

  group_further : (ds : List Item) → AllOf (λ d. F (taken d)) ds → AllFurther F (listed (all_taken ds ++ []))
  group_further [] h = (tt, tt)
  group_further (d ∷ ds) h = (tt, (h.0, rest_further ds h.1))

  and_made : (a : Item) (bs : List Item) → Arguments F (a ∷ bs) → Made and_more (Some ((a ∷ []) ∷ bs ∷ []))
  unfolding write is_derived table conditional_rows binding_rows case_rows case_using_rows loop_rows place_rows function_rows condition_rows class_rows quotation_rows
  and_made a bs h =
      let smaller : F (form (codes "and") (all_taken bs ++ [])) = h.smaller _ (omega (arith, all_weight bs, size_above a)) in
      (tt, (tt, ((tt, (h.parts.0, ((smaller, (tt, rest_further bs h.parts.1)), tt))), tt)))

  or_made : (a : Item) (bs : List Item) → Arguments F (a ∷ bs) → Made or_more (Some ((a ∷ []) ∷ bs ∷ []))
  unfolding write is_derived table conditional_rows binding_rows case_rows case_using_rows loop_rows place_rows function_rows condition_rows class_rows quotation_rows
  or_made a bs h =
      let smaller : F (form (codes "or") (all_taken bs ++ [])) = h.smaller _ (omega (arith, all_weight bs, size_above a)) in
      (tt, (tt, ((tt, (h.parts.0, tt)), ((tt, (tt, ((smaller, (tt, rest_further bs h.parts.1)), tt))), tt))))

  let_made : (b : Item) (cs fs : List Item) (bs : Item) → AllOf (λ d. F (taken d)) (b ∷ cs) → sizes_in (b ∷ cs) < size_of bs → Arguments F (bs ∷ fs)
      → Made let_more (Some ((b ∷ []) ∷ cs ∷ fs ∷ []))
  unfolding write is_derived table conditional_rows binding_rows case_rows case_using_rows loop_rows place_rows function_rows condition_rows class_rows quotation_rows
  let_made b cs fs bs g below h =
      let smaller : F (form (codes "let*") (listed (all_taken cs ++ []) ∷ (all_taken fs ++ []))) =
      h.smaller _ (omega (arith, all_weight cs, all_weight fs, size_above b, below)) in
      (tt, (tt, ((tt, (g.0, tt)), ((smaller, (tt, (group_further cs g.1, rest_further fs h.parts.1))), tt))))

and_further : (F : Piece → Type 0) → FurtherRow F and_more
and_further F names s [] h = subst (Made F names s and_more) (sym (no_parts names)) tt
and_further F names s (a ∷ bs) h = subst (Made F names s and_more) (sym (two_parts names a bs)) (and_made F names s a bs h)

or_further : (F : Piece → Type 0) → FurtherRow F or_more
or_further F names s [] h = subst (Made F names s or_more) (sym (no_parts names)) tt
or_further F names s (a ∷ bs) h = subst (Made F names s or_more) (sym (two_parts names a bs)) (or_made F names s a bs h)

let_opened : (F : Piece → Type 0) (names : List (List ℕ)) (s : ℕ) (bs : Item) (fs : List Item) (items : Option (List Item)) → AllOfSome (λ d. F (taken d)) items
    → sizes_some items < size_of bs → Arguments F (bs ∷ fs)
    → Made F names s let_more (joined (opened (λ es. fit_all names (patterns (a_datum ∷ others ∷ [])) es) items) (Some (fs ∷ [])))
let_opened F names s bs fs None g below h = tt
let_opened F names s bs fs (Some []) g below h = subst (λ x. Made F names s let_more (joined x (Some (fs ∷ [])))) (sym (no_parts names)) tt
let_opened F names s bs fs (Some (b ∷ cs)) g below h =
    subst (λ x. Made F names s let_more (joined x (Some (fs ∷ [])))) (sym (two_parts names b cs)) (let_made F names s b cs fs bs g below h)

let_further : (F : Piece → Type 0) → GoesDown (λ d. F (taken d)) → FurtherRow F let_more
let_further F down names s [] h = subst (Made F names s let_more) (sym (none_opened names (patterns (a_datum ∷ others ∷ [])))) tt
let_further F down names s (bs ∷ fs) h =
    subst (Made F names s let_more) (sym (opened_first names (patterns (a_datum ∷ others ∷ [])) bs fs))
    (let_opened F names s bs fs (list_items bs) (items_too (λ d. F (taken d)) down bs h.parts.0) (above_items bs) h)

-- a row of a group
abbrev row_at : List Row → ℕ → Row
row_at [] i = and_more
row_at (r ∷ rs) zero = r
row_at (r ∷ rs) (suc i) = row_at rs i

all_rows_further : (F : Piece → Type 0) → GoesDown (λ d. F (taken d)) → AllGroups (FurtherRow F) table
unfolding is_derived table conditional_rows binding_rows case_rows case_using_rows loop_rows place_rows function_rows condition_rows class_rows quotation_rows
all_rows_further F down =
    let free : (i : ℕ) → all_apart (row_at conditional_rows i).right ≡ true → FurtherRow F (row_at conditional_rows i) =
    λ i. apart_row F down (row_at conditional_rows i) in (
      (free 0 refl, (free 1 refl, (free 2 refl, (free 3 refl, (and_further F, (free 5 refl, (free 6 refl, (or_further F, tt)))))))),
      (
        (apart_row F down (row_at binding_rows 0) refl, (let_further F down, tt)),
        passed_groups (λ r. all_apart r.right) (FurtherRow F) (apart_row F down)
            (case_rows ∷ case_using_rows ∷ loop_rows ∷ place_rows ∷ function_rows ∷ condition_rows ∷ class_rows ∷ quotation_rows ∷ [])
            refl,
      ),
    )

-- the step: what holds of a form holds of its arguments
pub arguments_too : (F : Piece → Type 0) → GoesDown (λ d. F (taken d)) → (d : Item) → F (taken d)
    → ((xs : Pieces) → piece_weight (parens xs) < size_of d → F (parens xs)) → OfArguments (Arguments F) d
unfolding size_of
arguments_too F down (item p (integer n)) h g = tt
arguments_too F down (item p (character c)) h g = tt
arguments_too F down (item p (symbol x)) h g = tt
arguments_too F down (item p (string bytes)) h g = tt
arguments_too F down (item p (vector ds)) h g = tt
arguments_too F down (item p nil) h g = tt
arguments_too F down (item p (list no_item t)) h g = tt
arguments_too F down (item p (list (item_and d ds) t)) h g = record {
  parts = of_list (λ e. F (taken e)) ds (down.of_items p (item_and d ds) t h).1;
  smaller = λ xs less. g xs (omega (arith, less, sizes_listed ds, size_above d));
}

pub derivation_further : (F : Piece → Type 0) → GoesDown (λ d. F (taken d)) → (names : List (List ℕ)) (s : ℕ) (d : Item) → OfArguments (Arguments F) d
    → OfDerivation (AllFurther F) (derivation names s d)
derivation_further F down names s d h = derivation_kept (Arguments F) (AllFurther F) (all_rows_further F down) names s d h
