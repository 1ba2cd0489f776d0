-- Forms stand where the shapes put them: what stands as a form in a right side has a written name in front,
-- or none at all.
use Rattle.std.specs.Prelude.{◌≡◌, ℕ, Bool, true, false, List, [], ◌∷◌, ◌++◌, slice_get, Option, Some, if◌then◌else◌, refl}
use Rattle.std.proofs.Common.{ap, ◌∙◌, subst, sym}
use Rattle.base.specs.declared.place.Place.{Place}
use Rattle.base.specs.declared.datum.Symbol.TheVariants.{Named}
use Rattle.base.specs.Data.{Item, item, integer, character, symbol, string, vector, nil, list, Items, no_item, item_and, items_list, Tail, no_tail, dotted}
use Rattle.base.specs.AllOf.{AllOf}
use Rattle.base.specs.DataParts.{AllItems, OfDotted}
use Rattle.lang_derived.specs.Pieces.{Piece, word, taken, parens, Pieces, no_piece, piece_and, pieces_of, all_taken, Right, in_parens, Builds}
use Rattle.lang_derived.specs.Patterns.{Parts, fit_all}
use Rattle.lang_derived.specs.RightSides.{Template, datum, all_of, the_setter, the_quotation, the_symbol, new_symbol, new_behind, own_symbol, group, for_each, Templates, no_template, template_and, part_of, of_first, setter_piece, write, write_all}
use Rattle.lang_derived.specs.Quotation.{template}
use Rattle.lang_derived.specs.Table.{Row, table, is_derived, conditional_rows, binding_rows, case_rows, case_using_rows, loop_rows, place_rows, function_rows, condition_rows, class_rows, quotation_rows}
use Rattle.lang_derived.specs.Derived.{plain, becomes, by_name, by_table, derivation}
use Rattle.lang_derived.specs.FormPlaces.{Role, no_form, a_form, a_list, Shape, no_part, each, first, shape_of, StandsAs, StandsNamed, StandBy}
use Rattle.lang_derived.proofs.Parts.{GoesDown, fit_all_too}
use Rattle.lang_derived.proofs.Quotations.{AllIn, TemplateKeeps, template_kept}
use Rattle.lang_derived.proofs.Names.{both_true, PlainWord, setter_named}
use Rattle.lang_derived.proofs.Writing.{repeated_each}
use Rattle.lang_derived.proofs.Derivations.{OfDerivation, OfArguments, OfBehind, RowKeeps, AllGroups, passed_groups, row_kept, derivation_kept}

-- nothing is known of the data of a form

abbrev Any : Item → Type 0
Any d = Unit {0}

any_items : (ds : Items) → AllItems Any ds
any_items no_item = tt
any_items (item_and d ds) = (tt, any_items ds)

any_dotted : (t : Tail) → OfDotted Any t
any_dotted no_tail = tt
any_dotted (dotted d) = tt

any_down : GoesDown Any
any_down = record { of_items = λ p ds t h. any_items ds; of_tail = λ p ds t h. any_dotted t; of_vector = λ p ds h. any_items ds }

any_of : (ds : List Item) → AllOf Any ds
any_of [] = tt
any_of (d ∷ ds) = (tt, any_of ds)

-- whether a template writes just one part
abbrev writes_one : Template → Bool
writes_one (datum i) = true
writes_one (all_of i) = false
writes_one (the_setter i) = true
writes_one (the_quotation i) = true
writes_one (the_symbol text) = true
writes_one (new_symbol n) = true
writes_one (new_behind i) = true
writes_one own_symbol = true
writes_one (group xs) = true
writes_one (for_each i ps xs) = false

-- whether all that is written has the role, and whether a list of it has the roles of the shape
abbrev mutual
  stands : Template → Role → Bool
  stands (datum i) no_form = true
  stands (datum i) a_form = true
  stands (datum i) (a_list shape) = false
  stands (all_of i) role = true
  stands (the_setter i) no_form = true
  stands (the_setter i) a_form = true
  stands (the_setter i) (a_list shape) = false
  stands (the_quotation i) no_form = true
  stands (the_quotation i) a_form = true
  stands (the_quotation i) (a_list shape) = false
  stands (the_symbol text) no_form = true
  stands (the_symbol text) a_form = true
  stands (the_symbol text) (a_list shape) = false
  stands (new_symbol n) no_form = true
  stands (new_symbol n) a_form = true
  stands (new_symbol n) (a_list shape) = false
  stands (new_behind i) no_form = true
  stands (new_behind i) a_form = true
  stands (new_behind i) (a_list shape) = false
  stands own_symbol no_form = true
  stands own_symbol a_form = true
  stands own_symbol (a_list shape) = false
  stands (group xs) no_form = true
  stands (group xs) a_form = stand_named xs
  stands (group xs) (a_list shape) = stand_by xs shape
  stands (for_each i ps xs) role = stand_by xs (each role)

  stand_named : Templates → Bool
  stand_named no_template = true
  stand_named (template_and (datum i) xs) = false
  stand_named (template_and (all_of i) xs) = false
  stand_named (template_and (the_setter i) xs) = stand_by xs (each a_form)
  stand_named (template_and (the_quotation i) xs) = false
  stand_named (template_and (the_symbol text) xs) = stand_by xs (shape_of text)
  stand_named (template_and (new_symbol n) xs) = false
  stand_named (template_and (new_behind i) xs) = false
  stand_named (template_and own_symbol xs) = false
  stand_named (template_and (group ys) xs) = false
  stand_named (template_and (for_each i ps ys) xs) = false

  stand_by : Templates → Shape → Bool
  stand_by no_template no_part = true
  stand_by no_template (each role) = true
  stand_by no_template (first role shape) = false
  stand_by (template_and x xs) no_part = false
  stand_by (template_and x xs) (each role) = if stands x role then stand_by xs (each role) else false
  stand_by (template_and x xs) (first role shape) =
      if writes_one x then (if stands x role then stand_by xs shape else false) else false

-- what is written has it

all_stand : (xs : Pieces) → AllIn (StandsAs a_form) xs → StandBy (each a_form) xs
all_stand no_piece h = tt
all_stand (piece_and x xs) h = (h.0, all_stand xs h.1)

quotation_stands : TemplateKeeps Any (StandsAs a_form)
unfolding shape_of is_derived table conditional_rows binding_rows case_rows case_using_rows loop_rows place_rows function_rows condition_rows class_rows quotation_rows
quotation_stands = record {
  of_taken = λ d h. tt;
  of_quoted = λ d h. (tt, tt);
  of_empty = (tt, tt);
  of_vector = λ x h. (h, tt);
  of_listed = λ x h. (h, tt);
  of_prefix = λ name x h. ((tt, tt), (h, tt));
  of_appended = λ xs h. all_stand xs h;
}

free : (xs : List Piece) → AllOf (StandsAs no_form) xs
free [] = tt
free (x ∷ xs) = (tt, free xs)

taken_stand : (role : Role) (ds : List Item) → AllOf (StandsAs role) (all_taken ds)
taken_stand role [] = tt
taken_stand no_form (d ∷ ds) = (tt, taken_stand no_form ds)
taken_stand a_form (d ∷ ds) = (tt, taken_stand a_form ds)
taken_stand (a_list shape) (d ∷ ds) = (tt, taken_stand (a_list shape) ds)

first_stands : (ds : List Item) → StandsAs a_form (of_first (λ d. taken d) ds)
first_stands [] = tt
first_stands (d ∷ ds) = tt

quoted_stands : (names : List (List ℕ)) (ds : List Item) → StandsAs a_form (of_first (template names 0) ds)
quoted_stands names [] = tt
quoted_stands names (d ∷ ds) = template_kept Any (StandsAs a_form) any_down quotation_stands names 0 d tt

word_stands : (x : Piece) → PlainWord x → StandsAs a_form x
word_stands x w = subst (StandsAs a_form) (sym w.is) tt

both_by : (role : Role) (xs ys : List Piece) → AllOf (StandsAs role) xs → StandBy (each role) (pieces_of ys) → StandBy (each role) (pieces_of (xs ++ ys))
both_by role [] ys g h = h
both_by role (x ∷ xs) ys g h = (g.0, both_by role xs ys g.1 h)

each_by : (role : Role) (xs : List Piece) → StandBy (each role) (pieces_of xs) → AllOf (StandsAs role) xs
each_by role [] h = tt
each_by role (x ∷ xs) h = (h.0, each_by role xs h.1)

record OnePiece (xs : List Piece) : Type 0 where
  pub piece : Piece
  pub is : xs ≡ piece ∷ []

module _ (names : List (List ℕ)) (s : ℕ) where
  one_written : (x : Template) → writes_one x ≡ true → (own : ℕ) (parts : Parts) → OnePiece (write names s x own parts)
  unfolding write
  one_written (datum i) h own parts = record { piece = of_first (λ d. taken d) (part_of parts i); is = refl }
  one_written (all_of i) h own parts = absurd (cc)
  one_written (the_setter i) h own parts = record { piece = setter_piece names (part_of parts i); is = refl }
  one_written (the_quotation i) h own parts = record { piece = of_first (template names 0) (part_of parts i); is = refl }
  one_written (the_symbol text) h own parts = record { piece = _; is = refl }
  one_written (new_symbol n) h own parts = record { piece = _; is = refl }
  one_written (new_behind i) h own parts = record { piece = _; is = refl }
  one_written own_symbol h own parts = record { piece = _; is = refl }
  one_written (group xs) h own parts = record { piece = _; is = refl }
  one_written (for_each i ps xs) h own parts = absurd (cc)

  mutual
    unfolding write

    write_stands : (x : Template) (role : Role) → stands x role ≡ true → (own : ℕ) (parts : Parts) → AllOf (StandsAs role) (write names s x own parts)
    write_stands (datum i) no_form h own parts = (tt, tt)
    write_stands (datum i) a_form h own parts = (first_stands (part_of parts i), tt)
    write_stands (datum i) (a_list shape) h own parts = absurd (cc)
    write_stands (all_of i) role h own parts = taken_stand role (part_of parts i)
    write_stands (the_setter i) no_form h own parts = (tt, tt)
    write_stands (the_setter i) a_form h own parts = (word_stands (setter_piece names (part_of parts i)) (setter_named names (part_of parts i)), tt)
    write_stands (the_setter i) (a_list shape) h own parts = absurd (cc)
    write_stands (the_quotation i) no_form h own parts = (tt, tt)
    write_stands (the_quotation i) a_form h own parts = (quoted_stands names (part_of parts i), tt)
    write_stands (the_quotation i) (a_list shape) h own parts = absurd (cc)
    write_stands (the_symbol text) no_form h own parts = (tt, tt)
    write_stands (the_symbol text) a_form h own parts = (tt, tt)
    write_stands (the_symbol text) (a_list shape) h own parts = absurd (cc)
    write_stands (new_symbol n) no_form h own parts = (tt, tt)
    write_stands (new_symbol n) a_form h own parts = (tt, tt)
    write_stands (new_symbol n) (a_list shape) h own parts = absurd (cc)
    write_stands (new_behind i) no_form h own parts = (tt, tt)
    write_stands (new_behind i) a_form h own parts = (tt, tt)
    write_stands (new_behind i) (a_list shape) h own parts = absurd (cc)
    write_stands own_symbol no_form h own parts = (tt, tt)
    write_stands own_symbol a_form h own parts = (tt, tt)
    write_stands own_symbol (a_list shape) h own parts = absurd (cc)
    write_stands (group xs) no_form h own parts = (tt, tt)
    write_stands (group xs) a_form h own parts = (write_named xs h own parts, tt)
    write_stands (group xs) (a_list shape) h own parts = (write_by xs shape h own parts, tt)
    write_stands (for_each i ps xs) role h own parts =
        repeated_each Any (StandsAs role) any_down names ps (λ n found. write_all names s xs n found)
        (λ n found g. each_by role (write_all names s xs n found) (write_by xs (each role) h n found)) (part_of parts i) (any_of (part_of parts i)) s

    write_named : (xs : Templates) → stand_named xs ≡ true → (own : ℕ) (parts : Parts) → StandsNamed (pieces_of (write_all names s xs own parts))
    write_named no_template h own parts = tt
    write_named (template_and (datum i) xs) h own parts = absurd (cc)
    write_named (template_and (all_of i) xs) h own parts = absurd (cc)
    write_named (template_and (the_setter i) xs) h own parts =
        let w : PlainWord (setter_piece names (part_of parts i)) = setter_named names (part_of parts i) in
        subst (λ y. StandsNamed (pieces_of (y ∷ write_all names s xs own parts))) (sym w.is)
        (subst (λ shape. StandBy shape (pieces_of (write_all names s xs own parts))) (sym w.plain.shape) (write_by xs (each a_form) h own parts))
    write_named (template_and (the_quotation i) xs) h own parts = absurd (cc)
    write_named (template_and (the_symbol text) xs) h own parts = write_by xs (shape_of text) h own parts
    write_named (template_and (new_symbol n) xs) h own parts = absurd (cc)
    write_named (template_and (new_behind i) xs) h own parts = absurd (cc)
    write_named (template_and own_symbol xs) h own parts = absurd (cc)
    write_named (template_and (group ys) xs) h own parts = absurd (cc)
    write_named (template_and (for_each i ps ys) xs) h own parts = absurd (cc)

    write_by : (xs : Templates) (shape : Shape) → stand_by xs shape ≡ true → (own : ℕ) (parts : Parts) → StandBy shape (pieces_of (write_all names s xs own parts))
    write_by no_template no_part h own parts = tt
    write_by no_template (each role) h own parts = tt
    write_by no_template (first role shape) h own parts = absurd (cc)
    write_by (template_and x xs) no_part h own parts = absurd (cc)
    write_by (template_and x xs) (each role) h own parts =
        let b : (stands x role ≡ true) × (stand_by xs (each role) ≡ true) = both_true (stands x role) (stand_by xs (each role)) h in
        both_by role (write names s x own parts) (write_all names s xs own parts) (write_stands x role b.0 own parts) (write_by xs (each role) b.1 own parts)
    write_by (template_and x xs) (first role shape) h own parts =
        let a : (writes_one x ≡ true) × ((if stands x role then stand_by xs shape else false) ≡ true) =
        both_true (writes_one x) (if stands x role then stand_by xs shape else false) h in
        let b : (stands x role ≡ true) × (stand_by xs shape ≡ true) = both_true (stands x role) (stand_by xs shape) a.1 in
        let o : OnePiece (write names s x own parts) = one_written x a.0 own parts in
        let y : AllOf (StandsAs role) (o.piece ∷ []) = subst (AllOf (StandsAs role)) o.is (write_stands x role b.0 own parts) in
        subst (λ zs. StandBy (first role shape) (pieces_of (zs ++ write_all names s xs own parts))) (sym o.is) (y.0, write_by xs shape b.1 own parts)

-- all rows

abbrev AnyArguments : List Item → Type 0
AnyArguments ds = Unit {0}

row_stands : (r : Row) → stand_by r.right (each a_form) ≡ true → RowKeeps AnyArguments (StandsAs a_form) r
row_stands r a names s ds h =
    row_kept Any (StandsAs a_form) names s r (λ parts g. each_by a_form (write_all names s r.right s parts) (write_by names s r.right (each a_form) a s parts))
    (fit_all names r.parts ds) (fit_all_too Any any_down names r.parts ds (any_of ds))

all_rows_stand : AllGroups (RowKeeps AnyArguments (StandsAs a_form)) table
unfolding shape_of is_derived table conditional_rows binding_rows case_rows case_using_rows loop_rows place_rows function_rows condition_rows class_rows quotation_rows
all_rows_stand = passed_groups (λ r. stand_by r.right (each a_form)) (RowKeeps AnyArguments (StandsAs a_form)) row_stands table refl

any_behind : (ds : List Item) → OfBehind AnyArguments ds
any_behind [] = tt
any_behind (d ∷ ds) = tt

any_arguments : (d : Item) → OfArguments AnyArguments d
any_arguments (item p (integer n)) = tt
any_arguments (item p (character c)) = tt
any_arguments (item p (symbol x)) = tt
any_arguments (item p (string bytes)) = tt
any_arguments (item p (vector ds)) = tt
any_arguments (item p nil) = tt
any_arguments (item p (list ds t)) = any_behind (items_list ds)

pub forms_placed : (names : List (List ℕ)) (s : ℕ) (d : Item) (r : Right) → derivation names s d ≡ becomes r → StandsAs a_form r.piece
forms_placed names s d r h =
    subst (OfDerivation (StandsAs a_form)) h
    (derivation_kept AnyArguments (StandsAs a_form) all_rows_stand names s d (any_arguments d))

-- what is built under another name

one_item : (p : Place) (x y : Item) (ds es : Items) → ds ≡ item_and x es → x ≡ y → item p (in_parens ds) ≡ item p (list (item_and y es) no_tail)
one_item p x y ds es g h = ap (λ (ds : Items). item p (in_parens ds)) (g ∙ ap (λ (x : Item). item_and x es) h)

named_plain : (names : List (List ℕ)) (s : ℕ) (p : Place) (text : List ℕ) (n : ℕ) (es : Items) → is_derived text ≡ false → slice_get names n ≡ Some text
    → derivation names s (item p (list (item_and (item p (symbol (Named (record { 0 = n })))) es) no_tail)) ≡ plain
unfolding derivation
named_plain names s p text n es none h =
    ap (λ (name : Option (List ℕ)). by_name names s name (items_list es) no_tail) h
    ∙ ap (λ (b : Bool). if b then by_table names s text (items_list es) no_tail else plain) none

pub other_names_plain : (names : List (List ℕ)) (s : ℕ) (p : Place) (text : List ℕ) (xs : Pieces) (d : Item) → is_derived text ≡ false
    → Builds names p (parens (piece_and (word text) xs)) d → derivation names s d ≡ plain
unfolding Builds
other_names_plain names s p text xs d none b =
    ap (derivation names s) (b.1.1 ∙ one_item p b.1.0.0 (item p (symbol (Named (record { 0 = b.1.0.1.1.0.0 })))) b.0 b.1.0.1.0 b.1.0.1.1.2 b.1.0.1.1.0.1.1)
    ∙ named_plain names s p text b.1.0.1.1.0.0 b.1.0.1.0 none b.1.0.1.1.0.1.0
