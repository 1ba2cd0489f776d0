-- A step does not depend on the names that no symbol of the form has.
use Rattle.std.specs.Prelude.{◌≡◌, ℕ, zero, suc, ◌+◌, ◌-◌, Bool, false, List, [], ◌∷◌, ◌++◌, length, take, drop, Option, Some, None, if◌then◌else◌, codes, refl}
use Rattle.std.specs.Str.{bytes_eq}
use Rattle.std.proofs.Common.{ap, ◌∙◌}
use Rattle.base.specs.declared.place.Place.{Place}
use Rattle.base.specs.Data.{Item, item, Content, integer, character, symbol, string, vector, nil, list, Items, no_item, item_and, items_list, Tail, no_tail, dotted}
use Rattle.base.specs.DataNames.{text_of}
use Rattle.base.specs.AllOf.{AllOf, all_drop, all_take}
use Rattle.base.specs.DataParts.{AllItems, OfDotted, of_list}
use Rattle.lang_derived.specs.Pieces.{Piece, Pieces, no_piece, piece_and, listed, form, Right}
use Rattle.lang_derived.specs.Asked.{is_word, is_text, list_items, setter}
use Rattle.lang_derived.specs.Patterns.{Pattern, a_datum, a_symbol, the_word, an_operator, inside, others, one_at_most, each_fits, Patterns, no_pattern, pattern_and, pattern_count, taken_by, Parts, part_if, nothing_if, one_datum, is_some, all_data, has_setter, joined, opened, of_one, fit, fit_all}
use Rattle.lang_derived.specs.RightSides.{Template, datum, all_of, the_setter, the_quotation, the_symbol, new_symbol, new_behind, own_symbol, group, for_each, Templates, no_template, template_and, part_of, of_first, word_or_none, setter_piece, before_others, repeated, write, write_all}
use Rattle.lang_derived.specs.Quotation.{template, template_of, tail_part, template_list, unquoted, spliced, part, parts, kept_prefix, one_piece, appended}
use Rattle.lang_derived.specs.Table.{Row, table, is_derived}
use Rattle.lang_derived.specs.Derived.{right_of, row_right, or_else, first_right, table_right, Derivation, plain, judged, by_table, by_name, list_derivation, derivation}
use Rattle.lang_derived.proofs.Parts.{AllOfSome, GoesDown, OfParts, OfPartsSome, items_too, part_too, fit_all_too}

-- the two tables have the same name of each such datum
pub record Alike (A B : List (List ℕ)) (P : Item → Type 0) : Type 0 where
  pub down : GoesDown P
  pub same : (d : Item) → P d → text_of A d ≡ text_of B d

word_same : (A B : List (List ℕ)) (P : Item → Type 0) → Alike A B P → (t : List ℕ) (d : Item) → P d → is_word A t d ≡ is_word B t d
word_same A B P a t d h = ap (is_text t) (a.same d h)

-- what is made of equal parts is equal
in_list : {x y : Piece} → x ≡ y → form (codes "%list") (x ∷ []) ≡ form (codes "%list") (y ∷ [])
in_list e = ap (λ (z : Piece). form (codes "%list") (z ∷ [])) e

both_same : (x x2 : Piece) (xs xs2 : Pieces) → x ≡ x2 → xs ≡ xs2 → piece_and x xs ≡ piece_and x2 xs2
both_same x x2 xs xs2 e f = cc

two_same : (x x2 : Piece) (xs xs2 : Pieces) → x ≡ x2 → xs ≡ xs2 → appended (piece_and x xs) ≡ appended (piece_and x2 xs2)
two_same x x2 xs xs2 e f = ap appended (both_same x x2 xs xs2 e f)

choice_same : (b b2 : Bool) (x x2 y y2 : Piece) → b ≡ b2 → x ≡ x2 → y ≡ y2 → (if b then x else y) ≡ (if b2 then x2 else y2)
choice_same b b2 x x2 y y2 e f g = cc

pair_same : (b b2 c c2 : Bool) (u u2 t t2 x x2 y y2 : Piece) → b ≡ b2 → c ≡ c2 → u ≡ u2 → t ≡ t2 → x ≡ x2 → y ≡ y2
    → (if b then u else if c then kept_prefix (codes "quasiquote") t else appended (piece_and x (one_piece y)))
    ≡ (if b2 then u2 else if c2 then kept_prefix (codes "quasiquote") t2 else appended (piece_and x2 (one_piece y2)))
pair_same b b2 c c2 u u2 t t2 x x2 y y2 e f g h i j =
    choice_same b b2 u u2 _ _ e g
    (choice_same c c2 _ _ _ _ f (ap (kept_prefix (codes "quasiquote")) h) (two_same x x2 (one_piece y) (one_piece y2) i (ap one_piece j)))

last_same : (b b2 : Bool) (u u2 x x2 y y2 : Piece) → b ≡ b2 → u ≡ u2 → x ≡ x2 → y ≡ y2
    → (if b then one_piece u else piece_and x (one_piece y)) ≡ (if b2 then one_piece u2 else piece_and x2 (one_piece y2))
last_same b b2 u u2 x x2 y y2 e f g h =
    let i : one_piece u ≡ one_piece u2 = ap one_piece f in
    let j : piece_and x (one_piece y) ≡ piece_and x2 (one_piece y2) = both_same x x2 (one_piece y) (one_piece y2) g (ap one_piece h) in
    cc

mutual
  unfolding template

  pub template_same : (A B : List (List ℕ)) (P : Item → Type 0) → Alike A B P → (n : ℕ) (d : Item) → P d → template A n d ≡ template B n d
  template_same A B P a n (item p c) h = template_of_same A B P a n p c h

  template_of_same : (A B : List (List ℕ)) (P : Item → Type 0) → Alike A B P → (n : ℕ) (p : Place) (c : Content) → P (item p c)
      → template_of A n p c ≡ template_of B n p c
  template_of_same A B P a n p (integer z) h = refl
  template_of_same A B P a n p (character z) h = refl
  template_of_same A B P a n p (symbol s) h = refl
  template_of_same A B P a n p (string bytes) h = refl
  template_of_same A B P a n p nil h = refl
  template_of_same A B P a n p (vector ds) h =
      ap (λ (x : Piece). form (codes "%list-vector") (x ∷ [])) (template_list_same A B P a n ds no_piece (a.down.of_vector p ds h))
  template_of_same A B P a n p (list ds t) h =
      template_list_same A B P a n ds (tail_part A n t) (a.down.of_items p ds t h)
      ∙ ap (template_list B n ds) (tail_part_same A B P a n t (a.down.of_tail p ds t h))

  tail_part_same : (A B : List (List ℕ)) (P : Item → Type 0) → Alike A B P → (n : ℕ) (t : Tail) → OfDotted P t → tail_part A n t ≡ tail_part B n t
  tail_part_same A B P a n no_tail h = refl
  tail_part_same A B P a n (dotted d) h = ap one_piece (template_same A B P a n d h)

  template_list_same : (A B : List (List ℕ)) (P : Item → Type 0) → Alike A B P → (n : ℕ) (ds : Items) (behind : Pieces) → AllItems P ds
      → template_list A n ds behind ≡ template_list B n ds behind
  template_list_same A B P a n no_item behind h = refl
  template_list_same A B P a n (item_and x no_item) behind h =
      ap (λ (y : Piece). appended (piece_and y behind)) (part_same A B P a n x h.0)
  template_list_same A B P a n (item_and x (item_and e no_item)) no_piece h =
      pair_same (is_word A (codes "unquote") x) (is_word B (codes "unquote") x) (is_word A (codes "quasiquote") x) (is_word B (codes "quasiquote") x)
      (unquoted A n e) (unquoted B n e) (template A (n + 1) e) (template B (n + 1) e) (part A n x) (part B n x) (part A n e) (part B n e)
      (word_same A B P a (codes "unquote") x h.0) (word_same A B P a (codes "quasiquote") x h.0)
      (unquoted_same A B P a n e h.1.0) (template_same A B P a (n + 1) e h.1.0) (part_same A B P a n x h.0) (part_same A B P a n e h.1.0)
  template_list_same A B P a n (item_and x (item_and e no_item)) (piece_and y ys) h =
      two_same (part A n x) (part B n x) (parts A n (item_and e no_item) (piece_and y ys)) (parts B n (item_and e no_item) (piece_and y ys))
      (part_same A B P a n x h.0) (parts_same A B P a n (item_and e no_item) (piece_and y ys) h.1)
  template_list_same A B P a n (item_and x (item_and e (item_and d ds))) behind h =
      two_same (part A n x) (part B n x) (parts A n (item_and e (item_and d ds)) behind) (parts B n (item_and e (item_and d ds)) behind)
      (part_same A B P a n x h.0) (parts_same A B P a n (item_and e (item_and d ds)) behind h.1)

  unquoted_same : (A B : List (List ℕ)) (P : Item → Type 0) → Alike A B P → (n : ℕ) (e : Item) → P e → unquoted A n e ≡ unquoted B n e
  unquoted_same A B P a zero (item p c) h = refl
  unquoted_same A B P a (suc n) (item p c) h = ap (kept_prefix (codes "unquote")) (template_of_same A B P a n p c h)

  spliced_same : (A B : List (List ℕ)) (P : Item → Type 0) → Alike A B P → (n : ℕ) (e : Item) → P e → spliced A n e ≡ spliced B n e
  spliced_same A B P a zero (item p c) h = refl
  spliced_same A B P a (suc n) (item p c) h =
      ap (λ (x : Piece). form (codes "%list") (kept_prefix (codes "unquote-splicing") x ∷ [])) (template_of_same A B P a n p c h)

  part_same : (A B : List (List ℕ)) (P : Item → Type 0) → Alike A B P → (n : ℕ) (d : Item) → P d → part A n d ≡ part B n d
  part_same A B P a n (item p (integer z)) h = refl
  part_same A B P a n (item p (character z)) h = refl
  part_same A B P a n (item p (symbol s)) h = refl
  part_same A B P a n (item p (string bytes)) h = refl
  part_same A B P a n (item p nil) h = refl
  part_same A B P a n (item p (vector ds)) h = in_list (template_of_same A B P a n p (vector ds) h)
  part_same A B P a n (item p (list no_item t)) h = in_list (template_of_same A B P a n p (list no_item t) h)
  part_same A B P a n (item p (list (item_and x no_item) t)) h = in_list (template_of_same A B P a n p (list (item_and x no_item) t) h)
  part_same A B P a n (item p (list (item_and x (item_and e no_item)) no_tail)) h =
      choice_same (is_word A (codes "unquote-splicing") x) (is_word B (codes "unquote-splicing") x) (spliced A n e) (spliced B n e)
      (form (codes "%list") (template_of A n p (list (item_and x (item_and e no_item)) no_tail) ∷ []))
      (form (codes "%list") (template_of B n p (list (item_and x (item_and e no_item)) no_tail) ∷ []))
      (word_same A B P a (codes "unquote-splicing") x (a.down.of_items p (item_and x (item_and e no_item)) no_tail h).0)
      (spliced_same A B P a n e (a.down.of_items p (item_and x (item_and e no_item)) no_tail h).1.0)
      (in_list (template_of_same A B P a n p (list (item_and x (item_and e no_item)) no_tail) h))
  part_same A B P a n (item p (list (item_and x (item_and e no_item)) (dotted d))) h =
      in_list (template_of_same A B P a n p (list (item_and x (item_and e no_item)) (dotted d)) h)
  part_same A B P a n (item p (list (item_and x (item_and e (item_and d ds))) t)) h =
      in_list (template_of_same A B P a n p (list (item_and x (item_and e (item_and d ds))) t) h)

  parts_same : (A B : List (List ℕ)) (P : Item → Type 0) → Alike A B P → (n : ℕ) (ds : Items) (behind : Pieces) → AllItems P ds
      → parts A n ds behind ≡ parts B n ds behind
  parts_same A B P a n no_item behind h = refl
  parts_same A B P a n (item_and x no_item) behind h = ap (λ (y : Piece). piece_and y behind) (part_same A B P a n x h.0)
  parts_same A B P a n (item_and x (item_and e no_item)) no_piece h =
      last_same (is_word A (codes "unquote") x) (is_word B (codes "unquote") x) (unquoted A n e) (unquoted B n e) (part A n x) (part B n x) (part A n e) (part B n e)
      (word_same A B P a (codes "unquote") x h.0) (unquoted_same A B P a n e h.1.0) (part_same A B P a n x h.0) (part_same A B P a n e h.1.0)
  parts_same A B P a n (item_and x (item_and e no_item)) (piece_and y ys) h =
      both_same (part A n x) (part B n x) (parts A n (item_and e no_item) (piece_and y ys)) (parts B n (item_and e no_item) (piece_and y ys))
      (part_same A B P a n x h.0) (parts_same A B P a n (item_and e no_item) (piece_and y ys) h.1)
  parts_same A B P a n (item_and x (item_and e (item_and d ds))) behind h =
      both_same (part A n x) (part B n x) (parts A n (item_and e (item_and d ds)) behind) (parts B n (item_and e (item_and d ds)) behind)
      (part_same A B P a n x h.0) (parts_same A B P a n (item_and e (item_and d ds)) behind h.1)

-- left sides

both_joined : (x x2 y y2 : Option Parts) → x ≡ x2 → y ≡ y2 → joined x y ≡ joined x2 y2
both_joined x x2 y y2 e f = cc

module _ (A B : List (List ℕ)) (P : Item → Type 0) (a : Alike A B P) where
  one_word_same : (text : List ℕ) (ds : List Item) → AllOf P ds → one_datum (is_word A text) ds ≡ one_datum (is_word B text) ds
  one_word_same text [] h = refl
  one_word_same text (d ∷ []) h = word_same A B P a text d h.0
  one_word_same text (d ∷ e ∷ ds) h = refl

  one_setter_same : (ds : List Item) → AllOf P ds → one_datum (has_setter A) ds ≡ one_datum (has_setter B) ds
  one_setter_same [] h = refl
  one_setter_same (d ∷ []) h = ap (λ (t : Option (List ℕ)). is_some (setter t)) (a.same d h.0)
  one_setter_same (d ∷ e ∷ ds) h = refl

  opened_same : (f g : List Item → Option Parts) → ((ds : List Item) → AllOf P ds → f ds ≡ g ds) → (ds : Option (List Item)) → AllOfSome P ds
      → opened f ds ≡ opened g ds
  opened_same f g e None h = refl
  opened_same f g e (Some ds) h = e ds h

  of_one_same : (f g : List Item → Option Parts) → ((ds : List Item) → AllOf P ds → f ds ≡ g ds) → (ds : List Item) → AllOf P ds → of_one f ds ≡ of_one g ds
  of_one_same f g e [] h = refl
  of_one_same f g e (d ∷ []) h = opened_same f g e (list_items d) (items_too P a.down d h.0)
  of_one_same f g e (d ∷ d2 ∷ ds) h = refl

  all_data_same : (f g : List Item → Option Parts) → ((ds : List Item) → AllOf P ds → f ds ≡ g ds) → (ds : List Item) → AllOf P ds
      → all_data (λ d. is_some (f (d ∷ []))) ds ≡ all_data (λ d. is_some (g (d ∷ []))) ds
  all_data_same f g e [] h = refl
  all_data_same f g e (d ∷ ds) h =
      ap (λ (b : Bool). if b then all_data (λ d. is_some (f (d ∷ []))) ds else false) (ap (λ (x : Option Parts). is_some x) (e (d ∷ []) (h.0, tt)))
      ∙ ap (λ (b : Bool). if is_some (g (d ∷ [])) then b else false) (all_data_same f g e ds h.1)

  mutual
    unfolding fit

    fit_same : (x : Pattern) (ds : List Item) → AllOf P ds → fit A x ds ≡ fit B x ds
    fit_same a_datum ds h = refl
    fit_same a_symbol ds h = refl
    fit_same (the_word text) ds h = ap nothing_if (one_word_same text ds h)
    fit_same an_operator ds h = ap (λ (b : Bool). part_if b ds) (one_setter_same ds h)
    fit_same (inside ps) ds h = of_one_same (λ es. fit_all A ps es) (λ es. fit_all B ps es) (fit_all_same ps) ds h
    fit_same others ds h = refl
    fit_same one_at_most ds h = refl
    fit_same (each_fits ps) ds h =
        ap (λ (b : Bool). part_if b ds) (all_data_same (λ es. fit_all A ps es) (λ es. fit_all B ps es) (fit_all_same ps) ds h)

    pub fit_all_same : (xs : Patterns) (ds : List Item) → AllOf P ds → fit_all A xs ds ≡ fit_all B xs ds
    fit_all_same no_pattern ds h = refl
    fit_all_same (pattern_and x xs) ds h =
        let n : ℕ = taken_by x (length ds - pattern_count xs) in
        both_joined (fit A x (take n ds)) (fit B x (take n ds)) (fit_all A xs (drop n ds)) (fit_all B xs (drop n ds))
        (fit_same x (take n ds) (all_take P n ds h)) (fit_all_same xs (drop n ds) (all_drop P n ds h))

  -- right sides

  first_same : (ds : List Item) → AllOf P ds → of_first (template A 0) ds ≡ of_first (template B 0) ds
  first_same [] h = refl
  first_same (d ∷ ds) h = template_same A B P a 0 d h.0

  setter_same : (ds : List Item) → AllOf P ds → setter_piece A ds ≡ setter_piece B ds
  setter_same [] h = refl
  setter_same (d ∷ ds) h = ap (λ (t : Option (List ℕ)). word_or_none (setter t)) (a.same d h.0)

  alone : (x y : Piece) → x ≡ y → x ∷ [] ≡ y ∷ []
  alone x y e = ap (λ (z : Piece). z ∷ []) e

  appended_same : (xs xs2 ys ys2 : List Piece) → xs ≡ xs2 → ys ≡ ys2 → xs ++ ys ≡ xs2 ++ ys2
  appended_same xs xs2 ys ys2 e f = cc

  before_same : (f g : ℕ → Parts → List Piece) → ((n : ℕ) (parts : Parts) → OfParts P parts → f n parts ≡ g n parts) → (own : ℕ) (x : Option Parts)
      (more more2 : ℕ → List Piece) → OfPartsSome P x → ((n : ℕ) → more n ≡ more2 n) → before_others f own x more ≡ before_others g own x more2
  before_same f g e own None more more2 p m = m own
  before_same f g e own (Some parts) more more2 p m = appended_same (f own parts) (g own parts) (more (own + 1)) (more2 (own + 1)) (e own parts p) (m (own + 1))

  repeated_same : (ps : Patterns) (f g : ℕ → Parts → List Piece) → ((n : ℕ) (parts : Parts) → OfParts P parts → f n parts ≡ g n parts) → (ds : List Item)
      → AllOf P ds → (own : ℕ) → repeated A ps f ds own ≡ repeated B ps g ds own
  repeated_same ps f g e [] h own = refl
  repeated_same ps f g e (d ∷ ds) h own =
      before_same f g e own (fit_all A ps (d ∷ [])) (λ n. repeated A ps f ds n) (λ n. repeated B ps g ds n)
      (fit_all_too P a.down A ps (d ∷ []) (h.0, tt)) (repeated_same ps f g e ds h.1)
      ∙ ap (λ (z : Option Parts). before_others g own z (λ n. repeated B ps g ds n)) (fit_all_same ps (d ∷ []) (h.0, tt))

  mutual
    unfolding write

    write_same : (s : ℕ) (x : Template) (own : ℕ) (parts : Parts) → OfParts P parts → write A s x own parts ≡ write B s x own parts
    write_same s (datum i) own parts h = refl
    write_same s (all_of i) own parts h = refl
    write_same s (the_setter i) own parts h = alone _ _ (setter_same (part_of parts i) (part_too P parts i h))
    write_same s (the_quotation i) own parts h = alone _ _ (first_same (part_of parts i) (part_too P parts i h))
    write_same s (the_symbol text) own parts h = refl
    write_same s (new_symbol n) own parts h = refl
    write_same s (new_behind i) own parts h = refl
    write_same s own_symbol own parts h = refl
    write_same s (group xs) own parts h = ap (λ (ys : List Piece). listed ys ∷ []) (write_all_same s xs own parts h)
    write_same s (for_each i ps xs) own parts h =
        repeated_same ps (λ n found. write_all A s xs n found) (λ n found. write_all B s xs n found) (write_all_same s xs)
        (part_of parts i) (part_too P parts i h) s

    pub write_all_same : (s : ℕ) (xs : Templates) (own : ℕ) (parts : Parts) → OfParts P parts → write_all A s xs own parts ≡ write_all B s xs own parts
    write_all_same s no_template own parts h = refl
    write_all_same s (template_and x xs) own parts h =
        appended_same (write A s x own parts) (write B s x own parts) (write_all A s xs own parts) (write_all B s xs own parts)
        (write_same s x own parts h) (write_all_same s xs own parts h)

  -- the table

  right_same : (xs xs2 new new2 : List Piece) → xs ≡ xs2 → new ≡ new2 → right_of xs new ≡ right_of xs2 new2
  right_same xs xs2 new new2 e f = cc

  found_same : (s : ℕ) (r : Row) (found : Option Parts) → OfPartsSome P found → row_right A s r found ≡ row_right B s r found
  found_same s r None h = refl
  found_same s r (Some parts) h =
      right_same (write_all A s r.right s parts) (write_all B s r.right s parts) (write_all A s r.new s parts) (write_all B s r.new s parts)
      (write_all_same s r.right s parts h) (write_all_same s r.new s parts h)

  row_same : (s : ℕ) (r : Row) (ds : List Item) → AllOf P ds → row_right A s r (fit_all A r.parts ds) ≡ row_right B s r (fit_all B r.parts ds)
  row_same s r ds h =
      found_same s r (fit_all A r.parts ds) (fit_all_too P a.down A r.parts ds h) ∙ ap (row_right B s r) (fit_all_same r.parts ds h)

  either_same : (b : Bool) (x x2 y y2 : Option Right) → x ≡ x2 → y ≡ y2 → (if b then or_else x y else y) ≡ (if b then or_else x2 y2 else y2)
  either_same b x x2 y y2 e f = cc

  first_right_same : (s : ℕ) (rs : List Row) (name : List ℕ) (ds : List Item) → AllOf P ds → first_right A s rs name ds ≡ first_right B s rs name ds
  first_right_same s [] name ds h = refl
  first_right_same s (r ∷ rs) name ds h =
      either_same (bytes_eq name r.name) (row_right A s r (fit_all A r.parts ds)) (row_right B s r (fit_all B r.parts ds))
      (first_right A s rs name ds) (first_right B s rs name ds) (row_same s r ds h) (first_right_same s rs name ds h)

  else_same : (x x2 y y2 : Option Right) → x ≡ x2 → y ≡ y2 → or_else x y ≡ or_else x2 y2
  else_same x x2 y y2 e f = cc

  table_same : (s : ℕ) (gs : List (List Row)) (name : List ℕ) (ds : List Item) → AllOf P ds → table_right A s gs name ds ≡ table_right B s gs name ds
  table_same s [] name ds h = refl
  table_same s (g ∷ gs) name ds h =
      else_same (first_right A s g name ds) (first_right B s g name ds) (table_right A s gs name ds) (table_right B s gs name ds)
      (first_right_same s g name ds h) (table_same s gs name ds h)

  by_table_same : (s : ℕ) (name : List ℕ) (ds : List Item) (t : Tail) → AllOf P ds → by_table A s name ds t ≡ by_table B s name ds t
  by_table_same s name ds no_tail h = ap judged (table_same s table name ds h)
  by_table_same s name ds (dotted d) h = refl

  by_name_same : (s : ℕ) (name : Option (List ℕ)) (ds : List Item) (t : Tail) → AllOf P ds → by_name A s name ds t ≡ by_name B s name ds t
  by_name_same s None ds t h = refl
  by_name_same s (Some name) ds t h = ap (λ (x : Derivation). if is_derived name then x else plain) (by_table_same s name ds t h)

  list_same : (s : ℕ) (ds : List Item) (t : Tail) → AllOf P ds → list_derivation A s ds t ≡ list_derivation B s ds t
  list_same s [] t h = refl
  list_same s (d ∷ ds) t h = by_name_same s (text_of A d) ds t h.1 ∙ ap (λ (name : Option (List ℕ)). by_name B s name ds t) (a.same d h.0)

  pub derivation_same : (s : ℕ) (d : Item) → P d → derivation A s d ≡ derivation B s d
  unfolding derivation
  derivation_same s (item p (integer n)) h = refl
  derivation_same s (item p (character c)) h = refl
  derivation_same s (item p (symbol x)) h = refl
  derivation_same s (item p (string bytes)) h = refl
  derivation_same s (item p (vector ds)) h = refl
  derivation_same s (item p nil) h = refl
  derivation_same s (item p (list ds t)) h = list_same s (items_list ds) t (of_list P ds (a.down.of_items p ds t h))
