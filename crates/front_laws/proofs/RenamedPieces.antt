-- The right sides of rows of derived forms, for renamed data.
use Rattle.std.specs.Prelude.{◌≡◌, ℕ, zero, suc, ◌+◌, ◌-◌, Bool, true, false, List, [], ◌∷◌, ◌++◌, length, take, drop, Option, Some, None, map, option_map, slice_get, codes, refl}
use Rattle.std.proofs.Common.{ap, sym, ◌∙◌}
use Rattle.std.proofs.lemmas.List.{map-append}
use Rattle.base.specs.declared.place.Place.{Place}
use Rattle.base.specs.Data.{Item, item, Content, integer, character, symbol, string, vector, nil, list, Items, no_item, item_and, Tail, no_tail, dotted}
use Rattle.base.specs.DataNames.{text_of}
use Rattle.lang_derived.specs.Pieces.{Piece, word, made, taken, parens, Pieces, no_piece, piece_and, pieces_of, listed, form, all_taken}
use Rattle.lang_derived.specs.Asked.{is_word, is_symbol, list_items, setter}
use Rattle.lang_derived.specs.Patterns.{Pattern, a_datum, a_symbol, the_word, an_operator, inside, others, one_at_most, each_fits, Patterns, no_pattern, pattern_and, pattern_count, taken_by, Parts, part_if, nothing_if, one_datum, is_none, is_some, all_data, has_setter, joined, opened, of_one, fit, fit_all}
use Rattle.lang_derived.specs.RightSides.{Template, datum, all_of, the_setter, the_quotation, the_symbol, new_symbol, new_behind, own_symbol, group, for_each, Templates, no_template, template_and, part_of, data_or_none, of_first, word_or_none, setter_piece, before_others, repeated, write, write_all}
use Rattle.lang_derived.specs.Quotation.{template, template_of, tail_part, template_list, unquoted, spliced, part, parts, kept_prefix, one_piece, appended}
use Rattle.lang_renamed.specs.Renaming.{item_by, content_by, items_by, tail_by}
use Rattle.front_laws.specs.Renaming.{Renames}
use Rattle.front_laws.proofs.RenamedTables.{data_by}
use Rattle.lang_renamed.proofs.Lists.{both, if_by, if_same, length_by, get_by, take_by, drop_by}
use Rattle.front_laws.proofs.RenamedData.{is_symbol_by, list_items_by, text_of_by, word_by}

module _ (r : ℕ → ℕ) where
  abbrev mutual
    pub piece_by : Piece → Piece
    piece_by (word text) = word text
    piece_by (made serial) = made serial
    piece_by (taken d) = taken (item_by r d)
    piece_by (parens xs) = parens (pieces_by xs)

    pub pieces_by : Pieces → Pieces
    pieces_by no_piece = no_piece
    pieces_by (piece_and x xs) = piece_and (piece_by x) (pieces_by xs)

  abbrev pub parts_by : Parts → Parts
  parts_by ps = map (λ ds. data_by r ds) ps

  -- ---- left sides

  part_if_by : (b : Bool) (ds : List Item) → part_if b (data_by r ds) ≡ option_map parts_by (part_if b ds)
  part_if_by true ds = refl
  part_if_by false ds = refl

  nothing_by : (b : Bool) → nothing_if b ≡ option_map parts_by (nothing_if b)
  nothing_by true = refl
  nothing_by false = refl

  one_datum_by : (f g : Item → Bool) → ((d : Item) → f (item_by r d) ≡ g d) → (ds : List Item) → one_datum f (data_by r ds) ≡ one_datum g ds
  one_datum_by f g e [] = refl
  one_datum_by f g e (d ∷ []) = e d
  one_datum_by f g e (d ∷ x ∷ ds) = refl

  none_by : (ds : List Item) → is_none (data_by r ds) ≡ is_none ds
  none_by [] = refl
  none_by (d ∷ ds) = refl

  some_by : (x : Option Parts) → is_some (option_map parts_by x) ≡ is_some x
  some_by None = refl
  some_by (Some x) = refl

  joined_by : (x y : Option Parts) → joined (option_map parts_by x) (option_map parts_by y) ≡ option_map parts_by (joined x y)
  joined_by None y = refl
  joined_by (Some xs) None = refl
  joined_by (Some xs) (Some ys) = ap (λ (zs : Parts). Some zs) (sym (map-append (λ ds. data_by r ds) xs ys))

  opened_by : (f g : List Item → Option Parts) → ((ds : List Item) → f (data_by r ds) ≡ option_map parts_by (g ds)) → (o : Option (List Item)) →
      opened f (option_map (data_by r) o) ≡ option_map parts_by (opened g o)
  opened_by f g e None = refl
  opened_by f g e (Some ds) = e ds

  of_one_by : (f g : List Item → Option Parts) → ((ds : List Item) → f (data_by r ds) ≡ option_map parts_by (g ds)) → (ds : List Item) →
      of_one f (data_by r ds) ≡ option_map parts_by (of_one g ds)
  of_one_by f g e [] = refl
  of_one_by f g e (d ∷ []) = ap (opened f) (list_items_by r d) ∙ opened_by f g e (list_items d)
  of_one_by f g e (d ∷ x ∷ ds) = refl

  all_data_by : (f g : Item → Bool) → ((d : Item) → f (item_by r d) ≡ g d) → (ds : List Item) → all_data f (data_by r ds) ≡ all_data g ds
  all_data_by f g e [] = refl
  all_data_by f g e (d ∷ ds) = if_same (f (item_by r d)) (g d) (all_data f (data_by r ds)) false (all_data g ds) false (e d) (all_data_by f g e ds) refl

  -- ---- right sides

  part_of_by : (ps : Parts) (i : ℕ) → part_of (parts_by ps) i ≡ data_by r (part_of ps i)
  part_of_by ps i = ap data_or_none (get_by (λ ds. data_by r ds) ps i) ∙ or_none (slice_get ps i)
    where
      or_none : (o : Option (List Item)) → data_or_none (option_map (λ ds. data_by r ds) o) ≡ data_by r (data_or_none o)
      or_none None = refl
      or_none (Some ds) = refl

  first_by : (f g : Item → Piece) → ((d : Item) → f (item_by r d) ≡ piece_by (g d)) → (ds : List Item) → of_first f (data_by r ds) ≡ piece_by (of_first g ds)
  first_by f g e [] = refl
  first_by f g e (d ∷ ds) = e d

  taken_all_by : (ds : List Item) → all_taken (data_by r ds) ≡ map piece_by (all_taken ds)
  taken_all_by [] = refl
  taken_all_by (d ∷ ds) = ap (λ xs. taken (item_by r d) ∷ xs) (taken_all_by ds)

  word_piece_by : (o : Option (List ℕ)) → word_or_none o ≡ piece_by (word_or_none o)
  word_piece_by None = refl
  word_piece_by (Some text) = refl

  pub pieces_of_by : (xs : List Piece) → pieces_of (map piece_by xs) ≡ pieces_by (pieces_of xs)
  pieces_of_by [] = refl
  pieces_of_by (x ∷ xs) = ap (λ ys. piece_and (piece_by x) ys) (pieces_of_by xs)

module _ (r : ℕ → ℕ) (old new : List (List ℕ)) (w : Renames r old new) where
  setter_by : (d : Item) → has_setter new (item_by r d) ≡ has_setter old d
  setter_by d = ap (λ t. is_some (setter t)) (text_of_by r old new w d)

  mutual
    unfolding fit

    fit_by : (x : Pattern) (ds : List Item) → fit new x (data_by r ds) ≡ option_map (parts_by r) (fit old x ds)
    fit_by a_datum ds = ap (λ b. part_if b (data_by r ds)) (one_datum_by r (λ d. true) (λ d. true) (λ d. refl) ds) ∙ part_if_by r _ ds
    fit_by a_symbol ds = ap (λ b. part_if b (data_by r ds)) (one_datum_by r is_symbol is_symbol (is_symbol_by r) ds) ∙ part_if_by r _ ds
    fit_by (the_word text) ds = ap nothing_if (one_datum_by r (is_word new text) (is_word old text) (word_by r old new w text) ds) ∙ nothing_by r _
    fit_by an_operator ds = ap (λ b. part_if b (data_by r ds)) (one_datum_by r (has_setter new) (has_setter old) setter_by ds) ∙ part_if_by r _ ds
    fit_by (inside ps) ds = of_one_by r (λ es. fit_all new ps es) (λ es. fit_all old ps es) (fit_all_by ps) ds
    fit_by others ds = refl
    fit_by one_at_most ds = refl
    fit_by (each_fits ps) ds =
        ap (λ b. part_if b (data_by r ds))
        (all_data_by r (λ d. is_some (fit_all new ps (d ∷ []))) (λ d. is_some (fit_all old ps (d ∷ [])))
        (λ d. ap (λ x. is_some x) (fit_all_by ps (d ∷ [])) ∙ some_by r (fit_all old ps (d ∷ []))) ds)
        ∙ part_if_by r _ ds

    pub fit_all_by : (xs : Patterns) (ds : List Item) → fit_all new xs (data_by r ds) ≡ option_map (parts_by r) (fit_all old xs ds)
    fit_all_by no_pattern ds = ap nothing_if (none_by r ds) ∙ nothing_by r _
    fit_all_by (pattern_and x xs) ds =
        let n : ℕ = taken_by x (length ds - pattern_count xs) in
        let count : taken_by x (length (data_by r ds) - pattern_count xs) ≡ n = ap (λ (m : ℕ). taken_by x (m - pattern_count xs)) (length_by (item_by r) ds) in
        ap (λ (m : ℕ). joined (fit new x (take m (data_by r ds))) (fit_all new xs (drop m (data_by r ds)))) count
        ∙ both joined _ _ _ _
        (ap (fit new x) (take_by (item_by r) n ds) ∙ fit_by x (take n ds))
        (ap (fit_all new xs) (drop_by (item_by r) n ds) ∙ fit_all_by xs (drop n ds))
        ∙ joined_by r (fit old x (take n ds)) (fit_all old xs (drop n ds))

  -- ---- the form of a quasiquotation

  in_list : (x y : Piece) → x ≡ y → form (codes "%list") (x ∷ []) ≡ form (codes "%list") (y ∷ [])
  in_list x y e = ap (λ (z : Piece). form (codes "%list") (z ∷ [])) e

  front_same : (x y : Piece) (xs ys : Pieces) → x ≡ y → xs ≡ ys → appended (piece_and x xs) ≡ appended (piece_and y ys)
  front_same x y xs ys e f = both (λ a b. appended (piece_and a b)) x y xs ys e f

  mutual
    unfolding template

    template_by : (n : ℕ) (d : Item) → template new n (item_by r d) ≡ piece_by r (template old n d)
    template_by n (item p c) = template_of_by n p c

    template_of_by : (n : ℕ) (p : Place) (c : Content) → template_of new n p (content_by r c) ≡ piece_by r (template_of old n p c)
    template_of_by n p (integer z) = refl
    template_of_by n p (character z) = refl
    template_of_by n p (symbol s) = refl
    template_of_by n p (string bytes) = refl
    template_of_by n p nil = refl
    template_of_by n p (vector ds) = ap (λ (x : Piece). form (codes "%list-vector") (x ∷ [])) (template_list_by n ds no_piece)
    template_of_by n p (list ds t) = ap (template_list new n (items_by r ds)) (tail_part_by n t) ∙ template_list_by n ds (tail_part old n t)

    tail_part_by : (n : ℕ) (t : Tail) → tail_part new n (tail_by r t) ≡ pieces_by r (tail_part old n t)
    tail_part_by n no_tail = refl
    tail_part_by n (dotted d) = ap one_piece (template_by n d)

    template_list_by : (n : ℕ) (ds : Items) (behind : Pieces) → template_list new n (items_by r ds) (pieces_by r behind) ≡ piece_by r (template_list old n ds behind)
    template_list_by n no_item behind = refl
    template_list_by n (item_and x no_item) behind = ap (λ (y : Piece). appended (piece_and y (pieces_by r behind))) (part_same n x)
    template_list_by n (item_and x (item_and e no_item)) no_piece =
        if_by (piece_by r) (is_word new (codes "unquote") (item_by r x)) (is_word old (codes "unquote") x) _ _ _ _ (word_by r old new w (codes "unquote") x)
        (unquoted_by n e)
        (if_by (piece_by r) (is_word new (codes "quasiquote") (item_by r x)) (is_word old (codes "quasiquote") x) _ _
        (kept_prefix (codes "quasiquote") (template old (n + 1) e)) (appended (piece_and (part old n x) (one_piece (part old n e))))
        (word_by r old new w (codes "quasiquote") x)
        (ap (kept_prefix (codes "quasiquote")) (template_by (n + 1) e))
        (front_same _ _ _ _ (part_same n x) (ap one_piece (part_same n e))))
    template_list_by n (item_and x (item_and e no_item)) (piece_and y ys) =
        front_same _ _ _ _ (part_same n x) (parts_same n (item_and e no_item) (piece_and y ys))
    template_list_by n (item_and x (item_and e (item_and d ds))) behind =
        front_same _ _ _ _ (part_same n x) (parts_same n (item_and e (item_and d ds)) behind)

    unquoted_by : (n : ℕ) (e : Item) → unquoted new n (item_by r e) ≡ piece_by r (unquoted old n e)
    unquoted_by zero (item p c) = refl
    unquoted_by (suc n) (item p c) = ap (kept_prefix (codes "unquote")) (template_of_by n p c)

    spliced_by : (n : ℕ) (e : Item) → spliced new n (item_by r e) ≡ piece_by r (spliced old n e)
    spliced_by zero (item p c) = refl
    spliced_by (suc n) (item p c) = ap (λ (x : Piece). form (codes "%list") (kept_prefix (codes "unquote-splicing") x ∷ [])) (template_of_by n p c)

    part_same : (n : ℕ) (d : Item) → part new n (item_by r d) ≡ piece_by r (part old n d)
    part_same n (item p (integer z)) = in_list _ _ (template_of_by n p (integer z))
    part_same n (item p (character z)) = in_list _ _ (template_of_by n p (character z))
    part_same n (item p (symbol s)) = in_list _ _ (template_of_by n p (symbol s))
    part_same n (item p (string bytes)) = in_list _ _ (template_of_by n p (string bytes))
    part_same n (item p nil) = in_list _ _ (template_of_by n p nil)
    part_same n (item p (vector ds)) = in_list _ _ (template_of_by n p (vector ds))
    part_same n (item p (list no_item t)) = in_list _ _ (template_of_by n p (list no_item t))
    part_same n (item p (list (item_and x no_item) t)) = in_list _ _ (template_of_by n p (list (item_and x no_item) t))
    part_same n (item p (list (item_and x (item_and e no_item)) no_tail)) =
        if_by (piece_by r) (is_word new (codes "unquote-splicing") (item_by r x)) (is_word old (codes "unquote-splicing") x) _ _ (spliced old n e)
        (form (codes "%list") (template_of old n p (list (item_and x (item_and e no_item)) no_tail) ∷ []))
        (word_by r old new w (codes "unquote-splicing") x) (spliced_by n e)
        (in_list _ _ (template_of_by n p (list (item_and x (item_and e no_item)) no_tail)))
    part_same n (item p (list (item_and x (item_and e no_item)) (dotted d))) =
        in_list _ _ (template_of_by n p (list (item_and x (item_and e no_item)) (dotted d)))
    part_same n (item p (list (item_and x (item_and e (item_and d ds))) t)) =
        in_list _ _ (template_of_by n p (list (item_and x (item_and e (item_and d ds))) t))

    parts_same : (n : ℕ) (ds : Items) (behind : Pieces) → parts new n (items_by r ds) (pieces_by r behind) ≡ pieces_by r (parts old n ds behind)
    parts_same n no_item behind = refl
    parts_same n (item_and x no_item) behind = ap (λ (y : Piece). piece_and y (pieces_by r behind)) (part_same n x)
    parts_same n (item_and x (item_and e no_item)) no_piece =
        if_by (pieces_by r) (is_word new (codes "unquote") (item_by r x)) (is_word old (codes "unquote") x) _ _ (one_piece (unquoted old n e))
        (piece_and (part old n x) (one_piece (part old n e)))
        (word_by r old new w (codes "unquote") x) (ap one_piece (unquoted_by n e))
        (both (λ a b. piece_and a b) _ _ _ _ (part_same n x) (ap one_piece (part_same n e)))
    parts_same n (item_and x (item_and e no_item)) (piece_and y ys) =
        both (λ a b. piece_and a b) _ _ _ _ (part_same n x) (parts_same n (item_and e no_item) (piece_and y ys))
    parts_same n (item_and x (item_and e (item_and d ds))) behind =
        both (λ a b. piece_and a b) _ _ _ _ (part_same n x) (parts_same n (item_and e (item_and d ds)) behind)

  -- ---- what is written

  setter_piece_by : (ds : List Item) → setter_piece new (data_by r ds) ≡ piece_by r (setter_piece old ds)
  setter_piece_by [] = refl
  setter_piece_by (d ∷ ds) = ap (λ t. word_or_none (setter t)) (text_of_by r old new w d) ∙ word_piece_by r (setter (text_of old d))

  before_by : (f g : ℕ → Parts → List Piece) → ((n : ℕ) (ps : Parts) → f n (parts_by r ps) ≡ map (piece_by r) (g n ps)) → (own : ℕ) (o : Option Parts) (k l : ℕ → List Piece) →
      ((n : ℕ) → k n ≡ map (piece_by r) (l n)) → before_others f own (option_map (parts_by r) o) k ≡ map (piece_by r) (before_others g own o l)
  before_by f g e own None k l h = h own
  before_by f g e own (Some ps) k l h =
      both (λ xs ys. xs ++ ys) _ _ _ _ (e own ps) (h (own + 1)) ∙ sym (map-append (piece_by r) (g own ps) (l (own + 1)))

  repeated_by : (ps : Patterns) (f g : ℕ → Parts → List Piece) → ((n : ℕ) (found : Parts) → f n (parts_by r found) ≡ map (piece_by r) (g n found)) → (ds : List Item) (own : ℕ) →
      repeated new ps f (data_by r ds) own ≡ map (piece_by r) (repeated old ps g ds own)
  repeated_by ps f g e [] own = refl
  repeated_by ps f g e (d ∷ ds) own =
      ap (λ o. before_others f own o (λ n. repeated new ps f (data_by r ds) n)) (fit_all_by ps (d ∷ []))
      ∙ before_by f g e own (fit_all old ps (d ∷ [])) (λ n. repeated new ps f (data_by r ds) n) (λ n. repeated old ps g ds n) (repeated_by ps f g e ds)

  mutual
    unfolding write

    write_by : (s : ℕ) (x : Template) (own : ℕ) (ps : Parts) → write new s x own (parts_by r ps) ≡ map (piece_by r) (write old s x own ps)
    write_by s (datum i) own ps =
        ap (λ (x : Piece). x ∷ []) (ap (of_first (λ d. taken d)) (part_of_by r ps i) ∙ first_by r (λ d. taken d) (λ d. taken d) (λ d. refl) (part_of ps i))
    write_by s (all_of i) own ps = ap all_taken (part_of_by r ps i) ∙ taken_all_by r (part_of ps i)
    write_by s (the_setter i) own ps = ap (λ (x : Piece). x ∷ []) (ap (setter_piece new) (part_of_by r ps i) ∙ setter_piece_by (part_of ps i))
    write_by s (the_quotation i) own ps =
        ap (λ (x : Piece). x ∷ []) (ap (of_first (template new 0)) (part_of_by r ps i) ∙ first_by r (template new 0) (template old 0) (template_by 0) (part_of ps i))
    write_by s (the_symbol text) own ps = refl
    write_by s (new_symbol n) own ps = refl
    write_by s (new_behind i) own ps =
        ap (λ (n : ℕ). made (s + n) ∷ []) (ap (λ (ds : List Item). length ds) (part_of_by r ps i) ∙ length_by (item_by r) (part_of ps i))
    write_by s own_symbol own ps = refl
    write_by s (group xs) own ps =
        ap (λ (ys : List Piece). listed ys ∷ []) (write_all_by s xs own ps) ∙ ap (λ (ys : Pieces). parens ys ∷ []) (pieces_of_by r (write_all old s xs own ps))
    write_by s (for_each i qs xs) own ps =
        ap (λ ds. repeated new qs (λ n found. write_all new s xs n found) ds s) (part_of_by r ps i)
        ∙ repeated_by qs (λ n found. write_all new s xs n found) (λ n found. write_all old s xs n found) (write_all_by s xs) (part_of ps i) s

    pub write_all_by : (s : ℕ) (xs : Templates) (own : ℕ) (ps : Parts) → write_all new s xs own (parts_by r ps) ≡ map (piece_by r) (write_all old s xs own ps)
    write_all_by s no_template own ps = refl
    write_all_by s (template_and x xs) own ps =
        both (λ ys zs. ys ++ zs) _ _ _ _ (write_by s x own ps) (write_all_by s xs own ps) ∙ sym (map-append (piece_by r) (write old s x own ps) (write_all old s xs own ps))
