-- The steps of derived forms, for renamed data: a renamed form becomes the renamed datum.
use Rattle.std.specs.Prelude.{◌≡◌, ℕ, List, [], ◌∷◌, Option, Some, None, map, option_map, refl}
use Rattle.std.specs.Str.{bytes_eq}
use Rattle.std.proofs.Common.{ap, sym, ◌∙◌, subst}
use Rattle.base.specs.declared.place.Place.{Place}
use Rattle.base.specs.Data.{Item, item, integer, character, symbol, string, vector, nil, list, Items, no_item, item_and, items_list, Tail, no_tail, dotted, place_of}
use Rattle.base.specs.DataNames.{text_of}
use Rattle.lang_derived.specs.Pieces.{Piece, word, made, taken, parens, Pieces, no_piece, piece_and, Right, in_parens, Builds, BuildsAll}
use Rattle.lang_derived.specs.Patterns.{Parts, fit_all}
use Rattle.lang_derived.specs.RightSides.{write_all}
use Rattle.lang_derived.specs.Table.{Row, table, is_derived}
use Rattle.lang_derived.specs.Derived.{right_of, row_right, or_else, first_right, table_right, Derivation, plain, unfit, becomes, judged, by_table, by_name, list_derivation, derivation, Derives}
use Rattle.lang_renamed.specs.Renaming.{item_by, items_by, tail_by}
use Rattle.front_laws.specs.Renaming.{Renames}
use Rattle.front_laws.proofs.RenamedTables.{data_by}
use Rattle.lang_renamed.proofs.Lists.{both, if_by, length_by}
use Rattle.front_laws.proofs.RenamedData.{place_by, listed_by, text_of_by}
use Rattle.front_laws.proofs.RenamedPieces.{piece_by, pieces_by, parts_by, fit_all_by, write_all_by}

module _ (r : ℕ → ℕ) where
  abbrev pub right_by : Right → Right
  right_by x = record { piece = piece_by r x.piece; count = x.count }

  abbrev pub derivation_by : Derivation → Derivation
  derivation_by plain = plain
  derivation_by unfit = unfit
  derivation_by (becomes x) = becomes (right_by x)

  right_of_by : (xs new : List Piece) → right_of (map (piece_by r) xs) (map (piece_by r) new) ≡ option_map right_by (right_of xs new)
  right_of_by [] new = refl
  right_of_by (x ∷ []) new = ap (λ (n : ℕ). Some (record { piece = piece_by r x; count = n })) (length_by (piece_by r) new)
  right_of_by (x ∷ y ∷ xs) new = refl

  or_else_by : (x y : Option Right) → or_else (option_map right_by x) (option_map right_by y) ≡ option_map right_by (or_else x y)
  or_else_by None y = refl
  or_else_by (Some x) y = refl

  judged_by : (x : Option Right) → judged (option_map right_by x) ≡ derivation_by (judged x)
  judged_by None = refl
  judged_by (Some x) = refl

  parens_by : (p : Place) (ds : Items) → item_by r (item p (in_parens ds)) ≡ item p (in_parens (items_by r ds))
  parens_by p no_item = refl
  parens_by p (item_and d ds) = refl

module _ (r : ℕ → ℕ) (old new : List (List ℕ)) (w : Renames r old new) where
  row_by : (s : ℕ) (x : Row) (ps : Option Parts) → row_right new s x (option_map (parts_by r) ps) ≡ option_map (right_by r) (row_right old s x ps)
  row_by s x None = refl
  row_by s x (Some ps) =
      both right_of _ _ _ _ (write_all_by r old new w s x.right s ps) (write_all_by r old new w s x.new s ps)
      ∙ right_of_by r (write_all old s x.right s ps) (write_all old s x.new s ps)

  first_by : (s : ℕ) (xs : List Row) (name : List ℕ) (ds : List Item) → first_right new s xs name (data_by r ds) ≡ option_map (right_by r) (first_right old s xs name ds)
  first_by s [] name ds = refl
  first_by s (x ∷ xs) name ds =
      let more : first_right new s xs name (data_by r ds) ≡ option_map (right_by r) (first_right old s xs name ds) = first_by s xs name ds in
      if_by (option_map (right_by r)) (bytes_eq name x.name) (bytes_eq name x.name) _ _ _ _ refl
      (both or_else _ _ _ _ (ap (row_right new s x) (fit_all_by r old new w x.parts ds) ∙ row_by s x (fit_all old x.parts ds)) more
      ∙ or_else_by r (row_right old s x (fit_all old x.parts ds)) (first_right old s xs name ds))
      more

  table_by : (s : ℕ) (gs : List (List Row)) (name : List ℕ) (ds : List Item) → table_right new s gs name (data_by r ds) ≡ option_map (right_by r) (table_right old s gs name ds)
  table_by s [] name ds = refl
  table_by s (g ∷ gs) name ds =
      both or_else _ _ _ _ (first_by s g name ds) (table_by s gs name ds) ∙ or_else_by r (first_right old s g name ds) (table_right old s gs name ds)

  tail_case : (s : ℕ) (name : List ℕ) (ds : List Item) (t : Tail) → by_table new s name (data_by r ds) (tail_by r t) ≡ derivation_by r (by_table old s name ds t)
  tail_case s name ds no_tail = ap judged (table_by s table name ds) ∙ judged_by r (table_right old s table name ds)
  tail_case s name ds (dotted d) = refl

  name_case : (s : ℕ) (name : Option (List ℕ)) (ds : List Item) (t : Tail) → by_name new s name (data_by r ds) (tail_by r t) ≡ derivation_by r (by_name old s name ds t)
  name_case s None ds t = refl
  name_case s (Some name) ds t = if_by (derivation_by r) (is_derived name) (is_derived name) _ _ _ plain refl (tail_case s name ds t) refl

  list_case : (s : ℕ) (ds : List Item) (t : Tail) → list_derivation new s (data_by r ds) (tail_by r t) ≡ derivation_by r (list_derivation old s ds t)
  list_case s [] t = refl
  list_case s (d ∷ ds) t =
      ap (λ name. by_name new s name (data_by r ds) (tail_by r t)) (text_of_by r old new w d) ∙ name_case s (text_of old d) ds t

  pub derivation_same : (s : ℕ) (d : Item) → derivation new s (item_by r d) ≡ derivation_by r (derivation old s d)
  unfolding derivation
  derivation_same s (item p (integer n)) = refl
  derivation_same s (item p (character c)) = refl
  derivation_same s (item p (symbol x)) = refl
  derivation_same s (item p (string bytes)) = refl
  derivation_same s (item p (vector ds)) = refl
  derivation_same s (item p nil) = refl
  derivation_same s (item p (list ds t)) =
      ap (λ es. list_derivation new s es (tail_by r t)) (listed_by r ds) ∙ list_case s (items_list ds) t

  mutual
    unfolding Builds

    builds_by : (p : Place) (x : Piece) (d : Item) → Builds old p x d → Builds new p (piece_by r x) (item_by r d)
    builds_by p (word text) d b = (r b.0, (w.texts b.0 ∙ b.1.0, ap (item_by r) b.1.1))
    builds_by p (made serial) d b = ap (item_by r) b
    builds_by p (taken e) d b = ap (item_by r) b
    builds_by p (parens xs) d b = (items_by r b.0, (all_built_by p xs b.0 b.1.0, ap (item_by r) b.1.1 ∙ parens_by r p b.0))

    all_built_by : (p : Place) (xs : Pieces) (ds : Items) → BuildsAll old p xs ds → BuildsAll new p (pieces_by r xs) (items_by r ds)
    all_built_by p no_piece ds b = ap (items_by r) b
    all_built_by p (piece_and x xs) ds b =
        (item_by r b.0, (items_by r b.1.0, (builds_by p x b.0 b.1.1.0, all_built_by p xs b.1.0 b.1.1.1, ap (items_by r) b.1.1.2)))

  pub step_by : (d : Item) (s : ℕ) (e : Item) (s2 : ℕ) → Derives old d s e s2 → Derives new (item_by r d) s (item_by r e) s2
  step_by d s e s2 x = record {
    right = right_by r x.right;
    fits = derivation_same s d ∙ ap (derivation_by r) x.fits;
    builds = let P : Place → Type 0 = λ p. Builds new p (piece_by r x.right.piece) (item_by r e) in
        subst P (sym (place_by r d)) (builds_by (place_of d) x.right.piece e x.builds);
    serials = x.serials;
  }
