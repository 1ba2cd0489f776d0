-- What is asked of renamed data: their texts are the same, and so are their places, sizes and shapes.
use Rattle.std.specs.Prelude.{◌≡◌, ℕ, ◌+◌, ◌==◌, List, [], ◌∷◌, Some, option_map, refl}
use Rattle.std.proofs.Common.{ap, sym, ◌∙◌, ⊎_elim}
use Rattle.std.proofs.lemmas.Bool.{eq-eqb}
use Rattle.std.proofs.lemmas.Bool.Decides.{eqb_tells}
use Rattle.base.specs.declared.datum.Symbol.{Symbol}
use Rattle.base.specs.declared.datum.Symbol.TheVariants.{Named, Fresh}
use Rattle.base.specs.Data.{Item, item, Content, integer, character, symbol, string, vector, nil, list, Items, no_item, item_and, items_of, items_list, Tail, no_tail, dotted, place_of}
use Rattle.base.specs.DataMeasures.{size_of, size_inside, sizes_of, size_of_tail}
use Rattle.base.specs.DataNames.{symbol_text, text_of}
use Rattle.lang_derived.specs.Asked.{is_text, is_word, is_symbol, list_items}
use Rattle.front_profile.specs.Names.{same_symbol}
use Rattle.front_profile.specs.Shapes.{symbol_of, name_of}
use Rattle.lang_renamed.specs.Renaming.{name_by, symbol_by, item_by, content_by, items_by, tail_by}
use Rattle.front_laws.specs.Renaming.{Renames}
use Rattle.front_laws.proofs.RenamedTables.{data_by}
use Rattle.lang_renamed.proofs.Lists.{both}

module _ (r : ℕ → ℕ) where
  pub place_by : (d : Item) → place_of (item_by r d) ≡ place_of d
  place_by (item p c) = refl

  pub symbol_of_by : (d : Item) → symbol_of (item_by r d) ≡ option_map (symbol_by r) (symbol_of d)
  symbol_of_by (item p (integer n)) = refl
  symbol_of_by (item p (character c)) = refl
  symbol_of_by (item p (symbol x)) = refl
  symbol_of_by (item p (string bytes)) = refl
  symbol_of_by (item p (vector ds)) = refl
  symbol_of_by (item p nil) = refl
  symbol_of_by (item p (list ds t)) = refl

  pub name_of_by : (x : Symbol) → name_of (symbol_by r x) ≡ option_map (name_by r) (name_of x)
  name_of_by (Named n) = refl
  name_of_by (Fresh e s) = refl

  pub is_symbol_by : (d : Item) → is_symbol (item_by r d) ≡ is_symbol d
  is_symbol_by (item p (integer n)) = refl
  is_symbol_by (item p (character c)) = refl
  is_symbol_by (item p (symbol x)) = refl
  is_symbol_by (item p (string bytes)) = refl
  is_symbol_by (item p (vector ds)) = refl
  is_symbol_by (item p nil) = refl
  is_symbol_by (item p (list ds t)) = refl

  pub listed_by : (ds : Items) → items_list (items_by r ds) ≡ data_by r (items_list ds)
  listed_by no_item = refl
  listed_by (item_and d ds) = ap (λ es. item_by r d ∷ es) (listed_by ds)

  pub items_of_by : (ds : List Item) → items_of (data_by r ds) ≡ items_by r (items_of ds)
  items_of_by [] = refl
  items_of_by (d ∷ ds) = ap (λ es. item_and (item_by r d) es) (items_of_by ds)

  pub list_items_by : (d : Item) → list_items (item_by r d) ≡ option_map (data_by r) (list_items d)
  list_items_by (item p (integer n)) = refl
  list_items_by (item p (character c)) = refl
  list_items_by (item p (symbol x)) = refl
  list_items_by (item p (string bytes)) = refl
  list_items_by (item p (vector ds)) = refl
  list_items_by (item p nil) = refl
  list_items_by (item p (list ds no_tail)) = ap (λ es. Some es) (listed_by ds)
  list_items_by (item p (list ds (dotted d))) = refl

  mutual
    unfolding size_of

    pub size_by : (d : Item) → size_of (item_by r d) ≡ size_of d
    size_by (item p c) = ap (λ (n : ℕ). 1 + n) (inside_size_by c)

    inside_size_by : (c : Content) → size_inside (content_by r c) ≡ size_inside c
    inside_size_by (integer n) = refl
    inside_size_by (character c) = refl
    inside_size_by (symbol x) = refl
    inside_size_by (string bytes) = refl
    inside_size_by (vector ds) = sizes_by ds
    inside_size_by nil = refl
    inside_size_by (list ds t) = both (λ (m n : ℕ). m + n) _ _ _ _ (sizes_by ds) (tail_size_by t)

    sizes_by : (ds : Items) → sizes_of (items_by r ds) ≡ sizes_of ds
    sizes_by no_item = refl
    sizes_by (item_and d ds) = both (λ (m n : ℕ). m + n) _ _ _ _ (size_by d) (sizes_by ds)

    tail_size_by : (t : Tail) → size_of_tail (tail_by r t) ≡ size_of_tail t
    tail_size_by no_tail = refl
    tail_size_by (dotted d) = size_by d

module _ (r : ℕ → ℕ) (old new : List (List ℕ)) (w : Renames r old new) where
  pub same_number : (m n : ℕ) → (r m == r n) ≡ (m == n)
  same_number m n =
      ⊎_elim
      (λ y. eq-eqb (r m) (r n) (ap r y.1) ∙ sym y.0)
      (λ z. ⊎_elim (λ y. absurd (z.1 (w.once m n y.1))) (λ y. y.0 ∙ sym z.0) (eqb_tells (r m) (r n)))
      (eqb_tells m n)

  pub symbol_text_by : (x : Symbol) → symbol_text new (symbol_by r x) ≡ symbol_text old x
  symbol_text_by (Named n) = w.texts n.0
  symbol_text_by (Fresh e s) = refl

  pub text_of_by : (d : Item) → text_of new (item_by r d) ≡ text_of old d
  text_of_by (item p (integer n)) = refl
  text_of_by (item p (character c)) = refl
  text_of_by (item p (symbol x)) = symbol_text_by x
  text_of_by (item p (string bytes)) = refl
  text_of_by (item p (vector ds)) = refl
  text_of_by (item p nil) = refl
  text_of_by (item p (list ds t)) = refl

  pub word_by : (text : List ℕ) (d : Item) → is_word new text (item_by r d) ≡ is_word old text d
  word_by text d = ap (is_text text) (text_of_by d)

  pub same_symbol_by : (x y : Symbol) → same_symbol (symbol_by r x) (symbol_by r y) ≡ same_symbol x y
  same_symbol_by (Named m) (Named n) = same_number m.0 n.0
  same_symbol_by (Named m) (Fresh e s) = refl
  same_symbol_by (Fresh e s) (Named n) = refl
  same_symbol_by (Fresh e s) (Fresh f t) = refl
