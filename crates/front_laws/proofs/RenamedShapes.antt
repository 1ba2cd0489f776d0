-- What names are bound to, and the shapes of bindings, lambda lists, clauses and tags, for renamed data.
use Rattle.std.specs.Prelude.{◌≡◌, ℕ, ◌+◌, Bool, true, false, not, List, [], ◌∷◌, ◌++◌, Option, Some, None, map, option_map, refl}
use Rattle.std.specs.List.{filter_map, cons_option}
use Rattle.std.proofs.Common.{ap, sym, ◌∙◌}
use Rattle.std.proofs.lemmas.List.{map-append}
use Rattle.base.specs.declared.datum.Name.{Name}
use Rattle.base.specs.declared.datum.Symbol.{Symbol}
use Rattle.base.specs.declared.datum.Symbol.TheVariants.{Named, Fresh}
use Rattle.base.specs.Data.{Item}
use Rattle.lang_meaning.specs.declared.capture.Capture.{Capture}
use Rattle.lang_derived.specs.Asked.{list_items}
use Rattle.front_profile.specs.declared.bound.Bound.{Bound}
use Rattle.front_profile.specs.declared.bound.Bound.TheVariants.{Variable, Function, Block, Tags}
use Rattle.front_profile.specs.declared.parameters.Parameters.{Parameters}
use Rattle.front_profile.specs.declared.tables.ReservedWords.{ReservedWords}
use Rattle.front_profile.specs.Names.{same_symbol, given_by, as_variable, as_function, as_block, target_among, as_tag, or_first, innermost, variable_of, function_of, block_of, tag_of, variable_part, exit_part, method_part, parts_around}
use Rattle.front_profile.specs.Shapes.{symbol_of, is_name, is_true, is_rest, all_differ, only_if, variable_in, Pair, pair_named, pair_items, pair_in, pair_and, each_pair, names_of_pairs, where_names_differ, pairs_of_items, pairs_in, rest_alone, with_required, parameter_in, behind_rest, is_rest_word, maybe_required, parameters_of, symbols_of_rest, all_symbols, where_parameters_differ, parameters_of_items, parameters_in, ClauseParts, clause_of, clause_and_more, clauses_in, tags_in, form_unless, forms_in, before, lengths_in}
use Rattle.lang_renamed.specs.Renaming.{name_by, symbol_by, item_by}
use Rattle.front_laws.specs.Renaming.{Renames}
use Rattle.front_laws.proofs.RenamedTables.{data_by, bound_by, parameters_by, words_by}
use Rattle.lang_renamed.proofs.Lists.{both, if_by, if_same, and_same, or_same, any_by, map_by}
use Rattle.front_laws.proofs.RenamedData.{symbol_of_by, list_items_by, same_number, same_symbol_by}

pub only_by : {X Y : Type 0} (f : X → Y) (b c : Bool) (x : X) → b ≡ c → only_if b (f x) ≡ option_map f (only_if c x)
only_by f true true x e = refl
only_by f false false x e = refl
only_by f true false x e = absurd (cc)
only_by f false true x e = absurd (cc)

pub chosen_same : {X Y V : Type 0} (f : X → Y) (g : Y → Option V) (h : X → Option V) → ((x : X) → g (f x) ≡ h x) → (xs : List X) → filter_map g (map f xs) ≡ filter_map h xs
chosen_same f g h e [] = refl
chosen_same f g h e (x ∷ xs) = both (λ y ys. cons_option y ys) _ _ _ _ (e x) (chosen_same f g h e xs)

module _ (r : ℕ → ℕ) where
  abbrev pub pair_by : Pair → Pair
  pair_by q = record { name = symbol_by r q.name; datum = item_by r q.datum }

  abbrev pub pairs_by : List Pair → List Pair
  pairs_by qs = map pair_by qs

  abbrev pub clause_by : ClauseParts → ClauseParts
  clause_by c = record { test = item_by r c.test; body = data_by r c.body }

  abbrev pub clause_parts_by : List ClauseParts → List ClauseParts
  clause_parts_by cs = map clause_by cs

  abbrev pub symbols_by : List Symbol → List Symbol
  symbols_by xs = map (symbol_by r) xs

module _ (r : ℕ → ℕ) (old new : List (List ℕ)) (w : Renames r old new) where
  -- ---- what is bound

  given_same : (x y : Symbol) (n : ℕ) → given_by (symbol_by r x) (symbol_by r y) n ≡ given_by x y n
  given_same x y n = if_same _ _ _ _ _ _ (same_symbol_by r old new w x y) refl refl

  variable_same : (x : Symbol) (b : Bound) → as_variable (symbol_by r x) (bound_by r b) ≡ as_variable x b
  variable_same x (Variable y v) = given_same x y v
  variable_same x (Function y v) = refl
  variable_same x (Block y e) = refl
  variable_same x (Tags ys e) = refl

  function_same : (x : Symbol) (b : Bound) → as_function (symbol_by r x) (bound_by r b) ≡ as_function x b
  function_same x (Variable y v) = refl
  function_same x (Function y v) = given_same x y v
  function_same x (Block y e) = refl
  function_same x (Tags ys e) = refl

  block_same : (x : Symbol) (b : Bound) → as_block (symbol_by r x) (bound_by r b) ≡ as_block x b
  block_same x (Variable y v) = refl
  block_same x (Function y v) = refl
  block_same x (Block y e) = given_same x y e
  block_same x (Tags ys e) = refl

  target_same : (x : Symbol) (e n : ℕ) (ys : List Symbol) → target_among (symbol_by r x) e n (map (symbol_by r) ys) ≡ target_among x e n ys
  target_same x e n [] = refl
  target_same x e n (y ∷ ys) = if_same _ _ _ _ _ _ (same_symbol_by r old new w x y) refl (target_same x e (n + 1) ys)

  tag_same : (x : Symbol) (b : Bound) → as_tag (symbol_by r x) (bound_by r b) ≡ as_tag x b
  tag_same x (Variable y v) = refl
  tag_same x (Function y v) = refl
  tag_same x (Block y e) = refl
  tag_same x (Tags ys e) = target_same x e 1 ys

  innermost_same : {X : Type 0} (f g : Bound → Option X) → ((b : Bound) → f (bound_by r b) ≡ g b) → (bs : List Bound) → innermost f (map (bound_by r) bs) ≡ innermost g bs
  innermost_same f g e [] = refl
  innermost_same f g e (b ∷ bs) = both (λ x y. or_first x y) _ _ _ _ (innermost_same f g e bs) (e b)

  pub variable_of_by : (bs : List Bound) (x : Symbol) → variable_of (map (bound_by r) bs) (symbol_by r x) ≡ variable_of bs x
  variable_of_by bs x = innermost_same (as_variable (symbol_by r x)) (as_variable x) (variable_same x) bs

  pub function_of_by : (bs : List Bound) (x : Symbol) → function_of (map (bound_by r) bs) (symbol_by r x) ≡ function_of bs x
  function_of_by bs x = innermost_same (as_function (symbol_by r x)) (as_function x) (function_same x) bs

  pub block_of_by : (bs : List Bound) (x : Symbol) → block_of (map (bound_by r) bs) (symbol_by r x) ≡ block_of bs x
  block_of_by bs x = innermost_same (as_block (symbol_by r x)) (as_block x) (block_same x) bs

  pub tag_of_by : (bs : List Bound) (x : Symbol) → tag_of (map (bound_by r) bs) (symbol_by r x) ≡ tag_of bs x
  tag_of_by bs x = innermost_same (as_tag (symbol_by r x)) (as_tag x) (tag_same x) bs

  variable_part_by : (b : Bound) → variable_part (bound_by r b) ≡ variable_part b
  variable_part_by (Variable y v) = refl
  variable_part_by (Function y v) = refl
  variable_part_by (Block y e) = refl
  variable_part_by (Tags ys e) = refl

  exit_part_by : (b : Bound) → exit_part (bound_by r b) ≡ exit_part b
  exit_part_by (Variable y v) = refl
  exit_part_by (Function y v) = refl
  exit_part_by (Block y e) = refl
  exit_part_by (Tags ys e) = refl

  pub around_by : (bs : List Bound) (m : Bool) → parts_around (map (bound_by r) bs) m ≡ parts_around bs m
  around_by bs m =
      both (λ (xs ys : List Capture). xs ++ (ys ++ method_part m)) _ _ _ _
      (chosen_same (bound_by r) variable_part variable_part variable_part_by bs)
      (chosen_same (bound_by r) exit_part exit_part exit_part_by bs)

  -- ---- words

  pub is_name_by : (n : Name) (x : Symbol) → is_name (name_by r n) (symbol_by r x) ≡ is_name n x
  is_name_by n (Named m) = same_number r old new w n.0 m.0
  is_name_by n (Fresh e s) = refl

  pub is_true_by : (ws : ReservedWords) (x : Symbol) → is_true (words_by r ws) (symbol_by r x) ≡ is_true ws x
  is_true_by ws x = is_name_by ws.truth x

  is_rest_by : (ws : ReservedWords) (x : Symbol) → is_rest (words_by r ws) (symbol_by r x) ≡ is_rest ws x
  is_rest_by ws x = or_same _ _ _ _ (is_name_by ws.rest x) (is_name_by ws.and_rest x)

  pub all_differ_by : (xs : List Symbol) → all_differ (symbols_by r xs) ≡ all_differ xs
  all_differ_by [] = refl
  all_differ_by (x ∷ xs) =
      and_same _ _ _ _ (ap not (any_by (symbol_by r) (same_symbol (symbol_by r x)) (same_symbol x) (same_symbol_by r old new w x) xs)) (all_differ_by xs)

  variable_in_by : (ws : ReservedWords) (x : Option Symbol) → variable_in (words_by r ws) (option_map (symbol_by r) x) ≡ option_map (symbol_by r) (variable_in ws x)
  variable_in_by ws None = refl
  variable_in_by ws (Some x) = only_by (symbol_by r) _ _ x (ap not (is_true_by ws x))

  -- ---- bindings

  named_pair_by : (x : Option Symbol) (d : Item) → pair_named (option_map (symbol_by r) x) (item_by r d) ≡ option_map (pair_by r) (pair_named x d)
  named_pair_by None d = refl
  named_pair_by (Some x) d = refl

  pair_items_by : (ws : ReservedWords) (ds : Option (List Item)) → pair_items (words_by r ws) (option_map (data_by r) ds) ≡ option_map (pair_by r) (pair_items ws ds)
  pair_items_by ws None = refl
  pair_items_by ws (Some []) = refl
  pair_items_by ws (Some (d ∷ [])) = refl
  pair_items_by ws (Some (d ∷ e ∷ [])) =
      ap (λ x. pair_named (variable_in (words_by r ws) x) (item_by r e)) (symbol_of_by r d)
      ∙ ap (λ x. pair_named x (item_by r e)) (variable_in_by ws (symbol_of d)) ∙ named_pair_by (variable_in ws (symbol_of d)) e
  pair_items_by ws (Some (d ∷ e ∷ f ∷ ds)) = refl

  pair_and_by : (q : Option Pair) (qs : Option (List Pair)) → pair_and (option_map (pair_by r) q) (option_map (pairs_by r) qs) ≡ option_map (pairs_by r) (pair_and q qs)
  pair_and_by None qs = refl
  pair_and_by (Some q) None = refl
  pair_and_by (Some q) (Some qs) = refl

  each_pair_by : (ws : ReservedWords) (ds : List Item) → each_pair (words_by r ws) (data_by r ds) ≡ option_map (pairs_by r) (each_pair ws ds)
  each_pair_by ws [] = refl
  each_pair_by ws (d ∷ ds) =
      both pair_and _ _ _ _ (ap (pair_items (words_by r ws)) (list_items_by r d) ∙ pair_items_by ws (list_items d)) (each_pair_by ws ds)
      ∙ pair_and_by (pair_in ws d) (each_pair ws ds)

  names_of_pairs_by : (qs : List Pair) → names_of_pairs (pairs_by r qs) ≡ symbols_by r (names_of_pairs qs)
  names_of_pairs_by qs = map_by (pair_by r) (symbol_by r) (λ q. q.name) (λ q. q.name) (λ q. refl) qs

  where_names_by : (qs : Option (List Pair)) → where_names_differ (option_map (pairs_by r) qs) ≡ option_map (pairs_by r) (where_names_differ qs)
  where_names_by None = refl
  where_names_by (Some qs) = only_by (pairs_by r) _ _ qs (ap all_differ (names_of_pairs_by qs) ∙ all_differ_by (names_of_pairs qs))

  pairs_of_by : (ws : ReservedWords) (ds : Option (List Item)) → pairs_of_items (words_by r ws) (option_map (data_by r) ds) ≡ option_map (pairs_by r) (pairs_of_items ws ds)
  pairs_of_by ws None = refl
  pairs_of_by ws (Some ds) = ap where_names_differ (each_pair_by ws ds) ∙ where_names_by (each_pair ws ds)

  pub pairs_in_by : (ws : ReservedWords) (d : Item) → pairs_in (words_by r ws) (item_by r d) ≡ option_map (pairs_by r) (pairs_in ws d)
  pairs_in_by ws d = ap (pairs_of_items (words_by r ws)) (list_items_by r d) ∙ pairs_of_by ws (list_items d)

  -- ---- lambda lists

  rest_alone_by : (x : Option Symbol) → rest_alone (option_map (symbol_by r) x) ≡ option_map (parameters_by r) (rest_alone x)
  rest_alone_by None = refl
  rest_alone_by (Some x) = refl

  pub with_required_by : (x : Symbol) (ps : Option Parameters) → with_required (symbol_by r x) (option_map (parameters_by r) ps) ≡ option_map (parameters_by r) (with_required x ps)
  with_required_by x None = refl
  with_required_by x (Some ps) = refl

  pub parameter_in_by : (ws : ReservedWords) (x : Option Symbol) → parameter_in (words_by r ws) (option_map (symbol_by r) x) ≡ option_map (symbol_by r) (parameter_in ws x)
  parameter_in_by ws None = refl
  parameter_in_by ws (Some x) = only_by (symbol_by r) _ _ x (and_same _ _ _ _ (ap not (is_true_by ws x)) (ap not (is_rest_by ws x)))

  pub behind_rest_by : (ws : ReservedWords) (ds : List Item) → behind_rest (words_by r ws) (data_by r ds) ≡ option_map (parameters_by r) (behind_rest ws ds)
  behind_rest_by ws [] = refl
  behind_rest_by ws (d ∷ []) =
      ap (λ x. rest_alone (parameter_in (words_by r ws) x)) (symbol_of_by r d) ∙ ap rest_alone (parameter_in_by ws (symbol_of d)) ∙ rest_alone_by (parameter_in ws (symbol_of d))
  behind_rest_by ws (d ∷ e ∷ ds) = refl

  rest_word_of : (ws : ReservedWords) (x : Option Symbol) → is_rest_word (words_by r ws) (option_map (symbol_by r) x) ≡ is_rest_word ws x
  rest_word_of ws None = refl
  rest_word_of ws (Some x) = is_rest_by ws x

  pub rest_word_by : (ws : ReservedWords) (d : Item) → is_rest_word (words_by r ws) (symbol_of (item_by r d)) ≡ is_rest_word ws (symbol_of d)
  rest_word_by ws d = ap (is_rest_word (words_by r ws)) (symbol_of_by r d) ∙ rest_word_of ws (symbol_of d)

  maybe_required_by : (x : Option Symbol) (ps : Option Parameters) → maybe_required (option_map (symbol_by r) x) (option_map (parameters_by r) ps) ≡ option_map (parameters_by r) (maybe_required x ps)
  maybe_required_by None ps = refl
  maybe_required_by (Some x) ps = with_required_by x ps

  parameters_of_by : (ws : ReservedWords) (ds : List Item) → parameters_of (words_by r ws) (data_by r ds) ≡ option_map (parameters_by r) (parameters_of ws ds)
  parameters_of_by ws [] = refl
  parameters_of_by ws (d ∷ ds) =
      if_by (option_map (parameters_by r)) _ _ _ _ _ _ (rest_word_by ws d) (behind_rest_by ws ds)
      (both maybe_required _ _ _ _ (ap (parameter_in (words_by r ws)) (symbol_of_by r d) ∙ parameter_in_by ws (symbol_of d)) (parameters_of_by ws ds)
      ∙ maybe_required_by (parameter_in ws (symbol_of d)) (parameters_of ws ds))

  symbols_of_rest_by : (x : Option Symbol) → symbols_of_rest (option_map (symbol_by r) x) ≡ symbols_by r (symbols_of_rest x)
  symbols_of_rest_by None = refl
  symbols_of_rest_by (Some x) = refl

  pub all_symbols_by : (ps : Parameters) → all_symbols (parameters_by r ps) ≡ symbols_by r (all_symbols ps)
  all_symbols_by ps =
      ap (λ xs. map (symbol_by r) ps.required ++ xs) (symbols_of_rest_by ps.rest) ∙ sym (map-append (symbol_by r) ps.required (symbols_of_rest ps.rest))

  where_parameters_by : (ps : Option Parameters) → where_parameters_differ (option_map (parameters_by r) ps) ≡ option_map (parameters_by r) (where_parameters_differ ps)
  where_parameters_by None = refl
  where_parameters_by (Some ps) = only_by (parameters_by r) _ _ ps (ap all_differ (all_symbols_by ps) ∙ all_differ_by (all_symbols ps))

  parameters_of_items_by : (ws : ReservedWords) (ds : Option (List Item)) →
      parameters_of_items (words_by r ws) (option_map (data_by r) ds) ≡ option_map (parameters_by r) (parameters_of_items ws ds)
  parameters_of_items_by ws None = refl
  parameters_of_items_by ws (Some ds) = ap where_parameters_differ (parameters_of_by ws ds) ∙ where_parameters_by (parameters_of ws ds)

  pub parameters_in_by : (ws : ReservedWords) (d : Item) → parameters_in (words_by r ws) (item_by r d) ≡ option_map (parameters_by r) (parameters_in ws d)
  parameters_in_by ws d = ap (parameters_of_items (words_by r ws)) (list_items_by r d) ∙ parameters_of_items_by ws (list_items d)

  -- ---- clauses

  clause_of_by : (ds : Option (List Item)) → clause_of (option_map (data_by r) ds) ≡ option_map (clause_by r) (clause_of ds)
  clause_of_by None = refl
  clause_of_by (Some []) = refl
  clause_of_by (Some (d ∷ ds)) = refl

  clause_more_by : (c : Option ClauseParts) (cs : Option (List ClauseParts)) →
      clause_and_more (option_map (clause_by r) c) (option_map (clause_parts_by r) cs) ≡ option_map (clause_parts_by r) (clause_and_more c cs)
  clause_more_by None cs = refl
  clause_more_by (Some c) None = refl
  clause_more_by (Some c) (Some cs) = refl

  pub clauses_in_by : (ds : List Item) → clauses_in (data_by r ds) ≡ option_map (clause_parts_by r) (clauses_in ds)
  clauses_in_by [] = refl
  clauses_in_by (d ∷ ds) =
      both clause_and_more _ _ _ _ (ap clause_of (list_items_by r d) ∙ clause_of_by (list_items d)) (clauses_in_by ds)
      ∙ clause_more_by (clause_of (list_items d)) (clauses_in ds)

  -- ---- tags

  pub tags_in_by : (ds : List Item) → tags_in (data_by r ds) ≡ symbols_by r (tags_in ds)
  tags_in_by [] = refl
  tags_in_by (d ∷ ds) =
      both (λ (xs ys : List Symbol). xs ++ ys) _ _ _ _ (ap symbols_of_rest (symbol_of_by r d) ∙ symbols_of_rest_by (symbol_of d)) (tags_in_by ds)
      ∙ sym (map-append (symbol_by r) (symbols_of_rest (symbol_of d)) (tags_in ds))

  form_unless_by : (x : Option Symbol) (d : Item) → form_unless (option_map (symbol_by r) x) (item_by r d) ≡ data_by r (form_unless x d)
  form_unless_by None d = refl
  form_unless_by (Some x) d = refl

  pub forms_in_by : (ds : List Item) → forms_in (data_by r ds) ≡ data_by r (forms_in ds)
  forms_in_by [] = refl
  forms_in_by (d ∷ ds) =
      both (λ (xs ys : List Item). xs ++ ys) _ _ _ _ (ap (λ x. form_unless x (item_by r d)) (symbol_of_by r d) ∙ form_unless_by (symbol_of d) d) (forms_in_by ds)
      ∙ sym (map-append (item_by r) (form_unless (symbol_of d) d) (forms_in ds))

  before_by : (x : Option Symbol) (ns : List ℕ) → before (option_map (symbol_by r) x) ns ≡ before x ns
  before_by None ns = refl
  before_by (Some x) ns = refl

  pub lengths_in_by : (ds : List Item) → lengths_in (data_by r ds) ≡ lengths_in ds
  lengths_in_by [] = refl
  lengths_in_by (d ∷ ds) =
      both before _ _ _ _ (symbol_of_by r d) (lengths_in_by ds) ∙ before_by (symbol_of d) (lengths_in ds)
