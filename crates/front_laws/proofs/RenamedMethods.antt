-- The rows of definitions of generic functions and methods, for renamed data and tables.
use Rattle.std.specs.Prelude.{◌≡◌, ℕ, ◌+◌, ◌==◌, nat_le, Bool, not, ◌&&◌, List, [], ◌∷◌, ◌++◌, Option, Some, None, length, is_some, map, option_map, slice_get, codes, refl}
use Rattle.std.specs.List.{list_any}
use Rattle.std.proofs.Common.{ap, ◌∙◌}
use Rattle.base.specs.declared.place.Place.{Place}
use Rattle.base.specs.declared.datum.Name.{Name}
use Rattle.base.specs.declared.datum.Symbol.{Symbol}
use Rattle.base.specs.declared.datum.Symbol.TheVariants.{Named, Fresh}
use Rattle.base.specs.declared.reason.Reason.TheVariants.{NotTopLevel, ReservedName, LeftOut, BadMethod, BadBinding}
use Rattle.base.specs.Data.{Item, item, symbol}
use Rattle.base.specs.DataNames.{symbol_text}
use Rattle.lang_meaning.specs.declared.program.ClassRow.{ClassRow}
use Rattle.lang_meaning.specs.declared.program.GenericRow.{GenericRow}
use Rattle.lang_meaning.specs.declared.program.Qualifier.{Qualifier}
use Rattle.lang_meaning.specs.declared.program.Qualifier.TheVariants.{Around as AroundMethod}
use Rattle.lang_derived.specs.Asked.{list_items, is_word, setf_text}
use Rattle.lang_dispatch.specs.Methods.{new_row, same_truth}
use Rattle.front_profile.specs.declared.parameters.Parameters.{Parameters}
use Rattle.front_profile.specs.declared.tables.ReservedWords.{ReservedWords}
use Rattle.front_profile.specs.declared.tables.Tables.{Tables}
use Rattle.front_profile.specs.declared.elaboration.MethodHead.{MethodHead}
use Rattle.front_profile.specs.declared.elaboration.Taker.{Taker}
use Rattle.front_profile.specs.declared.elaboration.Taker.TheVariants.{New, There}
use Rattle.front_profile.specs.declared.elaboration.Elaboration.TheVariants.{OfMethods}
use Rattle.front_profile.specs.Nodes.{StaticContext, Part, wrong, offends, whole}
use Rattle.front_profile.specs.Shapes.{parameters_in, parameter_in, symbol_of, is_rest_word, behind_rest, with_required, all_symbols, all_differ}
use Rattle.front_profile.specs.RowWords.{bad_shape}
use Rattle.front_profile.specs.Elaborations.{generic_named}
use Rattle.front_profile.specs.DefiningRows.{is_reserved, with_name}
use Rattle.front_profile.specs.GivenNames.{GivenName, no_name, unfit, lacking, given, number_of, in_table, longest_set, setter_of_text, setter_of_symbol, setter_in, named_by, given_name}
use Rattle.front_profile.specs.MethodShapes.{Asked, any_object, of_class, Specialised, Taken, asked_by, taken, taken_in, taken_by, without_classes, maybe_parameters, with_taken, specialised_of, where_they_differ, specialised_of_items, specialised_in, is_fresh, has_fresh_class, some_fresh_class, number_and, class_asked, classes_asked, unless_known, first_unknown, WrittenMethod, qualifier_of, written, method_in}
use Rattle.front_profile.specs.GenericRows.{head_with, head_of, fits_by_number, is_there, fits, method_function, unless_unknown, specialised_parts, method_parts, heads_of, written_head, written_heads, name_datum, methods_of, kept_by, keeps, GenericOption, no_option, left_out, standard, of_method, method_option, is_standard, is_left_out_option, option_of, options_of, is_no_option, is_of_left_out, methods_among, with_head, all_fit, generic_row, each_method, all_heads, generic_with, generic_checked, generic_of, generic_named_as, defgeneric_row, takes_methods, is_closed, method_for, method_of, method_named_as, method_as, defmethod_row}
use Rattle.lang_renamed.specs.Renaming.{name_by, symbol_by, item_by, class_by, generic_by, procedure_by}
use Rattle.front_laws.specs.Renaming.{Renames}
use Rattle.front_laws.proofs.RenamedTables.{data_by, words_by, context_by, tables_by, parameters_by, parts_by, taker_by, node_by}
use Rattle.lang_renamed.proofs.Lists.{both, three, if_by, if_same, and_same, or_same, any_by, length_by, get_by, map_by}
use Rattle.front_laws.proofs.RenamedData.{place_by, symbol_of_by, list_items_by, same_number, symbol_text_by, word_by}
use Rattle.front_laws.proofs.RenamedTexts.{FindsNames}
use Rattle.front_laws.proofs.RenamedShapes.{only_by, with_required_by, parameter_in_by, behind_rest_by, rest_word_by, all_symbols_by, all_differ_by, parameters_in_by}
use Rattle.front_laws.proofs.RenamedNodes.{some_same, within_by, bad_binding_by, both_parts, with_name_by, named_form_by}
use Rattle.front_laws.proofs.RenamedForms.{class_named_by}
use Rattle.front_laws.proofs.RenamedBinders.{defining_by, is_taken_by, reserved_by}

module _ (r : ℕ → ℕ) where
  abbrev pub given_by : GivenName → GivenName
  given_by no_name = no_name
  given_by unfit = unfit
  given_by lacking = lacking
  given_by (given n) = given (name_by r n)

  abbrev pub asked_in_by : Asked → Asked
  asked_in_by any_object = any_object
  asked_in_by (of_class n p) = of_class (name_by r n) p

  abbrev pub specialised_by : Specialised → Specialised
  specialised_by m = record { parameters = parameters_by r m.parameters; classes = map asked_in_by m.classes }

  abbrev pub taken_one_by : Taken → Taken
  taken_one_by t = record { variable = symbol_by r t.variable; class = asked_in_by t.class }

  abbrev pub method_by : WrittenMethod → WrittenMethod
  method_by m = record { qualifier = m.qualifier; list = item_by r m.list; body = data_by r m.body }

  abbrev pub option_by : GenericOption → GenericOption
  option_by no_option = no_option
  option_by left_out = left_out
  option_by standard = standard
  option_by (of_method m) = of_method (method_by m)

module _ (r : ℕ → ℕ) (old new : List (List ℕ)) (w : Renames r old new) (table : FindsNames r old new) where
  -- ---- names of generic functions

  in_table_by : (o : Option ℕ) → in_table (option_map r o) ≡ given_by r (in_table o)
  in_table_by None = refl
  in_table_by (Some n) = refl

  pub setter_of_text_by : (text : Option (List ℕ)) → setter_of_text new text ≡ given_by r (setter_of_text old text)
  setter_of_text_by None = refl
  setter_of_text_by (Some text) =
      if_by (given_by r) (nat_le (length text) longest_set) (nat_le (length text) longest_set) _ _ _ unfit refl
      (ap in_table (table (setf_text text)) ∙ in_table_by (number_of old (setf_text text))) refl

  setter_of_symbol_by : (x : Option Symbol) → setter_of_symbol new (option_map (symbol_by r) x) ≡ given_by r (setter_of_symbol old x)
  setter_of_symbol_by None = refl
  setter_of_symbol_by (Some x) = ap (setter_of_text new) (symbol_text_by r old new w x) ∙ setter_of_text_by (symbol_text old x)

  setter_in_by : (ds : Option (List Item)) → setter_in new (option_map (data_by r) ds) ≡ given_by r (setter_in old ds)
  setter_in_by None = refl
  setter_in_by (Some []) = refl
  setter_in_by (Some (h ∷ [])) = refl
  setter_in_by (Some (h ∷ d ∷ [])) =
      if_by (given_by r) _ (is_word old (codes "setf") h) _ _ _ no_name (word_by r old new w (codes "setf") h)
      (ap (setter_of_symbol new) (symbol_of_by r d) ∙ setter_of_symbol_by (symbol_of d)) refl
  setter_in_by (Some (h ∷ d ∷ e ∷ ds)) = refl

  named_by_by : (d : Item) (x : Option Symbol) → named_by new (item_by r d) (option_map (symbol_by r) x) ≡ given_by r (named_by old d x)
  named_by_by d None = ap (setter_in new) (list_items_by r d) ∙ setter_in_by (list_items d)
  named_by_by d (Some (Named n)) = refl
  named_by_by d (Some (Fresh e s)) = refl

  pub given_name_by : (d : Item) → given_name new (item_by r d) ≡ given_by r (given_name old d)
  given_name_by d = ap (named_by new (item_by r d)) (symbol_of_by r d) ∙ named_by_by d (symbol_of d)

  -- ---- parameters with classes

  asked_by_by : (d : Item) (x : Option Symbol) → asked_by (item_by r d) (option_map (symbol_by r) x) ≡ option_map (asked_in_by r) (asked_by d x)
  asked_by_by d None = refl
  asked_by_by d (Some (Named n)) = ap (λ p. Some (of_class (name_by r n) p)) (place_by r d)
  asked_by_by d (Some (Fresh e s)) = refl

  taken_with : (x : Option Symbol) (c : Option Asked) → taken (option_map (symbol_by r) x) (option_map (asked_in_by r) c) ≡ option_map (taken_one_by r) (taken x c)
  taken_with None c = refl
  taken_with (Some x) None = refl
  taken_with (Some x) (Some c) = refl

  taken_in_by : (ws : ReservedWords) (ds : Option (List Item)) → taken_in (words_by r ws) (option_map (data_by r) ds) ≡ option_map (taken_one_by r) (taken_in ws ds)
  taken_in_by ws None = refl
  taken_in_by ws (Some []) = refl
  taken_in_by ws (Some (d ∷ [])) = refl
  taken_in_by ws (Some (d ∷ c ∷ [])) =
      both taken _ _ _ _ (ap (parameter_in (words_by r ws)) (symbol_of_by r d) ∙ parameter_in_by r old new w ws (symbol_of d))
      (ap (asked_by (item_by r c)) (symbol_of_by r c) ∙ asked_by_by c (symbol_of c))
      ∙ taken_with (parameter_in ws (symbol_of d)) (asked_by c (symbol_of c))
  taken_in_by ws (Some (d ∷ c ∷ e ∷ ds)) = refl

  taken_by_by : (ws : ReservedWords) (d : Item) (x : Option Symbol) → taken_by (words_by r ws) (item_by r d) (option_map (symbol_by r) x) ≡ option_map (taken_one_by r) (taken_by ws d x)
  taken_by_by ws d None = ap (taken_in (words_by r ws)) (list_items_by r d) ∙ taken_in_by ws (list_items d)
  taken_by_by ws d (Some x) = ap (λ y. taken y (Some any_object)) (parameter_in_by r old new w ws (Some x)) ∙ taken_with (parameter_in ws (Some x)) (Some any_object)

  without_by : (ps : Option Parameters) → without_classes (option_map (parameters_by r) ps) ≡ option_map (specialised_by r) (without_classes ps)
  without_by None = refl
  without_by (Some ps) = refl

  maybe_by : (ps : Option Parameters) (cs : List Asked) → maybe_parameters (option_map (parameters_by r) ps) (map (asked_in_by r) cs) ≡ option_map (specialised_by r) (maybe_parameters ps cs)
  maybe_by None cs = refl
  maybe_by (Some ps) cs = refl

  with_taken_by : (t : Option Taken) (more : Option Specialised) →
      with_taken (option_map (taken_one_by r) t) (option_map (specialised_by r) more) ≡ option_map (specialised_by r) (with_taken t more)
  with_taken_by None more = refl
  with_taken_by (Some t) None = refl
  with_taken_by (Some t) (Some more) =
      ap (λ ps. maybe_parameters ps (asked_in_by r t.class ∷ map (asked_in_by r) more.classes)) (with_required_by r old new w t.variable (Some more.parameters))
      ∙ maybe_by (with_required t.variable (Some more.parameters)) (t.class ∷ more.classes)

  specialised_of_by : (ws : ReservedWords) (ds : List Item) → specialised_of (words_by r ws) (data_by r ds) ≡ option_map (specialised_by r) (specialised_of ws ds)
  specialised_of_by ws [] = refl
  specialised_of_by ws (d ∷ ds) =
      if_by (option_map (specialised_by r)) _ (is_rest_word ws (symbol_of d)) _ _ _ _ (rest_word_by r old new w ws d)
      (ap without_classes (behind_rest_by r old new w ws ds) ∙ without_by (behind_rest ws ds))
      (both with_taken _ _ _ _ (ap (taken_by (words_by r ws) (item_by r d)) (symbol_of_by r d) ∙ taken_by_by ws d (symbol_of d)) (specialised_of_by ws ds)
      ∙ with_taken_by (taken_by ws d (symbol_of d)) (specialised_of ws ds))

  where_by : (m : Option Specialised) → where_they_differ (option_map (specialised_by r) m) ≡ option_map (specialised_by r) (where_they_differ m)
  where_by None = refl
  where_by (Some m) = only_by (specialised_by r) _ _ m (ap all_differ (all_symbols_by r old new w m.parameters) ∙ all_differ_by r old new w (all_symbols m.parameters))

  specialised_items_by : (ws : ReservedWords) (ds : Option (List Item)) →
      specialised_of_items (words_by r ws) (option_map (data_by r) ds) ≡ option_map (specialised_by r) (specialised_of_items ws ds)
  specialised_items_by ws None = refl
  specialised_items_by ws (Some ds) = ap where_they_differ (specialised_of_by ws ds) ∙ where_by (specialised_of ws ds)

  specialised_in_by : (ws : ReservedWords) (d : Item) → specialised_in (words_by r ws) (item_by r d) ≡ option_map (specialised_by r) (specialised_in ws d)
  specialised_in_by ws d = ap (specialised_of_items (words_by r ws)) (list_items_by r d) ∙ specialised_items_by ws (list_items d)

  is_fresh_by : (x : Option Symbol) → is_fresh (option_map (symbol_by r) x) ≡ is_fresh x
  is_fresh_by None = refl
  is_fresh_by (Some (Named n)) = refl
  is_fresh_by (Some (Fresh e s)) = refl

  has_fresh_by : (ds : Option (List Item)) → has_fresh_class (option_map (data_by r) ds) ≡ has_fresh_class ds
  has_fresh_by None = refl
  has_fresh_by (Some []) = refl
  has_fresh_by (Some (d ∷ [])) = refl
  has_fresh_by (Some (d ∷ c ∷ [])) = ap is_fresh (symbol_of_by r c) ∙ is_fresh_by (symbol_of c)
  has_fresh_by (Some (d ∷ c ∷ e ∷ ds)) = refl

  some_fresh_of : (ds : Option (List Item)) → some_fresh_class (option_map (data_by r) ds) ≡ some_fresh_class ds
  some_fresh_of None = refl
  some_fresh_of (Some ds) =
      any_by (item_by r) (λ d. has_fresh_class (list_items d)) (λ d. has_fresh_class (list_items d)) (λ d. ap has_fresh_class (list_items_by r d) ∙ has_fresh_by (list_items d)) ds

  some_fresh_by : (d : Item) → some_fresh_class (list_items (item_by r d)) ≡ some_fresh_class (list_items d)
  some_fresh_by d = ap some_fresh_class (list_items_by r d) ∙ some_fresh_of (list_items d)

  class_asked_by : (rows : List ClassRow) (c : Asked) → class_asked (map (class_by r) rows) (asked_in_by r c) ≡ class_asked rows c
  class_asked_by rows any_object = refl
  class_asked_by rows (of_class n p) = class_named_by r old new w rows n

  classes_asked_by : (rows : List ClassRow) (cs : List Asked) → classes_asked (map (class_by r) rows) (map (asked_in_by r) cs) ≡ classes_asked rows cs
  classes_asked_by rows [] = refl
  classes_asked_by rows (c ∷ cs) = both number_and _ _ _ _ (class_asked_by rows c) (classes_asked_by rows cs)

  first_unknown_by : (rows : List ClassRow) (cs : List Asked) → first_unknown (map (class_by r) rows) (map (asked_in_by r) cs) ≡ first_unknown rows cs
  first_unknown_by rows [] = refl
  first_unknown_by rows (any_object ∷ cs) = first_unknown_by rows cs
  first_unknown_by rows (of_class n p ∷ cs) = both (unless_known p) _ _ _ _ (class_named_by r old new w rows n) (first_unknown_by rows cs)

  -- ---- methods as they are written

  qualifier_by : (d : Item) → qualifier_of new (item_by r d) ≡ qualifier_of old d
  qualifier_by d =
      if_same _ _ _ _ _ _ (word_by r old new w (codes ":before") d) refl
      (if_same _ _ _ _ _ _ (word_by r old new w (codes ":after") d) refl
      (if_same _ _ (Some AroundMethod) None (Some AroundMethod) None (word_by r old new w (codes ":around") d) refl refl))

  written_by_symbol : (d : Item) (x : Option Symbol) (l : Item) (fs : List Item) →
      written new (item_by r d) (option_map (symbol_by r) x) (item_by r l) (data_by r fs) ≡ method_by r (written old d x l fs)
  written_by_symbol d None l fs = refl
  written_by_symbol d (Some x) l fs = ap (λ (q : Option Qualifier). record { qualifier = q; list = item_by r l; body = data_by r fs }) (qualifier_by d)

  method_in_by : (ds : List Item) → method_in new (data_by r ds) ≡ option_map (method_by r) (method_in old ds)
  method_in_by [] = refl
  method_in_by (d ∷ []) = refl
  method_in_by (d ∷ l ∷ fs) =
      ap (λ m. Some m) (ap (λ x. written new (item_by r d) x (item_by r l) (data_by r fs)) (symbol_of_by r d) ∙ written_by_symbol d (symbol_of d) l fs)

  -- ---- methods as they are judged

  head_of_by : (s : Tables) (q : Option Qualifier) (ps : Option Specialised) → head_of (tables_by r s) q (option_map (specialised_by r) ps) ≡ head_of s q ps
  head_of_by s None ps = refl
  head_of_by s (Some q) None = refl
  head_of_by s (Some q) (Some ps) = ap (head_with q) (classes_asked_by s.classes.rows ps.classes)

  written_head_by : (s : Tables) (m : WrittenMethod) → written_head (tables_by r s) (method_by r m) ≡ written_head s m
  written_head_by s m = ap (head_of (tables_by r s) m.qualifier) (specialised_in_by s.words m.list) ∙ head_of_by s m.qualifier (specialised_in s.words m.list)

  by_number : (g : GenericRow) (ps : Option Specialised) → fits_by_number (generic_by r g) (option_map (specialised_by r) ps) ≡ fits_by_number g ps
  by_number g None = refl
  by_number g (Some ps) =
      and_same _ _ _ _ (ap (λ (n : ℕ). n == g.required) (length_by (asked_in_by r) ps.classes)) (ap (λ b. same_truth b g.rest) (some_same (symbol_by r) ps.parameters.rest))

  is_there_by : (g : GenericRow) (h : Option MethodHead) → is_there (generic_by r g) h ≡ is_there g h
  is_there_by g None = refl
  is_there_by g (Some h) = refl

  fits_same : (s : Tables) (g : Option GenericRow) (m : WrittenMethod) → fits (tables_by r s) (option_map (generic_by r) g) (method_by r m) ≡ fits s g m
  fits_same s None m = refl
  fits_same s (Some g) m =
      both (λ (b c : Bool). is_some m.qualifier && b && not c) _ _ _ _
      (ap (fits_by_number (generic_by r g)) (specialised_in_by s.words m.list) ∙ by_number g (specialised_in s.words m.list))
      (ap (is_there (generic_by r g)) (written_head_by s m) ∙ is_there_by g (written_head s m))

  -- ---- the parts of a method

  method_function_by : (n : Name) (q : Option Qualifier) (ps : Parameters) (fs : List Item) →
      method_function (name_by r n) q (parameters_by r ps) (data_by r fs) ≡ parts_by r (method_function n q ps fs)
  method_function_by n None ps fs = refl
  method_function_by n (Some q) ps fs = refl

  pub unknown_parts_by : (p : Option Place) (ys xs : List Part) → ys ≡ parts_by r xs → unless_unknown p ys ≡ parts_by r (unless_unknown p xs)
  unknown_parts_by None ys xs e = e
  unknown_parts_by (Some p) ys xs e = refl

  specialised_parts_by : (s : Tables) (n : Name) (m : WrittenMethod) (ps : Option Specialised) →
      specialised_parts (tables_by r s) (name_by r n) (method_by r m) (option_map (specialised_by r) ps) ≡ parts_by r (specialised_parts s n m ps)
  specialised_parts_by s n m None = ap (λ (p : Place). wrong p BadBinding ∷ []) (place_by r m.list)
  specialised_parts_by s n m (Some ps) =
      ap (λ p. unless_unknown p (method_function (name_by r n) m.qualifier (parameters_by r ps.parameters) (data_by r m.body))) (first_unknown_by s.classes.rows ps.classes)
      ∙ unknown_parts_by (first_unknown s.classes.rows ps.classes) _ (method_function n m.qualifier ps.parameters m.body) (method_function_by n m.qualifier ps.parameters m.body)

  method_parts_by : (s : Tables) (n : Name) (m : WrittenMethod) → method_parts (tables_by r s) (name_by r n) (method_by r m) ≡ parts_by r (method_parts s n m)
  method_parts_by s n m =
      ap (specialised_parts (tables_by r s) (name_by r n) (method_by r m)) (specialised_in_by s.words m.list) ∙ specialised_parts_by s n m (specialised_in s.words m.list)

  written_heads_by : (s : Tables) (m : WrittenMethod) → written_heads (tables_by r s) (method_by r m) ≡ written_heads s m
  written_heads_by s m = ap heads_of (written_head_by s m)

  name_datum_by : (d : Item) (n : Name) → name_datum (item_by r d) (name_by r n) ≡ item_by r (name_datum d n)
  name_datum_by d n = ap (λ p. item p (symbol (Named (name_by r n)))) (place_by r d)

  methods_of_by : (a : StaticContext) (s : Tables) (d : Item) (n : Name) (t : Taker) (ys xs : List Part) (hs ks : List MethodHead) → ys ≡ parts_by r xs → hs ≡ ks →
      methods_of (context_by r a) (tables_by r s) (item_by r d) (name_by r n) (taker_by r t) ys hs ≡ node_by r (methods_of a s d n t xs ks)
  methods_of_by a s d n t ys xs hs ks e f =
      both (λ zs js. methods_of (context_by r a) (tables_by r s) (item_by r d) (name_by r n) (taker_by r t) zs js) _ _ _ _ e f
      ∙ three (λ u (i : ℕ) l. whole (context_by r a) (context_by r a) u (parts_by r xs) (record { site = None; making = OfMethods (taker_by r t) ks i a.spot.sited l })) _ _ _ _ _ _
      (ap (λ x. with_name a.spot.sited x (tables_by r s)) (name_datum_by d n) ∙ with_name_by r a.spot.sited (name_datum d n) s)
      (length_by (procedure_by r) s.procedures) (named_form_by r a.spot.sited s)

  pub keeps_by : (n : Name) → keeps new (name_by r n) ≡ keeps old n
  keeps_by n = ap kept_by (w.texts n.0)

  -- ---- options of defgeneric

  method_option_by : (m : Option WrittenMethod) → method_option (option_map (method_by r) m) ≡ option_by r (method_option m)
  method_option_by None = refl
  method_option_by (Some m) = if_by (option_by r) _ (some_fresh_class (list_items m.list)) _ _ no_option (of_method m) (some_fresh_by m.list) refl refl

  standard_by : (ds : List Item) → is_standard new (data_by r ds) ≡ is_standard old ds
  standard_by [] = refl
  standard_by (d ∷ []) = word_by r old new w (codes "standard") d
  standard_by (d ∷ e ∷ ds) = refl

  left_out_by : (h : Item) → is_left_out_option new (item_by r h) ≡ is_left_out_option old h
  left_out_by h = or_same _ _ _ _ (word_by r old new w (codes ":metaclass") h) (word_by r old new w (codes ":generic-function-class") h)

  option_of_by : (ds : Option (List Item)) → option_of new (option_map (data_by r) ds) ≡ option_by r (option_of old ds)
  option_of_by None = refl
  option_of_by (Some []) = refl
  option_of_by (Some (h ∷ ds)) =
      if_by (option_by r) _ (is_word old (codes ":method") h) _ _ _ _ (word_by r old new w (codes ":method") h)
      (ap method_option (method_in_by ds) ∙ method_option_by (method_in old ds))
      (if_by (option_by r) _ (is_left_out_option old h) _ _ left_out _ (left_out_by h) refl
      (if_by (option_by r) _ (is_word old (codes ":method-combination") h) _ _ _ no_option (word_by r old new w (codes ":method-combination") h)
      (if_by (option_by r) _ (is_standard old ds) _ _ standard left_out (standard_by ds) refl refl) refl))

  options_of_by : (ds : List Item) → options_of new (data_by r ds) ≡ map (option_by r) (options_of old ds)
  options_of_by ds =
      map_by (item_by r) (option_by r) (λ d. option_of new (list_items d)) (λ d. option_of old (list_items d)) (λ d. ap (option_of new) (list_items_by r d) ∙ option_of_by (list_items d)) ds

  no_option_by : (o : GenericOption) → is_no_option (option_by r o) ≡ is_no_option o
  no_option_by no_option = refl
  no_option_by left_out = refl
  no_option_by standard = refl
  no_option_by (of_method m) = refl

  of_left_out_by : (o : GenericOption) → is_of_left_out (option_by r o) ≡ is_of_left_out o
  of_left_out_by no_option = refl
  of_left_out_by left_out = refl
  of_left_out_by standard = refl
  of_left_out_by (of_method m) = refl

  among_by : (os : List GenericOption) → methods_among (map (option_by r) os) ≡ map (method_by r) (methods_among os)
  among_by [] = refl
  among_by (no_option ∷ os) = among_by os
  among_by (left_out ∷ os) = among_by os
  among_by (standard ∷ os) = among_by os
  among_by (of_method m ∷ os) = ap (λ ms. method_by r m ∷ ms) (among_by os)

  with_head_by : (g : Option GenericRow) (h : Option MethodHead) → with_head (option_map (generic_by r) g) h ≡ option_map (generic_by r) (with_head g h)
  with_head_by None h = refl
  with_head_by (Some g) None = refl
  with_head_by (Some g) (Some h) = refl

  all_fit_by : (s : Tables) (g : Option GenericRow) (ms : List WrittenMethod) → all_fit (tables_by r s) (option_map (generic_by r) g) (map (method_by r) ms) ≡ all_fit s g ms
  all_fit_by s g [] = refl
  all_fit_by s g (m ∷ ms) =
      and_same _ _ _ _ (fits_same s g m)
      (ap (λ k. all_fit (tables_by r s) k (map (method_by r) ms)) (ap (with_head (option_map (generic_by r) g)) (written_head_by s m) ∙ with_head_by g (written_head s m))
      ∙ all_fit_by s (with_head g (written_head s m)) ms)

  generic_row_by : (n : Name) (ps : Option Parameters) → generic_row (name_by r n) (option_map (parameters_by r) ps) ≡ option_map (generic_by r) (generic_row n ps)
  generic_row_by n None = refl
  generic_row_by n (Some ps) =
      both (λ (i : ℕ) (b : Bool). Some (new_row (name_by r n) i b)) _ _ _ _ (length_by (symbol_by r) ps.required) (some_same (symbol_by r) ps.rest)

  each_method_by : (s : Tables) (n : Name) (ms : List WrittenMethod) → each_method (tables_by r s) (name_by r n) (map (method_by r) ms) ≡ parts_by r (each_method s n ms)
  each_method_by s n [] = refl
  each_method_by s n (m ∷ ms) = both_parts r _ _ (method_parts s n m) (each_method s n ms) (method_parts_by s n m) (each_method_by s n ms)

  all_heads_by : (s : Tables) (ms : List WrittenMethod) → all_heads (tables_by r s) (map (method_by r) ms) ≡ all_heads s ms
  all_heads_by s [] = refl
  all_heads_by s (m ∷ ms) = both (λ (xs ys : List MethodHead). xs ++ ys) _ _ _ _ (written_heads_by s m) (all_heads_by s ms)

  -- ---- defgeneric

  generic_with_by : (a : StaticContext) (s : Tables) (d : Item) (n : Name) (l : Item) (ms : List WrittenMethod) (ps : Option Parameters) →
      generic_with (context_by r a) (tables_by r s) (item_by r d) (name_by r n) (item_by r l) (map (method_by r) ms) (option_map (parameters_by r) ps) ≡ node_by r (generic_with a s d n l ms ps)
  generic_with_by a s d n l ms None = bad_binding_by r l
  generic_with_by a s d n l ms (Some ps) =
      both (λ (i : ℕ) (b : Bool). methods_of (context_by r a) (tables_by r s) (item_by r d) (name_by r n) (New (name_by r n) i b) (each_method (tables_by r s) (name_by r n) (map (method_by r) ms))
      (all_heads (tables_by r s) (map (method_by r) ms))) _ _ _ _ (length_by (symbol_by r) ps.required) (some_same (symbol_by r) ps.rest)
      ∙ methods_of_by a s d n (New n (length ps.required) (is_some ps.rest)) _ (each_method s n ms) _ (all_heads s ms) (each_method_by s n ms) (all_heads_by s ms)

  checked_by : (a : StaticContext) (s : Tables) (p : Place) (d l : Item) (os : List GenericOption) (n : Name) →
      generic_checked (context_by r a) (tables_by r s) p (item_by r d) (item_by r l) (map (option_by r) os) (name_by r n) ≡ node_by r (generic_checked a s p d l os n)
  checked_by a s p d l os n =
      if_by (node_by r) _ (all_fit s (generic_row n (parameters_in s.words l)) (methods_among os)) _ _ _ (offends p BadMethod)
      (both (all_fit (tables_by r s)) _ _ _ _ (ap (generic_row (name_by r n)) (parameters_in_by r old new w s.words l) ∙ generic_row_by n (parameters_in s.words l)) (among_by os)
      ∙ all_fit_by s (generic_row n (parameters_in s.words l)) (methods_among os))
      (both (generic_with (context_by r a) (tables_by r s) (item_by r d) (name_by r n) (item_by r l)) _ _ _ _ (among_by os) (parameters_in_by r old new w s.words l)
      ∙ generic_with_by a s d n l (methods_among os) (parameters_in s.words l))
      refl

  generic_of_by : (a : StaticContext) (s : Tables) (p : Place) (d l : Item) (os : List GenericOption) (n : Name) →
      generic_of new (context_by r a) (tables_by r s) p (item_by r d) (item_by r l) (map (option_by r) os) (name_by r n) ≡ node_by r (generic_of old a s p d l os n)
  generic_of_by a s p d l os n =
      defining_by r old new w a p _ _ _ _ _ _ (is_taken_by r old new w a.spot.sited s n)
      (ap (λ k. is_reserved k (context_by r a) (tables_by r s) (name_by r n)) (keeps_by n) ∙ reserved_by r old new w (keeps old n) a s n)
      (if_by (node_by r) _ (list_any is_of_left_out os) _ _ (offends p LeftOut) _ (any_by (option_by r) is_of_left_out is_of_left_out of_left_out_by os) refl
      (within_by r 1 a p _ (generic_checked a s p d l os n) (checked_by a s p d l os n)))

  generic_named_by : (a : StaticContext) (s : Tables) (p : Place) (d l : Item) (os : List GenericOption) (x : GivenName) →
      generic_named_as new (context_by r a) (tables_by r s) p (item_by r d) (item_by r l) (map (option_by r) os) (given_by r x) ≡ node_by r (generic_named_as old a s p d l os x)
  generic_named_by a s p d l os no_name = refl
  generic_named_by a s p d l os unfit = refl
  generic_named_by a s p d l os lacking = refl
  generic_named_by a s p d l os (given n) = generic_of_by a s p d l os n

  pub defgeneric_by : (a : StaticContext) (s : Tables) (p : Place) (ds : List Item) → defgeneric_row new (context_by r a) (tables_by r s) p (data_by r ds) ≡ node_by r (defgeneric_row old a s p ds)
  defgeneric_by a s p [] = refl
  defgeneric_by a s p (d ∷ []) = refl
  defgeneric_by a s p (d ∷ l ∷ ds) =
      if_by (node_by r) _ (list_any is_no_option (options_of old ds)) _ _ (bad_shape p) _
      (ap (list_any is_no_option) (options_of_by ds) ∙ any_by (option_by r) is_no_option is_no_option no_option_by (options_of old ds)) refl
      (both (generic_named_as new (context_by r a) (tables_by r s) p (item_by r d) (item_by r l)) _ _ _ _ (options_of_by ds) (given_name_by d)
      ∙ generic_named_by a s p d l (options_of old ds) (given_name old d))

  -- ---- defmethod

  pub generic_of_name : (gs : List GenericRow) (n : Name) → generic_named (map (generic_by r) gs) (name_by r n) ≡ generic_named gs n
  generic_of_name [] n = refl
  generic_of_name (g ∷ gs) n = if_same _ _ _ _ _ _ (same_number r old new w n.0 g.name.0) refl (ap (λ o. option_map (λ (i : ℕ). i + 1) o) (generic_of_name gs n))

  takes_by : (d : Item) → takes_methods new (item_by r d) ≡ takes_methods old d
  takes_by d = or_same _ _ _ _ (word_by r old new w (codes "initialize-object") d) (word_by r old new w (codes "report-condition") d)

  closed_by : (a : StaticContext) (s : Tables) (d : Item) (n : Name) → is_closed new (context_by r a) (tables_by r s) (item_by r d) (name_by r n) ≡ is_closed old a s d n
  closed_by a s d n =
      and_same _ _ _ _ (ap (λ k. is_reserved k (context_by r a) (tables_by r s) (name_by r n)) (keeps_by n) ∙ reserved_by r old new w (keeps old n) a s n) (ap not (takes_by d))

  method_for_by : (a : StaticContext) (s : Tables) (p : Place) (d : Item) (n : Name) (m : WrittenMethod) (g : Option ℕ) →
      method_for (context_by r a) (tables_by r s) p (item_by r d) (name_by r n) (method_by r m) g ≡ node_by r (method_for a s p d n m g)
  method_for_by a s p d n m None = refl
  method_for_by a s p d n m (Some g) =
      if_by (node_by r) _ (fits s (slice_get s.generics g) m) _ _ _ (offends p BadMethod)
      (ap (λ k. fits (tables_by r s) k (method_by r m)) (get_by (generic_by r) s.generics g) ∙ fits_same s (slice_get s.generics g) m)
      (methods_of_by a s d n (There g) _ (method_parts s n m) _ (written_heads s m) (method_parts_by s n m) (written_heads_by s m))
      refl

  method_of_by : (a : StaticContext) (s : Tables) (p : Place) (d : Item) (m : WrittenMethod) (n : Name) →
      method_of new (context_by r a) (tables_by r s) p (item_by r d) (method_by r m) (name_by r n) ≡ node_by r (method_of old a s p d m n)
  method_of_by a s p d m n =
      if_by (node_by r) (not a.spot.top) (not a.spot.top) _ _ (offends p NotTopLevel) _ refl refl
      (if_by (node_by r) _ (is_closed old a s d n) _ _ (offends p ReservedName) _ (closed_by a s d n) refl
      (within_by r 1 a p _ (method_for a s p d n m (generic_named s.generics n))
      (ap (method_for (context_by r a) (tables_by r s) p (item_by r d) (name_by r n) (method_by r m)) (generic_of_name s.generics n) ∙ method_for_by a s p d n m (generic_named s.generics n))))

  method_named_by : (a : StaticContext) (s : Tables) (p : Place) (d : Item) (m : WrittenMethod) (x : GivenName) →
      method_named_as new (context_by r a) (tables_by r s) p (item_by r d) (method_by r m) (given_by r x) ≡ node_by r (method_named_as old a s p d m x)
  method_named_by a s p d m no_name = refl
  method_named_by a s p d m unfit = refl
  method_named_by a s p d m lacking = refl
  method_named_by a s p d m (given n) = method_of_by a s p d m n

  method_as_by : (a : StaticContext) (s : Tables) (p : Place) (d : Item) (m : Option WrittenMethod) →
      method_as new (context_by r a) (tables_by r s) p (item_by r d) (option_map (method_by r) m) ≡ node_by r (method_as old a s p d m)
  method_as_by a s p d None = refl
  method_as_by a s p d (Some m) =
      if_by (node_by r) _ (some_fresh_class (list_items m.list)) _ _ (bad_shape p) _ (some_fresh_by m.list) refl
      (ap (method_named_as new (context_by r a) (tables_by r s) p (item_by r d) (method_by r m)) (given_name_by d) ∙ method_named_by a s p d m (given_name old d))

  pub defmethod_by : (a : StaticContext) (s : Tables) (p : Place) (ds : List Item) → defmethod_row new (context_by r a) (tables_by r s) p (data_by r ds) ≡ node_by r (defmethod_row old a s p ds)
  defmethod_by a s p [] = refl
  defmethod_by a s p (d ∷ ds) = ap (method_as new (context_by r a) (tables_by r s) p (item_by r d)) (method_in_by ds) ∙ method_as_by a s p d (method_in old ds)
