-- Where all names of a program are in a table of so many, told form by form, each name that its rows, forms and data
-- have is below that number.
use Rattle.std.specs.Prelude.{ℕ, ◌<◌, List, [], ◌∷◌, ◌++◌, flat_map, Option, Some, None}
use Rattle.base.specs.AllOf.{AllOf, all_both}
use Rattle.base.specs.declared.datum.Name.{Name}
use Rattle.base.specs.declared.datum.Symbol.{Symbol}
use Rattle.base.specs.declared.datum.Symbol.TheVariants.{Named, Fresh}
use Rattle.base.specs.Data.{Item, item, Content, integer, character, symbol, string, vector, nil, list}
use Rattle.base.specs.Data.{Items, no_item, item_and, Tail, no_tail, dotted}
use Rattle.base.specs.DataMeasures.{SymbolBelow, NamesBelow, NamesBelowInside, AllNamesBelow, NamesBelowTail}
use Rattle.lang_meaning.specs.declared.program.LiteralRow.{LiteralRow}
use Rattle.lang_meaning.specs.declared.program.LiteralRow.TheVariants as row
use Rattle.lang_meaning.specs.declared.program.Procedure.{Procedure}
use Rattle.lang_meaning.specs.declared.program.FunctionRow.{FunctionRow}
use Rattle.lang_meaning.specs.declared.program.SlotRow.{SlotRow}
use Rattle.lang_meaning.specs.declared.program.ClassRow.{ClassRow}
use Rattle.lang_meaning.specs.declared.program.GenericRow.{GenericRow}
use Rattle.lang_meaning.specs.declared.program.ProgramRows.{ProgramRows}
use Rattle.lang_meaning.specs.Form.{Form, literal, local, set_local, global, set_global, def_global, clauses, sequence}
use Rattle.lang_meaning.specs.Form.{let_form, lambda, call, call_value, apply, prim, while_form, block, return_from}
use Rattle.lang_meaning.specs.Form.{tagbody, go, catch_form, throw, unwind, dynamic_let, dynamic, set_dynamic}
use Rattle.lang_meaning.specs.Form.{def_dynamic, with_handler, signal_form, continue_form, next_method, has_next, sited}
use Rattle.lang_meaning.specs.Form.{Forms, no_form, form_and, ClauseForms, no_clause, clause_and, no_body, with_body}
use Rattle.lang_meaning.specs.Form.{BindingForms, no_binding, binding_and, DynamicForms, no_dynamic, dynamic_and}
use Rattle.lang_meaning.specs.Subforms.{fold_forms, fold_clauses, fold_values, fold_dynamics}
use Rattle.lang_meaning.specs.Inside.{inside_step, inside_form}
use Rattle.lang_reached.proofs.Live.{all_front, all_back}
use Rattle.lang_renamed.specs.ProgramNames.{symbol_names, item_names, content_names, items_names, tail_names}
use Rattle.lang_renamed.specs.ProgramNames.{form_names, forms_names, clauses_names, bindings_names, dynamics_names}
use Rattle.lang_renamed.specs.ProgramNames.{literal_names, own_name, procedure_names, function_names, initarg_names}
use Rattle.lang_renamed.specs.ProgramNames.{slot_names, class_names, generic_names, program_names}
use Rattle.front_profile.specs.ProgramNames.{names_bound, own_names, NameIn, MaybeNameIn, FormNamesIn, LiteralNamesIn}
use Rattle.front_profile.specs.ProgramNames.{ProcedureNamesIn, SlotNamesIn, ClassNamesIn, NamesIn}

module _ (count : ℕ) where
  abbrev Stand : List ℕ → Type 0
  Stand ns = AllOf (λ n. n < count) ns

  both : (xs ys : List ℕ) → Stand xs → Stand ys → Stand (xs ++ ys)
  both xs ys g h = all_both (λ n. n < count) xs ys g h

  -- ---- data

  symbol_stands : (s : Symbol) → SymbolBelow count s → Stand (symbol_names s)
  symbol_stands (Named n) h = (h, tt)
  symbol_stands (Fresh e k) h = tt

  mutual
    unfolding NamesBelow

    item_stands : (d : Item) → NamesBelow count d → Stand (item_names d)
    item_stands (item p c) h = content_stands c h

    content_stands : (c : Content) → NamesBelowInside count c → Stand (content_names c)
    content_stands (integer n) h = tt
    content_stands (character c) h = tt
    content_stands (symbol s) h = symbol_stands s h
    content_stands (string bytes) h = tt
    content_stands (vector ds) h = items_stand ds h
    content_stands nil h = tt
    content_stands (list ds t) h = both (items_names ds) (tail_names t) (items_stand ds h.0) (tail_stands t h.1)

    items_stand : (ds : Items) → AllNamesBelow count ds → Stand (items_names ds)
    items_stand no_item h = tt
    items_stand (item_and d ds) h = both (item_names d) (items_names ds) (item_stands d h.0) (items_stand ds h.1)

    tail_stands : (t : Tail) → NamesBelowTail count t → Stand (tail_names t)
    tail_stands no_tail h = tt
    tail_stands (dotted d) h = item_stands d h

  -- ---- forms: the names of those inside stand where those of all that are inside one another do

  abbrev AllStand : List Form → Type 0
  AllStand fs = AllOf (λ f. Stand (own_names f)) fs

  abbrev Within : List (List Form) → Type 0
  Within fss = AllStand (flat_map (λ fs. fs) fss)

  front : (fs gs : List Form) → AllStand (fs ++ gs) → AllStand fs
  front fs gs h = all_front (λ f. Stand (own_names f)) fs gs h

  back : (fs gs : List Form) → AllStand (fs ++ gs) → AllStand gs
  back fs gs h = all_back (λ f. Stand (own_names f)) fs gs h

  -- inside a form stand these lists of forms, and where what it binds is bound those
  abbrev Inside : List (List Form) → List (List Form) → Type 0
  Inside fss gss = AllStand (flat_map (λ fs. fs) fss ++ flat_map (λ fs. fs) gss)

  outside : (fss gss : List (List Form)) → Inside fss gss → Within fss
  outside fss gss h = front (flat_map (λ fs. fs) fss) (flat_map (λ fs. fs) gss) h

  bound : (fss gss : List (List Form)) → Inside fss gss → Within gss
  bound fss gss h = back (flat_map (λ fs. fs) fss) (flat_map (λ fs. fs) gss) h

  first : (fs : List Form) (fss : List (List Form)) → Within (fs ∷ fss) → AllStand fs
  first fs fss h = front fs (flat_map (λ gs. gs) fss) h

  others : (fs : List Form) (fss : List (List Form)) → Within (fs ∷ fss) → Within fss
  others fs fss h = back fs (flat_map (λ gs. gs) fss) h

  one : (fs : List Form) → Inside (fs ∷ []) [] → AllStand fs
  one fs h = first fs [] (outside (fs ∷ []) [] h)

  one_bound : (fss : List (List Form)) (fs : List Form) → Inside fss (fs ∷ []) → AllStand fs
  one_bound fss fs h = first fs [] (bound fss (fs ∷ []) h)

  pair :
      (f g : Form) → (FormNamesIn count f → Stand (form_names f)) → (FormNamesIn count g → Stand (form_names g))
      → Inside (inside_form f ∷ inside_form g ∷ []) [] → Stand (form_names f ++ form_names g)
  pair f g of_f of_g h =
      let all = outside (inside_form f ∷ inside_form g ∷ []) [] h in
      both (form_names f) (form_names g) (of_f (first (inside_form f) (inside_form g ∷ []) all))
      (of_g (first (inside_form g) [] (others (inside_form f) (inside_form g ∷ []) all)))

  mutual
    form_stands : (f : Form) → FormNamesIn count f → Stand (form_names f)
    form_stands (literal i) h = tt
    form_stands (local v) h = tt
    form_stands (set_local v f) h = form_stands f (one (inside_form f) h.1)
    form_stands (global n) h = h.0
    form_stands (set_global n f) h = (h.0.0, form_stands f (one (inside_form f) h.1))
    form_stands (def_global n f) h = (h.0.0, form_stands f (one (inside_form f) h.1))
    form_stands (clauses cs) h = clauses_stand cs (outside (fold_clauses inside_step cs) [] h.1)
    form_stands (sequence fs) h = forms_stand fs (outside (fold_forms inside_step fs) [] h.1)
    form_stands (let_form bs f) h =
        both (bindings_names bs) (form_names f)
        (bindings_stand bs (outside (fold_values inside_step bs) (inside_form f ∷ []) h.1))
        (form_stands f (one_bound (fold_values inside_step bs) (inside_form f) h.1))
    form_stands (lambda required rest f parts) h = form_stands f (one_bound [] (inside_form f) h.1)
    form_stands (call n fs) h = (h.0.0, forms_stand fs (outside (fold_forms inside_step fs) [] h.1))
    form_stands (call_value fs) h = forms_stand fs (outside (fold_forms inside_step fs) [] h.1)
    form_stands (apply f g) h = pair f g (form_stands f) (form_stands g) h.1
    form_stands (prim which fs) h = forms_stand fs (outside (fold_forms inside_step fs) [] h.1)
    form_stands (while_form f g) h = pair f g (form_stands f) (form_stands g) h.1
    form_stands (block x f) h = form_stands f (one_bound [] (inside_form f) h.1)
    form_stands (return_from x f) h = form_stands f (one (inside_form f) h.1)
    form_stands (tagbody x fs) h = forms_stand fs (bound [] (fold_forms inside_step fs) h.1)
    form_stands (go x n) h = tt
    form_stands (catch_form f g) h = pair f g (form_stands f) (form_stands g) h.1
    form_stands (throw f g) h = pair f g (form_stands f) (form_stands g) h.1
    form_stands (unwind f g) h = pair f g (form_stands f) (form_stands g) h.1
    form_stands (dynamic_let ds f) h =
        both (dynamics_names ds) (form_names f)
        (dynamics_stand ds h.0 (outside (fold_dynamics inside_step ds) (inside_form f ∷ []) h.1))
        (form_stands f (one_bound (fold_dynamics inside_step ds) (inside_form f) h.1))
    form_stands (dynamic n) h = h.0
    form_stands (set_dynamic n f) h = (h.0.0, form_stands f (one (inside_form f) h.1))
    form_stands (def_dynamic n f) h = (h.0.0, form_stands f (one (inside_form f) h.1))
    form_stands (with_handler f g) h = pair f g (form_stands f) (form_stands g) h.1
    form_stands (signal_form f g) h = pair f g (form_stands f) (form_stands g) h.1
    form_stands (continue_form f g) h = pair f g (form_stands f) (form_stands g) h.1
    form_stands next_method h = tt
    form_stands has_next h = tt
    form_stands (sited site f) h = form_stands f (one (inside_form f) h.1)

    forms_stand : (fs : Forms) → Within (fold_forms inside_step fs) → Stand (forms_names fs)
    forms_stand no_form h = tt
    forms_stand (form_and f fs) h =
        both (form_names f) (forms_names fs) (form_stands f (first (inside_form f) (fold_forms inside_step fs) h))
        (forms_stand fs (others (inside_form f) (fold_forms inside_step fs) h))

    clauses_stand : (cs : ClauseForms) → Within (fold_clauses inside_step cs) → Stand (clauses_names cs)
    clauses_stand no_clause h = tt
    clauses_stand (clause_and f no_body cs) h =
        both (form_names f) (clauses_names cs) (form_stands f (first (inside_form f) (fold_clauses inside_step cs) h))
        (clauses_stand cs (others (inside_form f) (fold_clauses inside_step cs) h))
    clauses_stand (clause_and f (with_body g) cs) h =
        let further = others (inside_form f) (inside_form g ∷ fold_clauses inside_step cs) h in
        both (form_names f) (form_names g ++ clauses_names cs)
        (form_stands f (first (inside_form f) (inside_form g ∷ fold_clauses inside_step cs) h))
        (both (form_names g) (clauses_names cs)
        (form_stands g (first (inside_form g) (fold_clauses inside_step cs) further))
        (clauses_stand cs (others (inside_form g) (fold_clauses inside_step cs) further)))

    bindings_stand : (bs : BindingForms) → Within (fold_values inside_step bs) → Stand (bindings_names bs)
    bindings_stand no_binding h = tt
    bindings_stand (binding_and v f bs) h =
        both (form_names f) (bindings_names bs) (form_stands f (first (inside_form f) (fold_values inside_step bs) h))
        (bindings_stand bs (others (inside_form f) (fold_values inside_step bs) h))

    dynamics_stand :
        (ds : DynamicForms) → Stand (names_bound ds) → Within (fold_dynamics inside_step ds) → Stand (dynamics_names ds)
    dynamics_stand no_dynamic g h = tt
    dynamics_stand (dynamic_and n f ds) g h = (
      g.0,
      both (form_names f) (dynamics_names ds) (form_stands f (first (inside_form f) (fold_dynamics inside_step ds) h))
          (dynamics_stand ds g.1 (others (inside_form f) (fold_dynamics inside_step ds) h)),
    )

  -- ---- rows

  rows_stand :
      {X : Type 0} (P : X → Type 0) (names : X → List ℕ) → ((x : X) → P x → Stand (names x)) → (xs : List X)
      → AllOf P xs → Stand (flat_map names xs)
  rows_stand P names f [] h = tt
  rows_stand P names f (x ∷ xs) h = both (names x) (flat_map names xs) (f x h.0) (rows_stand P names f xs h.1)

  literal_stands : (x : LiteralRow) → LiteralNamesIn count x → Stand (literal_names x)
  literal_stands (row.Datum d) h = item_stands d h
  literal_stands (row.Class c) h = tt
  literal_stands (row.Function n) h = (h, tt)

  own_stands : (n : Option Name) → MaybeNameIn count n → Stand (own_name n)
  own_stands None h = tt
  own_stands (Some n) h = (h, tt)

  procedure_stands : (p : Procedure) → ProcedureNamesIn count p → Stand (procedure_names p)
  procedure_stands p h =
      both (own_name p.name) (form_names p.body) (own_stands p.name h.name) (form_stands p.body h.body)

  initargs_stand : (ns : List Name) → AllOf (NameIn count) ns → Stand (initarg_names ns)
  initargs_stand [] h = tt
  initargs_stand (n ∷ ns) h = (h.0, initargs_stand ns h.1)

  slot_stands : (s : SlotRow) → SlotNamesIn count s → Stand (slot_names s)
  slot_stands s h = (h.name, initargs_stand s.initargs h.initargs)

  class_stands : (c : ClassRow) → ClassNamesIn count c → Stand (class_names c)
  class_stands c h = (h.name, rows_stand (SlotNamesIn count) slot_names slot_stands c.slots h.slots)

  -- **all names of the program**
  pub names_stand : (p : ProgramRows) → NamesIn count p → AllOf (λ n. n < count) (program_names p)
  names_stand p h =
      both (flat_map literal_names p.literals) _ (rows_stand _ literal_names literal_stands p.literals h.literals)
      (both (flat_map procedure_names p.procedures) _
      (rows_stand _ procedure_names procedure_stands p.procedures h.procedures)
      (both (flat_map class_names p.classes) _ (rows_stand _ class_names class_stands p.classes h.classes)
      (both (flat_map generic_names p.generics) _
      (rows_stand (λ (g : GenericRow). NameIn count g.name) generic_names (λ g k. (k, tt)) p.generics h.generics)
      (both (flat_map function_names p.functions) _
      (rows_stand (λ (f : FunctionRow). NameIn count f.name) function_names (λ f k. (k, tt)) p.functions h.functions)
      (rows_stand (FormNamesIn count) form_names form_stands p.main h.main)))))
