-- The names of a renamed program are its names, renamed; and renamings that agree on the names of a program agree on the program.
use Rattle.std.specs.Prelude.{◌≡◌, ℕ, List, [], ◌∷◌, ◌++◌, Option, Some, None, map, flat_map, option_map, refl}
use Rattle.std.proofs.Common.{ap, sym, ◌∙◌}
use Rattle.std.proofs.lemmas.List.{map-append}
use Rattle.base.specs.AllOf.{AllOf}
use Rattle.base.specs.declared.datum.Name.{Name}
use Rattle.base.specs.declared.datum.Symbol.{Symbol}
use Rattle.base.specs.declared.datum.Symbol.TheVariants.{Named, Fresh}
use Rattle.base.specs.Data.{Item, item, Content, integer, character, symbol, string, vector, nil, list, Items, no_item, item_and, Tail, no_tail, dotted}
use Rattle.lang_meaning.specs.declared.program.LiteralRow.{LiteralRow}
use Rattle.lang_meaning.specs.declared.program.LiteralRow.TheVariants as row
use Rattle.lang_meaning.specs.declared.program.Procedure.{Procedure}
use Rattle.lang_meaning.specs.declared.program.FunctionRow.{FunctionRow}
use Rattle.lang_meaning.specs.declared.program.SlotRow.{SlotRow}
use Rattle.lang_meaning.specs.declared.program.ClassRow.{ClassRow}
use Rattle.lang_meaning.specs.declared.program.GenericRow.{GenericRow}
use Rattle.lang_meaning.specs.declared.program.ProgramRows.{ProgramRows}
use Rattle.lang_meaning.specs.Form.{Form, literal, local, set_local, global, set_global, def_global, clauses, sequence, let_form, lambda, call, call_value, apply, prim, while_form, block, return_from, tagbody, go, catch_form, throw, unwind, dynamic_let, dynamic, set_dynamic, def_dynamic, with_handler, signal_form, continue_form, next_method, has_next, sited}
use Rattle.lang_meaning.specs.Form.{Forms, no_form, form_and, ClauseForms, no_clause, clause_and, MaybeForm, no_body, with_body, BindingForms, no_binding, binding_and, DynamicForms, no_dynamic, dynamic_and}
use Rattle.lang_renamed.specs.Renaming.{name_by, names_by, symbol_by, item_by, content_by, items_by, tail_by, form_by, forms_by, clauses_by, body_by, bindings_by, dynamics_by, literal_by, procedure_by, function_by, slot_by, class_by, generic_by, program_by}
use Rattle.lang_renamed.specs.ProgramNames.{symbol_names, item_names, content_names, items_names, tail_names, form_names, forms_names, clauses_names, body_names, bindings_names, dynamics_names, literal_names, own_name, procedure_names, function_names, initarg_names, slot_names, class_names, generic_names, program_names}
use Rattle.lang_renamed.proofs.Lists.{both, three, flat_by}

-- ---- the names of what is renamed

module _ (r : ℕ → ℕ) where
  -- lists of names
  more : (n : ℕ) (xs us : List ℕ) → us ≡ map r xs → r n ∷ us ≡ map r (n ∷ xs)
  more n xs us e = ap (λ (ns : List ℕ). r n ∷ ns) e

  joined : (xs ys us vs : List ℕ) → us ≡ map r xs → vs ≡ map r ys → us ++ vs ≡ map r (xs ++ ys)
  joined xs ys us vs e g = both (λ (ns ms : List ℕ). ns ++ ms) _ _ _ _ e g ∙ sym (map-append r xs ys)

  symbol_renamed : (x : Symbol) → symbol_names (symbol_by r x) ≡ map r (symbol_names x)
  symbol_renamed (Named n) = refl
  symbol_renamed (Fresh e s) = refl

  mutual
    item_renamed : (d : Item) → item_names (item_by r d) ≡ map r (item_names d)
    item_renamed (item p c) = content_renamed c

    content_renamed : (c : Content) → content_names (content_by r c) ≡ map r (content_names c)
    content_renamed (integer n) = refl
    content_renamed (character c) = refl
    content_renamed (symbol x) = symbol_renamed x
    content_renamed (string bytes) = refl
    content_renamed (vector ds) = items_renamed ds
    content_renamed nil = refl
    content_renamed (list ds t) = joined (items_names ds) (tail_names t) _ _ (items_renamed ds) (tail_renamed t)

    items_renamed : (ds : Items) → items_names (items_by r ds) ≡ map r (items_names ds)
    items_renamed no_item = refl
    items_renamed (item_and d ds) = joined (item_names d) (items_names ds) _ _ (item_renamed d) (items_renamed ds)

    tail_renamed : (t : Tail) → tail_names (tail_by r t) ≡ map r (tail_names t)
    tail_renamed no_tail = refl
    tail_renamed (dotted d) = item_renamed d

  mutual
    form_renamed : (f : Form) → form_names (form_by r f) ≡ map r (form_names f)
    form_renamed (literal i) = refl
    form_renamed (local v) = refl
    form_renamed (set_local v f) = form_renamed f
    form_renamed (global n) = refl
    form_renamed (set_global n f) = more n (form_names f) _ (form_renamed f)
    form_renamed (def_global n f) = more n (form_names f) _ (form_renamed f)
    form_renamed (clauses cs) = clauses_renamed cs
    form_renamed (sequence fs) = forms_renamed fs
    form_renamed (let_form bs f) = joined (bindings_names bs) (form_names f) _ _ (bindings_renamed bs) (form_renamed f)
    form_renamed (lambda required rest f parts) = form_renamed f
    form_renamed (call n fs) = more n (forms_names fs) _ (forms_renamed fs)
    form_renamed (call_value fs) = forms_renamed fs
    form_renamed (apply f g) = joined (form_names f) (form_names g) _ _ (form_renamed f) (form_renamed g)
    form_renamed (prim which fs) = forms_renamed fs
    form_renamed (while_form f g) = joined (form_names f) (form_names g) _ _ (form_renamed f) (form_renamed g)
    form_renamed (block x f) = form_renamed f
    form_renamed (return_from x f) = form_renamed f
    form_renamed (tagbody x fs) = forms_renamed fs
    form_renamed (go x n) = refl
    form_renamed (catch_form f g) = joined (form_names f) (form_names g) _ _ (form_renamed f) (form_renamed g)
    form_renamed (throw f g) = joined (form_names f) (form_names g) _ _ (form_renamed f) (form_renamed g)
    form_renamed (unwind f g) = joined (form_names f) (form_names g) _ _ (form_renamed f) (form_renamed g)
    form_renamed (dynamic_let ds f) = joined (dynamics_names ds) (form_names f) _ _ (dynamics_renamed ds) (form_renamed f)
    form_renamed (dynamic n) = refl
    form_renamed (set_dynamic n f) = more n (form_names f) _ (form_renamed f)
    form_renamed (def_dynamic n f) = more n (form_names f) _ (form_renamed f)
    form_renamed (with_handler f g) = joined (form_names f) (form_names g) _ _ (form_renamed f) (form_renamed g)
    form_renamed (signal_form f g) = joined (form_names f) (form_names g) _ _ (form_renamed f) (form_renamed g)
    form_renamed (continue_form f g) = joined (form_names f) (form_names g) _ _ (form_renamed f) (form_renamed g)
    form_renamed next_method = refl
    form_renamed has_next = refl
    form_renamed (sited site f) = form_renamed f

    forms_renamed : (fs : Forms) → forms_names (forms_by r fs) ≡ map r (forms_names fs)
    forms_renamed no_form = refl
    forms_renamed (form_and f fs) = joined (form_names f) (forms_names fs) _ _ (form_renamed f) (forms_renamed fs)

    clauses_renamed : (cs : ClauseForms) → clauses_names (clauses_by r cs) ≡ map r (clauses_names cs)
    clauses_renamed no_clause = refl
    clauses_renamed (clause_and f b cs) =
        joined (form_names f) (body_names b ++ clauses_names cs) _ _ (form_renamed f) (joined (body_names b) (clauses_names cs) _ _ (body_renamed b) (clauses_renamed cs))

    body_renamed : (b : MaybeForm) → body_names (body_by r b) ≡ map r (body_names b)
    body_renamed no_body = refl
    body_renamed (with_body f) = form_renamed f

    bindings_renamed : (bs : BindingForms) → bindings_names (bindings_by r bs) ≡ map r (bindings_names bs)
    bindings_renamed no_binding = refl
    bindings_renamed (binding_and v f bs) = joined (form_names f) (bindings_names bs) _ _ (form_renamed f) (bindings_renamed bs)

    dynamics_renamed : (ds : DynamicForms) → dynamics_names (dynamics_by r ds) ≡ map r (dynamics_names ds)
    dynamics_renamed no_dynamic = refl
    dynamics_renamed (dynamic_and n f ds) =
        more n (form_names f ++ dynamics_names ds) _ (joined (form_names f) (dynamics_names ds) _ _ (form_renamed f) (dynamics_renamed ds))

  literal_renamed : (x : LiteralRow) → literal_names (literal_by r x) ≡ map r (literal_names x)
  literal_renamed (row.Datum d) = item_renamed d
  literal_renamed (row.Class c) = refl
  literal_renamed (row.Function n) = refl

  own_renamed : (n : Option Name) → own_name (option_map (name_by r) n) ≡ map r (own_name n)
  own_renamed None = refl
  own_renamed (Some n) = refl

  procedure_renamed : (p : Procedure) → procedure_names (procedure_by r p) ≡ map r (procedure_names p)
  procedure_renamed p = joined (own_name p.name) (form_names p.body) _ _ (own_renamed p.name) (form_renamed p.body)

  initargs_renamed : (ns : List Name) → initarg_names (names_by r ns) ≡ map r (initarg_names ns)
  initargs_renamed [] = refl
  initargs_renamed (n ∷ ns) = more n.0 (initarg_names ns) _ (initargs_renamed ns)

  slot_renamed : (s : SlotRow) → slot_names (slot_by r s) ≡ map r (slot_names s)
  slot_renamed s = more s.name.0 (initarg_names s.initargs) _ (initargs_renamed s.initargs)

  class_renamed : (c : ClassRow) → class_names (class_by r c) ≡ map r (class_names c)
  class_renamed c = more c.name.0 (flat_map slot_names c.slots) _ (flat_by (slot_by r) r slot_names slot_names slot_renamed c.slots)

  pub names_renamed : (p : ProgramRows) → program_names (program_by r p) ≡ map r (program_names p)
  names_renamed p =
      joined (flat_map literal_names p.literals) _ _ _ (flat_by (literal_by r) r literal_names literal_names literal_renamed p.literals)
      (joined (flat_map procedure_names p.procedures) _ _ _ (flat_by (procedure_by r) r procedure_names procedure_names procedure_renamed p.procedures)
      (joined (flat_map class_names p.classes) _ _ _ (flat_by (class_by r) r class_names class_names class_renamed p.classes)
      (joined (flat_map generic_names p.generics) _ _ _ (flat_by (generic_by r) r generic_names generic_names (λ g. refl) p.generics)
      (joined (flat_map function_names p.functions) _ _ _ (flat_by (function_by r) r function_names function_names (λ f. refl) p.functions)
      (flat_by (form_by r) r form_names form_names form_renamed p.main)))))

-- ---- what holds of the names of parts

all_front : {X : Type 0} (P : X → Type 0) (xs ys : List X) → AllOf P (xs ++ ys) → AllOf P xs
all_front P [] ys h = tt
all_front P (x ∷ xs) ys h = (h.0, all_front P xs ys h.1)

all_back : {X : Type 0} (P : X → Type 0) (xs ys : List X) → AllOf P (xs ++ ys) → AllOf P ys
all_back P [] ys h = h
all_back P (x ∷ xs) ys h = all_back P xs ys h.1

all_agree : {X Y : Type 0} (P : ℕ → Type 0) (names : X → List ℕ) (f g : X → Y) → ((x : X) → AllOf P (names x) → f x ≡ g x) → (xs : List X) → AllOf P (flat_map names xs) → map f xs ≡ map g xs
all_agree P names f g e [] h = refl
all_agree P names f g e (x ∷ xs) h =
    both (λ (y : _) (ys : List _). y ∷ ys) _ _ _ _ (e x (all_front P (names x) (flat_map names xs) h)) (all_agree P names f g e xs (all_back P (names x) (flat_map names xs) h))

-- ---- renamings that agree on names

module _ (r s : ℕ → ℕ) where
  abbrev Agree : ℕ → Type 0
  Agree n = r n ≡ s n

  named_agree : (n : Name) → r n.0 ≡ s n.0 → name_by r n ≡ name_by s n
  named_agree n e = ap (λ (m : ℕ). record { 0 = m }) e

  symbol_agree : (x : Symbol) → AllOf Agree (symbol_names x) → symbol_by r x ≡ symbol_by s x
  symbol_agree (Named n) h = ap Named (named_agree n h.0)
  symbol_agree (Fresh e k) h = refl

  mutual
    item_agree : (d : Item) → AllOf Agree (item_names d) → item_by r d ≡ item_by s d
    item_agree (item p c) h = ap (item p) (content_agree c h)

    content_agree : (c : Content) → AllOf Agree (content_names c) → content_by r c ≡ content_by s c
    content_agree (integer n) h = refl
    content_agree (character c) h = refl
    content_agree (symbol x) h = ap symbol (symbol_agree x h)
    content_agree (string bytes) h = refl
    content_agree (vector ds) h = ap vector (items_agree ds h)
    content_agree nil h = refl
    content_agree (list ds t) h =
        both list _ _ _ _ (items_agree ds (all_front Agree (items_names ds) (tail_names t) h)) (tail_agree t (all_back Agree (items_names ds) (tail_names t) h))

    items_agree : (ds : Items) → AllOf Agree (items_names ds) → items_by r ds ≡ items_by s ds
    items_agree no_item h = refl
    items_agree (item_and d ds) h =
        both item_and _ _ _ _ (item_agree d (all_front Agree (item_names d) (items_names ds) h)) (items_agree ds (all_back Agree (item_names d) (items_names ds) h))

    tail_agree : (t : Tail) → AllOf Agree (tail_names t) → tail_by r t ≡ tail_by s t
    tail_agree no_tail h = refl
    tail_agree (dotted d) h = ap dotted (item_agree d h)

  mutual
    pub form_agree : (f : Form) → AllOf Agree (form_names f) → form_by r f ≡ form_by s f
    form_agree (literal i) h = refl
    form_agree (local v) h = refl
    form_agree (set_local v f) h = ap (set_local v) (form_agree f h)
    form_agree (global n) h = ap global h.0
    form_agree (set_global n f) h = both set_global _ _ _ _ h.0 (form_agree f h.1)
    form_agree (def_global n f) h = both def_global _ _ _ _ h.0 (form_agree f h.1)
    form_agree (clauses cs) h = ap clauses (clauses_agree cs h)
    form_agree (sequence fs) h = ap sequence (forms_agree fs h)
    form_agree (let_form bs f) h =
        both let_form _ _ _ _ (bindings_agree bs (all_front Agree (bindings_names bs) (form_names f) h)) (form_agree f (all_back Agree (bindings_names bs) (form_names f) h))
    form_agree (lambda required rest f parts) h = ap (λ g. lambda required rest g parts) (form_agree f h)
    form_agree (call n fs) h = both call _ _ _ _ h.0 (forms_agree fs h.1)
    form_agree (call_value fs) h = ap call_value (forms_agree fs h)
    form_agree (apply f g) h = both apply _ _ _ _ (form_agree f (all_front Agree (form_names f) (form_names g) h)) (form_agree g (all_back Agree (form_names f) (form_names g) h))
    form_agree (prim which fs) h = ap (prim which) (forms_agree fs h)
    form_agree (while_form f g) h = both while_form _ _ _ _ (form_agree f (all_front Agree (form_names f) (form_names g) h)) (form_agree g (all_back Agree (form_names f) (form_names g) h))
    form_agree (block x f) h = ap (block x) (form_agree f h)
    form_agree (return_from x f) h = ap (return_from x) (form_agree f h)
    form_agree (tagbody x fs) h = ap (tagbody x) (forms_agree fs h)
    form_agree (go x n) h = refl
    form_agree (catch_form f g) h = both catch_form _ _ _ _ (form_agree f (all_front Agree (form_names f) (form_names g) h)) (form_agree g (all_back Agree (form_names f) (form_names g) h))
    form_agree (throw f g) h = both throw _ _ _ _ (form_agree f (all_front Agree (form_names f) (form_names g) h)) (form_agree g (all_back Agree (form_names f) (form_names g) h))
    form_agree (unwind f g) h = both unwind _ _ _ _ (form_agree f (all_front Agree (form_names f) (form_names g) h)) (form_agree g (all_back Agree (form_names f) (form_names g) h))
    form_agree (dynamic_let ds f) h =
        both dynamic_let _ _ _ _ (dynamics_agree ds (all_front Agree (dynamics_names ds) (form_names f) h)) (form_agree f (all_back Agree (dynamics_names ds) (form_names f) h))
    form_agree (dynamic n) h = ap dynamic h.0
    form_agree (set_dynamic n f) h = both set_dynamic _ _ _ _ h.0 (form_agree f h.1)
    form_agree (def_dynamic n f) h = both def_dynamic _ _ _ _ h.0 (form_agree f h.1)
    form_agree (with_handler f g) h = both with_handler _ _ _ _ (form_agree f (all_front Agree (form_names f) (form_names g) h)) (form_agree g (all_back Agree (form_names f) (form_names g) h))
    form_agree (signal_form f g) h = both signal_form _ _ _ _ (form_agree f (all_front Agree (form_names f) (form_names g) h)) (form_agree g (all_back Agree (form_names f) (form_names g) h))
    form_agree (continue_form f g) h = both continue_form _ _ _ _ (form_agree f (all_front Agree (form_names f) (form_names g) h)) (form_agree g (all_back Agree (form_names f) (form_names g) h))
    form_agree next_method h = refl
    form_agree has_next h = refl
    form_agree (sited site f) h = ap (sited site) (form_agree f h)

    forms_agree : (fs : Forms) → AllOf Agree (forms_names fs) → forms_by r fs ≡ forms_by s fs
    forms_agree no_form h = refl
    forms_agree (form_and f fs) h =
        both form_and _ _ _ _ (form_agree f (all_front Agree (form_names f) (forms_names fs) h)) (forms_agree fs (all_back Agree (form_names f) (forms_names fs) h))

    clauses_agree : (cs : ClauseForms) → AllOf Agree (clauses_names cs) → clauses_by r cs ≡ clauses_by s cs
    clauses_agree no_clause h = refl
    clauses_agree (clause_and f b cs) h =
        let others = all_back Agree (form_names f) (body_names b ++ clauses_names cs) h in
        three clause_and _ _ _ _ _ _ (form_agree f (all_front Agree (form_names f) (body_names b ++ clauses_names cs) h))
        (body_agree b (all_front Agree (body_names b) (clauses_names cs) others)) (clauses_agree cs (all_back Agree (body_names b) (clauses_names cs) others))

    body_agree : (b : MaybeForm) → AllOf Agree (body_names b) → body_by r b ≡ body_by s b
    body_agree no_body h = refl
    body_agree (with_body f) h = ap with_body (form_agree f h)

    bindings_agree : (bs : BindingForms) → AllOf Agree (bindings_names bs) → bindings_by r bs ≡ bindings_by s bs
    bindings_agree no_binding h = refl
    bindings_agree (binding_and v f bs) h =
        both (binding_and v) _ _ _ _ (form_agree f (all_front Agree (form_names f) (bindings_names bs) h)) (bindings_agree bs (all_back Agree (form_names f) (bindings_names bs) h))

    dynamics_agree : (ds : DynamicForms) → AllOf Agree (dynamics_names ds) → dynamics_by r ds ≡ dynamics_by s ds
    dynamics_agree no_dynamic h = refl
    dynamics_agree (dynamic_and n f ds) h =
        three dynamic_and _ _ _ _ _ _ h.0 (form_agree f (all_front Agree (form_names f) (dynamics_names ds) h.1))
        (dynamics_agree ds (all_back Agree (form_names f) (dynamics_names ds) h.1))

  literal_agree : (x : LiteralRow) → AllOf Agree (literal_names x) → literal_by r x ≡ literal_by s x
  literal_agree (row.Datum d) h = ap row.Datum (item_agree d h)
  literal_agree (row.Class c) h = refl
  literal_agree (row.Function n) h = ap row.Function (named_agree n h.0)

  own_agree : (n : Option Name) → AllOf Agree (own_name n) → option_map (name_by r) n ≡ option_map (name_by s) n
  own_agree None h = refl
  own_agree (Some n) h = ap (λ (m : Name). Some m) (named_agree n h.0)

  procedure_agree : (p : Procedure) → AllOf Agree (procedure_names p) → procedure_by r p ≡ procedure_by s p
  procedure_agree p h =
      both (λ (n : Option Name) (f : Form). record { name = n; required = p.required; rest = p.rest; body = f }) _ _ _ _
      (own_agree p.name (all_front Agree (own_name p.name) (form_names p.body) h)) (form_agree p.body (all_back Agree (own_name p.name) (form_names p.body) h))

  initargs_agree : (ns : List Name) → AllOf Agree (initarg_names ns) → names_by r ns ≡ names_by s ns
  initargs_agree [] h = refl
  initargs_agree (n ∷ ns) h = both (λ (m : Name) (ms : List Name). m ∷ ms) _ _ _ _ (named_agree n h.0) (initargs_agree ns h.1)

  slot_agree : (x : SlotRow) → AllOf Agree (slot_names x) → slot_by r x ≡ slot_by s x
  slot_agree x h =
      both (λ (n : Name) (ns : List Name). record { name = n; initargs = ns; initform = x.initform }) _ _ _ _ (named_agree x.name h.0) (initargs_agree x.initargs h.1)

  class_agree : (c : ClassRow) → AllOf Agree (class_names c) → class_by r c ≡ class_by s c
  class_agree c h =
      both (λ (n : Name) (ss : List SlotRow). record { name = n; precedence = c.precedence; slots = ss; abstract_class = c.abstract_class }) _ _ _ _
      (named_agree c.name h.0) (all_agree Agree slot_names (slot_by r) (slot_by s) slot_agree c.slots h.1)

  generic_agree : (g : GenericRow) → AllOf Agree (generic_names g) → generic_by r g ≡ generic_by s g
  generic_agree g h = ap (λ (n : Name). record { name = n; required = g.required; rest = g.rest; methods = g.methods }) (named_agree g.name h.0)

  function_agree : (f : FunctionRow) → AllOf Agree (function_names f) → function_by r f ≡ function_by s f
  function_agree f h = ap (λ (n : Name). record { name = n; callee = f.callee }) (named_agree f.name h.0)

  pub programs_agree : (p : ProgramRows) → AllOf Agree (program_names p) → program_by r p ≡ program_by s p
  programs_agree p h =
      let m = flat_map form_names p.main in
      let f = flat_map function_names p.functions ++ m in
      let g = flat_map generic_names p.generics ++ f in
      let c = flat_map class_names p.classes ++ g in
      let d = flat_map procedure_names p.procedures ++ c in
      let hd : AllOf Agree d = all_back Agree (flat_map literal_names p.literals) d h in
      let hc : AllOf Agree c = all_back Agree (flat_map procedure_names p.procedures) c hd in
      let hg : AllOf Agree g = all_back Agree (flat_map class_names p.classes) g hc in
      let hf : AllOf Agree f = all_back Agree (flat_map generic_names p.generics) f hg in
      let hm : AllOf Agree m = all_back Agree (flat_map function_names p.functions) m hf in
      both
      (λ (a : List LiteralRow × List Procedure × List ClassRow) (b : List GenericRow × List FunctionRow × List Form).
      record { literals = a.0; procedures = a.1; classes = a.2; generics = b.0; functions = b.1; main = b.2; sites = p.sites }) _ _ _ _
      (three (λ (x : List LiteralRow) (y : List Procedure) (z : List ClassRow). (x, y, z)) _ _ _ _ _ _
      (all_agree Agree literal_names (literal_by r) (literal_by s) literal_agree p.literals (all_front Agree (flat_map literal_names p.literals) d h))
      (all_agree Agree procedure_names (procedure_by r) (procedure_by s) procedure_agree p.procedures (all_front Agree (flat_map procedure_names p.procedures) c hd))
      (all_agree Agree class_names (class_by r) (class_by s) class_agree p.classes (all_front Agree (flat_map class_names p.classes) g hc)))
      (three (λ (x : List GenericRow) (y : List FunctionRow) (z : List Form). (x, y, z)) _ _ _ _ _ _
      (all_agree Agree generic_names (generic_by r) (generic_by s) generic_agree p.generics (all_front Agree (flat_map generic_names p.generics) f hg))
      (all_agree Agree function_names (function_by r) (function_by s) function_agree p.functions (all_front Agree (flat_map function_names p.functions) m hf))
      (all_agree Agree form_names (form_by r) (form_by s) form_agree p.main hm))
