-- Functions of the library as procedures: what their texts are read as. A procedure's variables are numbered from one on, and names and literals
-- have the numbers that they happen to have.
use Rattle.std.specs.Prelude.{ℕ, ◌+◌, List, [], ◌∷◌, Option, Some, None}
use Rattle.base.specs.declared.datum.Name.{Name}
use Rattle.lang_meaning.specs.declared.program.Procedure.{Procedure}
use Rattle.lang_meaning.specs.declared.primitive.Primitive.TheVariants.{Add, Same, IsNull, IsCons, IsString, IsVector, Cons, Car, Cdr, SetCdr, StringLength, VectorLength}
use Rattle.lang_meaning.specs.Form.{Form, Forms, no_form, form_and, ClauseForms, no_clause, clause_and, no_body, with_body, no_binding, binding_and}
use Rattle.lang_meaning.specs.Form.{literal, local, set_local, clauses, sequence, let_form, call, prim, while_form}

abbrev pub one : Form → Forms
one f = form_and f no_form

abbrev pub two : Form → Form → Forms
two f g = form_and f (form_and g no_form)

abbrev pub a_procedure : Option Name → List ℕ → Form → Procedure
a_procedure name required body = record { name = name; required = required; rest = None; body = body }

-- (defun list (:rest items) items)
abbrev pub list_function : Option Name → ℕ → Procedure
list_function name v = record { name = name; required = []; rest = Some v; body = sequence (one (local v)) }

-- (not f), which is (null f)
abbrev pub not_form : Form → Form
not_form f = prim IsNull (one f)

-- (not (null f))
abbrev pub not_null : Form → Form
not_null f = not_form (prim IsNull (one f))

-- (test f) in front of other clauses, and (t f), where t is that literal
abbrev pub clause_of : Form → Form → ClauseForms → ClauseForms
clause_of test f others = clause_and test (with_body (sequence (one f))) others

abbrev pub else_clause : (truth : ℕ) → Form → ClauseForms
else_clause truth f = clause_of (literal truth) f no_clause

-- (if test f g), which is (cond (test f) (t g)), and (or f g), which is (cond (f) (t g))
abbrev pub if_form : (truth : ℕ) → Form → Form → Form → Form
if_form truth test f g = clauses (clause_of test f (else_clause truth g))

abbrev pub or_form : (truth : ℕ) → Form → Form → Form
or_form truth f g = clauses (clause_and f no_body (else_clause truth g))

-- (and f g), which is (cond (f g))
abbrev pub and_form : Form → Form → Form
and_form f g = clauses (clause_of f g no_clause)

-- (defun %turn-copy-onto (list end)
--   (while (not (null list))
--     (setq end (cons (car list) end))
--     (setq list (cdr list)))
--   end)
abbrev pub turn_copy_turn : ℕ → Form
turn_copy_turn v =
    sequence (two
    (set_local (v + 1) (prim Cons (two (prim Car (one (local v))) (local (v + 1)))))
    (set_local v (prim Cdr (one (local v)))))

abbrev pub turn_copy_loop : ℕ → Form
turn_copy_loop v = while_form (not_null (local v)) (turn_copy_turn v)

abbrev pub turn_copy_onto : Option Name → ℕ → Procedure
turn_copy_onto name v = a_procedure name (v ∷ (v + 1) ∷ []) (sequence (two (turn_copy_loop v) (local (v + 1))))

-- (defun %turn-onto (list end)
--   (while (not (null list))
--     (let ((rest (cdr list)))
--       (set-cdr end list)
--       (setq end list)
--       (setq list rest)))
--   end)
abbrev pub turn_rest : ℕ → Form
turn_rest v =
    sequence (form_and (prim SetCdr (two (local (v + 1)) (local v)))
    (two (set_local (v + 1) (local v)) (set_local v (local (v + 2)))))

abbrev pub turn_turn : ℕ → Form
turn_turn v = sequence (one (let_form (binding_and (v + 2) (prim Cdr (one (local v))) no_binding) (turn_rest v)))

abbrev pub turn_loop : ℕ → Form
turn_loop v = while_form (not_null (local v)) (turn_turn v)

abbrev pub turn_onto : Option Name → ℕ → Procedure
turn_onto name v = a_procedure name (v ∷ (v + 1) ∷ []) (sequence (two (turn_loop v) (local (v + 1))))

-- (defun %append-all (lists ends-in-list)
--   (let ((front nil))
--     (while (not (or (null lists) (null (cdr lists))))
--       (setq front (%turn-copy-onto (car lists) front))
--       (setq lists (cdr lists)))
--     (cond ((null lists) nil)
--           ((and ends-in-list (not (consp (car lists))) (not (null (car lists))))
--            (%domain-error (car lists) (class <list>)))
--           (t (%turn-onto front (car lists))))))
-- The literals are those of nil, t, nil, the class and t.
abbrev pub append_test : ℕ → (truth : ℕ) → Form
append_test v truth = not_form (or_form truth (prim IsNull (one (local v))) (prim IsNull (one (prim Cdr (one (local v))))))

abbrev pub append_turn : ℕ → (turn_copy : ℕ) → Form
append_turn v turn_copy =
    sequence (two
    (set_local (v + 2) (call turn_copy (two (prim Car (one (local v))) (local (v + 2)))))
    (set_local v (prim Cdr (one (local v)))))

abbrev pub is_no_list : Form → Form
is_no_list f = and_form (not_form (prim IsCons (one f))) (not_null f)

abbrev pub append_end : ℕ → (nothing list_class truth turn_onto domain_error : ℕ) → Form
append_end v nothing list_class truth turn_onto domain_error =
    clauses (clause_of (prim IsNull (one (local v))) (literal nothing)
    (clause_of (and_form (local (v + 1)) (is_no_list (prim Car (one (local v)))))
    (call domain_error (two (prim Car (one (local v))) (literal list_class)))
    (else_clause truth (call turn_onto (two (local (v + 2)) (prim Car (one (local v))))))))

abbrev pub append_body : ℕ → (truth nothing list_class truth' turn_copy turn_onto domain_error : ℕ) → Form
append_body v truth nothing list_class truth' turn_copy turn_onto domain_error =
    sequence (two (while_form (append_test v truth) (append_turn v turn_copy)) (append_end v nothing list_class truth' turn_onto domain_error))

abbrev pub append_form : ℕ → (no_items truth nothing list_class truth' turn_copy turn_onto domain_error : ℕ) → Form
append_form v no_items truth nothing list_class truth' turn_copy turn_onto domain_error =
    let_form (binding_and (v + 2) (literal no_items) no_binding) (append_body v truth nothing list_class truth' turn_copy turn_onto domain_error)

abbrev pub append_all : Option Name → ℕ → (no_items truth nothing list_class truth' turn_copy turn_onto domain_error : ℕ) → Procedure
append_all name v no_items truth nothing list_class truth' turn_copy turn_onto domain_error =
    a_procedure name (v ∷ (v + 1) ∷ []) (sequence (one (append_form v no_items truth nothing list_class truth' turn_copy turn_onto domain_error)))

-- (defun append (:rest lists) (%append-all lists t))
abbrev pub append_function : Option Name → ℕ → (append_all ends_in_list : ℕ) → Procedure
append_function name v append_all ends_in_list =
    record { name = name; required = []; rest = Some v; body = sequence (one (call append_all (two (local v) (literal ends_in_list)))) }

-- (defun reverse (list) (%turn-copy-onto list nil))
abbrev pub reverse_function : Option Name → ℕ → (turn_copy_onto no_items : ℕ) → Procedure
reverse_function name v turn_copy_onto no_items =
    a_procedure name (v ∷ []) (sequence (one (call turn_copy_onto (two (local v) (literal no_items)))))

-- (defun nreverse (list) (%turn-onto list nil))
abbrev pub nreverse_function : Option Name → ℕ → (turn_onto no_items : ℕ) → Procedure
nreverse_function name v turn_onto no_items =
    a_procedure name (v ∷ []) (sequence (one (call turn_onto (two (local v) (literal no_items)))))

-- (defun %list-length (list)
--   (let ((rest list) (length 0))
--     (while (consp rest)
--       (setq rest (cdr rest))
--       (setq length (+ length 1)))
--     (if (null rest) length (%domain-error list (class <list>)))))
-- The literals are those of 0, 1, t and the class.
abbrev pub count_test : ℕ → Form
count_test v = prim IsCons (one (local (v + 1)))

abbrev pub count_turn : ℕ → (increment : ℕ) → Form
count_turn v increment =
    sequence (two
    (set_local (v + 1) (prim Cdr (one (local (v + 1)))))
    (set_local (v + 2) (prim Add (two (local (v + 2)) (literal increment)))))

abbrev pub count_end : ℕ → (truth list_class domain_error : ℕ) → Form
count_end v truth list_class domain_error =
    if_form truth (prim IsNull (one (local (v + 1)))) (local (v + 2)) (call domain_error (two (local v) (literal list_class)))

abbrev pub count_body : ℕ → (increment truth list_class domain_error : ℕ) → Form
count_body v increment truth list_class domain_error =
    sequence (two (while_form (count_test v) (count_turn v increment)) (count_end v truth list_class domain_error))

abbrev pub list_length_form : ℕ → (none increment truth list_class domain_error : ℕ) → Form
list_length_form v none increment truth list_class domain_error =
    let_form (binding_and (v + 1) (local v) (binding_and (v + 2) (literal none) no_binding))
    (count_body v increment truth list_class domain_error)

abbrev pub list_length : Option Name → ℕ → (none increment truth list_class domain_error : ℕ) → Procedure
list_length name v none increment truth list_class domain_error =
    a_procedure name (v ∷ []) (sequence (one (list_length_form v none increment truth list_class domain_error)))

-- (defun length (sequence)
--   (cond ((stringp sequence) (%string-length sequence))
--         ((general-vector-p sequence) (%vector-length sequence))
--         (t (%list-length sequence))))
abbrev pub length_form : ℕ → (truth list_length : ℕ) → Form
length_form v truth list_length =
    clauses (clause_of (prim IsString (one (local v))) (prim StringLength (one (local v)))
    (clause_of (prim IsVector (one (local v))) (prim VectorLength (one (local v)))
    (else_clause truth (call list_length (one (local v))))))

abbrev pub length_function : Option Name → ℕ → (truth list_length : ℕ) → Procedure
length_function name v truth list_length = a_procedure name (v ∷ []) (sequence (one (length_form v truth list_length)))

-- (while (not (or (null list) (eql object key)))
--   (setq list (cdr list)))
-- where the object is the first variable and the list is the second one
abbrev pub seek_test : ℕ → (truth : ℕ) → (key : Form) → Form
seek_test v truth key = not_form (or_form truth (prim IsNull (one (local (v + 1)))) (prim Same (two (local v) key)))

abbrev pub seek_turn : ℕ → Form
seek_turn v = sequence (one (set_local (v + 1) (prim Cdr (one (local (v + 1))))))

abbrev pub seek : ℕ → (truth : ℕ) → (key : Form) → Form
seek v truth key = while_form (seek_test v truth key) (seek_turn v)

-- (defun %memv (object list)
--   (while (not (or (null list) (eql object (car list))))
--     (setq list (cdr list)))
--   list)
abbrev pub item_key : ℕ → Form
item_key v = prim Car (one (local (v + 1)))

abbrev pub memv : Option Name → ℕ → (truth : ℕ) → Procedure
memv name v truth = a_procedure name (v ∷ (v + 1) ∷ []) (sequence (two (seek v truth (item_key v)) (local (v + 1))))

-- (defun member (object list) (%memv object list))
abbrev pub member_function : Option Name → ℕ → (memv : ℕ) → Procedure
member_function name v memv = a_procedure name (v ∷ (v + 1) ∷ []) (sequence (one (call memv (two (local v) (local (v + 1))))))

-- (defun assoc (key list)
--   (while (not (or (null list) (eql key (car (car list)))))
--     (setq list (cdr list)))
--   (if (null list) nil (car list)))
abbrev pub entry_key : ℕ → Form
entry_key v = prim Car (one (prim Car (one (local (v + 1)))))

abbrev pub assoc_end : ℕ → (truth no_entry : ℕ) → Form
assoc_end v truth no_entry = if_form truth (prim IsNull (one (local (v + 1)))) (literal no_entry) (prim Car (one (local (v + 1))))

abbrev pub assoc_function : Option Name → ℕ → (truth truth' no_entry : ℕ) → Procedure
assoc_function name v truth truth' no_entry =
    a_procedure name (v ∷ (v + 1) ∷ []) (sequence (two (seek v truth (entry_key v)) (assoc_end v truth' no_entry)))
