-- Functions of sequences, and `mapcar`, as procedures: what their texts are read as. The literals and the names in a function have the numbers
-- that they happen to have.
use Rattle.std.specs.Prelude.{ℕ, ◌+◌, [], ◌∷◌, Option, Some}
use Rattle.base.specs.declared.datum.Name.{Name}
use Rattle.lang_meaning.specs.declared.program.Procedure.{Procedure}
use Rattle.lang_meaning.specs.declared.primitive.Primitive.TheVariants.{Add, Subtract, NumberLess, NumberAtMost, NumberGreater, IsInstance, IsNull, IsCons, IsString, IsVector, Cons, Car, Cdr, CharAt, VectorRef}
use Rattle.lang_meaning.specs.Form.{Form, Forms, no_form, form_and, no_binding, binding_and}
use Rattle.lang_meaning.specs.Form.{literal, local, set_local, clauses, sequence, let_form, call, call_value, apply, prim, while_form}
use Rattle.lang_library_laws.specs.ListBodies.{one, two, a_procedure, not_form, not_null, clause_of, else_clause, if_form, or_form, and_form}
use Rattle.lang_library_laws.specs.NumberBodies.{when}

abbrev pub three : Form → Form → Form → Forms
three f g h = form_and f (two g h)

-- (assure class f), which is (let ((x f)) (cond ((%instance x class) x) (t (%domain-error x class)))). The literals are the class, t and the class.
pub record AssureNumbers : Type 0 where
  pub class : ℕ
  pub truth : ℕ
  pub class_again : ℕ

abbrev pub assured : (x : ℕ) → AssureNumbers → (domain_error : ℕ) → Form
assured x n domain_error =
    sequence (one (clauses (clause_of (prim IsInstance (two (local x) (literal n.class))) (local x)
    (else_clause n.truth (call domain_error (two (local x) (literal n.class_again)))))))

abbrev pub assure_form : (x : ℕ) → Form → AssureNumbers → (domain_error : ℕ) → Form
assure_form x f n domain_error = let_form (binding_and x f no_binding) (assured x n domain_error)

-- (defun elt (sequence index)
--   (cond ((stringp sequence) (%char-at sequence index))
--         ((general-vector-p sequence) (%vector-ref sequence index))
--         (t (car (%list-from sequence index)))))
abbrev pub elt_form : ℕ → (truth list_from : ℕ) → Form
elt_form v truth list_from =
    clauses (clause_of (prim IsString (one (local v))) (prim CharAt (two (local v) (local (v + 1))))
    (clause_of (prim IsVector (one (local v))) (prim VectorRef (two (local v) (local (v + 1))))
    (else_clause truth (prim Car (one (call list_from (two (local v) (local (v + 1)))))))))

abbrev pub elt_function : Option Name → ℕ → (truth list_from : ℕ) → Procedure
elt_function name v truth list_from = a_procedure name (v ∷ (v + 1) ∷ []) (sequence (one (elt_form v truth list_from)))

-- (defun %list-from (list index)
--   (assure <list> list)
--   (assure <integer> index)
--   (if (< index 0) (%program-error))
--   (while (and (> index 0) (consp list))
--     (setq list (cdr list))
--     (setq index (- index 1)))
--   (if (consp list) list (%program-error)))
-- The literals are those of the classes, 0, 0, 1 and t.
pub record ListFromNumbers : Type 0 where
  pub list : AssureNumbers
  pub index : AssureNumbers
  pub least : ℕ
  pub last : ℕ
  pub decrement : ℕ
  pub truth : ℕ
  pub domain_error : ℕ
  pub program_error : ℕ

abbrev pub going_test : ℕ → (last : ℕ) → Form
going_test v last = and_form (prim NumberGreater (two (local (v + 1)) (literal last))) (prim IsCons (one (local v)))

abbrev pub going_turn : ℕ → (decrement : ℕ) → Form
going_turn v decrement =
    sequence (two
    (set_local v (prim Cdr (one (local v))))
    (set_local (v + 1) (prim Subtract (two (local (v + 1)) (literal decrement)))))

abbrev pub going_end : ℕ → ListFromNumbers → Form
going_end v n = if_form n.truth (prim IsCons (one (local v))) (local v) (call n.program_error no_form)

abbrev pub least_checked : ℕ → ListFromNumbers → Form
least_checked v n = when (prim NumberLess (two (local (v + 1)) (literal n.least))) (call n.program_error no_form)

abbrev pub list_from : Option Name → ℕ → ListFromNumbers → Procedure
list_from name v n =
    a_procedure name (v ∷ (v + 1) ∷ [])
    (sequence (form_and (assure_form (v + 2) (local v) n.list n.domain_error)
    (form_and (assure_form (v + 3) (local (v + 1)) n.index n.domain_error)
    (three (least_checked v n) (while_form (going_test v n.last) (going_turn v n.decrement)) (going_end v n)))))

-- (defun listp (object) (or (consp object) (null object)))
abbrev pub listp_function : Option Name → ℕ → (truth : ℕ) → Procedure
listp_function name v truth =
    a_procedure name (v ∷ []) (sequence (one (or_form truth (prim IsCons (one (local v))) (prim IsNull (one (local v))))))

-- (defun %sequence (object)
--   (if (or (listp object) (stringp object) (general-vector-p object))
--       object
--       (%domain-error object (class <list>))))
-- The literals are t, t, t and the class.
pub record CheckNumbers : Type 0 where
  pub truth : ℕ
  pub other_truth : ℕ
  pub last_truth : ℕ
  pub class : ℕ
  pub listp : ℕ
  pub domain_error : ℕ

abbrev pub check_test : ℕ → CheckNumbers → Form
check_test v n =
    or_form n.truth (call n.listp (one (local v))) (or_form n.other_truth (prim IsString (one (local v))) (prim IsVector (one (local v))))

abbrev pub check_function : Option Name → ℕ → CheckNumbers → Procedure
check_function name v n =
    a_procedure name (v ∷ []) (sequence (one (if_form n.last_truth (check_test v n) (local v) (call n.domain_error (two (local v) (literal n.class))))))

-- (defun %part-of-list (list start end)
--   (let ((index 0) (items nil))
--     (while (< index end)
--       (if (not (consp list)) (%program-error))
--       (if (<= start index) (setq items (cons (car list) items)))
--       (setq list (cdr list))
--       (setq index (+ index 1)))
--     (nreverse items)))
-- The literals are 0, nil and 1.
pub record PartNumbers : Type 0 where
  pub none : ℕ
  pub no_items : ℕ
  pub increment : ℕ
  pub nreverse : ℕ
  pub program_error : ℕ

abbrev pub part_test : ℕ → Form
part_test v = prim NumberLess (two (local (v + 3)) (local (v + 2)))

abbrev pub item_there : ℕ → (program_error : ℕ) → Form
item_there v program_error = when (not_form (prim IsCons (one (local v)))) (call program_error no_form)

abbrev pub item_taken : ℕ → Form
item_taken v =
    when (prim NumberAtMost (two (local (v + 1)) (local (v + 3)))) (set_local (v + 4) (prim Cons (two (prim Car (one (local v))) (local (v + 4)))))

abbrev pub part_turn : ℕ → PartNumbers → Form
part_turn v n =
    sequence (form_and (item_there v n.program_error) (three (item_taken v)
    (set_local v (prim Cdr (one (local v))))
    (set_local (v + 3) (prim Add (two (local (v + 3)) (literal n.increment))))))

abbrev pub part_body : ℕ → PartNumbers → Form
part_body v n = sequence (two (while_form (part_test v) (part_turn v n)) (call n.nreverse (one (local (v + 4)))))

abbrev pub part_form : ℕ → PartNumbers → Form
part_form v n =
    let_form (binding_and (v + 3) (literal n.none) (binding_and (v + 4) (literal n.no_items) no_binding)) (part_body v n)

abbrev pub part_of_list : Option Name → ℕ → PartNumbers → Procedure
part_of_list name v n = a_procedure name (v ∷ (v + 1) ∷ (v + 2) ∷ []) (sequence (one (part_form v n)))

-- (defun subseq (sequence start end)
--   (%sequence sequence)
--   (assure <integer> start)
--   (assure <integer> end)
--   (if (or (< start 0) (< end start)) (%program-error))
--   (cond ((listp sequence) (%part-of-list sequence start end))
--         ((< (length sequence) end) (%program-error))
--         ((stringp sequence) (%part-of-string sequence start end))
--         (t (%part-of-vector sequence start end))))
-- The literals are those of the classes, 0, t and t.
pub record SubseqNumbers : Type 0 where
  pub start : AssureNumbers
  pub end : AssureNumbers
  pub least : ℕ
  pub truth : ℕ
  pub last_truth : ℕ
  pub check : ℕ
  pub listp : ℕ
  pub length : ℕ
  pub part_of_list : ℕ
  pub part_of_string : ℕ
  pub part_of_vector : ℕ
  pub domain_error : ℕ
  pub program_error : ℕ

abbrev pub bounds_checked : ℕ → SubseqNumbers → Form
bounds_checked v n =
    when (or_form n.truth (prim NumberLess (two (local (v + 1)) (literal n.least))) (prim NumberLess (two (local (v + 2)) (local (v + 1)))))
    (call n.program_error no_form)

abbrev pub part_called : ℕ → (function : ℕ) → Form
part_called v function = call function (three (local v) (local (v + 1)) (local (v + 2)))

abbrev pub subseq_end : ℕ → SubseqNumbers → Form
subseq_end v n =
    clauses (clause_of (call n.listp (one (local v))) (part_called v n.part_of_list)
    (clause_of (prim NumberLess (two (call n.length (one (local v))) (local (v + 2)))) (call n.program_error no_form)
    (clause_of (prim IsString (one (local v))) (part_called v n.part_of_string)
    (else_clause n.last_truth (part_called v n.part_of_vector)))))

abbrev pub subseq_function : Option Name → ℕ → SubseqNumbers → Procedure
subseq_function name v n =
    a_procedure name (v ∷ (v + 1) ∷ (v + 2) ∷ [])
    (sequence (form_and (call n.check (one (local v)))
    (form_and (assure_form (v + 3) (local (v + 1)) n.start n.domain_error)
    (three (assure_form (v + 4) (local (v + 2)) n.end n.domain_error) (bounds_checked v n) (subseq_end v n)))))

-- (defun mapcar (function list :rest lists)
--   (assure <function> function)
--   (let ((values nil))
--     (if (null lists)
--         (while (not (null list))
--           (setq values (cons (funcall function (car list)) values))
--           (setq list (cdr list)))
--         (let ((rests (cons list lists)))
--           (while (%all-left rests)
--             (setq values (cons (%apply function (%heads rests)) values))
--             (%advance rests))))
--     (nreverse values)))
-- The literals are those of the class, nil and t.
pub record MapcarNumbers : Type 0 where
  pub function : AssureNumbers
  pub no_values : ℕ
  pub truth : ℕ
  pub nreverse : ℕ
  pub domain_error : ℕ
  pub all_left : ℕ
  pub heads : ℕ
  pub advance : ℕ

abbrev pub value_taken : ℕ → Form → Form
value_taken v f = set_local (v + 4) (prim Cons (two f (local (v + 4))))

abbrev pub map_turn : ℕ → Form
map_turn v =
    sequence (two
    (value_taken v (call_value (two (local v) (prim Car (one (local (v + 1)))))))
    (set_local (v + 1) (prim Cdr (one (local (v + 1))))))

abbrev pub map_along : ℕ → Form
map_along v = while_form (not_null (local (v + 1))) (map_turn v)

abbrev pub map_turn_of_more : ℕ → MapcarNumbers → Form
map_turn_of_more v n =
    sequence (two
    (value_taken v (apply (local v) (call n.heads (one (local (v + 5))))))
    (call n.advance (one (local (v + 5)))))

abbrev pub map_along_more : ℕ → MapcarNumbers → Form
map_along_more v n =
    let_form (binding_and (v + 5) (prim Cons (two (local (v + 1)) (local (v + 2)))) no_binding)
    (sequence (one (while_form (call n.all_left (one (local (v + 5)))) (map_turn_of_more v n))))

abbrev pub map_body : ℕ → MapcarNumbers → Form
map_body v n =
    sequence (two
    (if_form n.truth (prim IsNull (one (local (v + 2)))) (map_along v) (map_along_more v n))
    (call n.nreverse (one (local (v + 4)))))

abbrev pub mapcar_form : ℕ → MapcarNumbers → Form
mapcar_form v n =
    sequence (two
    (assure_form (v + 3) (local v) n.function n.domain_error)
    (let_form (binding_and (v + 4) (literal n.no_values) no_binding) (map_body v n)))

abbrev pub mapcar_function : Option Name → ℕ → MapcarNumbers → Procedure
mapcar_function name v n = record { name = name; required = v ∷ (v + 1) ∷ []; rest = Some (v + 2); body = mapcar_form v n }
