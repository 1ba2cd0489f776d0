-- `equal` and what it calls as procedures: what their texts are read as.
use Rattle.std.specs.Prelude.{ℕ, ◌+◌, [], ◌∷◌, Option}
use Rattle.base.specs.declared.datum.Name.{Name}
use Rattle.lang_meaning.specs.declared.program.Procedure.{Procedure}
use Rattle.lang_meaning.specs.declared.primitive.Primitive.{Primitive}
use Rattle.lang_meaning.specs.declared.primitive.Primitive.TheVariants.{Add, NumberEqual, NumberLess, Same, IsCons, IsString, IsVector, Car, Cdr, StringLength, VectorLength, CharAt, VectorRef}
use Rattle.lang_meaning.specs.Form.{Form, no_binding, binding_and, literal, local, set_local, clauses, sequence, let_form, call, prim, while_form}
use Rattle.lang_library_laws.specs.ListBodies.{one, two, a_procedure, clause_of, else_clause, and_form}

-- (let ((index 0) (end (length first)))
--   (and (= end (length second))
--        (progn
--          (while (and (< index end) same)
--            (setq index (+ index 1)))
--          (= index end))))
-- where the first and the second variable are what is compared, by their lengths and by what stands at the index
abbrev pub index_form : ℕ → Form
index_form v = local (v + 2)

abbrev pub end_form : ℕ → Form
end_form v = local (v + 3)

abbrev pub goes_along : ℕ → (increment : ℕ) → (same_there : Form) → Form
goes_along v increment same_there =
    while_form (and_form (prim NumberLess (two (index_form v) (end_form v))) same_there)
    (sequence (one (set_local (v + 2) (prim Add (two (index_form v) (literal increment))))))

abbrev pub along : ℕ → (increment : ℕ) → (same_there : Form) → Form
along v increment same_there = sequence (two (goes_along v increment same_there) (prim NumberEqual (two (index_form v) (end_form v))))

abbrev pub compare_body : ℕ → (size : Primitive) → (increment : ℕ) → (same_there : Form) → Form
compare_body v size increment same_there =
    sequence (one (and_form (prim NumberEqual (two (end_form v) (prim size (one (local (v + 1)))))) (along v increment same_there)))

abbrev pub compare : ℕ → (size : Primitive) → (none increment : ℕ) → (same_there : Form) → Form
compare v size none increment same_there =
    let_form (binding_and (v + 2) (literal none) (binding_and (v + 3) (prim size (one (local v))) no_binding))
    (compare_body v size increment same_there)

-- what stands there in the first and in the second
abbrev pub first_there : Primitive → ℕ → Form
first_there part v = prim part (two (local v) (index_form v))

abbrev pub second_there : Primitive → ℕ → Form
second_there part v = prim part (two (local (v + 1)) (index_form v))

-- (defun string= (first second)
--   .. the same characters: (eql (%char-at first index) (%char-at second index)))
abbrev pub same_character : ℕ → Form
same_character v = prim Same (two (first_there CharAt v) (second_there CharAt v))

abbrev pub string_equal : Option Name → ℕ → (none increment : ℕ) → Procedure
string_equal name v none increment = a_procedure name (v ∷ (v + 1) ∷ []) (sequence (one (compare v StringLength none increment (same_character v))))

-- (defun %equal-vectors (first second)
--   .. equal elements: (equal (%vector-ref first index) (%vector-ref second index)))
abbrev pub equal_element : ℕ → (equal : ℕ) → Form
equal_element v equal = call equal (two (first_there VectorRef v) (second_there VectorRef v))

abbrev pub equal_vectors : Option Name → ℕ → (none increment equal : ℕ) → Procedure
equal_vectors name v none increment equal =
    a_procedure name (v ∷ (v + 1) ∷ []) (sequence (one (compare v VectorLength none increment (equal_element v equal))))

-- (defun equal (first second)
--   (while (and (consp first) (consp second) (equal (car first) (car second)))
--     (setq first (cdr first))
--     (setq second (cdr second)))
--   (cond ((and (consp first) (consp second)) nil)
--         ((and (stringp first) (stringp second)) (string= first second))
--         ((and (general-vector-p first) (general-vector-p second)) (%equal-vectors first second))
--         (t (eql first second))))
-- The literals are nil and t.
abbrev pub of_first : Primitive → ℕ → Form
of_first which v = prim which (one (local v))

abbrev pub of_second : Primitive → ℕ → Form
of_second which v = prim which (one (local (v + 1)))

abbrev pub of_both : Primitive → ℕ → Form
of_both which v = and_form (of_first which v) (of_second which v)

abbrev pub equal_test : ℕ → (equal : ℕ) → Form
equal_test v equal = and_form (of_first IsCons v) (and_form (of_second IsCons v) (call equal (two (of_first Car v) (of_second Car v))))

abbrev pub equal_turn : ℕ → Form
equal_turn v = sequence (two (set_local v (of_first Cdr v)) (set_local (v + 1) (of_second Cdr v)))

abbrev pub equal_end : ℕ → (nothing truth strings vectors : ℕ) → Form
equal_end v nothing truth strings vectors =
    clauses (clause_of (of_both IsCons v) (literal nothing)
    (clause_of (of_both IsString v) (call strings (two (local v) (local (v + 1))))
    (clause_of (of_both IsVector v) (call vectors (two (local v) (local (v + 1))))
    (else_clause truth (prim Same (two (local v) (local (v + 1))))))))

abbrev pub equal_function : Option Name → ℕ → (nothing truth equal strings vectors : ℕ) → Procedure
equal_function name v nothing truth equal strings vectors =
    a_procedure name (v ∷ (v + 1) ∷ []) (sequence (two (while_form (equal_test v equal) (equal_turn v)) (equal_end v nothing truth strings vectors)))
