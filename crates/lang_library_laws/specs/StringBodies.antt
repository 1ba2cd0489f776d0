-- `string-append` and what it calls as procedures: what their texts are read as.
use Rattle.std.specs.Prelude.{ℕ, ◌+◌, [], ◌∷◌, Option, Some}
use Rattle.base.specs.declared.datum.Name.{Name}
use Rattle.lang_meaning.specs.declared.program.Procedure.{Procedure}
use Rattle.lang_meaning.specs.declared.primitive.Primitive.TheVariants.{Add, NumberLess, Car, Cdr, MakeString, StringLength, CharAt, SetCharAt}
use Rattle.lang_meaning.specs.Form.{Form, no_binding, binding_and, literal, local, set_local, sequence, let_form, call, prim, while_form}
use Rattle.lang_library_laws.specs.ListBodies.{one, two, a_procedure, not_null}
use Rattle.lang_library_laws.specs.SequenceBodies.{three}

-- (defun %length-of-all (strings)
--   (let ((length 0))
--     (while (not (null strings))
--       (setq length (+ length (%string-length (car strings))))
--       (setq strings (cdr strings)))
--     length))
abbrev pub lengths_turn : ℕ → Form
lengths_turn v =
    sequence (two
    (set_local (v + 1) (prim Add (two (local (v + 1)) (prim StringLength (one (prim Car (one (local v))))))))
    (set_local v (prim Cdr (one (local v)))))

abbrev pub lengths_body : ℕ → Form
lengths_body v = sequence (two (while_form (not_null (local v)) (lengths_turn v)) (local (v + 1)))

abbrev pub length_of_all : Option Name → ℕ → (none : ℕ) → Procedure
length_of_all name v none =
    a_procedure name (v ∷ []) (sequence (one (let_form (binding_and (v + 1) (literal none) no_binding) (lengths_body v))))

-- (defun %copy-into (whole index string)
--   (let ((from 0) (end (%string-length string)))
--     (while (< from end)
--       (%set-char-at (%char-at string from) whole index)
--       (setq from (+ from 1))
--       (setq index (+ index 1)))
--     index))
-- The literals are 0, 1 and 1.
abbrev pub copy_test : ℕ → Form
copy_test v = prim NumberLess (two (local (v + 3)) (local (v + 4)))

abbrev pub copy_turn : ℕ → (increment increment' : ℕ) → Form
copy_turn v increment increment' =
    sequence (three
    (prim SetCharAt (three (prim CharAt (two (local (v + 2)) (local (v + 3)))) (local v) (local (v + 1))))
    (set_local (v + 3) (prim Add (two (local (v + 3)) (literal increment))))
    (set_local (v + 1) (prim Add (two (local (v + 1)) (literal increment')))))

abbrev pub copy_body : ℕ → (increment increment' : ℕ) → Form
copy_body v increment increment' = sequence (two (while_form (copy_test v) (copy_turn v increment increment')) (local (v + 1)))

abbrev pub copy_into : Option Name → ℕ → (none increment increment' : ℕ) → Procedure
copy_into name v none increment increment' =
    a_procedure name (v ∷ (v + 1) ∷ (v + 2) ∷ [])
    (sequence (one (let_form (binding_and (v + 3) (literal none) (binding_and (v + 4) (prim StringLength (one (local (v + 2)))) no_binding))
    (copy_body v increment increment'))))

-- (defun string-append (:rest strings)
--   (let ((whole (%make-string (%length-of-all strings) #\space)) (index 0))
--     (while (not (null strings))
--       (setq index (%copy-into whole index (car strings)))
--       (setq strings (cdr strings)))
--     whole))
-- The literals are the blank and 0.
abbrev pub joining_turn : ℕ → (copy : ℕ) → Form
joining_turn v copy =
    sequence (two
    (set_local (v + 2) (call copy (three (local (v + 1)) (local (v + 2)) (prim Car (one (local v))))))
    (set_local v (prim Cdr (one (local v)))))

abbrev pub joining_body : ℕ → (copy : ℕ) → Form
joining_body v copy = sequence (two (while_form (not_null (local v)) (joining_turn v copy)) (local (v + 1)))

abbrev pub joining_form : ℕ → (blank none lengths copy : ℕ) → Form
joining_form v blank none lengths copy =
    let_form (binding_and (v + 1) (prim MakeString (two (call lengths (one (local v))) (literal blank))) (binding_and (v + 2) (literal none) no_binding))
    (joining_body v copy)

abbrev pub string_append : Option Name → ℕ → (blank none lengths copy : ℕ) → Procedure
string_append name v blank none lengths copy =
    record { name = name; required = []; rest = Some v; body = sequence (one (joining_form v blank none lengths copy)) }
