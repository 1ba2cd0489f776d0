-- Functions that print numbers as procedures: what their texts are read as.
use Rattle.std.specs.Prelude.{ℕ, ◌+◌, [], ◌∷◌, Option}
use Rattle.base.specs.declared.datum.Name.{Name}
use Rattle.lang_meaning.specs.declared.program.Procedure.{Procedure}
use Rattle.lang_meaning.specs.declared.primitive.Primitive.TheVariants.{Add, Subtract, Divide, Modulo, NumberGreater, NumberAtLeast, CharAt, PutChar}
use Rattle.lang_meaning.specs.Form.{Form, form_and, no_clause, no_binding, binding_and, literal, local, clauses, sequence, let_form, call, prim}
use Rattle.lang_library_laws.specs.ListBodies.{one, two, a_procedure, clause_of, if_form}

abbrev pub when : Form → Form → Form
when test f = clauses (clause_of test f no_clause)

-- (defun %emit (stream character) (%put-char stream character))
abbrev pub emit : Option Name → ℕ → Procedure
emit name v = a_procedure name (v ∷ (v + 1) ∷ []) (sequence (one (prim PutChar (two (local v) (local (v + 1))))))

-- (defun %digit (digit)
--   (%char-at "0123456789ABCDEFGHIJKLMNOPQRSTUVWXYZ" digit))
abbrev pub digit_function : Option Name → ℕ → (digits : ℕ) → Procedure
digit_function name v digits = a_procedure name (v ∷ []) (sequence (one (prim CharAt (two (literal digits) (local v)))))

-- (defun %emit-digit (stream digit)
--   (%emit stream (%digit digit)))
abbrev pub emit_digit : Option Name → ℕ → (put byte : ℕ) → Procedure
emit_digit name v put byte =
    a_procedure name (v ∷ (v + 1) ∷ []) (sequence (one (call put (two (local v) (call byte (one (local (v + 1))))))))

-- (defun %emit-natural (stream number radix)
--   (if (>= number radix) (%emit-natural stream (div number radix) radix))
--   (%emit-digit stream (mod number radix)))
abbrev pub emit_front : ℕ → (natural : ℕ) → Form
emit_front v natural =
    when (prim NumberAtLeast (two (local (v + 1)) (local (v + 2))))
    (call natural (form_and (local v) (two (prim Divide (two (local (v + 1)) (local (v + 2)))) (local (v + 2)))))

abbrev pub emit_last : ℕ → (last : ℕ) → Form
emit_last v last = call last (two (local v) (prim Modulo (two (local (v + 1)) (local (v + 2)))))

abbrev pub emit_natural : Option Name → ℕ → (natural last : ℕ) → Procedure
emit_natural name v natural last =
    a_procedure name (v ∷ (v + 1) ∷ (v + 2) ∷ []) (sequence (two (emit_front v natural) (emit_last v last)))

-- (defun %emit-integer (stream integer radix)
--   (if (>= integer 0)
--       (%emit-natural stream integer radix)
--       (let* ((last (mod (- 0 (mod integer radix)) radix))
--              (front (- 0 (div (+ integer last) radix))))
--         (%emit stream #\-)
--         (if (> front 0) (%emit-natural stream front radix))
--         (%emit-digit stream last))))
-- The literals are those of 0, t, 0, 0, the minus sign and 0.
abbrev pub last_digit : ℕ → (minuend : ℕ) → Form
last_digit v minuend = prim Modulo (two (prim Subtract (two (literal minuend) (prim Modulo (two (local (v + 1)) (local (v + 2)))))) (local (v + 2)))

abbrev pub front_digits : ℕ → (minuend : ℕ) → Form
front_digits v minuend =
    prim Subtract (two (literal minuend) (prim Divide (two (prim Add (two (local (v + 1)) (local (v + 3)))) (local (v + 2)))))

abbrev pub emit_signed : ℕ → (minus least put natural last : ℕ) → Form
emit_signed v minus least put natural last =
    sequence (form_and (call put (two (local v) (literal minus)))
    (two (when (prim NumberGreater (two (local (v + 4)) (literal least))) (call natural (form_and (local v) (two (local (v + 4)) (local (v + 2))))))
    (call last (two (local v) (local (v + 3))))))

abbrev pub emit_negative : ℕ → (minuend minuend' minus least put natural last : ℕ) → Form
emit_negative v minuend minuend' minus least put natural last =
    let_form (binding_and (v + 3) (last_digit v minuend) no_binding)
    (sequence (one (let_form (binding_and (v + 4) (front_digits v minuend') no_binding)
    (sequence (one (let_form no_binding (emit_signed v minus least put natural last)))))))

abbrev pub emit_form : ℕ → (bound truth minuend minuend' minus least put natural last : ℕ) → Form
emit_form v bound truth minuend minuend' minus least put natural last =
    if_form truth (prim NumberAtLeast (two (local (v + 1)) (literal bound)))
    (call natural (form_and (local v) (two (local (v + 1)) (local (v + 2)))))
    (emit_negative v minuend minuend' minus least put natural last)

abbrev pub emit_integer : Option Name → ℕ → (bound truth minuend minuend' minus least put natural last : ℕ) → Procedure
emit_integer name v bound truth minuend minuend' minus least put natural last =
    a_procedure name (v ∷ (v + 1) ∷ (v + 2) ∷ []) (sequence (one (emit_form v bound truth minuend minuend' minus least put natural last)))
