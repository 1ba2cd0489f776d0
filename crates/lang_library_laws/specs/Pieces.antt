-- What a row of pieces stands for: each is put on the forms and clauses in front of it, or takes the last ones as its parts.
use Rattle.std.specs.Prelude.{ℕ, zero, suc, ◌+◌, List, [], ◌∷◌, Option, Some, None}
use Rattle.lang_library_laws.specs.declared.piece.Piece.{Piece}
use Rattle.lang_library_laws.specs.declared.piece.Piece.TheVariants as piece
use Rattle.lang_meaning.specs.Form.{Form, literal, local, set_local, call, call_value, apply, prim, sequence, while_form, let_form, clauses}
use Rattle.lang_meaning.specs.Form.{Forms, no_form, form_and, ClauseForms, no_clause, clause_and, MaybeForm, no_body, with_body, BindingForms, no_binding, binding_and}

-- forms and clauses, the last ones first
pub record Stacks : Type 0 where
  pub forms : List Form
  pub clauses_made : List (Form × MaybeForm)

abbrev pub with_forms : Stacks → List Form → Stacks
with_forms z fs = record { forms = fs; clauses_made = z.clauses_made }

-- the last forms in their order, and those in front of them
abbrev pub last_forms : ℕ → List Form → Forms → Option (Forms × List Form)
last_forms zero fs taken = Some (taken, fs)
last_forms (suc n) [] taken = None
last_forms (suc n) (f ∷ fs) taken = last_forms n fs (form_and f taken)

abbrev pub last_clauses : ℕ → List (Form × MaybeForm) → ClauseForms → Option (ClauseForms × List (Form × MaybeForm))
last_clauses zero cs taken = Some (taken, cs)
last_clauses (suc n) [] taken = None
last_clauses (suc n) (c ∷ cs) taken = last_clauses n cs (clause_and c.0 c.1 taken)

-- the last forms as the values of the variables from one on
abbrev pub last_bindings : ℕ → ℕ → List Form → BindingForms → Option (BindingForms × List Form)
last_bindings v zero fs taken = Some (taken, fs)
last_bindings v (suc n) [] taken = None
last_bindings v (suc n) (f ∷ fs) taken = last_bindings v n fs (binding_and (v + n) f taken)

abbrev pub if_there : {X Y : Type 0} → Option X → (X → Option Y) → Option Y
if_there None next = None
if_there (Some x) next = next x

-- two forms, of which the second is the last one
abbrev pub last_two : List Form → (Form → Form → List Form → Option Stacks) → Option Stacks
last_two (g ∷ f ∷ fs) next = next f g fs
last_two fs next = None

abbrev pub last_one : List Form → (Form → List Form → Option Stacks) → Option Stacks
last_one (f ∷ fs) next = next f fs
last_one [] next = None

-- a piece more
abbrev pub put : Piece → Stacks → Option Stacks
put (piece.Literal i) z = Some (with_forms z (literal i ∷ z.forms))
put (piece.Local v) z = Some (with_forms z (local v ∷ z.forms))
put (piece.SetLocal v) z = last_one z.forms (λ f fs. Some (with_forms z (set_local v f ∷ fs)))
put (piece.Call n k) z = if_there (last_forms k z.forms no_form) (λ t. Some (with_forms z (call n t.0 ∷ t.1)))
put (piece.CallValue k) z = if_there (last_forms k z.forms no_form) (λ t. Some (with_forms z (call_value t.0 ∷ t.1)))
put piece.Apply z = last_two z.forms (λ f list fs. Some (with_forms z (apply f list ∷ fs)))
put (piece.Prim p k) z = if_there (last_forms k z.forms no_form) (λ t. Some (with_forms z (prim p t.0 ∷ t.1)))
put (piece.Sequence k) z = if_there (last_forms k z.forms no_form) (λ t. Some (with_forms z (sequence t.0 ∷ t.1)))
put piece.While z = last_two z.forms (λ test body fs. Some (with_forms z (while_form test body ∷ fs)))
put (piece.Let v k) z =
    last_one z.forms (λ body fs. if_there (last_bindings v k fs no_binding) (λ t. Some (with_forms z (let_form t.0 body ∷ t.1))))
put piece.Clause z =
    last_two z.forms (λ test body fs. Some (record { forms = fs; clauses_made = (test, with_body body) ∷ z.clauses_made }))
put piece.Test z = last_one z.forms (λ test fs. Some (record { forms = fs; clauses_made = (test, no_body) ∷ z.clauses_made }))
put (piece.Clauses k) z =
    if_there (last_clauses k z.clauses_made no_clause) (λ t. Some (record { forms = clauses t.0 ∷ z.forms; clauses_made = t.1 }))

abbrev pub put_all : List Piece → Stacks → Option Stacks
put_all [] z = Some z
put_all (p ∷ ps) z = if_there (put p z) (λ after. put_all ps after)

-- the one form of the pieces
abbrev pub the_form : Stacks → Option Form
the_form z = by z.forms z.clauses_made
  where
    by : List Form → List (Form × MaybeForm) → Option Form
    by (f ∷ []) [] = Some f
    by fs cs = None

abbrev pub read : List Piece → Option Form
read ps = if_there (put_all ps (record { forms = []; clauses_made = [] })) the_form
