-- An argument that is to be of a class, and is.
use Rattle.std.proofs.Common.{◌≡◌, ℕ, List, [], ◌∷◌, ◌++◌, refl, sym, subst, Some, length, slice_index_or, ◌&&◌, Bool, true, false}
use Rattle.std.proofs.lemmas.List.{get_or_push}
use Rattle.lang_meaning.specs.Form.{local}
use Rattle.lang_meaning.specs.declared.program.ProgramRows.{ProgramRows}
use Rattle.lang_meaning.specs.Values.{Value, nil, integer, character, symbol, object}
use Rattle.lang_meaning.specs.Objects.{Object}
use Rattle.lang_meaning.specs.Lookup.{under_number}
use Rattle.lang_library_laws.specs.Applications.{IsExtended, HasClass, IsInstanceOf}
use Rattle.lang_library_laws.specs.SequenceBodies.{AssureNumbers, assured, assure_form}
use Rattle.lang_library_laws.proofs.Frames.{get_kept, Places, Setting, ComesPrinting, a_form}
use Rattle.lang_library_laws.proofs.Evaluates.{Bindings, comes_local, comes_class, comes_sequence, then_nothing, first_then, comes_clauses, clause_taken, body_form, no_bindings_left, value_and, comes_let}
use Rattle.lang_library_laws.proofs.OfPrimitives.{comes_instance}
use Rattle.lang_library_laws.proofs.ListsKept.{here}
use Rattle.lang_meaning.specs.Form.{no_binding}

pub class_kept : {names : List (List ℕ)} {program : ProgramRows} {store now : List Object} {id class : ℕ} → IsExtended Object store now
    → HasClass names program store id class → HasClass names program now id class
class_kept {names} {program} {store} {now} {id} {class} e h = record { number = h.number; row = h.row; is = h.is; there = get_kept e h.number _ h.there }

pub instance_kept : (program : ProgramRows) (class : ℕ) {store now : List Object} → IsExtended Object store now → (v : Value)
    → IsInstanceOf program class store v → IsInstanceOf program class now v
instance_kept program class {store} {now} e (object i) h = (h.0, get_kept e i h.0 h.1, h.2)
instance_kept program class {store} {now} e nil h = h
instance_kept program class {store} {now} e (integer n) h = h
instance_kept program class {store} {now} e (character c) h = h
instance_kept program class {store} {now} e (symbol x) h = h

-- a conjunction with what is false
pub none_of : (b : Bool) → b && false ≡ false
none_of true = refl
none_of false = refl

-- the value of the variable, which is then that of one more variable
pub comes_assured : {s : Setting} {said : List ℕ} {places : Places} {k : ℕ} {frame : List Value} {store : List Object} {Q : Value → List Value → List Object → Type 0}
    (v i x : ℕ) (n : AssureNumbers) (domain_error class : ℕ) (w : Value)
    → under_number v places ≡ Some i → slice_index_or frame i nil ≡ w
    → HasClass s.names s.program store n.class class → IsInstanceOf s.program class store w
    → Q w (frame ++ w ∷ []) store
    → ComesPrinting s said said places (a_form k (assure_form x (local v) n domain_error)) frame store Q
comes_assured {s} {said} {places} {k} {frame} {store} {Q} v i x n domain_error class w found is has instance q =
    let there : slice_index_or (frame ++ w ∷ []) (length frame) nil ≡ w = get_or_push frame w nil (length frame) refl in
    comes_let (value_and (comes_local v i found
    (subst (λ u. Bindings s said said places k no_binding (u ∷ []) (x ∷ []) (assured x n domain_error) frame store Q) (sym is)
    (no_bindings_left (λ u. refl) (comes_sequence (first_then (comes_clauses (clause_taken (comes_instance
    (comes_local x (length frame) (here x (length frame) places) (comes_class n.class class (object has.number) has.row has.is (
      class,
      has.number,
      refl,
      has.there,
      subst (IsInstanceOf s.program class store) (sym there) instance,
      (
        refl,
        body_form (comes_sequence (first_then (comes_local x (length frame) (here x (length frame) places)
            (then_nothing (then_nothing (subst (λ u. Q u (frame ++ w ∷ []) store) (sym there) q)))))),
      ),
    ))))))))))))
