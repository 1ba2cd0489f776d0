-- `reverse`, by the loop that turns copies.
use Rattle.std.proofs.Common.{◌≡◌, ℕ, suc, ◌+◌, List, [], ◌∷◌, refl, sym, ap, subst, ◌∙◌, None, length, reverse, arith, append-nil, le_of_eq}
use Rattle.base.specs.Data as datum
use Rattle.lang_meaning.specs.Form.{literal, local, call, sequence}
use Rattle.lang_meaning.specs.Values.{Value, nil}
use Rattle.lang_meaning.specs.Objects.{Object}
use Rattle.lang_meaning.specs.Signals.{apply_procedure}
use Rattle.lang_library_laws.specs.Lists.{IsListFrom, IsProperList}
use Rattle.lang_library_laws.specs.Applications as Applied
use Rattle.lang_library_laws.specs.Applications.{IsExtended, at_level, IsNamed}
use Rattle.lang_library_laws.specs.ListBodies.{one, two, turn_copy_onto}
use Rattle.lang_library_laws.specs.Laws.{LawOfReverse}
use Rattle.lang_library_laws.proofs.Frames.{nothing_added, same_objects}
use Rattle.lang_library_laws.proofs.Evaluates.{comes_local, comes_literal, comes_sequence, then_nothing, first_then, no_arguments_left, argument_and}
use Rattle.lang_library_laws.proofs.Applies.{applies, called, comes_call}
use Rattle.lang_library_laws.proofs.Falling.{turned_onto, turned_is_reverse, IsFalling, falling_list}
use Rattle.lang_library_laws.proofs.TurnCopy.{turn_copy_gives}
use Rattle.lang_library_laws.proofs.ListsKept.{here}

-- what is turned onto nothing is in the other order
reversed : (first : ℕ) (store : List Object) (w : Value) (items : List Value) → IsFalling first (length store) store w (turned_onto items [])
    → IsListFrom first store w (reverse items)
reversed first store w items h =
    subst (λ vs. IsListFrom first store w vs) (turned_is_reverse items [] ∙ append-nil (reverse items))
    (falling_list store first (length store) w (turned_onto items []) h)

pub law_of_reverse : LawOfReverse
law_of_reverse names program name name' v v' onto no_items number named constant there limit k wrong around z list items l =
    let IsReverse : Value → List Object → Type 0 = λ w store. IsListFrom (length z.store) store w (reverse items) in
    let IsTurned : Value → List Object → Type 0 = λ w store. IsFalling (length z.store) (length store) store w (turned_onto items []) in
    let enough : suc (suc (length items)) ≡ length items + 2 = omega arith in
    subst (λ n. Applied.Gives limit k n z IsReverse (apply_procedure (at_level names program limit k) wrong number None (list ∷ []) around z)) enough
    (applies names program limit z z.store (suc (length items)) number name (v ∷ []) (sequence (one (call onto (two (local v) (literal no_items)))))
    (list ∷ []) IsReverse (nothing_added z.store) there (λ u. refl) refl
    (λ levels.
    comes_sequence (first_then (comes_call (argument_and (comes_local v 0 (here v 0 []) (argument_and
    (comes_literal no_items (datum.item constant.0 datum.nil) nil constant.1 refl (no_arguments_left
    (called IsTurned (suc (length items)) (λ g. omega (arith, g)) z.store (nothing_added z.store)
    (λ w more now e g. then_nothing (reversed (length z.store) now w items g))
    onto (turn_copy_onto name' v') named (list ∷ nil ∷ []) (λ now h wrong around.
    turn_copy_gives names program limit now name' v' named.number named.there (length z.store) items [] list nil
    (subst (λ os. IsProperList os list items) (sym h.objects_are) l) refl
    (le_of_eq (ap length (sym h.objects_are))) z.store (same_objects (sym h.objects_are)) levels wrong around))))))))))
    k wrong around)
