-- The number of arguments is judged.
use Rattle.std.proofs.Common.{◌≡◌, ℕ, suc, ◌+◌, ◌-◌, List, [], length, take, drop, true, false, ap, sym, ◌∙◌, add-one, min, arith}
use Rattle.std.specs.Prelude.{reverse, is_some, if◌then◌else◌}
use Rattle.lang_meaning.specs.Objects.{program_error_class}
use Rattle.lang_meaning.specs.Signals.{takes}
use Rattle.eval_machine.specs.Applications.{signal_class}
use Rattle.eval_store.specs.Words.{values_of}
use Rattle.eval_state.specs.declared.situation.DynamicLinks.{DynamicLinks}
use Rattle.eval_state.specs.declared.machine.Machine.{Machine}
use Rattle.eval_application.specs.declared.entering.Entering.{Entering}
use Rattle.eval_state.specs.Frames.{last_of, others_of, frames_in}
use Rattle.eval_state.specs.View.{StepsTo, setting_of, state, top, frames, dynamic_context}
use Rattle.eval_state.specs.Operands.{IsDropped}
use Rattle.eval_application.specs.Entering.{entered_of, entering, in_words}
use Rattle.eval_state.proofs.Doing.{then_dropped}
use Rattle.eval_state.proofs.Stepping.{same_configuration}
use Rattle.eval_application.proofs.Entries.{so_many}

-- so many operands, or all that there are
pub held_last : {X : Type 0} (xs : List X) (n count : ℕ) → count ≡ min n (length xs) → last_of count xs ≡ last_of n xs
held_last xs n count e =
    let d : length xs - count ≡ length xs - n = omega arith in
    ap (λ k. drop k xs) d

pub held_others : {X : Type 0} (xs : List X) (n count : ℕ) → count ≡ min n (length xs) → others_of count xs ≡ others_of n xs
held_others xs n count e =
    let d : length xs - count ≡ length xs - n = omega arith in
    ap (λ k. take k xs) d

pub held_values : (names : List (List ℕ)) (m : Machine) (n count : ℕ) → count ≡ min n (length m.operands.items) → length (top names m n) ≡ count
held_values names m n count e =
    ap (λ xs. length (values_of names xs)) (sym (held_last m.operands.items n count e)) ∙ so_many names m count (omega arith)

pub taken : (old new : Machine) (p : Entering) (n count level : ℕ) (a : DynamicLinks) → count ≡ min n (length old.operands.items)
    → takes (length p.procedure.now.required) (is_some p.procedure.now.rest) count ≡ true
    → StepsTo old new (λ names s b. in_words s (entered_of names p) (top names old count) level (dynamic_context names old a) (frames names old count) (state names old b))
    → StepsTo old new (λ names s b. entering s (entered_of names p) (top names old n) level (dynamic_context names old a) (frames names old n) (state names old b))
taken old new p n count level a e t s =
    same_configuration old new _ _ s (λ names b g.
    ap (λ xs. in_words (setting_of names old.given) (entered_of names p) (values_of names xs) level (dynamic_context names old a) (frames names old count) (state names old b)) (held_last old.operands.items n count e)
    ∙ ap (λ xs. in_words (setting_of names old.given) (entered_of names p) (top names old n) level (dynamic_context names old a) (frames_in names old.current xs old.slots.items (reverse old.frames.items)) (state names old b)) (held_others old.operands.items n count e)
    ∙ sym (ap (λ k. if k then in_words (setting_of names old.given) (entered_of names p) (top names old n) level (dynamic_context names old a) (frames names old n) (state names old b)
    else signal_class (setting_of names old.given) program_error_class [] (suc level) (dynamic_context names old a) (frames names old n) (state names old b))
    (ap (takes (length p.procedure.now.required) (is_some p.procedure.now.rest)) (held_values names old n count e) ∙ t)))

pub not_taken : (old mid new : Machine) (p : Entering) (n count level : ℕ) (a : DynamicLinks) → count ≡ min n (length old.operands.items)
    → takes (length p.procedure.now.required) (is_some p.procedure.now.rest) count ≡ false → IsDropped old mid n
    → StepsTo mid new (λ names s b. signal_class s program_error_class [] (level + 1) (dynamic_context names mid a) (frames names mid 0) (state names mid b))
    → StepsTo old new (λ names s b. entering s (entered_of names p) (top names old n) level (dynamic_context names old a) (frames names old n) (state names old b))
not_taken old mid new p n count level a e t d s =
    same_configuration old new _ _ (then_dropped old mid new n a (λ names s around frames z. signal_class s program_error_class [] (level + 1) around frames z) d s) (λ names b g.
    ap (λ k. signal_class (setting_of names old.given) program_error_class [] k (dynamic_context names old a) (frames names old n) (state names old b)) (add-one level)
    ∙ sym (ap (λ k. if k then in_words (setting_of names old.given) (entered_of names p) (top names old n) level (dynamic_context names old a) (frames names old n) (state names old b)
    else signal_class (setting_of names old.given) program_error_class [] (suc level) (dynamic_context names old a) (frames names old n) (state names old b))
    (ap (takes (length p.procedure.now.required) (is_some p.procedure.now.rest)) (held_values names old n count e) ∙ t)))
