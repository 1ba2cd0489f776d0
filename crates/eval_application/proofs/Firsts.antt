-- The first operand is applied to the others.
use Rattle.std.proofs.Common.{◌≡◌, ℕ, suc, ◌-◌, ◌<◌, ◌≤◌, List, [], ◌∷◌, ◌++◌, length, take, drop, min, Some, refl, ap, sym, ◌∙◌, subst, add-one, get_or, arith, length-drop}
use Rattle.std.specs.Prelude.{reverse, slice_get}
use Rattle.std.proofs.lemmas.Option.{slice_get_read}
use Rattle.std.proofs.lemmas.List.{drop_all}
use Rattle.base.specs.model.DataRest.{rest_at}
use Rattle.lang_meaning.specs.Values.{nil}
use Rattle.lang_meaning.specs.State.{value}
use Rattle.eval_machine.specs.Configuration.{configuration, come_to}
use Rattle.eval_machine.specs.Applications.{apply_value}
use Rattle.eval_machine.specs.Step.{call_value_step}
use Rattle.eval_store.specs.declared.word.Word.{Word}
use Rattle.eval_store.specs.Words.{value_of_word, values_of}
use Rattle.eval_state.specs.declared.given.Given.{Given}
use Rattle.eval_state.specs.declared.situation.Situation.{Situation}
use Rattle.eval_state.specs.declared.machine.Machine.{Machine}
use Rattle.eval_state.specs.Frames.{last_of, others_of, frames_in}
use Rattle.eval_state.specs.View.{StepsTo, IsGiven, setting_of, at, top, frames, state, dynamic_context}
use Rattle.eval_application.specs.Firsts.{IsFirstArgument}
use Rattle.eval_state.proofs.Stepping.{same_configuration}
use Rattle.eval_application.proofs.Above.{last_pushed, others_pushed}
use Rattle.eval_application.proofs.Judged.{held_last, held_others}
use Rattle.eval_application.proofs.Situations.{level_at, around_at}

-- the first one of the last operands is taken away
pub first_taken : (old new : Machine) (count place : ℕ) (w : Word) → 0 < count → count ≤ length old.operands.items → place ≡ length old.operands.items - count
    → w ≡ get_or old.operands.items place w → new.operands.items ≡ take place old.operands.items ++ drop (suc place) old.operands.items → new ≡ record old { operands = new.operands }
    → IsFirstArgument old new count w
first_taken old new count place w some held at read items same =
    let xs : List Word = old.operands.items in
    let there : slice_get xs place ≡ Some w = slice_get_read xs (length xs) place w refl (omega arith) read in
    let left : count - 1 ≡ length (drop (suc place) xs) = omega (arith, length-drop (suc place) xs) in
    let last : last_of (count - 1) new.operands.items ≡ drop (suc place) xs = ap (last_of (count - 1)) items ∙ last_pushed (take place xs) (drop (suc place) xs) (count - 1) left in
    let others : others_of (count - 1) new.operands.items ≡ take place xs = ap (others_of (count - 1)) items ∙ others_pushed (take place xs) (drop (suc place) xs) (count - 1) left in
    record {
      last = ap (λ k. drop k xs) (sym at) ∙ rest_at xs place w there ∙ ap (λ k. w ∷ drop k xs) (add-one place) ∙ ap (λ ys. w ∷ ys) (sym last);
      others = ap (λ k. take k xs) (sym at) ∙ sym others;
      same = same;
    }

-- it is applied to the others
pub first_called : (old mid new : Machine) (n count others : ℕ) (w : Word) (t : Situation) → count ≡ min n (length old.operands.items) → others ≡ count - 1 → IsFirstArgument old mid count w
    → StepsTo mid new (λ names s b. apply_value s (value_of_word names w) (top names mid others) t.level (dynamic_context names mid t.around) (frames names mid others) (state names mid b))
    → StepsTo old new (λ names s b. call_value_step s (top names old n) (at names old t) (frames names old n) (state names old b))
first_called old mid new n count others w t e o f s = record {
  given = s.given ∙ ap (λ (m : Machine). m.given) f.same;
  comes = λ names b g.
      s.comes names b (let P : Given → Type 0 = λ x. IsGiven names x in subst P (sym (ap (λ (m : Machine). m.given) f.same)) g)
      ∙ ap (λ (m : Machine). apply_value (setting_of names m.given) (value_of_word names w) (top names mid others) t.level (dynamic_context names m t.around)
      (frames_in names m.current (others_of others mid.operands.items) m.slots.items (reverse m.frames.items)) (state names m b)) f.same
      ∙ ap (λ k. apply_value (setting_of names old.given) (value_of_word names w) (top names mid k) t.level (dynamic_context names old t.around)
      (frames_in names old.current (others_of k mid.operands.items) old.slots.items (reverse old.frames.items)) (state names old b)) o
      ∙ ap (λ xs. apply_value (setting_of names old.given) (value_of_word names w) (top names mid (count - 1)) t.level (dynamic_context names old t.around)
      (frames_in names old.current xs old.slots.items (reverse old.frames.items)) (state names old b)) (sym f.others ∙ held_others old.operands.items n count e)
      ∙ ap (λ k. apply_value (setting_of names old.given) (value_of_word names w) (top names mid (count - 1)) k (dynamic_context names old t.around) (frames names old n) (state names old b)) (level_at names old t)
      ∙ ap (λ k. apply_value (setting_of names old.given) (value_of_word names w) (top names mid (count - 1)) (at names old t).level k (frames names old n) (state names old b)) (around_at names old t)
      ∙ ap (λ xs. call_value_step (setting_of names old.given) (values_of names xs) (at names old t) (frames names old n) (state names old b)) (sym f.last ∙ held_last old.operands.items n count e);
}

-- there is none
pub none_called : (old new : Machine) (n count : ℕ) (t : Situation) → count ≡ min n (length old.operands.items) → count ≡ 0
    → StepsTo old new (λ names s b. configuration (come_to (value nil)) (frames names old n) (state names old b))
    → StepsTo old new (λ names s b. call_value_step s (top names old n) (at names old t) (frames names old n) (state names old b))
none_called old new n count t e z s =
    let none : last_of n old.operands.items ≡ [] = drop_all (length old.operands.items - n) old.operands.items (omega arith) in
    same_configuration old new _ _ s (λ names b g. ap (λ xs. call_value_step (setting_of names old.given) (values_of names xs) (at names old t) (frames names old n) (state names old b)) (sym none))
