-- **A cleanup runs once**, by what the form inside comes to.
use Rattle.std.proofs.Common.{◌≡◌, refl, sym, ap, ◌∙◌}
use Rattle.lang_meaning.specs.State.{DynamicContext, exits_from, Outcome, value, exit, full, more}
use Rattle.lang_meaning.specs.Values.{Value}
use Rattle.flat_language.specs.FlatMeaning.{mean, charged_for}
use Rattle.flat_language.specs.FlatForm.{unwind}
use Rattle.flat_language.specs.FlatState.{FlatState, FlatEvaluated, FlatAct, go_on, cleaned, cleaned_from}
use Rattle.back_relation.proofs.Growth.{then_value, then_other}
use Rattle.back_relation.specs.Forms.{context_at}
use Rattle.back_exits.specs.Once.{RanOnce, CleanedOnce, by_value, by_transfer, without_words, without_levels, LawOfCleanedOnce, LawOfUnwound, LawOfWholeUnwound}
use Rattle.back_exits.proofs.Cleanups.{unwinding_law, whole_unwinding_law}

module _ (cleanup : FlatAct) (around : DynamicContext) (left : FlatEvaluated) where
  ran_once : (within : DynamicContext) (whole : FlatEvaluated) → whole ≡ go_on (cleanup within left.state) (λ v after. record { outcome = left.outcome; state = after })
      → RanOnce cleanup around left whole within
  ran_once within whole same = record {
    ran = ran;
    ran_there = refl;
    goes_on = λ v e. same ∙ then_value ran next v e;
    is_replaced = λ none. by ran.outcome refl none;
  }
    where
      ran : FlatEvaluated
      ran = cleanup within left.state

      next : Value → FlatState → FlatEvaluated
      next v after = record { outcome = left.outcome; state = after }

      by : (o : Outcome) → ran.outcome ≡ o → ((v : Value) → ran.outcome ≡ value v → ⊥) → whole ≡ ran
      by (value v) e none = absurd (none v e)
      by (exit x v landing) e none = same ∙ then_other ran next (exit x v landing) e tt
      by (full asked left_then) e none = same ∙ then_other ran next (full asked left_then) e tt
      by more e none = same ∙ then_other ran next more e tt

  pub cleaned_once : CleanedOnce cleanup around left (cleaned cleanup around left)
  cleaned_once = by left.outcome refl
    where
      by : (o : Outcome) → left.outcome ≡ o → CleanedOnce cleanup around left (cleaned cleanup around left)
      by (value v) e =
          by_value v e
          (ran_once around (cleaned cleanup around left)
          (ap (λ o. cleaned_from cleanup around o left.state) e ∙ ap (λ o. go_on (cleanup around left.state) (λ w after. record { outcome = o; state = after })) (sym e)))
      by (exit x v landing) e =
          by_transfer x v landing e
          (ran_once (record around { exits = exits_from x around.exits }) (cleaned cleanup around left)
          (ap (λ o. cleaned_from cleanup around o left.state) e
          ∙ ap (λ o. go_on (cleanup (record around { exits = exits_from x around.exits }) left.state) (λ w after. record { outcome = o; state = after })) (sym e)))
      by (full asked left_then) e =
          without_words asked left_then e (ap (λ o. cleaned_from cleanup around o left.state) e ∙ ap (λ o. record { outcome = o; state = left.state }) (sym e))
      by more e = without_levels e (ap (λ o. cleaned_from cleanup around o left.state) e ∙ ap (λ o. record { outcome = o; state = left.state }) (sym e))

pub cleaned_once_law : LawOfCleanedOnce
unfolding mean
cleaned_once_law context f cleanup env around z =
    cleaned_once (λ within after. mean context cleanup env within after) around (mean context f env around (charged_for (unwind f cleanup) z))

pub unwound_law : LawOfUnwound
unwound_law setting s d m n size k turns f cleanup placed there enough enough_words f_here cleanup_here p = record {
  left = mean (context_at setting k) f p.env p.around (charged_for (unwind f cleanup) p.z);
  left_there = refl;
  whole = mean (context_at setting k) (unwind f cleanup) p.env p.around p.z;
  once = cleaned_once_law (context_at setting k) f cleanup p.env p.around p.z;
  does = unwinding_law setting s d m n size k turns f cleanup placed there enough enough_words f_here cleanup_here p;
}

pub whole_unwound_law : LawOfWholeUnwound
whole_unwound_law setting k turns f cleanup placed f_does cleanup_does s d n size first p stands registers words = record {
  left = mean (context_at setting k) f p.env p.around (charged_for (unwind f cleanup) p.z);
  left_there = refl;
  whole = mean (context_at setting k) (unwind f cleanup) p.env p.around p.z;
  once = cleaned_once_law (context_at setting k) f cleanup p.env p.around p.z;
  does =
      whole_unwinding_law setting k turns f cleanup placed f_does cleanup_does p.rs p.valid s d n first p.w p.env p.around p.z p.regs p.y stands p.begins registers words;
}
