-- An outcome that is no value comes to a place that waits for one.
use Rattle.std.proofs.Common.{◌≡◌, ℕ, false, List, Some, refl, ap, ◌∙◌, ◌⊎◌, ⊎_elim}
use Rattle.lang_meaning.specs.Values.{Value}
use Rattle.flat_language.specs.FlatState.{FlatState}
use Rattle.eval_machine.specs.Configuration.{Setting, Configuration, ContinuationFrame as Above, configuration, come_to, then_on_from}
use Rattle.eval_machine.specs.Step.{outcome_step}
use Rattle.eval_store.specs.declared.word.Word.{Word}
use Rattle.eval_state.specs.declared.frame.Landing.{Landing}
use Rattle.eval_state.specs.declared.frame.Outcome.{Outcome}
use Rattle.eval_state.specs.declared.frame.Outcome.TheVariants as outcome
use Rattle.eval_state.specs.declared.frame.ContinuationFrame.{ContinuationFrame}
use Rattle.eval_state.specs.declared.frame.ContinuationFrame.TheVariants as frame
use Rattle.eval_state.specs.declared.machine.Machine.{Machine}
use Rattle.eval_state.specs.Frames.{outcome_of}
use Rattle.eval_state.specs.Tops.{taken, below}
use Rattle.eval_state.specs.View.{frames}
use Rattle.eval_control.specs.Passing.{IsValue, waiting_operands}

pub no_value : (o : Outcome) → ((e : ℕ) × (w : Word) × (l : Landing) × (o ≡ outcome.Exit e w l)) ⊎ ((asked : ℕ) × (left : ℕ) × (o ≡ outcome.Full asked left)) ⊎ (o ≡ outcome.More) → IsValue o ≡ false
no_value (outcome.Value w) h = absurd (⊎_elim (λ p. cc) (λ p. ⊎_elim (λ q. cc) (λ q. cc) p) h)
no_value (outcome.Exit e w l) h = refl
no_value (outcome.Full asked left) h = refl
no_value outcome.More h = refl

passed_on : (names : List (List ℕ)) (o : Outcome) (frames : List Above) (z : FlatState) (next : Value → FlatState → Configuration) → IsValue o ≡ false
    → configuration (come_to (outcome_of names o)) frames z ≡ then_on_from (outcome_of names o) z frames next
passed_on names (outcome.Value x) frames z next h = absurd (cc)
passed_on names (outcome.Exit e x l) frames z next h = refl
passed_on names (outcome.Full asked left) frames z next h = refl
passed_on names outcome.More frames z next h = refl

-- so many operands as it has
fewer : (names : List (List ℕ)) (m : Machine) (o : Outcome) (z : FlatState) (k n : ℕ) → Some k ≡ Some n
    → configuration (come_to (outcome_of names o)) (frames names m n) z ≡ configuration (come_to (outcome_of names o)) (frames names m k) z
fewer names m o z k n e = let same : n ≡ k = cc in ap (λ j. configuration (come_to (outcome_of names o)) (frames names m j) z) same

pub passes : (names : List (List ℕ)) (s : Setting) (m : Machine) (w : ContinuationFrame) (n : ℕ) (o : Outcome) (z : FlatState) → waiting_operands w ≡ Some n → IsValue o ≡ false
    → configuration (come_to (outcome_of names o)) (frames names m n) z ≡ outcome_step s (taken names m w) (outcome_of names o) (below names m w) z
passes names s m (frame.Binding of_bs of_n of_b of_s) n o z e h = fewer names m o z of_n n e ∙ passed_on names o (frames names m of_n) z _ h
passes names s m (frame.Argument of_o of_fs of_n of_s) n o z e h = fewer names m o z of_n n e ∙ passed_on names o (frames names m of_n) z _ h
passes names s m (frame.DynamicValue of_bs of_n of_b of_s) n o z e h = fewer names m o z of_n n e ∙ passed_on names o (frames names m of_n) z _ h
passes names s m (frame.Block of_n of_e of_o) n o z e h = absurd (cc)
passes names s m (frame.Catch of_n of_t of_e) n o z e h = absurd (cc)
passes names s m (frame.Signal of_n of_c of_m of_e) n o z e h = absurd (cc)
passes names s m (frame.Tagbody of_n of_fs of_s) n o z e h = absurd (cc)
passes names s m (frame.Cleans of_f of_s) n o z e h = absurd (cc)
passes names s m (frame.RestoresStack of_n) n o z e h = absurd (cc)
passes names s m (frame.RestoresSlots of_saved) n o z e h = absurd (cc)
passes names s m (frame.DropsSlots of_n) n o z e h = absurd (cc)
passes names s m (frame.Handles of_w of_n) n o z e h = absurd (cc)
passes names s m (frame.Binds of_bs of_n of_m) n o z e h = absurd (cc)
passes names s m w n o z e h = fewer names m o z 0 n e ∙ passed_on names o (frames names m 0) z _ h
