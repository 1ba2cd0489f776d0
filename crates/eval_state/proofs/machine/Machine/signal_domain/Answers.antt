-- The class that was expected is an object.
use Rattle.std.proofs.Common.{[], ◌∷◌, ap}
use Rattle.eval_store.specs.Words.{value_of_word}
use Rattle.eval_machine.specs.Applications.{signal_class, signal_domain}
use Rattle.eval_state.specs.View.{frames, state, dynamic_context, setting_of}
use Rattle.eval_state.proofs.Stepping.{on_ok, same_configuration}
use Rattle.eval_state.proofs.machine.Machine.signal_domain.Goals as goal

pub returns : goal.returns
returns c =
    on_ok c.signal.result _ _
    (λ steps. same_configuration c.args.self.now c.signal.new.self _ (λ names s b. signal_domain s (value_of_word names c.args.word) c.args.expected c.args.level (dynamic_context names c.args.self.now c.args.around) (frames names c.args.self.now 0) (state names c.args.self.now b)) steps
    (λ names b g. ap (λ v. signal_class (setting_of names c.args.self.now.given) 29 (value_of_word names c.args.word ∷ v ∷ []) c.args.level (dynamic_context names c.args.self.now c.args.around) (frames names c.args.self.now 0) (state names c.args.self.now b)) (c.class_word-class.ensures names g)))
    c.signal.ensures
