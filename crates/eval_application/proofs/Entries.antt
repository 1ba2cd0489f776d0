-- A procedure is entered: each part is that of the definition.
use Rattle.std.proofs.Common.{◌≡◌, ℕ, ◌+◌, ◌-◌, ◌≤◌, List, [], ◌∷◌, ◌++◌, length, Bool, true, false, refl, ap, sym, ◌∙◌, subst, arith}
use Rattle.std.specs.Prelude.{reverse}
use Rattle.std.proofs.lemmas.List.{length-map}
use Rattle.std.proofs.Common.{length-drop}
use Rattle.lang_meaning.specs.Values.{Value}
use Rattle.lang_meaning.specs.State.{DynamicContext}
use Rattle.flat_language.specs.FlatNodes.{homes}
use Rattle.flat_language.specs.FlatState.{charged}
use Rattle.eval_machine.specs.Configuration.{Setting, Transition, restores_stack, then_on}
use Rattle.eval_machine.specs.Applications.{requested, recorded, boxes_requested, begin_body}
use Rattle.eval_store.specs.declared.word.Word.TheVariants.{Nil}
use Rattle.eval_store.specs.Words.{value_of_word, called_or_none}
use Rattle.eval_store.specs.View.{Beside, limit_of}
use Rattle.eval_state.specs.declared.frame.ContinuationFrame.TheVariants.{RestoresStack}
use Rattle.eval_state.specs.declared.given.Given.{Given}
use Rattle.eval_state.specs.declared.situation.DynamicLinks.{DynamicLinks}
use Rattle.eval_state.specs.declared.machine.Machine.{Machine}
use Rattle.eval_application.specs.declared.entering.Entering.{Entering}
use Rattle.eval_state.specs.Frames.{last_of, others_of, around_in, frames_in}
use Rattle.eval_state.specs.View.{StepsTo, IsGiven, IsCharged, setting_of, state, top, frames, dynamic_context}
use Rattle.eval_state.specs.Requests.{IsAsked}
use Rattle.eval_state.specs.Operands.{IsDropped}
use Rattle.eval_state.specs.Doing.{Gives, Fills, IsEffectDone}
use Rattle.eval_application.specs.Entering.{HasStack, IsGivenStack, entered_of, in_words, in_rest, in_record, in_boxes}
use Rattle.eval_state.proofs.Doing.{request_granted, request_refused, effect_done, effect_wanting, then_given, then_filled}
use Rattle.eval_state.proofs.Pushes.{pushed, surroundings_stay}

-- the words are granted, the units counted, and the frame is there
pub stack_given : (old mid counted new : Machine) (words all units before : ℕ) (r : Bool) → all ≡ words → IsAsked old mid 0 all r → r ≡ true → IsCharged mid counted units
    → new ≡ record counted { frames = new.frames } → new.frames.items ≡ counted.frames.items ++ RestoresStack before ∷ []
    → ((names : List (List ℕ)) (b : Beside) → before ≡ (state names old b).state.stack) → HasStack old new words units
stack_given old mid k new words all units before r w a e c n f s =
    let g : Gives old mid (λ names z. requested (limit_of old.given.limit) 0 all z) Nil = request_granted old mid 0 all r a e in
    record {
      before = before;
      frames = f ∙ ap (λ (m : Machine). m.frames.items ++ RestoresStack before ∷ []) (c.same ∙ ap (λ (m : Machine). record m { store = k.store }) g.same);
      same = n ∙ ap (λ (m : Machine). record m { frames = new.frames }) (c.same ∙ ap (λ (m : Machine). record m { store = k.store }) g.same)
          ∙ ap (λ t. record old { frames = new.frames; store = t }) (sym (ap (λ (m : Machine). m.store) n));
      inner = λ names b. state names mid b;
      granted = λ names b. ap (λ m. requested (limit_of old.given.limit) 0 m (state names old b)) (sym w) ∙ g.state_is names b;
      state_is = λ names b. ap (λ (m : Machine). state names m b) n ∙ c.state_is names b;
      stack = s;
    }

pub stack_filled : (old new : Machine) (words all : ℕ) (r : Bool) → all ≡ words → IsAsked old new 0 all r → r ≡ false
    → Fills old new (λ names z. requested (limit_of old.given.limit) 0 words z)
stack_filled old new words all r w a e =
    let d : Fills old new (λ names z. requested (limit_of old.given.limit) 0 all z) = request_refused old new 0 all r a e in
    record {
      asked = d.asked;
      left = d.left;
      same = d.same;
      state_is = λ names b. ap (λ m. requested (limit_of old.given.limit) 0 m (state names old b)) (sym w) ∙ d.state_is names b;
    }

pub has_stack : (old new : Machine) (words units : ℕ) (r : Bool) → IsGivenStack old new words units r → r ≡ true → HasStack old new words units
has_stack old new words units true h e = h
has_stack old new words units false h e = absurd (cc)

pub no_stack : (old new : Machine) (words units : ℕ) (r : Bool) → IsGivenStack old new words units r → r ≡ false → Fills old new (λ names z. requested (limit_of old.given.limit) 0 words z)
no_stack old new words units false h e = h
no_stack old new words units true h e = absurd (cc)

-- with the words of the stack the machine goes on above the frame that gives them back
pub then_stack : (old mid new : Machine) (words units n : ℕ) (a : DynamicLinks) (t : List (List ℕ) → Setting → List Value → DynamicContext → Transition) → HasStack old mid words units
    → StepsTo mid new (λ names s b. t names s (top names mid n) (dynamic_context names mid a) (frames names mid n) (state names mid b))
    → StepsTo old new (λ names s b. then_on (requested s.limit 0 words (state names old b)) (frames names old n) (λ ignored inner.
    t names s (top names old n) (dynamic_context names old a) (restores_stack (state names old b).state.stack ∷ frames names old n) (charged units inner)))
then_stack old mid new words units n a t h s = record {
  given = s.given ∙ ap (λ (m : Machine). m.given) h.same;
  comes = λ names b g.
      s.comes names b (let P : Given → Type 0 = λ x. IsGiven names x in subst P (sym (ap (λ (m : Machine). m.given) h.same)) g)
      ∙ ap (λ (m : Machine). t names (setting_of names m.given) (top names m n) (dynamic_context names m a) (frames names m n) (state names mid b)) h.same
      ∙ ap (λ items. t names (setting_of names old.given) (top names old n) (around_in names (reverse items) a) (frames_in names old.current (others_of n old.operands.items) old.slots.items (reverse items)) (state names mid b)) h.frames
      ∙ ap (λ x. t names (setting_of names old.given) (top names old n) x (frames_in names old.current (others_of n old.operands.items) old.slots.items (reverse (old.frames.items ++ RestoresStack h.before ∷ []))) (state names mid b))
      (surroundings_stay names old.frames.items (RestoresStack h.before) a refl)
      ∙ ap (λ x. t names (setting_of names old.given) (top names old n) (dynamic_context names old a) x (state names mid b))
      (pushed names old.current (others_of n old.operands.items) old.slots.items old.frames.items (RestoresStack h.before) refl)
      ∙ ap (λ k. t names (setting_of names old.given) (top names old n) (dynamic_context names old a) (restores_stack k ∷ frames names old n) (state names mid b)) (h.stack names b)
      ∙ ap (t names (setting_of names old.given) (top names old n) (dynamic_context names old a) (restores_stack (state names old b).state.stack ∷ frames names old n)) (h.state_is names b)
      ∙ sym (ap (λ r. then_on r (frames names old n) (λ ignored inner. t names (setting_of names old.given) (top names old n) (dynamic_context names old a) (restores_stack (state names old b).state.stack ∷ frames names old n) (charged units inner))) (h.granted names b));
}

-- as many arguments as operands
pub so_many : (names : List (List ℕ)) (m : Machine) (n : ℕ) → n ≤ length m.operands.items → length (top names m n) ≡ n
so_many names m n h =
    omega (arith, length-map (last_of n m.operands.items) (value_of_word names), length-drop (length m.operands.items - n) m.operands.items)

pub words_then : (old mid new : Machine) (p : Entering) (n level : ℕ) (a : DynamicLinks) → n ≤ length old.operands.items → HasStack old mid (p.words + n) n
    → StepsTo mid new (λ names s b. in_rest s (entered_of names p) (top names mid n) level (dynamic_context names mid a) (frames names mid n) (state names mid b))
    → StepsTo old new (λ names s b. in_words s (entered_of names p) (top names old n) level (dynamic_context names old a) (frames names old n) (state names old b))
words_then old mid new p n level a h st s =
    let r : StepsTo old new (λ names s b. then_on (requested s.limit 0 (p.words + n) (state names old b)) (frames names old n) (λ ignored inner.
    in_rest s (entered_of names p) (top names old n) level (dynamic_context names old a) (restores_stack (state names old b).state.stack ∷ frames names old n) (charged n inner))) =
    then_stack old mid new (p.words + n) n n a (λ names s vs around frames z. in_rest s (entered_of names p) vs level around frames z) st s in
    record {
      given = r.given;
      comes = λ names b g. r.comes names b g
          ∙ ap (λ m. then_on (requested (limit_of old.given.limit) 0 (p.words + m) (state names old b)) (frames names old n) (λ ignored inner.
          in_rest (setting_of names old.given) (entered_of names p) (top names old n) level (dynamic_context names old a) (restores_stack (state names old b).state.stack ∷ frames names old n) (charged m inner)))
          (sym (so_many names old n h));
    }

pub words_filled : (old mid new : Machine) (p : Entering) (n level : ℕ) (a : DynamicLinks) → n ≤ length old.operands.items
    → Fills old mid (λ names z. requested (limit_of old.given.limit) 0 (p.words + n) z) → IsDropped mid new n
    → StepsTo old new (λ names s b. in_words s (entered_of names p) (top names old n) level (dynamic_context names old a) (frames names old n) (state names old b))
words_filled old mid new p n level a h d x =
    let r : StepsTo old new (λ names s b. then_on (requested s.limit 0 (p.words + n) (state names old b)) (frames names old n) (λ ignored inner.
    in_rest s (entered_of names p) (top names old n) level (dynamic_context names old a) (restores_stack (state names old b).state.stack ∷ frames names old n) (charged n inner))) =
    then_filled old mid new n (λ names s z. requested s.limit 0 (p.words + n) z)
    (λ names s b ignored inner. in_rest s (entered_of names p) (top names old n) level (dynamic_context names old a) (restores_stack (state names old b).state.stack ∷ frames names old n) (charged n inner)) d x in
    record {
      given = r.given;
      comes = λ names b g. r.comes names b g
          ∙ ap (λ m. then_on (requested (limit_of old.given.limit) 0 (p.words + m) (state names old b)) (frames names old n) (λ ignored inner.
          in_rest (setting_of names old.given) (entered_of names p) (top names old n) level (dynamic_context names old a) (restores_stack (state names old b).state.stack ∷ frames names old n) (charged m inner)))
          (sym (so_many names old n h));
    }

-- the record, and the boxes
pub record_then : (old mid new : Machine) (p : Entering) (n level : ℕ) (a : DynamicLinks) (r : Bool)
    → IsEffectDone old mid (λ names z. recorded (limit_of old.given.limit) (called_or_none names p.activation.method) p.procedure.now.keeps_method z) r → r ≡ true
    → StepsTo mid new (λ names s b. in_boxes s (entered_of names p) (top names mid n) level (dynamic_context names mid a) (frames names mid n) (state names mid b))
    → StepsTo old new (λ names s b. in_record s (entered_of names p) (top names old n) level (dynamic_context names old a) (frames names old n) (state names old b))
record_then old mid new p n level a r d e s =
    then_given old mid new n a (λ names s z. recorded s.limit (called_or_none names p.activation.method) p.procedure.now.keeps_method z) Nil
    (λ names s vs around v frames z. in_boxes s (entered_of names p) vs level around frames z)
    (effect_done old mid (λ names z. recorded (limit_of old.given.limit) (called_or_none names p.activation.method) p.procedure.now.keeps_method z) r d e) s

pub record_filled : (old mid new : Machine) (p : Entering) (n level : ℕ) (a : DynamicLinks) (r : Bool)
    → IsEffectDone old mid (λ names z. recorded (limit_of old.given.limit) (called_or_none names p.activation.method) p.procedure.now.keeps_method z) r → r ≡ false → IsDropped mid new n
    → StepsTo old new (λ names s b. in_record s (entered_of names p) (top names old n) level (dynamic_context names old a) (frames names old n) (state names old b))
record_filled old mid new p n level a r d e x =
    then_filled old mid new n (λ names s z. recorded s.limit (called_or_none names p.activation.method) p.procedure.now.keeps_method z)
    (λ names s b v z. in_boxes s (entered_of names p) (top names old n) level (dynamic_context names old a) (frames names old n) z)
    (effect_wanting old mid (λ names z. recorded (limit_of old.given.limit) (called_or_none names p.activation.method) p.procedure.now.keeps_method z) r d e) x

pub boxes_then : (old mid new : Machine) (p : Entering) (n level : ℕ) (a : DynamicLinks) (r : Bool)
    → IsEffectDone old mid (λ names z. boxes_requested (limit_of old.given.limit) (homes p.procedure.now) z) r → r ≡ true
    → StepsTo mid new (λ names s b. begin_body s (entered_of names p).procedure (entered_of names p).captured (entered_of names p).called (top names mid n) level (dynamic_context names mid a) (frames names mid n) (state names mid b))
    → StepsTo old new (λ names s b. in_boxes s (entered_of names p) (top names old n) level (dynamic_context names old a) (frames names old n) (state names old b))
boxes_then old mid new p n level a r d e s =
    then_given old mid new n a (λ names s z. boxes_requested s.limit (homes p.procedure.now) z) Nil
    (λ names s vs around v frames z. begin_body s (entered_of names p).procedure (entered_of names p).captured (entered_of names p).called vs level around frames z)
    (effect_done old mid (λ names z. boxes_requested (limit_of old.given.limit) (homes p.procedure.now) z) r d e) s

pub boxes_filled : (old mid new : Machine) (p : Entering) (n level : ℕ) (a : DynamicLinks) (r : Bool)
    → IsEffectDone old mid (λ names z. boxes_requested (limit_of old.given.limit) (homes p.procedure.now) z) r → r ≡ false → IsDropped mid new n
    → StepsTo old new (λ names s b. in_boxes s (entered_of names p) (top names old n) level (dynamic_context names old a) (frames names old n) (state names old b))
boxes_filled old mid new p n level a r d e x =
    then_filled old mid new n (λ names s z. boxes_requested s.limit (homes p.procedure.now) z)
    (λ names s b v z. begin_body s (entered_of names p).procedure (entered_of names p).captured (entered_of names p).called (top names old n) level (dynamic_context names old a) (frames names old n) z)
    (effect_wanting old mid (λ names z. boxes_requested (limit_of old.given.limit) (homes p.procedure.now) z) r d e) x
