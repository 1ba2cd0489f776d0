-- A machine goes on with what is left of an answer as the meaning does with the answer.
use Rattle.std.proofs.Math.Seq.{take-length}
use Rattle.std.proofs.Common.{◌≡◌, ℕ, ◌+◌, List, [], length, take, drop, ◌-◌, length-drop, Result, Ok, Err, OnOk, refl, ap, sym, ◌∙◌, subst, reverse}
use Rattle.lang_meaning.specs.declared.primitive.Primitive.{Primitive}
use Rattle.lang_meaning.specs.Values.{Value}
use Rattle.lang_meaning.specs.State.{DynamicContext, State, Outcome, value, exit, full, more}
use Rattle.lang_meaning.specs.Objects.{fresh_symbol}
use Rattle.lang_meaning.specs.Primitives.{Answer, makes_symbol, primitive}
use Rattle.flat_language.specs.FlatNodes.{tables}
use Rattle.flat_language.specs.FlatState.{FlatState, FlatEvaluated, go_on, go_on_from, gives, on_state}
use Rattle.eval_machine.specs.Configuration.{Setting, Configuration, configuration, come_to, ended, then_on, then_on_from}
use Rattle.eval_machine.specs.Configuration as plain
use Rattle.eval_machine.specs.Applications.{answered, made, signal_class, signal_domain}
use Rattle.eval_store.specs.declared.word.Word.{Word}
use Rattle.eval_store.specs.declared.store.Halt.{Halt}
use Rattle.eval_store.specs.declared.store.Halt.TheVariants.{Full}
use Rattle.eval_store.specs.Words.{value_of_word}
use Rattle.eval_store.specs.View.{Beside, limit_of}
use Rattle.eval_primitives.specs.declared.answer.Answer.{Answer as Told}
use Rattle.eval_primitives.specs.declared.answer.Answer.TheVariants.{Gives, Fails, DomainError}
use Rattle.eval_primitives.specs.Answers.{Carried, carried_out, AnswersAs}
use Rattle.eval_state.specs.declared.given.Given.{Given}
use Rattle.eval_state.specs.declared.situation.DynamicLinks.{DynamicLinks}
use Rattle.eval_state.specs.declared.machine.Machine.{Machine}
use Rattle.eval_state.specs.Operands.{IsDropped}
use Rattle.eval_state.specs.Frames.{last_of, others_of, frames_in}
use Rattle.eval_state.specs.View.{StepsTo, IsGiven, setting_of, state, top, frames, dynamic_context}
use Rattle.eval_state.proofs.Pushes.{others_none}
use Rattle.eval_state.proofs.Doing.{over_ok}
use Rattle.eval_state.specs.Computing.{computed, carry, IsAnswered, GoesOnWithAnswer}

-- what goes on after a value, into the frames
gone_from : (o : Outcome) (z : FlatState) (f : Value → FlatState → FlatEvaluated) (frames : List plain.ContinuationFrame)
    → ended (go_on_from o z f) frames ≡ then_on_from o z frames (λ v y. ended (f v y) frames)
gone_from (value v) z f frames = refl
gone_from (exit e v l) z f frames = refl
gone_from (full a l) z f frames = refl
gone_from more z f frames = refl

gone_on : (r : FlatEvaluated) (f : Value → FlatState → FlatEvaluated) (frames : List plain.ContinuationFrame) → ended (go_on r f) frames ≡ then_on r frames (λ v y. ended (f v y) frames)
gone_on r f frames = gone_from r.outcome r.state f frames

-- the last operands, as a piece of all
pub last_piece : (xs ys : List Word) (n first : ℕ) → ys ≡ xs → first ≡ length xs - n → take (length ys - first) (drop first ys) ≡ last_of n xs
last_piece xs ys n first e h =
    ap (λ zs. take (length zs - first) (drop first zs)) e
    ∙ ap (λ m. take m (drop first xs)) (sym (length-drop first xs))
    ∙ take-length (drop first xs)
    ∙ ap (λ m. drop m xs) h

pub carried : (s : Setting) (a : Answer) (level : ℕ) (around : DynamicContext) (frames : List plain.ContinuationFrame) (z : FlatState)
    → carry s (carried_out s.limit a z) level around frames ≡ answered s a level around frames z
carried s (makes_symbol x) level around frames z =
    gone_on (made s.limit 2 0 (fresh_symbol x.symbols) (record z { state = x })) (λ v after. gives v (on_state (λ (y : State). record y { symbols = y.symbols + 1 }) after)) frames
carried s w level around frames z = refl

-- an answer is told once the operands have gone
pub told_dropped : (old mid down new : Machine) (which : Primitive) (n level : ℕ) (a : DynamicLinks) (r : Result Told Halt)
    → IsAnswered old mid which n r → IsDropped mid down n → GoesOnWithAnswer down new r level a
    → StepsTo old new (λ names s b. computed s which (top names old n) level (dynamic_context names old a) (frames names old n) (state names old b))
told_dropped old mid down new which n level a r h d t =
    let all : down ≡ record old { store = mid.store; operands = down.operands } = d.same ∙ ap (λ (m : Machine). record m { operands = down.operands }) h.same in
    let operands : others_of 0 down.operands.items ≡ others_of n old.operands.items =
    others_none down.operands.items ∙ d.operands ∙ ap (λ (m : Machine). others_of n m.operands.items) h.same in
    let given_is : down.given ≡ old.given = ap (λ (m : Machine). m.given) all in
    record {
      given = t.given ∙ given_is;
      comes = λ names b g.
          let answer : Answer = primitive names (tables old.given.program.now) which (top names old n) (state names old b).state in
          let left : Carried = carried_out (limit_of old.given.limit) answer (state names old b) in
          let same_state : state names down b ≡ state names mid b = ap (λ (m : Machine). state names m b) d.same in
          t.comes names b left (let P : Given → Type 0 = λ x. IsGiven names x in subst P (sym given_is) g)
          (subst (λ z. AnswersAs names r z left) (sym same_state) (h.comes names b g))
          ∙ ap (λ (m : Machine). carry (setting_of names m.given) left level (dynamic_context names m a) (frames names m 0)) all
          ∙ ap (λ os. carry (setting_of names old.given) left level (dynamic_context names old a) (frames_in names old.current os old.slots.items (reverse old.frames.items))) operands
          ∙ carried (setting_of names old.given) answer level (dynamic_context names old a) (frames names old n) (state names old b);
    }

-- an answer is told by a step that does what is left of it
told_by : (old new : Machine) (a : Result Told Halt) (level : ℕ) (around : DynamicLinks) (f : List (List ℕ) → Setting → Beside → Configuration) → StepsTo old new f
    → ((names : List (List ℕ)) (b : Beside) (r : Carried) → AnswersAs names a (state names old b) r
    → f names (setting_of names old.given) b ≡ carry (setting_of names old.given) r level (dynamic_context names old around) (frames names old 0))
    → GoesOnWithAnswer old new a level around
told_by old new a level around f x h = record { given = x.given; comes = λ names b r g e. x.comes names b g ∙ h names b r e }

pub told_value : (old new : Machine) (x : Told) (w : Word) (level : ℕ) (around : DynamicLinks) → x ≡ Gives w
    → StepsTo old new (λ names s b. configuration (come_to (value (value_of_word names w))) (frames names old 0) (state names old b)) → GoesOnWithAnswer old new (Ok x) level around
told_value old new y w level around it x =
    subst (λ q. GoesOnWithAnswer old new q level around) (sym (ap Ok it)) (told_by old new (Ok (Gives w)) level around _ x (λ names b r e.
    sym (ap (λ q. carry (setting_of names old.given) q level (dynamic_context names old around) (frames names old 0)) e)))

pub told_full : (old new : Machine) (h : Halt) (asked left level : ℕ) (around : DynamicLinks) → h ≡ Full asked left
    → StepsTo old new (λ names s b. configuration (come_to (full asked left)) (frames names old 0) (state names old b)) → GoesOnWithAnswer old new (Err h) level around
told_full old new h asked left level around it x =
    subst (λ q. GoesOnWithAnswer old new q level around) (sym (ap Err it)) (told_by old new (Err (Full asked left)) level around _ x (λ names b r e.
    sym (ap (λ q. carry (setting_of names old.given) q level (dynamic_context names old around) (frames names old 0)) e)))

pub told_condition : {E : Type 0} (q : Result Unit E) (old new : Machine) (x : Told) (class level : ℕ) (around : DynamicLinks) → x ≡ Fails class
    → OnOk q (StepsTo old new (λ names s b. signal_class s class [] level (dynamic_context names old around) (frames names old 0) (state names old b)))
    → OnOk q (GoesOnWithAnswer old new (Ok x) level around)
told_condition q old new w class level around it x =
    over_ok q (λ y. subst (λ q. GoesOnWithAnswer old new q level around) (sym (ap Ok it)) (told_by old new (Ok (Fails class)) level around _ y (λ names b r e.
    sym (ap (λ q. carry (setting_of names old.given) q level (dynamic_context names old around) (frames names old 0)) e)))) x

pub told_domain : {E : Type 0} (q : Result Unit E) (old new : Machine) (x : Told) (w : Word) (class level : ℕ) (around : DynamicLinks) → x ≡ DomainError w class
    → OnOk q (StepsTo old new (λ names s b. signal_domain s (value_of_word names w) class level (dynamic_context names old around) (frames names old 0) (state names old b)))
    → OnOk q (GoesOnWithAnswer old new (Ok x) level around)
told_domain q old new v w class level around it x =
    over_ok q (λ y. subst (λ q. GoesOnWithAnswer old new q level around) (sym (ap Ok it)) (told_by old new (Ok (DomainError w class)) level around _ y (λ names b r e.
    sym (ap (λ q. carry (setting_of names old.given) q level (dynamic_context names old around) (frames names old 0)) e)))) x

pub told_dropped_ok : {E : Type 0} (q : Result Unit E) (old mid down new : Machine) (which : Primitive) (n level : ℕ) (a : DynamicLinks) (r : Result Told Halt)
    → IsAnswered old mid which n r → IsDropped mid down n → OnOk q (GoesOnWithAnswer down new r level a)
    → OnOk q (StepsTo old new (λ names s b. computed s which (top names old n) level (dynamic_context names old a) (frames names old n) (state names old b)))
told_dropped_ok q old mid down new which n level a r h d t = over_ok q (told_dropped old mid down new which n level a r h d) t

pub told_err : {E : Type 0} (q : Result Unit E) (old new : Machine) (a : Result Told Halt) (h : Halt) (level : ℕ) (around : DynamicLinks) → a ≡ Err h
    → OnOk q ((l : ℕ) (r : DynamicLinks) → GoesOnWithAnswer old new (Err h) l r) → OnOk q (GoesOnWithAnswer old new a level around)
told_err q old new a h level around is x = over_ok q (λ y. subst (λ r. GoesOnWithAnswer old new r level around) (sym is) (y level around)) x
