-- Requests of words, what is made, and changes of the state: none prints or reads, and a request that ends in Full asked for more
-- words than were left.
use Rattle.std.proofs.Common.{◌≡◌, ◌<◌, ℕ, ◌+◌, Bool, true, false, List, [], ◌∷◌, Option, Some, None, refl, arith}
use Rattle.std.specs.Prelude.{if◌then◌else◌, length, drop}
use Rattle.std.proofs.lemmas.Bool.Decides.{nat_tests}
use Rattle.lang_meaning.specs.Values.{Value, nil, object}
use Rattle.lang_meaning.specs.Objects.{Object, Called, cons, instance, function}
use Rattle.lang_meaning.specs.State.{State, full, Limit, words, unlimited, has_room, room_left, charged, stored}
use Rattle.lang_meaning.specs.Lookup.{set_at}
use Rattle.lang_meaning.specs.Classes.{fetch}
use Rattle.lang_meaning.specs.Signals.{marked_at}
use Rattle.flat_language.specs.declared.place.Home.{Home}
use Rattle.flat_language.specs.declared.place.Home.TheVariants as home
use Rattle.flat_language.specs.declared.place.VariablePlace.{VariablePlace}
use Rattle.flat_language.specs.declared.place.VariablePlace.TheVariants.{Slot, SlotBox, CapturedValue, CapturedBox}
use Rattle.flat_language.specs.FlatNodes.{tables}
use Rattle.flat_language.specs.FlatState.{Captured, FlatEnvironment, FlatState, FlatEvaluated, on_state, gives, set_to, request, make_closure}
use Rattle.flat_language.specs.FlatState.{charged as flat_charged}
use Rattle.flat_language.specs.FlatSignals.{marked}
use Rattle.eval_machine.specs.Configuration.{Setting}
use Rattle.eval_machine.specs.Applications.{requested, made, listed, rest_listed, recorded, boxes_requested, condition_made}
use Rattle.eval_machine.proofs.Kept.{Progress, progress, IsLater, same, counts, Gives, gives_earlier, given, then_given}
use Rattle.eval_machine.proofs.KeptAnswers.{instance_has_words}

-- where there is no room, fewer words are left than are asked for
not_enough : (limit : Limit) (used heap stack : ℕ) → 0 < heap + stack → has_room limit (used + heap + stack) ≡ false → room_left limit used < heap + stack
not_enough (words w) used heap stack p e = grind (arith, nat_tests)
not_enough unlimited used heap stack p e = absurd (cc e)

room : (b : Bool) {before : Progress} {r : FlatEvaluated} (z : FlatState) (asked left : ℕ)
    → IsLater before (progress z.state) → (b ≡ false → left < asked) → Gives before r → Gives before (if b then r else record { outcome = full asked left; state = z })
room true z asked left p f g = g
room false z asked left p f g = given p (f refl)

pub requests : (limit : Limit) (heap stack : ℕ) (z : FlatState) (next : FlatState → FlatEvaluated) → 0 < heap + stack
    → ((y : FlatState) → Gives (progress y.state) (next y)) → Gives (progress z.state) (request limit heap stack z next)
requests limit heap stack z next w g =
    room (has_room limit (z.state.heap + z.state.stack + heap + stack)) z (heap + stack) (room_left limit (z.state.heap + z.state.stack))
    (same _) (not_enough limit (z.state.heap + z.state.stack) heap stack w) (g _)

pub requests_words : (limit : Limit) (heap stack : ℕ) (z : FlatState) → 0 < heap + stack → Gives (progress z.state) (requested limit heap stack z)
requests_words limit heap stack z w = requests limit heap stack z (λ y. gives nil y) w (λ y. given (same _) tt)

-- objects, lists and functions
pub makes_object : (limit : Limit) (size besides : ℕ) (o : Object) (z : FlatState) → 0 < size → Gives (progress z.state) (made limit size besides o z)
makes_object limit size besides o z w = requests limit size 0 z
    (λ y. gives (object (length y.state.store)) (on_state (λ x. stored o (charged (size + besides) x)) y)) (omega arith) (λ y. given (counts (size + besides) y.state) tt)

pub makes_list : (limit : Limit) (vs : List Value) (z : FlatState) → Gives (progress z.state) (listed limit vs z)
makes_list limit [] z = given (same _) tt
makes_list limit (v ∷ vs) z = then_given (makes_list limit vs z) (λ tail y. makes_object limit 2 0 (cons v tail) y (omega arith))

pub makes_rest : (limit : Limit) (required : ℕ) (rest : Bool) (vs : List Value) (z : FlatState) → Gives (progress z.state) (rest_listed limit required rest vs z)
makes_rest limit required false vs z = given (same _) tt
makes_rest limit required true vs z = makes_list limit (drop required vs) z

pub makes_function : (limit : Limit) (p : ℕ) (cs : List Captured) (z : FlatState) → Gives (progress z.state) (make_closure limit p cs z (λ v after. gives v after))
makes_function limit p cs z = requests limit (2 + length cs) 0 z
    (λ y. gives (object (length y.state.store)) (record y {
      state = stored (function p) (charged (2 + length cs + 0) y.state);
      captured = (length y.state.store, cs) ∷ y.captured;
    })) (omega arith) (λ y. given (counts (2 + length cs + 0) y.state) tt)

pub makes_condition : (s : Setting) (class : ℕ) (slots : List Value) (z : FlatState) → Gives (progress z.state) (condition_made s class slots z)
makes_condition s class slots z = makes_object s.limit _ 0 _ z (instance_has_words (tables s.program) class (length slots))

-- the words of a method's record, and of boxes
pub records : (limit : Limit) (called : Option Called) (keeps : Bool) (z : FlatState) → Gives (progress z.state) (recorded limit called keeps z)
records limit None keeps z = given (same _) tt
records limit (Some called) false z = given (same _) tt
records limit (Some called) true z = requests limit (2 + length called.arguments) 0 z
    (λ y. gives nil (flat_charged (2 + length called.arguments) y)) (omega arith) (λ y. given (counts (2 + length called.arguments) y.state) tt)

pub boxes : (limit : Limit) (hs : List Home) (z : FlatState) → Gives (progress z.state) (boxes_requested limit hs z)
boxes limit [] z = given (same _) tt
boxes limit (home.Slot ∷ hs) z = boxes limit hs z
boxes limit (home.Boxed ∷ hs) z = requests limit 1 0 z (λ y. boxes_requested limit hs (flat_charged 1 y)) (omega arith) (λ y. gives_earlier (counts 1 y.state) (boxes limit hs (flat_charged 1 y)))

-- changes of the state that print, read and count nothing
pub box_set : (o : Option ℕ) (v : Value) (y : State) → IsLater (progress y) (progress (set_at o v y))
box_set (Some i) v y = same _
box_set None v y = same _

pub variable_set : (p : VariablePlace) (v : Value) (env : FlatEnvironment) (z : FlatState) → IsLater (progress z.state) (progress (set_to p v env z).state)
variable_set (Slot n) v env z = same _
variable_set (SlotBox n) v env z = box_set _ v z.state
variable_set (CapturedValue n) v env z = same _
variable_set (CapturedBox n) v env z = box_set _ v z.state

mark_set : (c mark : Value) (o : Option Object) (y : State) → IsLater (progress y) (progress (marked_at c mark o y))
mark_set (object i) mark (Some (instance class slots old)) y = same _
mark_set c mark o y = same _

pub condition_marked : (c mark : Value) (z : FlatState) → IsLater (progress z.state) (progress (marked c mark z).state)
condition_marked c mark z = mark_set c mark (fetch z.state c) z.state
