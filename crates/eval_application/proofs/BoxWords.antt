-- Words for boxes are asked for one by one.
use Rattle.std.proofs.Common.{◌≡◌, ℕ, ◌+◌, length, List, [], ◌∷◌, ◌++◌, Bool, true, false, Option, Some, None, ap, sym, arith}
use Rattle.std.specs.Prelude.{option_to_list, IfOk, Result, Ok, Err}
use Rattle.std.proofs.lemmas.List.{append-nil, length-map}
use Rattle.lang_meaning.specs.Values.{nil}
use Rattle.flat_language.specs.declared.place.Home.{Home}
use Rattle.flat_language.specs.FlatState.{gives, charged, request}
use Rattle.eval_machine.specs.Applications.{boxes_requested, recorded}
use Rattle.eval_store.specs.declared.word.Word.TheVariants.{Nil}
use Rattle.eval_store.specs.declared.called.Called.{Called}
use Rattle.eval_store.specs.Words.{value_of_word, values_of, called_or_none}
use Rattle.eval_store.specs.View.{limit_of}
use Rattle.eval_state.specs.declared.machine.Machine.{Machine}
use Rattle.eval_state.specs.Doing.{Gives, Fills, IsEffectDone}
use Rattle.eval_state.proofs.Boxes.{both, boxes_requested_more}
use Rattle.eval_state.proofs.Doing.{done_alike, effect_done, effect_wanting, filled_then, alike}

-- those of the required variables, and then that of the rest
pub rest_taken : {E : Type 0} (old now new : Machine) (xs : List Home) (o : Option Home) (h : Home) (r : Bool) (q : Result Bool E) → o ≡ Some h
    → IsEffectDone old now (λ names z. boxes_requested (limit_of old.given.limit) xs z) r → r ≡ true
    → IfOk q (IsEffectDone now new (λ names z. boxes_requested (limit_of now.given.limit) (h ∷ []) z))
    → IfOk q (IsEffectDone old new (λ names z. boxes_requested (limit_of old.given.limit) (xs ++ option_to_list o) z))
rest_taken old now new xs (Some k) h r (Ok q) is a e d =
    let same : k ≡ h = cc in
    done_alike old new _ _ q (λ names z. ap (λ x. boxes_requested (limit_of old.given.limit) (xs ++ x ∷ []) z) (sym same))
    (both old now new xs (h ∷ []) q (effect_done old now _ r a e) d)
rest_taken old now new xs None h r (Ok q) is a e d = absurd (cc)
rest_taken old now new xs o h r (Err x) is a e d = tt

pub no_rest : (old new : Machine) (xs : List Home) (o : Option Home) (r : Bool) → o ≡ None → IsEffectDone old new (λ names z. boxes_requested (limit_of old.given.limit) xs z) r → r ≡ true
    → Gives old new (λ names z. boxes_requested (limit_of old.given.limit) (xs ++ option_to_list o) z) Nil
no_rest old new xs None r is a e = alike old new _ _ (Some Nil) (λ names z. ap (λ ys. boxes_requested (limit_of old.given.limit) ys z) (sym (append-nil xs))) (effect_done old new _ r a e)
no_rest old new xs (Some h) r is a e = absurd (cc)

pub rest_filled : (old new : Machine) (xs ys : List Home) (r : Bool) → IsEffectDone old new (λ names z. boxes_requested (limit_of old.given.limit) xs z) r → r ≡ false
    → Fills old new (λ names z. boxes_requested (limit_of old.given.limit) (xs ++ ys) z)
rest_filled old new xs ys r a e =
    alike old new _ _ None (λ names z. sym (boxes_requested_more (limit_of old.given.limit) xs ys z))
    (filled_then old new (λ names z. boxes_requested (limit_of old.given.limit) xs z) (λ names v y. boxes_requested (limit_of old.given.limit) ys y) (effect_wanting old new _ r a e))

-- what a method was called with
pub record_taken : {E : Type 0} (old new : Machine) (o : Option Called) (called : Called) (keeps : Bool) (n words : ℕ) (q : Result Bool E)
    → o ≡ Some called → keeps ≡ true → n ≡ length called.arguments.value → words ≡ n + 2
    → IfOk q (IsEffectDone old new (λ names z. request (limit_of old.given.limit) words 0 z (λ entered. gives nil (charged words entered))))
    → IfOk q (IsEffectDone old new (λ names z. recorded (limit_of old.given.limit) (called_or_none names o) keeps z))
record_taken old new (Some c) called true n words (Ok q) is k l e d =
    let same : c ≡ called = cc in
    done_alike old new _ _ q
    (λ names z.
    let many : words ≡ 2 + length (values_of names c.arguments.value) =
    omega (arith, l, ap (λ (x : Called). length x.arguments.value) same, length-map c.arguments.value (value_of_word names)) in
    ap (λ m. request (limit_of old.given.limit) m 0 z (λ entered. gives nil (charged m entered))) many)
    d
record_taken old new (Some c) called false n words (Ok q) is k l e d = absurd (cc)
record_taken old new None called keeps n words (Ok q) is k l e d = absurd (cc)
record_taken old new o called keeps n words (Err x) is k l e d = tt
