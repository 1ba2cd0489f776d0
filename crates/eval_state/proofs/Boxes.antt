-- Words for boxes are asked for one by one.
use Rattle.std.proofs.Common.{◌≡◌, ℕ, ◌+◌, ◌≤◌, length, List, [], ◌∷◌, ◌++◌, Bool, true, false, Some, None, refl, ap, sym, ◌∙◌, take, drop}
use Rattle.std.specs.Prelude.{slice_get, IfOk, Result, Ok, Err, if◌then◌else◌}
use Rattle.std.proofs.lemmas.List.{take-append-drop, take_all}
use Rattle.base.specs.model.DataRest.{take_at}
use Rattle.lang_meaning.specs.Values.{nil}
use Rattle.lang_meaning.specs.State.{Limit, full, has_room, room_left, with_words}
use Rattle.flat_language.specs.declared.place.Home.{Home}
use Rattle.flat_language.specs.declared.place.Home.TheVariants.{Slot, Boxed}
use Rattle.flat_language.specs.FlatState.{FlatState, on_state, gives, go_on, charged, request}
use Rattle.eval_machine.specs.Applications.{boxes_requested}
use Rattle.eval_store.specs.declared.word.Word.TheVariants.{Nil}
use Rattle.eval_store.specs.View.{limit_of}
use Rattle.eval_state.specs.declared.machine.Machine.{Machine}
use Rattle.eval_state.specs.Doing.{Gives, Fills, IsEffectDone}
use Rattle.eval_state.proofs.Doing.{done_alike, effect_done, effect_wanting, done_then, filled_then, alike}

-- those of a list, and then those of another
pub boxes_requested_more : (limit : Limit) (xs ys : List Home) (z : FlatState) → boxes_requested limit (xs ++ ys) z ≡ go_on (boxes_requested limit xs z) (λ v y. boxes_requested limit ys y)
boxes_requested_more limit [] ys z = refl
boxes_requested_more limit (Slot ∷ xs) ys z = boxes_requested_more limit xs ys z
boxes_requested_more limit (Boxed ∷ xs) ys z =
    let inner : FlatState = charged 1 (on_state (λ y. with_words 1 0 y) z) in
    let ih : boxes_requested limit (xs ++ ys) inner ≡ go_on (boxes_requested limit xs inner) (λ v y. boxes_requested limit ys y) = boxes_requested_more limit xs ys inner in
    elim (has_room limit (z.state.heap + z.state.stack + 1 + 0))
    as (λ t. (if t then boxes_requested limit (xs ++ ys) inner else record { outcome = full (1 + 0) (room_left limit (z.state.heap + z.state.stack)); state = z })
    ≡ go_on (if t then boxes_requested limit xs inner else record { outcome = full (1 + 0) (room_left limit (z.state.heap + z.state.stack)); state = z }) (λ v y. boxes_requested limit ys y))
    [ true ↦ ih | false ↦ refl ]

-- one of a box alone
pub one_box : (old new : Machine) (h : Home) (r : Bool) → h ≡ Boxed
    → IsEffectDone old new (λ names z. request (limit_of old.given.limit) 1 0 z (λ entered. gives nil (charged 1 entered))) r
    → IsEffectDone old new (λ names z. boxes_requested (limit_of old.given.limit) (h ∷ []) z) r
one_box old new Boxed r e d = d
one_box old new Slot r e d = absurd (cc)

pub one_box_taken : {E : Type 0} (old new : Machine) (h : Home) (r : Result Bool E) → h ≡ Boxed
    → IfOk r (IsEffectDone old new (λ names z. request (limit_of old.given.limit) 1 0 z (λ entered. gives nil (charged 1 entered))))
    → IfOk r (IsEffectDone old new (λ names z. boxes_requested (limit_of old.given.limit) (h ∷ []) z))
one_box_taken old new h (Ok r) e d = one_box old new h r e d
one_box_taken old new h (Err x) e d = tt

-- the limit stays
same_limit : (old now new : Machine) (xs ys : List Home) (r : Bool) → Gives old now (λ names z. boxes_requested (limit_of old.given.limit) xs z) Nil
    → IsEffectDone now new (λ names z. boxes_requested (limit_of now.given.limit) ys z) r → IsEffectDone now new (λ names z. boxes_requested (limit_of old.given.limit) ys z) r
same_limit old now new xs ys r a d =
    done_alike now new _ _ r (λ names z. ap (λ (m : Machine). boxes_requested (limit_of m.given.limit) ys z) a.same) d

pub both : (old now new : Machine) (xs ys : List Home) (r : Bool) → Gives old now (λ names z. boxes_requested (limit_of old.given.limit) xs z) Nil
    → IsEffectDone now new (λ names z. boxes_requested (limit_of now.given.limit) ys z) r → IsEffectDone old new (λ names z. boxes_requested (limit_of old.given.limit) (xs ++ ys) z) r
both old now new xs ys r a d =
    done_alike old new _ _ r (λ names z. sym (boxes_requested_more (limit_of old.given.limit) xs ys z))
    (done_then old now new (λ names z. boxes_requested (limit_of old.given.limit) xs z) (λ names z. boxes_requested (limit_of old.given.limit) ys z) r a (same_limit old now new xs ys r a d))

-- one variable more
pub one_more : (old now new : Machine) (hs : List Home) (i : ℕ) (h : Home) (r : Bool) → slice_get hs i ≡ Some h
    → Gives old now (λ names z. boxes_requested (limit_of old.given.limit) (take i hs) z) Nil
    → IsEffectDone now new (λ names z. boxes_requested (limit_of now.given.limit) (h ∷ []) z) r → r ≡ true
    → Gives old new (λ names z. boxes_requested (limit_of old.given.limit) (take (i + 1) hs) z) Nil
one_more old now new hs i h r at a d e =
    alike old new _ _ (Some Nil) (λ names z. ap (λ xs. boxes_requested (limit_of old.given.limit) xs z) (sym (take_at hs i h at)))
    (effect_done old new (λ names z. boxes_requested (limit_of old.given.limit) (take i hs ++ h ∷ []) z) r (both old now new (take i hs) (h ∷ []) r a d) e)

pub none_more : (old now new : Machine) (hs : List Home) (i : ℕ) (h : Home) (r : Bool) → slice_get hs i ≡ Some h
    → Gives old now (λ names z. boxes_requested (limit_of old.given.limit) (take i hs) z) Nil
    → IsEffectDone now new (λ names z. boxes_requested (limit_of now.given.limit) (h ∷ []) z) r → r ≡ false
    → Fills old new (λ names z. boxes_requested (limit_of old.given.limit) hs z)
none_more old now new hs i h r at a d e =
    let f : Fills old new (λ names z. boxes_requested (limit_of old.given.limit) (take i hs ++ h ∷ []) z) = effect_wanting old new _ r (both old now new (take i hs) (h ∷ []) r a d) e in
    alike old new _ _ None (λ names z.
    sym (boxes_requested_more (limit_of old.given.limit) (take i hs ++ h ∷ []) (drop (i + 1) hs) z)
    ∙ ap (λ xs. boxes_requested (limit_of old.given.limit) (xs ++ drop (i + 1) hs) z) (sym (take_at hs i h at))
    ∙ ap (λ xs. boxes_requested (limit_of old.given.limit) xs z) (take-append-drop (i + 1) hs))
    (filled_then old new (λ names z. boxes_requested (limit_of old.given.limit) (take i hs ++ h ∷ []) z) (λ names v y. boxes_requested (limit_of old.given.limit) (drop (i + 1) hs) y) f)

pub all_taken : (old now : Machine) (hs : List Home) (i : ℕ) → length hs ≤ i
    → Gives old now (λ names z. boxes_requested (limit_of old.given.limit) (take i hs) z) Nil → Gives old now (λ names z. boxes_requested (limit_of old.given.limit) hs z) Nil
all_taken old now hs i h a = alike old now _ _ (Some Nil) (λ names z. ap (λ xs. boxes_requested (limit_of old.given.limit) xs z) (take_all i hs h)) a
