-- A list of values is made in front of the empty one, from the last value to the first.
use Rattle.std.proofs.Common.{◌≡◌, ℕ, suc, ◌+◌, ◌*◌, List, [], ◌∷◌, ◌++◌, length, refl, sym, ap, ◌∙◌, subst, arith}
use Rattle.std.specs.Prelude.{slice_index_or, if◌then◌else◌}
use Rattle.std.proofs.Math.ListN.{length-append}
use Rattle.lang_meaning.specs.Objects.{cons}
use Rattle.lang_meaning.specs.State.{Limit, full, has_room, room_left}
use Rattle.lang_meaning.specs.Values.{Value, nil, object}
use Rattle.flat_language.specs.FlatSignals.{make_list}
use Rattle.flat_language.specs.FlatState.{FlatState, FlatEvaluated, make}
use Rattle.mid_code.specs.Arena.{Arena}
use Rattle.mid_arena.specs.Places.{Places}
use Rattle.mid_arena.specs.Standing.{ValueAt, ValuesAt}
use Rattle.back_relation.specs.Starts.{FlatGrown}
use Rattle.back_function_entries.proofs.Conses.{with_cons, cons_grows}
use Rattle.back_function_entries.specs.EntryLists.{conses}
use Rattle.back_function_entries.proofs.Lying.{Lies, fewer_lie, behind_lie}

-- the last value first
abbrev pub backwards : List Value → List Value
backwards [] = []
backwards (v ∷ vs) = backwards vs ++ v ∷ []

pub as_many_back : (vs : List Value) → length (backwards vs) ≡ length vs
as_many_back [] = refl
as_many_back (v ∷ vs) = let fewer = as_many_back vs in let more = length-append (backwards vs) (v ∷ []) in omega (arith, fewer, more)

module _ (limit : Limit) where
  -- one more in front
  conses_more :
      (vs : List Value) (v tail : Value) (z : FlatState) (next : Value → FlatState → FlatEvaluated)
      → conses limit (vs ++ v ∷ []) tail z next ≡ conses limit vs tail z (λ list after. make limit 2 0 (cons v list) after next)
  conses_more [] v tail z next = refl
  conses_more (x ∷ vs) v tail z next =
      ap (λ inner. if has_room limit (z.state.heap + z.state.stack + 2 + 0) then inner
      else record { outcome = full (2 + 0) (room_left limit (z.state.heap + z.state.stack)); state = z })
      (conses_more vs v (object (length z.state.store)) (with_cons x tail z) next)

  -- **a list, from its last value on**
  pub list_backwards :
      (vs : List Value) (z : FlatState) (next : Value → FlatState → FlatEvaluated) → make_list limit vs z next ≡ conses limit (backwards vs) nil z next
  list_backwards [] z next = refl
  list_backwards (v ∷ vs) z next =
      list_backwards vs z (λ tail after. make limit 2 0 (cons v tail) after next) ∙ sym (conses_more (backwards vs) v nil z next)

  pub conses_grow :
      (vs : List Value) (tail : Value) (z : FlatState) (next : Value → FlatState → FlatEvaluated) → ((v : Value) (z : FlatState) → FlatGrown z (next v z).state)
      → FlatGrown z (conses limit vs tail z next).state
  conses_grow [] tail z next grown = grown tail z
  conses_grow (v ∷ vs) tail z next grown =
      cons_grows limit v tail z (λ list after. conses limit vs list after next) (λ list after. conses_grow vs list after next grown)

-- ---- their words

module _ (places : Places) (a : Arena) where
  -- the words of values one after another from an address on, of which the first one is the last
  abbrev pub BackwardsAt : ℕ → List Value → Type 0
  BackwardsAt x [] = Unit {0}
  BackwardsAt x (v ∷ vs) = ValueAt places a (x + 4 * length vs) v × Lies a x (suc (length vs)) × BackwardsAt x vs

  one_in_front :
      (x : ℕ) (vs : List Value) (v : Value) → Lies a x (suc (length vs)) → ValueAt places a x v → BackwardsAt (x + 4) vs → BackwardsAt x (vs ++ v ∷ [])
  one_in_front x [] v lies first rest = (let here : x ≡ x + 4 * 0 = omega arith in subst (λ p. ValueAt places a p v) here first, lies, tt)
  one_in_front x (u ∷ vs) v lies first rest = (
    let more = length-append vs (v ∷ []) in
        let there : x + 4 + 4 * length vs ≡ x + 4 * length (vs ++ v ∷ []) = omega (arith, more) in
        subst (λ p. ValueAt places a p u) there rest.0,
    let more = length-append vs (v ∷ []) in fewer_lie a x (suc (suc (length vs))) (suc (length (vs ++ v ∷ []))) (omega (arith, more)) lies,
    one_in_front x vs v (fewer_lie a x (suc (suc (length vs))) (suc (length vs)) (omega arith) lies) first rest.2,
  )

  -- **the words of values, from the last one on**
  pub values_backwards : (x : ℕ) (vs : List Value) → Lies a x (length vs) → ValuesAt places a x vs → BackwardsAt x (backwards vs)
  values_backwards x [] lies values = tt
  values_backwards x (v ∷ vs) lies values =
      let many = as_many_back vs in
      one_in_front x (backwards vs) v (fewer_lie a x (suc (length vs)) (suc (length (backwards vs))) (omega (arith, many)) lies)
      (let here : x + 4 * 0 ≡ x = omega arith in subst (λ p. ValueAt places a p v) here (values 0 (omega arith)))
      (values_backwards (x + 4) vs (behind_lie a x (suc (length vs)) (length vs) (omega arith) lies)
      (λ i few.
      let there : x + 4 * suc i ≡ x + 4 + 4 * i = omega arith in
      subst (λ p. ValueAt places a p (slice_index_or vs i nil)) there (values (suc i) (omega (arith, few)))))
