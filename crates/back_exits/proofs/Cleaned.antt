-- What a form with a cleanup means, by what the form comes to.
use Rattle.std.proofs.Common.{◌≡◌, ℕ, None, refl, sym, ap, ◌∙◌, subst, arith}
use Rattle.std.specs.Prelude.{slice_get}
use Rattle.std.proofs.lemmas.Option.{slice_get-get_or}
use Rattle.std.proofs.Common.{length, ◌<◌}
use Rattle.lang_meaning.specs.State.{DynamicContext, Landing, exits_from, Outcome, value, exit, full, more, Limit, words, unlimited}
use Rattle.lang_meaning.specs.Values.{Value}
use Rattle.flat_language.specs.FlatForm.{FlatForm}
use Rattle.flat_language.specs.FlatMeaning.{mean}
use Rattle.flat_language.specs.FlatState.{FlatEnvironment, FlatEvaluated, FlatAct, gives, leaves, go_on, cleaned, cleaned_from}
use Rattle.mid_code.specs.State.{End, falls, returns, cuts, no_room, no_level, no_turn, halts, unhandled, exhausted, stuck}
use Rattle.back_relation.specs.Setting.{Setting}
use Rattle.back_relation.specs.Worlds.{World, Later, LandsIn}
use Rattle.back_relation.specs.Ends.{IsFull, RoomEnded, Because}
use Rattle.back_relation.specs.Forms.{context_at}
use Rattle.back_relation.specs.Starts.{FlatGrown}
use Rattle.back_relation.proofs.FormGrowth.{form_grows}
use Rattle.back_relation.proofs.Growth.{same_flat, both_flat, then_grown}
use Rattle.back_exits.proofs.Exits.{EndsEarly, full_early}

-- a transfer lands in its form in a later world
pub lands_later : {w w' : World} (e : ℕ) (landing : Landing) → Later w w' → e < length w.exit_forms → LandsIn (slice_get w.exit_forms e) landing → LandsIn (slice_get w'.exit_forms e) landing
lands_later {w} {w'} e landing later few lands =
    let there = slice_get-get_or w.exit_forms e None few in
    subst (λ o. LandsIn o landing) (there ∙ sym (later.exit_forms e _ there)) lands

module _ (setting : Setting) (k : ℕ) (cleanup : FlatForm) (env : FlatEnvironment) (around : DynamicContext) where
  -- the cleanup
  abbrev pub cleans : FlatAct
  cleans within after = mean (context_at setting k) cleanup env within after

  abbrev pub within : ℕ → DynamicContext
  within e = record around { exits = exits_from e around.exits }

  pub cleaned_value : (r : FlatEvaluated) (v : Value) → r.outcome ≡ value v → cleaned cleans around r ≡ go_on (cleans around r.state) (λ w after. gives v after)
  cleaned_value r v same = ap (λ o. cleaned_from cleans around o r.state) same

  pub cleaned_exit :
      (r : FlatEvaluated) (e : ℕ) (v : Value) (landing : Landing) → r.outcome ≡ exit e v landing → cleaned cleans around r ≡ go_on (cleans (within e) r.state) (λ w after. leaves e v landing after)
  cleaned_exit r e v landing same = ap (λ o. cleaned_from cleans around o r.state) same

  pub cleaned_other : (r : FlatEvaluated) (o : Outcome) → r.outcome ≡ o → EndsEarly o → cleaned cleans around r ≡ r
  cleaned_other r (value v) same h = absurd h
  cleaned_other r (exit x v l) same h = absurd h
  cleaned_other r (full asked left_then) same h = ap (λ o. cleaned_from cleans around o r.state) same ∙ ap (λ o. record { outcome = o; state = r.state }) (sym same)
  cleaned_other r more same h = ap (λ o. cleaned_from cleans around o r.state) same ∙ ap (λ o. record { outcome = o; state = r.state }) (sym same)

  pub cleaned_grows : (r : FlatEvaluated) → FlatGrown r.state (cleaned cleans around r).state
  cleaned_grows r = from r.outcome
    where
      from : (o : Outcome) → FlatGrown r.state (cleaned_from cleans around o r.state).state
      from (value v) =
          both_flat (form_grows setting k cleanup env around r.state) (then_grown (cleans around r.state) (λ w after. gives v after) (λ w after. same_flat after))
      from (exit e v landing) =
          both_flat (form_grows setting k cleanup env (within e) r.state) (then_grown (cleans (within e) r.state) (λ w after. leaves e v landing after) (λ w after. same_flat after))
      from (full asked left_then) = same_flat r.state
      from more = same_flat r.state

  pub because_cleaned : (r : FlatEvaluated) (q : End) → Because setting r q → Because setting (cleaned cleans around r) q
  because_cleaned r (no_room asked left_then) h = (by setting.limit h.0, h.1)
    where
      by : (l : Limit) → RoomEnded setting l r.outcome → RoomEnded setting l (cleaned cleans around r).outcome
      by unlimited j = tt
      by (words m) j = subst (λ (p : FlatEvaluated). IsFull setting p.outcome) (sym (cleaned_other r r.outcome refl (full_early setting r.outcome j))) j
  because_cleaned r no_level h = ap (λ (p : FlatEvaluated). p.outcome) (cleaned_other r more h tt) ∙ h
  because_cleaned r exhausted h = let g = cleaned_grows r in omega (arith, h, g.exits)
  because_cleaned r falls h = h
  because_cleaned r no_turn h = h
  because_cleaned r (returns w) h = h
  because_cleaned r (cuts n w) h = h
  because_cleaned r (halts w) h = h
  because_cleaned r (unhandled class site condition) h = h
  because_cleaned r stuck h = h
