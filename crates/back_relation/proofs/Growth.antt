-- The meaning only grows: what of that the relation asks.
use Rattle.std.proofs.Common.{◌≡◌, ℕ, List, [], ◌++◌, refl, ap, ◌∙◌, sym, subst, append_assoc, arith}
use Rattle.std.proofs.lemmas.List.{append-nil}
use Rattle.lang_meaning.specs.Prefixes.{IsPrefix}
use Rattle.lang_meaning.specs.State.{Outcome, value, exit, full, more}
use Rattle.lang_meaning.specs.Values.{Value}
use Rattle.flat_language.specs.FlatState.{FlatState, FlatEvaluated, go_on_from, go_on}
use Rattle.flat_laws.specs.FlatLater.{FlatLater}
use Rattle.back_relation.specs.Starts.{FlatGrown}

pub grown_later : {z z' : FlatState} → FlatLater z z' → FlatGrown z z'
grown_later l = record { printed = l.later.printed; units = l.later.units; exits = l.later.exits }

pub same_prefix : (xs : List ℕ) → IsPrefix xs xs
same_prefix xs = record { rest = []; is = append-nil xs }

pub both_prefix : {xs ys zs : List ℕ} → IsPrefix xs ys → IsPrefix ys zs → IsPrefix xs zs
both_prefix {xs} {ys} {zs} g h = record { rest = g.rest ++ h.rest; is = sym (append_assoc xs g.rest h.rest) ∙ ap (λ l. l ++ h.rest) g.is ∙ h.is }

pub same_flat : (z : FlatState) → FlatGrown z z
same_flat z = record { printed = same_prefix z.state.printed; units = omega arith; exits = omega arith }

pub both_flat : {x y z : FlatState} → FlatGrown x y → FlatGrown y z → FlatGrown x z
both_flat g h = record { printed = both_prefix g.printed h.printed; units = omega (arith, g.units, h.units); exits = omega (arith, g.exits, h.exits) }

-- ---- what goes on in the meaning

pub then_value : (r : FlatEvaluated) (f : Value → FlatState → FlatEvaluated) (v : Value) → r.outcome ≡ value v → go_on r f ≡ f v r.state
then_value r f v e = ap (λ o. go_on_from o r.state f) e

-- an outcome that is no value
abbrev pub IsNoValue : Outcome → Type 0
IsNoValue (value v) = ⊥
IsNoValue o = Unit {0}

pub then_other : (r : FlatEvaluated) (f : Value → FlatState → FlatEvaluated) (o : Outcome) → r.outcome ≡ o → IsNoValue o → go_on r f ≡ r
then_other r f (value v) e h = absurd h
then_other r f (exit x v landing) e h = ap (λ o. go_on_from o r.state f) e ∙ ap (λ o. record { outcome = o; state = r.state }) (sym e)
then_other r f (full asked left_then) e h = ap (λ o. go_on_from o r.state f) e ∙ ap (λ o. record { outcome = o; state = r.state }) (sym e)
then_other r f more e h = ap (λ o. go_on_from o r.state f) e ∙ ap (λ o. record { outcome = o; state = r.state }) (sym e)

pub then_grown :
    (r : FlatEvaluated) (f : Value → FlatState → FlatEvaluated) → ((v : Value) (z : FlatState) → FlatGrown z (f v z).state)
    → FlatGrown r.state (go_on r f).state
then_grown r f h = from r.outcome refl
  where
    from : (o : Outcome) → r.outcome ≡ o → FlatGrown r.state (go_on r f).state
    from (value v) e = subst (λ (q : FlatEvaluated). FlatGrown r.state q.state) (sym (then_value r f v e)) (h v r.state)
    from (exit x v landing) e = subst (λ (q : FlatEvaluated). FlatGrown r.state q.state) (sym (then_other r f (exit x v landing) e tt)) (same_flat r.state)
    from (full asked left_then) e =
        subst (λ (q : FlatEvaluated). FlatGrown r.state q.state) (sym (then_other r f (full asked left_then) e tt)) (same_flat r.state)
    from more e = subst (λ (q : FlatEvaluated). FlatGrown r.state q.state) (sym (then_other r f more e tt)) (same_flat r.state)
