-- The exit of a record behind which code goes on: what the code inside comes to, and what the whole comes to, where a transfer to the exit lands.
use Rattle.std.proofs.Common.{◌≡◌, ℕ, ◌+◌, ◌*◌, ◌≤◌, Bool, true, false, List, ◌∷◌, length, refl, sym, ap, ◌∙◌, subst, arith}
use Rattle.std.specs.Prelude.{◌==◌, if◌then◌else◌}
use Rattle.std.proofs.lemmas.Bool.{eq-eqb, ne_eqb, eqb-true, eqb-false}
use Rattle.lang_meaning.specs.Counts.{unit_cost}
use Rattle.lang_meaning.specs.declared.scope.ExitForm.{ExitForm}
use Rattle.lang_meaning.specs.State.{Exit, Landing, value, exit}
use Rattle.lang_meaning.specs.Values.{Value}
use Rattle.flat_language.specs.FlatState.{FlatState, FlatEvaluated}
use Rattle.flat_language.specs.FlatState.{landed as flat_landed, landed_from as flat_landed_from}
use Rattle.mid_code.specs.Law.{Grown}
use Rattle.mid_code.specs.State.{Registers, cuts, no_level, MidState, MidOutcome, Next, landed}
use Rattle.mid_code.specs.State.{go_on as mid_go_on}
use Rattle.mid_code.proofs.Growth.{go_on_grown, landed_grown, same_grown}
use Rattle.back_lowering.specs.declared.scope.OwnExit.{OwnExit}
use Rattle.back_relation.specs.Setting.{Setting}
use Rattle.back_relation.specs.Worlds.{World, for_exit, Standing}
use Rattle.back_relation.specs.Ends.{Ends, done, left_by, full_there, stopped, few_turns}
use Rattle.back_relation.specs.Forms.{Begins}
use Rattle.back_relation.specs.Starts.{FlatGrown, Start, LeftFrom, EndsBy}
use Rattle.back_relation.proofs.Growth.{both_prefix}
use Rattle.back_relation.proofs.Parts.{go_on_last}
use Rattle.back_relation.proofs.Then.{stopped_last}
use Rattle.back_exits.specs.Inside.{scope_with, environment_with, around_with, address_inside, record_inside, LaidAt, IsInnermost}
use Rattle.back_exits.proofs.Exits.{start_inside, passing, passes_by, lands_here, cut_passes, cut_lands, stop_passes, landed_value, landed_other, landed_grows, because_landed}

module _ (setting : Setting) (a : Start setting) {units cost : ℕ} {x : Exit} {w : World} {z : FlatState} {regs : Registers} {y : MidState}
    (laid : LaidAt setting a units cost (for_exit x) (address_inside setting a) w z regs y) (first : IsInnermost setting a x w z)
    {own : List OwnExit} {count : ℕ} {forms : List ExitForm} {numbers : List ℕ} (n m : ℕ)
    (begins : Begins setting (record_inside setting a (for_exit x) ∷ a.rs) (record_inside setting a (for_exit x) ∷ a.valid) (scope_with count forms own a.s) (a.d + n) m w
    (environment_with numbers a.env) (around_with (x ∷ a.around.exits) a.around) z regs y)
    (c1 c2 : ℕ) (enough : c1 + cost + 48 ≤ unit_cost * units + c2) where
  abbrev pub inside : Start setting
  inside = start_inside setting a laid first {own = own} {count = count} {forms = forms} {numbers = numbers} n m begins

  abbrev new_record : Standing
  new_record = record_inside setting a (for_exit x)

  module _ (rest : Next) (catch : ℕ → Next) (next : Next) (rest_grows : (g : Registers) (y : MidState) → Grown y (rest g y).state)
      (catch_grows : (v : ℕ) (g : Registers) (y : MidState) → Grown y (catch v g y).state) (next_grows : (g : Registers) (y : MidState) → Grown y (next g y).state)
      (land : Value → Landing → FlatState → FlatEvaluated) (land_grows : (v : Value) (l : Landing) (z : FlatState) → FlatGrown z (land v l z).state)
      (D : Type 0) (E : FlatEvaluated → MidOutcome → Type 0) (r : FlatEvaluated) (q : MidOutcome) (result : D → Value) (outcome : (x : D) → r.outcome ≡ value (result x)) where
    abbrev code : MidOutcome → MidOutcome
    code q = mid_go_on (landed (length a.y.arena.blocks) catch (mid_go_on q rest)) next

    abbrev Whole : FlatEvaluated → MidOutcome → Type 0
    Whole r q = EndsBy setting (E r q) c2 a r q

    abbrev meant : FlatEvaluated → FlatEvaluated
    meant r = flat_landed x.number land r

    module _ (leaving : D → Whole r (code q))
        (landing :
        (t : LeftFrom setting c1 inside (a.d + n) r q) → new_record ≡ t.transfer.to → t.transfer.exit_number ≡ x.number
        → Whole (land t.transfer.result t.transfer.landing r.state) (mid_go_on (catch t.transfer.word q.registers q.state) next)) where
      -- **what the code inside comes to, and what the whole comes to**
      pub exit_then : Ends setting (c1 + unit_cost) D (LeftFrom setting c1 inside (a.d + n) r q) a.turns z y r q → Whole (meant r) (code q)
      exit_then (done f) = subst (λ p. Whole p (code q)) (sym (landed_value setting x.number land land_grows r (result f) (outcome f))) (leaving f)
      exit_then (left_by t) = by (t.transfer.exit_number == x.number) refl
        where
          source : meant r ≡ (if t.transfer.exit_number == x.number then land t.transfer.result t.transfer.landing r.state else record { outcome = exit t.transfer.exit_number t.transfer.result t.transfer.landing; state = r.state })
          source = ap (λ o. flat_landed_from x.number land o r.state) t.transfer.outcome

          by : (b : Bool) → (t.transfer.exit_number == x.number) ≡ b → Whole (meant r) (code q)
          by true same =
              let number : t.transfer.exit_number ≡ x.number = eqb-true t.transfer.exit_number x.number same in
              let to : new_record ≡ t.transfer.to =
              lands_here setting a laid first {own = own} {count = count} {forms = forms} {numbers = numbers} n m begins c1 c2 enough t (eq-eqb x.number t.transfer.exit_number (sym number)) in
              subst (λ p. Whole p (code q))
              (sym (source ∙ ap (λ b. if b then land t.transfer.result t.transfer.landing r.state else record { outcome = exit t.transfer.exit_number t.transfer.result t.transfer.landing; state = r.state }) same))
              (subst (λ p. Whole (land t.transfer.result t.transfer.landing r.state) p)
              (sym (ap (λ o. mid_go_on o next) (cut_lands (length a.y.arena.blocks) rest catch q t.transfer.to.outside t.transfer.word t.transfer.end (ap (λ (s : Standing). s.outside) (sym to)))))
              (landing t to number))
          by false same =
              let other = ne_eqb x.number t.transfer.exit_number (λ e. eqb-false t.transfer.exit_number x.number same (sym e)) in
              subst (λ p. Whole p (code q))
              (sym (source ∙ ap (λ b. if b then land t.transfer.result t.transfer.landing r.state else record { outcome = exit t.transfer.exit_number t.transfer.result t.transfer.landing; state = r.state }) same
              ∙ ap (λ o. record { outcome = o; state = r.state }) (sym t.transfer.outcome)))
              (subst (λ p. Whole r p)
              (sym (ap (λ o. mid_go_on o next)
              (cut_passes (length a.y.arena.blocks) rest catch q t.transfer.to.outside t.transfer.word t.transfer.end
              (passes_by setting a laid first {own = own} {count = count} {forms = forms} {numbers = numbers} n m begins c1 c2 enough t other))
              ∙ go_on_last (cuts t.transfer.to.outside t.transfer.word) q next t.transfer.end tt))
              (left_by (passing setting a laid first {own = own} {count = count} {forms = forms} {numbers = numbers} n m begins c1 c2 enough t other)))
      exit_then (full_there f) =
          let g : Grown q.state (code q).state =
          go_on_grown (landed (length a.y.arena.blocks) catch (mid_go_on q rest)) next q.state
          (landed_grown (length a.y.arena.blocks) catch (mid_go_on q rest) q.state (go_on_grown q rest q.state (same_grown q.state) rest_grows) catch_grows) next_grows in
          subst (λ p. Whole p (code q)) (sym (landed_other setting x.number land land_grows r _ f.outcome tt))
          (full_there (record { asked = f.asked; left_then = f.left_then; outcome = f.outcome; printed = both_prefix f.printed (record { rest = g.printed.0; is = sym g.printed.1 }) }))
      exit_then (stopped f) =
          let g = landed_grows setting x.number land land_grows r in
          subst (λ p. Whole (meant r) p)
          (sym (ap (λ o. mid_go_on o next) (stop_passes (length a.y.arena.blocks) rest catch setting r q q.end refl f.because)
          ∙ go_on_last q.end q next refl (stopped_last setting r q.end f.because)))
          (stopped (record {
            because = because_landed setting x.number land land_grows r q.end f.because;
            printed = both_prefix f.printed g.printed;
            paid = λ ended.
                let paid = f.paid (λ none. ended (because_landed setting x.number land land_grows r no_level none)) in
                omega (arith, paid, g.units, laid.paid, laid.units_there, enough);
          }))
      exit_then (few_turns f) =
          let g = landed_grows setting x.number land land_grows r in
          let same = laid.world.same_size in
          let units_there = laid.units_there in
          few_turns (omega (arith, f, g.units, same, units_there))
