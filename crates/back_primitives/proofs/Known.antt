-- Arguments that are literal integers have the values that are known of them, so their words are the known ones.
use Rattle.std.proofs.Common.{◌≡◌, true, false, ℕ, ℤ, Bool, List, [], ◌∷◌, ◌++◌, Option, Some, None, refl, sym, ap, ◌∙◌, subst, append_assoc, append-nil, arith}
use Rattle.std.specs.Prelude.{◌&&◌, ◌==◌, ◌%◌, slice_get, int_le, if◌then◌else◌}
use Rattle.std.proofs.lemmas.Int.{ints}
use borrow.Author.Differences.{true_is_le}
use Rattle.std.proofs.lemmas.Bool.Decides.{nat_tests}
use Rattle.lang_meaning.specs.declared.program.LiteralRow.{LiteralRow}
use Rattle.lang_meaning.specs.declared.program.LiteralRow.TheVariants as row
use Rattle.lang_meaning.specs.InitialHeap.{literal_value}
use Rattle.lang_meaning.specs.State.{DynamicContext, Outcome, value, exit, full, more}
use Rattle.lang_meaning.specs.Values.{Value, integer, character, symbol, nil, object, same}
use Rattle.flat_language.specs.FlatForm.{FlatForm, literal, FlatForms, no_form, form_and}
use Rattle.flat_language.specs.FlatMeaning.{mean, mean_arguments, mean_literal, charged_for}
use Rattle.flat_language.specs.FlatNodes.{tables}
use Rattle.flat_language.specs.FlatState.{FlatEnvironment, FlatState, FlatEvaluated, go_on}
use Rattle.mid_code.specs.State.{MidState}
use Rattle.mid_arena.specs.Places.{WordsOf, word_of}
use Rattle.mid_arena.proofs.Sameness.{same_value_same_word}
use Rattle.mid_arena.proofs.Telling.{IntegerTold, integer_found, no_integer, integer_told}
use Rattle.back_lowering.specs.Placement.{literal_word}
use Rattle.back_lowering.specs.Primitives.{integer_in, known_integer}
use Rattle.back_relation.specs.Setting.{Setting}
use Rattle.back_relation.specs.Worlds.{World}
use Rattle.back_relation.specs.Things.{Things}
use Rattle.back_relation.specs.Forms.{context_at}
use Rattle.back_relation.proofs.Growth.{then_value, then_other}
use Rattle.back_primitives.specs.Calling.{KnownWords}

integer_same : (n : ℤ) → same (integer n) (integer n) ≡ true
integer_same n = let once : int_le n n ≡ true = sym (true_is_le n n (omega (arith, ints))) in ap (λ b. b && int_le n n) once ∙ once

both_true : (b b' : Bool) → b && b' ≡ true → (b ≡ true) × (b' ≡ true)
both_true true b' e = (refl, e)
both_true false b' e = absurd (cc e)

module _ (setting : Setting) where
  -- the value is the one that is known, where that is an integer
  abbrev agrees_with : Value → Value → Bool
  agrees_with (integer n) v = same (integer n) v
  agrees_with u v = true

  abbrev agrees_row : ℕ → Option LiteralRow → Value → Bool
  agrees_row i (Some (row.Datum d)) v = agrees_with (literal_value setting.names (tables setting.program) i d) v
  agrees_row i o v = true

  abbrev agrees_one : FlatForm → Value → Bool
  agrees_one (literal i) v = agrees_row i (slice_get setting.program.literals i) v
  agrees_one f v = true

  abbrev pub agrees : FlatForms → List Value → Bool
  agrees no_form vs = true
  agrees (form_and f fs) [] = true
  agrees (form_and f fs) (v ∷ vs) = agrees_one f v && agrees fs vs

  -- ---- the meaning gives such values

  agrees_itself : (v : Value) → agrees_with v v ≡ true
  agrees_itself (integer n) = integer_same n
  agrees_itself nil = refl
  agrees_itself (character c) = refl
  agrees_itself (symbol s) = refl
  agrees_itself (object i) = refl

  one_agrees :
      (k : ℕ) (f : FlatForm) (env : FlatEnvironment) (around : DynamicContext) (z : FlatState) (v : Value)
      → (mean (context_at setting k) f env around z).outcome ≡ value v → agrees_one f v ≡ true
  unfolding mean
  one_agrees k (literal i) env around z v e = by (slice_get setting.program.literals i) refl
    where
      by : (o : Option LiteralRow) → slice_get setting.program.literals i ≡ o → agrees_row i (slice_get setting.program.literals i) v ≡ true
      by (Some (row.Datum d)) f =
          let known : Value = literal_value setting.names (tables setting.program) i d in
          let it : known ≡ v =
          cc (sym (ap (λ o. (mean_literal (context_at setting k) i o around (charged_for (literal i) z)).outcome) f) ∙ e) in
          ap (λ o. agrees_row i o v) f ∙ subst (λ x. agrees_with known x ≡ true) it (agrees_itself known)
      by o f = ap (λ o. agrees_row i o v) f
  one_agrees k f env around z v e = refl

  -- so it does the same where only such values matter
  pub same_arguments :
      (k : ℕ) (fs : FlatForms) (vs : List Value) (env : FlatEnvironment) (around : DynamicContext) (z : FlatState) (next next' : List Value → FlatState → FlatEvaluated)
      → ((ws : List Value) (z : FlatState) → agrees fs ws ≡ true → next (vs ++ ws) z ≡ next' (vs ++ ws) z)
      → mean_arguments (context_at setting k) fs vs env around z next ≡ mean_arguments (context_at setting k) fs vs env around z next'
  unfolding mean
  same_arguments k no_form vs env around z next next' h = subst (λ us. next us z ≡ next' us z) (append-nil vs) (h [] z refl)
  same_arguments k (form_and f fs) vs env around z next next' h = by (λ v after g. same_arguments k fs (vs ++ v ∷ []) env around after next next' g) r.outcome refl
    where
      Rest : Type 0
      Rest =
          (v : Value) (after : FlatState) → ((ws : List Value) (z : FlatState) → agrees fs ws ≡ true → next ((vs ++ v ∷ []) ++ ws) z ≡ next' ((vs ++ v ∷ []) ++ ws) z)
          → mean_arguments (context_at setting k) fs (vs ++ v ∷ []) env around after next ≡ mean_arguments (context_at setting k) fs (vs ++ v ∷ []) env around after next'

      r : FlatEvaluated
      r = mean (context_at setting k) f env around z

      one : Value → FlatState → FlatEvaluated
      one v after = mean_arguments (context_at setting k) fs (vs ++ v ∷ []) env around after next

      other : Value → FlatState → FlatEvaluated
      other v after = mean_arguments (context_at setting k) fs (vs ++ v ∷ []) env around after next'

      by : Rest → (o : Outcome) → r.outcome ≡ o → go_on r one ≡ go_on r other
      by again (value v) e =
          then_value r one v e
          ∙ again v r.state
          (λ ws later so.
          subst (λ us. next us later ≡ next' us later) (sym (append_assoc vs (v ∷ []) ws))
          (h (v ∷ ws) later (ap (λ b. b && agrees fs ws) (one_agrees k f env around z v e) ∙ so)))
          ∙ sym (then_value r other v e)
      by again (exit n v landing) e = then_other r one (exit n v landing) e tt ∙ sym (then_other r other (exit n v landing) e tt)
      by again (full asked left_then) e = then_other r one (full asked left_then) e tt ∙ sym (then_other r other (full asked left_then) e tt)
      by again more e = then_other r one more e tt ∙ sym (then_other r other more e tt)

  -- ---- and their words are known

  module _ {w : World} {z : FlatState} {y : MidState} (t : Things setting w z y) where
    chosen_word : (b : Bool) (x u : ℕ) → (if b then Some x else None) ≡ Some u → (b ≡ true) × (x ≡ u)
    chosen_word true x u e = (refl, cc e)
    chosen_word false x u e = absurd (cc e)

    word_is : (a b : ℕ) → (a == b) ≡ true → b ≡ a
    word_is a b e = grind (arith, nat_tests)

    known_one : (f : FlatForm) (v : Value) (word : ℕ) → word_of w.places v ≡ Some word → agrees_one f v ≡ true → (u : ℕ)
        → known_integer setting.at setting.program.literals f ≡ Some u → word ≡ u
    known_one (literal i) v word is so u e = by (slice_get setting.program.literals i) refl
      where
        by : (o : Option LiteralRow) → slice_get setting.program.literals i ≡ o → word ≡ u
        by (Some (row.Datum d)) f =
            let known : Value = literal_value setting.names (tables setting.program) i d in
            let both = chosen_word (literal_word setting.at i % 4 == 0) (literal_word setting.at i) u (sym (ap (λ o. integer_in setting.at i o) f) ∙ e) in
            let there : word_of w.places known ≡ Some (literal_word setting.at i) = t.literals i (row.Datum d) f in
            told known refl (integer_told setting.names (tables setting.program) w.places z.state y t.represents known (literal_word setting.at i) there) both.0 ∙ both.1
          where
            told : (known : Value) → literal_value setting.names (tables setting.program) i d ≡ known → IntegerTold known (literal_word setting.at i)
                → (literal_word setting.at i % 4 == 0) ≡ true → word ≡ literal_word setting.at i
            told known e' (integer_found n p q r x tag) tagged =
                let agreed : same known v ≡ true =
                ap (λ x. same x v) p ∙ sym (ap (λ x. agrees_with x v) p) ∙ sym (ap (λ x. agrees_with x v) e') ∙ sym (ap (λ o. agrees_row i o v) f) ∙ so in
                word_is (literal_word setting.at i) word
                (same_value_same_word setting.names (tables setting.program) w.places z.state y t.represents known v (literal_word setting.at i) word
                (subst (λ x. word_of w.places x ≡ Some (literal_word setting.at i)) e' (t.literals i (row.Datum d) f)) is
                ∙ agreed)
            told known e' (no_integer p tag) tagged = absurd (cc (sym tagged ∙ tag))
        by o f = absurd (cc (sym (ap (λ o. integer_in setting.at i o) f) ∙ e))
    known_one f v word is so u e = absurd (cc e)

    pub known_words : (fs : FlatForms) (vs : List Value) (ws : List ℕ) → WordsOf w.places vs ws → agrees fs vs ≡ true → KnownWords setting.at setting.program.literals fs ws
    known_words no_form vs ws are so = tt
    known_words (form_and f fs) vs [] are so = tt
    known_words (form_and f fs) [] (word ∷ ws) are so = absurd are
    known_words (form_and f fs) (v ∷ vs) (word ∷ ws) are so =
        let both = both_true (agrees_one f v) (agrees fs vs) so in (known_one f v word are.0 both.0, known_words fs vs ws are.1 both.1)
