-- Forms without parts: literals that are there, and variables in slots.
use Rattle.std.proofs.Common.{◌≡◌, ℕ, zero, suc, ◌^◌, ◌<◌, List, [], ◌∷◌, length, Option, Some, None, refl, sym, ap, ◌∙◌, subst, arith}
use Rattle.std.specs.Prelude.{slice_get}
use Rattle.std.proofs.lemmas.Option.{slice_get_within}
use Rattle.lang_meaning.specs.declared.program.LiteralRow.{LiteralRow}
use Rattle.lang_meaning.specs.declared.program.LiteralRow.TheVariants as row
use Rattle.lang_meaning.specs.InitialHeap.{class_value, function_value, literal_value}
use Rattle.lang_meaning.specs.Lookup.{text}
use Rattle.lang_meaning.specs.State.{DynamicContext}
use Rattle.lang_meaning.specs.Values.{Value}
use Rattle.flat_language.specs.declared.place.Home.TheVariants as home
use Rattle.flat_language.specs.declared.place.VariablePlace.TheVariants.{Slot}
use Rattle.flat_language.specs.FlatForm.{literal, local}
use Rattle.flat_language.specs.FlatMeaning.{mean, mean_literal}
use Rattle.flat_language.specs.FlatNodes.{tables}
use Rattle.flat_language.specs.FlatSignals.{undefined_function, signal}
use Rattle.flat_language.specs.FlatSignals.{with_some as flat_with_some}
use Rattle.flat_language.specs.FlatState.{holds, FlatState, gives, charged, value_held, value_of}
use Rattle.mid_code.specs.State.{MidState}
use Rattle.mid_arena.specs.Places.{of_other, word_of}
use Rattle.mid_arena.proofs.Growing.{spot_below}
use Rattle.mid_arena.proofs.Running.{and_then, none_left, move_falls, constant_falls}
use Rattle.back_lowering.specs.Codes.{lower, literal_code}
use Rattle.back_lowering.specs.Leaves.{slot_into}
use Rattle.back_lowering.specs.Placement.{literal_word}
use Rattle.back_lowering.specs.Steps.{constant}
use Rattle.back_relation.specs.Setting.{Setting}
use Rattle.back_relation.specs.Worlds.{World}
use Rattle.back_relation.specs.Things.{Things, LiteralIs, TakenSpot}
use Rattle.back_relation.specs.Activation.{FormScope}
use Rattle.back_relation.specs.Ends.{form_credit}
use Rattle.back_relation.specs.Forms.{context_at}
use Rattle.back_relation.specs.FormLaws.{IsKnown, LawOfLiterals, LawOfSlots}
use Rattle.back_relation.specs.Starts.{Start, EndsAt, SparingAt}
use Rattle.back_relation.specs.Points.{Point, start_at, run, Here}
use Rattle.back_relation.proofs.Starts.{start_charged, ends_sparing, gives_run}

past : {X : Type 0} (xs : List X) (i : ℕ) → slice_get xs i ≡ None → i < length xs → ⊥
past [] i e h = omega arith
past (x ∷ xs) zero e h = absurd (cc e)
past (x ∷ xs) (suc i) e h = past xs i e (omega arith)

-- the word of a box is at a low address
pub box_low : (setting : Setting) {w : World} {z : FlatState} {y : MidState} → Things setting w z y → (x words : ℕ) → TakenSpot setting w x words → x < 2 ^ 26
box_low setting t x words taken =
    let stands = t.represents.spots (of_other taken.number) _ taken.there in
    let below = spot_below t.represents.arena stands in
    let some = stands.some in
    omega (arith, below, some, t.represents.arena.room, t.represents.arena.size)

module _ (setting : Setting) (s : FormScope) (d m size k n : ℕ) where
  abbrev start : Point setting s d m size → Start setting
  start p = start_at setting s d m size n p

  -- the value of a literal that is there
  abbrev pub literal_is : ℕ → LiteralRow → Value
  literal_is i (row.Datum e) = literal_value setting.names (tables setting.program) i e
  literal_is i (row.Class c) = class_value setting.names (tables setting.program) c
  literal_is i (row.Function name) = function_value setting.names (tables setting.program) (text setting.names name.0)

  literal_gives :
      (i : ℕ) (l : LiteralRow) (around : DynamicContext) (z : FlatState) → IsKnown setting l → mean_literal (context_at setting k) i (Some l) around z ≡ gives (literal_is i l) z
  literal_gives i (row.Datum e) around z f = refl
  literal_gives i (row.Class c) around z f = refl
  literal_gives i (row.Function name) around z f =
      ap (λ o. flat_with_some o (undefined_function (signal (context_at setting k)) (text setting.names name.0))
      (λ g a y. gives (function_value setting.names (tables setting.program) (text setting.names name.0)) y) around z) f.1

  literal_has : (w : World) (i word : ℕ) (l : LiteralRow) → IsKnown setting l → LiteralIs setting w i l word → word_of w.places (literal_is i l) ≡ Some word
  literal_has w i word (row.Datum e) f h = h
  literal_has w i word (row.Class c) f h = h
  literal_has w i word (row.Function name) f h = h f.0 f.1

  literal_steps : (i : ℕ) (l : LiteralRow) → IsKnown setting l
      → literal_code setting.names setting.at setting.program s.code.site d i (Some l) ≡ constant d (literal_word setting.at i) ∷ []
  literal_steps i (row.Datum e) f = refl
  literal_steps i (row.Class c) f = refl
  literal_steps i (row.Function name) f = rw f.1 refl

  -- **a literal that is there**
  pub literal_sim : (i : ℕ) (l : LiteralRow) → slice_get setting.program.literals i ≡ Some l → IsKnown setting l → Here setting s d m size k n (literal i)
  unfolding mean lower
  literal_sim i l there f p =
      let b : Start setting = start_charged setting (start p) 1 in
      let code_is =
      ap (literal_code setting.names setting.at setting.program s.code.site d i) there ∙ literal_steps i l f in
      ends_sparing setting {c1 = form_credit} (start p) 1 (omega arith) (omega arith)
      (subst (λ ss. EndsAt setting form_credit b (mean_literal (context_at setting k) i (slice_get setting.program.literals i) p.around (charged 1 p.z)) (run setting s d m size k n ss p.regs p.y))
      (sym code_is)
      (subst (λ r. EndsAt setting form_credit b r (run setting s d m size k n (constant d (literal_word setting.at i) ∷ []) p.regs p.y))
      (sym (ap (λ o. mean_literal (context_at setting k) i o p.around (charged 1 p.z)) there ∙ literal_gives i l p.around (charged 1 p.z) f))
      (gives_run setting {credit = form_credit} b (literal_is i l) (omega arith)
      (literal_has p.w i (literal_word setting.at i) l f (p.begins.call.things.literals i l there)) (and_then constant_falls none_left))))

  -- **a variable in a slot**
  pub slot_sim : (i : ℕ) → slice_get s.flat.homes i ≡ Some home.Slot → Here setting s d m size k n (local (Slot i))
  unfolding mean lower
  slot_sim i stands p =
      let has = p.begins.activation.homes i home.Slot stands in by (slice_get s.code.slots i) refl has.0 has.1
    where
      by :
          (o : Option ℕ) → slice_get s.code.slots i ≡ o → (v : Value) → slice_get p.z.frame i ≡ Some (holds v)
          → SparingAt setting (start p) (gives (value_of (Slot i) p.env p.z) (charged 1 p.z)) (run setting s d m size k n (slot_into d o) p.regs p.y)
      by None none v has =
          absurd (past s.code.slots i none (subst (λ n. i < n) (sym p.begins.activation.slot_count) (slice_get_within p.z.frame i (holds v) has)))
      by (Some r) some v has =
          let old = p.begins.activation.slots i r (holds v) some has in
          ends_sparing setting {c1 = form_credit} (start p) 1 (omega arith) (omega arith)
          (subst (λ u. EndsAt setting form_credit (start_charged setting (start p) 1) (gives u (charged 1 p.z)) (run setting s d m size k n (slot_into d (Some r)) p.regs p.y)) (sym (ap value_held has))
          (gives_run setting {credit = form_credit} (start_charged setting (start p) 1) v (omega arith) old.2 (and_then (move_falls old.1) none_left)))

pub literals_law : LawOfLiterals
literals_law setting s d m size k turns i l there known = literal_sim setting s d m size k turns i l there known

pub slots_law : LawOfSlots
slots_law setting s d m size k turns i stands = slot_sim setting s d m size k turns i stands
