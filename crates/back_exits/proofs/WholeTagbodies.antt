-- From points in one scope to all of them: a tagbody and its turns, wherever it stands.
use Rattle.std.proofs.Common.{◌≡◌, ℕ, ◌+◌, ◌≤◌, List, [], ◌∷◌, ◌++◌, length, refl, sym, ap, ◌∙◌, subst, arith, length-append}
use Rattle.std.specs.Prelude.{drop}
use Rattle.lang_meaning.specs.declared.scope.ExitForm.TheVariants.{Tagbody}
use Rattle.flat_language.specs.FlatExits.{LeadForms}
use Rattle.flat_language.specs.FlatFits.{FitForms}
use Rattle.flat_language.specs.FlatForm.{FlatForms, no_form, form_and, tagbody}
use Rattle.flat_language.specs.FlatMeaning.{mean}
use Rattle.flat_language.specs.FlatNodes.{count_forms}
use Rattle.flat_language.specs.FlatStanding.{StandForms}
use Rattle.mid_code.specs.declared.operation.Arithmetic.TheVariants as which
use Rattle.mid_code.specs.MidCode.{MidCodes, code_of}
use Rattle.back_lowering.specs.Codes.{lower, lower_segments}
use Rattle.back_lowering.specs.Records.{record_left}
use Rattle.back_lowering.specs.Registers.{of_code, of_codes, enough_for}
use Rattle.back_lowering.specs.Steps.{constant, compute}
use Rattle.mid_arena.specs.Tags.{nil_word}
use Rattle.back_relation.specs.Setting.{Setting}
use Rattle.back_relation.specs.Placed.{PlacedForms}
use Rattle.back_relation.specs.Room.{words_for, words_for_forms}
use Rattle.back_relation.specs.Activation.{FormScope}
use Rattle.back_relation.specs.Forms.{FormStands, value_code}
use Rattle.back_relation.specs.FormLaws.{AllDo}
use Rattle.back_relation.specs.Points.{AllHere}
use Rattle.back_relation.proofs.Fitting.{enough_front, enough_behind, registers_front, registers_behind}
use Rattle.back_relation.proofs.Points.{does_here}
use Rattle.back_exits.proofs.Whole.{second_register}
use Rattle.back_exits.specs.Tagbodies.{SegmentsHere, LawOfWholeTurns, LawOfWholeTagbodies}
use Rattle.back_exits.specs.Turns.{segments_loop, turn_laid, turn_landed, turns_loop, inside_scope, segment_codes, TurnsHere, TurnsDo}
use Rattle.back_exits.proofs.Serials.{drawing}
use Rattle.back_exits.proofs.Tagbodies.{tagbody_sim}
use Rattle.back_exits.proofs.Turns.{turn_sim}

-- ---- registers

front_of : (is js : List ℕ) (size : ℕ) → enough_for (is ++ js) ≤ size → enough_for is ≤ size
front_of is js size h = let front = enough_front is js in omega (arith, h, front)

behind_one : (f : ℕ) (is : List ℕ) (size : ℕ) → enough_for (f ∷ is) ≤ size → enough_for is ≤ size
behind_one f is size h = omega (arith, h)

behind_two : (f g : ℕ) (is : List ℕ) (size : ℕ) → enough_for (f ∷ g ∷ is) ≤ size → enough_for is ≤ size
behind_two f g is size h = behind_one g is size (behind_one f (g ∷ is) size h)

-- those of the inside of a record in the head of a loop
inside_of : (f g b w : ℕ) (is ls cs body end : List ℕ) (size : ℕ) → enough_for ((f ∷ g ∷ (((b ∷ w ∷ (is ++ ls)) ++ cs) ++ body)) ++ end) ≤ size → enough_for is ≤ size
inside_of f g b w is ls cs body end size h =
    front_of is ls size
    (behind_two b w (is ++ ls) size
    (front_of (b ∷ w ∷ (is ++ ls)) cs size
    (front_of ((b ∷ w ∷ (is ++ ls)) ++ cs) body size
    (behind_two f g (((b ∷ w ∷ (is ++ ls)) ++ cs) ++ body) size (front_of (f ∷ g ∷ (((b ∷ w ∷ (is ++ ls)) ++ cs) ++ body)) end size h)))))

-- and those of the codes of a choice there
codes_of : (f g r : ℕ) (cs ts body end : List ℕ) (size : ℕ) → enough_for ((f ∷ g ∷ (((r ∷ cs) ++ ts) ++ body)) ++ end) ≤ size → enough_for cs ≤ size
codes_of f g r cs ts body end size h =
    behind_one r cs size
    (front_of (r ∷ cs) ts size
    (front_of ((r ∷ cs) ++ ts) body size (behind_two f g (((r ∷ cs) ++ ts) ++ body) size (front_of (f ∷ g ∷ (((r ∷ cs) ++ ts) ++ body)) end size h))))

module _ (setting : Setting) (k : ℕ) where
  -- segments, each of which does what it means wherever it stands
  all_here :
      (t : ℕ) (s : FormScope) (d m size first : ℕ) (fs : FlatForms) → AllDo setting k t fs → StandForms setting.program.lambdas s.flat first fs
      → FitForms setting.program fs → LeadForms setting.leads.functions s.exits fs → PlacedForms setting s.keeps_method fs → length s.exits.own ≡ s.flat.exits
      → enough_for (of_codes (lower_segments setting.names setting.at setting.program s.code d fs)) ≤ size
      → words_for_forms setting.names setting.program fs ≤ m → AllHere setting s d m size k t fs
  unfolding lower
  all_here t s d m size first no_form does stands fits leads placed known registers words = tt
  all_here t s d m size first (form_and f fs) does stands fits leads placed known registers words =
      let one : List ℕ = of_code (code_of (lower setting.names setting.at setting.program s.code d f).value) in
      let others : List ℕ = of_codes (lower_segments setting.names setting.at setting.program s.code d fs) in
      let front = enough_front one others in
      let behind = enough_behind one others in (
        does_here setting s d m size k t f first does.0 (record { stands = stands.0; fits = fits.0; leads = leads.0; placed = placed.0; forms_known = known })
            (omega (arith, registers, front)) (omega (arith, words)),
        all_here t s d m size first fs does.1 stands.1 fits.1 leads.1 placed.1 known (omega (arith, registers, behind)) (omega (arith, words)),
      )

  module _ (all : FlatForms) (s : FormScope) (d size first : ℕ) (stands : FormStands setting s first (tagbody all)) (registers : enough_for (of_code (value_code setting s d (tagbody all))) ≤ size) where
    abbrev bodies : MidCodes
    bodies = segment_codes setting s d all

    inside : enough_for (of_code (code_of (turn_laid d ++ (segments_loop d (count_forms all) bodies ∷ record_left (d + 1) (d + 7))))) ≤ size
    unfolding lower
    inside =
        inside_of (d + 6) (d + 7) (d + 1) (d + 7) (of_code (code_of (turn_laid d ++ (segments_loop d (count_forms all) bodies ∷ record_left (d + 1) (d + 7))))) (of_code (code_of (turn_landed d)))
        (of_code (code_of (constant (d + 7) (count_forms all) ∷ []))) [] (of_code (code_of (constant d nil_word ∷ []))) size
        (registers_behind (drawing d) (turns_loop d (count_forms all) bodies ∷ constant d nil_word ∷ []) size registers)

    wide : d + 9 ≤ size
    wide =
        let front = registers_front (turn_laid d) (segments_loop d (count_forms all) bodies ∷ record_left (d + 1) (d + 7)) size inside in
        let w : d + 7 + 1 + 1 ≤ size = second_register (d + 7) (d + 7 + 1) (of_code (code_of (drop 2 (turn_laid d)))) size front in
        omega (arith, w)

    codes : enough_for (of_codes bodies) ≤ size
    codes =
        codes_of (d + 6) (d + 7) (d + 6) (of_codes bodies) (of_code (code_of (constant (d + 7) 1 ∷ compute (d + 6) which.Add (d + 6) (d + 7) ∷ constant (d + 7) (count_forms all) ∷ []))) []
        (of_code (code_of (record_left (d + 1) (d + 7)))) size (registers_behind (turn_laid d) (segments_loop d (count_forms all) bodies ∷ record_left (d + 1) (d + 7)) size inside)

    segments_here : (t : ℕ) → ((u : ℕ) → u ≤ t → AllDo setting k u all) → SegmentsHere setting s d (words_for_forms setting.names setting.program all) size k t all
    segments_here t does u h =
        all_here u (inside_scope setting s d all) (d + 7) (words_for_forms setting.names setting.program all) size first all (does u h) stands.stands stands.fits.1 stands.leads stands.placed.1
        (length-append s.exits.own (Tagbody (count_forms all) ∷ []) ∙ ap (λ n. n + 1) stands.forms_known) codes (omega arith)

-- the turns one level below
below_here :
    (setting : Setting) (j : ℕ) (all : FlatForms) (s : FormScope) (d n size first : ℕ) → FormStands setting s first (tagbody all) → enough_for (of_code (value_code setting s d (tagbody all))) ≤ size
    → words_for setting.names setting.program (tagbody all) ≤ n → TurnsDo setting j setting.turns_each all → TurnsHere setting s d n size j setting.turns_each all
below_here setting j all s d n size first stands registers words does p e i begins =
    does p.rs p.valid s d n first p.w p.env p.around p.z p.regs p.y stands p.begins
    (subst (λ n. enough_for (of_code (value_code setting s d (tagbody all))) ≤ n) (sym p.count) registers) words e i begins

pub whole_turns_law : LawOfWholeTurns
whole_turns_law setting k turns all placed fewer does below rs valid s d n first w env around z regs y stands begins registers words e i turn =
    turn_sim setting placed s d (words_for_forms setting.names setting.program all) n (length regs) k turns all stands.forms_known (wide setting k all s d (length regs) first stands registers)
    (omega (arith, words)) stands.placed.0 fewer (segments_here setting k all s d (length regs) first stands registers turns does)
    (λ j same. below_here setting j all s d n (length regs) first stands registers words (below j same))
    (record { rs = rs; valid = valid; w = w; env = env; around = around; z = z; regs = regs; y = y; begins = begins; count = refl }) e i turn

pub whole_tagbodies_law : LawOfWholeTagbodies
unfolding mean lower
whole_tagbodies_law setting k turns all placed fewer does below rs valid s d n first w env around z regs y stands begins registers words =
    tagbody_sim setting placed s d (words_for_forms setting.names setting.program all) n (length regs) k turns all stands.forms_known (wide setting k all s d (length regs) first stands registers)
    (omega (arith, words)) stands.fits.0 stands.placed.0 fewer (segments_here setting k all s d (length regs) first stands registers turns does)
    (λ j same. below_here setting j all s d n (length regs) first stands registers words (below j same))
    (record { rs = rs; valid = valid; w = w; env = env; around = around; z = z; regs = regs; y = y; begins = begins; count = refl })
