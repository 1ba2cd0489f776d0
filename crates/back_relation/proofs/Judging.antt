-- A value that is there is judged: its word is compared with that of nil.
use Rattle.std.proofs.Common.{◌≡◌, ℕ, ◌+◌, ◌<◌, [], ◌∷◌, ◌++◌, Some, refl, sym, ap, ◌∙◌, subst, arith}
use Rattle.std.specs.Prelude.{slice_set, ◌==◌, not}
use Rattle.std.proofs.lemmas.Bool.{eq-eqb, ne_eqb}
use Rattle.lang_meaning.specs.Values.{Value, integer, character, symbol, nil, object, is_true}
use Rattle.flat_language.specs.FlatForm.{FlatForm}
use Rattle.flat_language.specs.FlatMeaning.{mean}
use Rattle.flat_language.specs.FlatNodes.{tables}
use Rattle.flat_language.specs.FlatState.{FlatState, FlatEvaluated, gives, go_on}
use Rattle.mid_code.specs.declared.operation.Comparison.TheVariants.{Different}
use Rattle.mid_code.specs.Meaning.{exec}
use Rattle.mid_code.specs.MidCode.{code_of}
use Rattle.mid_code.specs.State.{falls, ends, MidState, MidOutcome}
use Rattle.mid_code.specs.State.{charged as mid_charged, go_on as mid_go_on}
use Rattle.mid_arena.specs.Law.{TellsValue}
use Rattle.mid_arena.specs.Places.{Places, word_of}
use Rattle.mid_arena.specs.Tags.{nil_word}
use Rattle.mid_arena.proofs.Registers.{register_here, register_beside}
use Rattle.mid_arena.proofs.Running.{RunsTo, and_then, none_left, constant_falls, in_two_parts}
use Rattle.mid_arena.proofs.ValueWords.{tells_value}
use Rattle.back_lowering.specs.Codes.{lower, Lowered, by_value}
use Rattle.back_lowering.specs.Steps.{Steps, constant, test_of}
use Rattle.back_relation.specs.Setting.{Setting}
use Rattle.back_relation.specs.Worlds.{World}
use Rattle.back_relation.specs.Things.{Things}
use Rattle.back_relation.specs.Activation.{FormScope}
use Rattle.back_relation.specs.Ends.{done, form_credit}
use Rattle.back_relation.specs.Forms.{TestEnds, SparingTest, FellJudged, judged_credit, context_at, code_at}
use Rattle.back_relation.specs.FormLaws.{LawOfJudging}
use Rattle.back_relation.specs.Points.{Point, start_at, run, Here, JudgedHere}
use Rattle.back_relation.specs.Starts.{EndsAt, SparingAt, FellFrom}
use Rattle.back_relation.proofs.Choices.{go_gives}
use Rattle.back_relation.proofs.Growth.{same_flat, then_value}
use Rattle.back_relation.proofs.Parts.{go_on_falls}
use Rattle.back_relation.proofs.Points.{point_after, charged_point, code_grows}
use Rattle.back_relation.proofs.Starts.{reached_set}
use Rattle.back_relation.proofs.Then.{ends_go_on, reached_then}

-- the word says whether the value is true
truth_told : (places : Places) (v : Value) (word : ℕ) → TellsValue v word → word_of places v ≡ Some word → not (word == nil_word) ≡ is_true v
truth_told places nil word t e = let same : word ≡ nil_word = cc e in ap not (eq-eqb word nil_word same)
truth_told places (integer n) word t e = ap not (ne_eqb word nil_word (λ same. absurd (cc (t.nil_alone same))))
truth_told places (character c) word t e = ap not (ne_eqb word nil_word (λ same. absurd (cc (t.nil_alone same))))
truth_told places (symbol s) word t e = ap not (ne_eqb word nil_word (λ same. absurd (cc (t.nil_alone same))))
truth_told places (object i) word t e = ap not (ne_eqb word nil_word (λ same. absurd (cc (t.nil_alone same))))

pub truth_of_word :
    (setting : Setting) {w : World} {z : FlatState} {y : MidState} → Things setting w z y → (v : Value) (word : ℕ) → word_of w.places v ≡ Some word
    → not (word == nil_word) ≡ is_true v
truth_of_word setting {w} {z} {y} t v word e =
    truth_told w.places v word (tells_value setting.names (tables setting.program) w.places z.state y t.represents v word e) e

module _ (setting : Setting) (s : FormScope) (d m size k n : ℕ) (there : d + 1 < size) where
  abbrev nil_steps : Steps
  nil_steps = constant (d + 1) nil_word ∷ []

  abbrev JudgedBy : (credit : ℕ) → Point setting s d m size → FlatEvaluated → MidOutcome → Type 0
  JudgedBy credit p r q =
      TestEnds setting (credit + judged_credit) n p.rs p.valid s d p.w p.env p.around p.z p.regs p.y (test_of Different d (d + 1)) r q

  -- the value of some steps is judged behind them
  pub judged_behind :
      {credit : ℕ} (p : Point setting s d m size) (ss : Steps) (r : FlatEvaluated) → EndsAt setting credit (start_at setting s d m size n p) r (run setting s d m size k n ss p.regs p.y)
      → JudgedBy credit p r (run setting s d m size k n (ss ++ nil_steps) p.regs p.y)
  judged_behind {credit} p ss r e =
      subst (λ q. JudgedBy credit p r q) (sym (in_two_parts (code_at setting k n) ss nil_steps p.regs p.y))
      (subst (λ o. JudgedBy credit p o (mid_go_on (run setting s d m size k n ss p.regs p.y) (λ g y. run setting s d m size k n nil_steps g y))) (go_gives r)
      (ends_go_on setting (λ v z. gives v z) (λ g y. run setting s d m size k n nil_steps g y) (omega arith) (omega arith) e (λ v z. same_flat z)
      (λ g y. code_grows setting s d m size k n nil_steps g y)
      (λ x. done (told x))))
    where
      told :
          (x : FellFrom setting credit (start_at setting s d m size n p) d r (run setting s d m size k n ss p.regs p.y))
          → FellJudged setting (credit + judged_credit) p.rs p.valid s d p.w p.env p.around p.z p.regs p.y (test_of Different d (d + 1)) (go_on r (λ v z. gives v z))
          (mid_go_on (run setting s d m size k n ss p.regs p.y) (λ g y. run setting s d m size k n nil_steps g y))
      told x =
          let q : MidOutcome = run setting s d m size k n ss p.regs p.y in
          let b : Point setting s d m size = point_after setting s d m size n p x.reached in
          let runs : RunsTo (code_at setting k n) (code_of nil_steps) q.registers q.state (ends falls (slice_set q.registers (d + 1) (Some nil_word)) (mid_charged 6 q.state)) =
          and_then constant_falls none_left in
          subst (λ o. FellJudged setting (credit + judged_credit) p.rs p.valid s d p.w p.env p.around p.z p.regs p.y (test_of Different d (d + 1)) o
          (mid_go_on q (λ g y. run setting s d m size k n nil_steps g y))) (sym (then_value r (λ v z. gives v z) x.result x.outcome))
          (subst (λ o. FellJudged setting (credit + judged_credit) p.rs p.valid s d p.w p.env p.around p.z p.regs p.y (test_of Different d (d + 1)) (gives x.result r.state) o)
          (sym (go_on_falls q (λ g y. run setting s d m size k n nil_steps g y) x.end ∙ runs.same))
          (record {
            result = x.result;
            outcome = refl;
            end = refl;
            w' = x.w';
            reached =
                reached_then setting (omega arith) x.reached (omega arith)
                (reached_set setting {credit = 6} (start_at setting s d m size n b) d (d + 1) nil_word 6 (omega arith) (omega arith) (omega arith));
            first = x.word;
            second = nil_word;
            first_word = register_beside q.registers (d + 1) d (Some nil_word) (λ e. omega arith) ∙ x.in_register;
            second_word = register_here q.registers (d + 1) nil_word (omega (arith, there, x.reached.kept.registers.count, p.count));
            judged = truth_of_word setting x.reached.kept.world.things x.result x.word x.of_value;
          }))

  -- **a form that is judged by its value**
  pub judged_sim :
      (f : FlatForm) (ss : Steps) → lower setting.names setting.at setting.program s.code d f ≡ by_value d ss
      → Here setting s d m size k n f → JudgedHere setting s d m size k n f
  judged_sim f ss same here p =
      subst (λ (o : Lowered). SparingTest setting n p.rs p.valid s d p.w p.env p.around p.z p.regs p.y o.judged.test
      (mean (context_at setting k) f p.env p.around p.z) (exec (code_at setting k n) (code_of o.judged.ready) p.regs p.y)) (sym same)
      (judged_behind {credit = form_credit} (charged_point setting s d m size n p) ss (mean (context_at setting k) f p.env p.around p.z)
      (subst (λ (o : Lowered). SparingAt setting (start_at setting s d m size n p) (mean (context_at setting k) f p.env p.around p.z) (run setting s d m size k n o.value p.regs p.y)) same (here p)))

pub judging_law : LawOfJudging
judging_law setting s d m size k turns f ss there same here =
    judged_sim setting s d m size k turns there f ss same here
