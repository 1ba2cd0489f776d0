-- **The form of a primitive**: its arguments come in registers, and then the primitive is applied, or judged.
use Rattle.std.proofs.Common.{◌≡◌, true, false, ℕ, ◌+◌, ◌≤◌, Bool, List, [], ◌∷◌, ◌++◌, length, refl, sym, ap, ◌∙◌, subst, arith}
use Rattle.std.specs.Prelude.{if◌then◌else◌}
use Rattle.lang_meaning.specs.declared.primitive.Primitive.{Primitive}
use Rattle.lang_meaning.specs.Prefixes.{IsPrefix}
use Rattle.lang_meaning.specs.Primitives.{primitive}
use Rattle.lang_meaning.specs.State.{DynamicContext, full}
use Rattle.lang_meaning.specs.Values.{Value}
use Rattle.flat_language.specs.FlatForm.{FlatForms, prim}
use Rattle.flat_language.specs.FlatMeaning.{mean, mean_arguments}
use Rattle.flat_language.specs.FlatNodes.{tables, count_forms}
use Rattle.flat_language.specs.FlatSignals.{answered}
use Rattle.flat_language.specs.FlatState.{FlatEnvironment, FlatState, FlatEvaluated, charged}
use Rattle.flat_laws.specs.FlatLater.{FlatLater}
use Rattle.flat_laws.proofs.Forms.{answers}
use Rattle.flat_laws.proofs.Later.{later_kept}
use Rattle.flat_laws.proofs.Steps.{primitive_step}
use Rattle.mid_code.specs.Law.{Grown}
use Rattle.mid_code.specs.MidCode.{code_of}
use Rattle.mid_code.specs.State.{Registers, MidState, MidOutcome}
use Rattle.back_lowering.specs.Codes.{lower}
use Rattle.back_lowering.specs.Primitives.{apply_primitive, Judged, judge_primitive}
use Rattle.back_lowering.specs.Registers.{of_code, enough_for}
use Rattle.back_lowering.specs.Steps.{Steps}
use Rattle.back_relation.specs.Setting.{Setting}
use Rattle.back_relation.specs.Worlds.{World, Standing}
use Rattle.back_relation.specs.Room.{words_for}
use Rattle.back_relation.specs.Activation.{FormScope}
use Rattle.back_relation.specs.Ends.{FullThere, full_there, form_credit}
use Rattle.back_relation.specs.Forms.{Begins, FormStands, FormEnds, TestEnds, FellJudged, judged_credit, context_at}
use Rattle.back_relation.specs.FormLaws.{AllDo}
use Rattle.back_relation.specs.Points.{Point, start_at, run}
use Rattle.back_relation.specs.Starts.{FlatGrown, Start, EndsAt, SparingAt}
use Rattle.back_relation.proofs.Fitting.{registers_front, registers_behind}
use Rattle.back_relation.proofs.Growth.{grown_later, same_flat}
use Rattle.back_relation.proofs.Points.{point_after, code_grows}
use Rattle.back_relation.proofs.Starts.{start_charged, ends_charged_by, reached_repaid, ends_sparing}
use Rattle.back_calling.proofs.Growing.{tasks_below}
use Rattle.back_values.specs.Arguments.{arguments_steps, ArgumentsHere, ArgumentsThere}
use Rattle.back_values.specs.Arguments as arguments
use Rattle.back_values.proofs.Arguments.{arguments_law, judged_arguments_law}
use Rattle.back_values.proofs.Lists.{argument_lists_law}
use Rattle.back_primitives.specs.Applying.{Applies, primitive_credit, TestAt}
use Rattle.back_primitives.specs.Calling.{WordsIn, KnownWords}
use Rattle.back_primitives.proofs.Applying.{applying_law}
use Rattle.back_primitives.proofs.Judging.{judged_law}
use Rattle.back_primitives.specs.Forms.{HasPrimitives, LawOfPrimitiveForms}
use Rattle.back_primitives.proofs.Found.{primitive_there}
use Rattle.back_primitives.proofs.Known.{agrees, same_arguments, known_words}

words_in : (d : ℕ) (ws : List ℕ) (regs : Registers) → arguments.WordsIn d ws regs → WordsIn d ws regs
words_in d [] regs h = tt
words_in d (w ∷ ws) regs h = (h.0, words_in (d + 1) ws regs h.1)

module _ (setting : Setting) (k turns : ℕ) (which : Primitive) (fs : FlatForms) (has : HasPrimitives setting k turns) (does : AllDo setting k turns fs) where
  answers_grow :
      (vs : List Value) (around : DynamicContext) (z : FlatState)
      → FlatGrown z (answered (context_at setting k) (primitive setting.names (tables setting.program) which vs z.state) around z).state
  answers_grow vs around z =
      grown_later
      (answers {R = FlatLater} {k = later_kept} (context_at setting k) (tasks_below setting k) (primitive setting.names (tables setting.program) which vs z.state) around z
      (primitive_step FlatLater later_kept setting.names (tables setting.program) which vs z)).grows

  module _ (rs valid : List Standing) (s : FormScope) (d n first : ℕ) (w : World) (env : FlatEnvironment) (around : DynamicContext) (z : FlatState) (regs : Registers) (y : MidState)
      (stands : FormStands setting s first (prim which fs)) (begins : Begins setting rs valid s d n w env around z regs y)
      (words : words_for setting.names setting.program (prim which fs) ≤ n) where
    abbrev units : ℕ
    units = 1 + count_forms fs

    abbrev size : ℕ
    size = length regs

    abbrev start : Start setting
    start = record {
      turns = turns;
      rs = rs;
      valid = valid;
      s = s;
      d = d;
      n = n;
      w = w;
      env = env;
      around = around;
      z = z;
      regs = regs;
      y = y;
      begins = begins;
    }

    abbrev p : Point setting s d n size
    p = record {
      rs = rs;
      valid = valid;
      w = w;
      env = env;
      around = around;
      z = charged units z;
      regs = regs;
      y = y;
      begins = (start_charged setting start units).begins;
      count = refl;
    }

    -- what goes on with the values; of others than those that are known, nothing is said
    abbrev next : List Value → FlatState → FlatEvaluated
    next vs after = answered (context_at setting k) (primitive setting.names (tables setting.program) which vs after.state) around after

    abbrev nothing : FlatState → FlatEvaluated
    nothing after = record { outcome = full 0 0; state = after }

    abbrev guarded : List Value → FlatState → FlatEvaluated
    guarded vs after = if agrees setting fs vs then next vs after else nothing after

    guarded_grows : (vs : List Value) (after : FlatState) → FlatGrown after (guarded vs after).state
    guarded_grows vs after = by (agrees setting fs vs)
      where
        by : (b : Bool) → FlatGrown after (if b then next vs after else nothing after).state
        by true = answers_grow vs around after
        by false = same_flat after

    same_meaning : mean_arguments (context_at setting k) fs [] env around (charged units z) guarded ≡ mean_arguments (context_at setting k) fs [] env around (charged units z) next
    same_meaning =
        sym
        (same_arguments setting k fs [] env around (charged units z) next guarded
        (λ vs after so. sym (ap (λ (b : Bool). if b then next vs after else nothing after) so)))

    module _ (vs : List Value) (after : FlatState) (regs' : Registers) (y' : MidState) (x : ArgumentsThere setting s d n size p (count_forms fs) vs after regs' y') where
      abbrev there : Start setting
      there = start_at setting s d n size turns (point_after setting s d n size turns p x.reached)

      applies : Applies setting k there which vs x.words
      applies = record {
        placed = has.placed;
        there = primitive_there setting which has.placed;
        pending = has.pending rs valid around;
        room = omega (arith, words);
        of_values = x.of_values;
        in_registers = words_in d x.words regs' x.in_registers;
        many = x.value_count ∙ stands.fits.0;
      }

      known : agrees setting fs vs ≡ true → KnownWords setting.at setting.program.literals fs x.words
      known so = known_words setting x.reached.kept.world.things fs vs x.words x.of_values so

      unknown : (ss : Steps) → FullThere setting (nothing after) (run setting s d n size k turns ss regs' y')
      unknown ss =
          let g : Grown y' (run setting s d n size k turns ss regs' y').state = code_grows setting s d n size k turns ss regs' y' in
          record {
            asked = 0;
            left_then = 0;
            outcome = refl;
            printed =
                subst (λ ps. IsPrefix ps (run setting s d n size k turns ss regs' y').state.printed) x.reached.kept.world.things.represents.printed
                (record { rest = g.printed.0; is = sym g.printed.1 });
          }

    abbrev applied : Steps
    applied = apply_primitive setting.at setting.program.literals which fs (count_forms fs) d s.code.site

    abbrev judged : Judged
    judged = judge_primitive setting.at setting.program.literals which fs (count_forms fs) d s.code.site

    abbrev list : Steps
    list = arguments_steps setting s d fs

    lists : enough_for (of_code (code_of list)) ≤ size → (d + count_forms fs ≤ size) × ArgumentsHere setting s d n size k turns fs
    lists names = argument_lists_law setting s d n size k turns first fs does stands.stands stands.fits.1 stands.leads stands.placed stands.forms_known begins.first names (omega (arith, words))

    value_ends :
        enough_for (of_code (code_of (list ++ applied))) ≤ size
        → SparingAt setting start (mean_arguments (context_at setting k) fs [] env around (charged units z) next) (run setting s d n size k turns (list ++ applied) regs y)
    value_ends names =
        let both = lists (registers_front list applied size names) in
        ends_sparing setting {c1 = primitive_credit which} start units (omega arith) (let count = stands.fits.0 in omega (arith, count))
        (subst (λ o. EndsAt setting (primitive_credit which) (start_charged setting start units) o (run setting s d n size k turns (list ++ applied) regs y)) same_meaning
        (arguments_law setting s d n size k turns (primitive_credit which) fs p guarded applied both.0 both.1 guarded_grows
        (λ vs after regs' y' x. by vs after regs' y' x (agrees setting fs vs) refl)))
      where
        by :
            (vs : List Value) (after : FlatState) (regs' : Registers) (y' : MidState) (x : ArgumentsThere setting s d n size p (count_forms fs) vs after regs' y') (b : Bool)
            → agrees setting fs vs ≡ b
            → FormEnds setting (primitive_credit which) turns rs valid s d x.w' env around after regs' y' (guarded vs after) (run setting s d n size k turns applied regs' y')
        by vs after regs' y' x true so =
            subst (λ (b : Bool). EndsAt setting (primitive_credit which) (there vs after regs' y' x) (if b then next vs after else nothing after) (run setting s d n size k turns applied regs' y')) (sym so)
            (applying_law setting k (there vs after regs' y' x) which fs vs x.words (applies vs after regs' y' x) (known vs after regs' y' x so) stands.fits.0
            (let few = registers_behind list applied size names in let same = x.reached.kept.registers.count in omega (arith, few, same)))
        by vs after regs' y' x false so =
            subst (λ (b : Bool). EndsAt setting (primitive_credit which) (there vs after regs' y' x) (if b then next vs after else nothing after) (run setting s d n size k turns applied regs' y')) (sym so)
            (full_there (unknown vs after regs' y' x applied))

    test_ends :
        enough_for (of_code (code_of (list ++ judged.ready))) ≤ size
        → TestAt setting (form_credit + judged_credit) (start_charged setting start 1) judged.test (mean_arguments (context_at setting k) fs [] env around (charged units z) next)
        (run setting s d n size k turns (list ++ judged.ready) regs y)
    test_ends names =
        let both = lists (registers_front list judged.ready size names) in
        let c1 : ℕ = primitive_credit which + judged_credit in
        let r : FlatEvaluated = mean_arguments (context_at setting k) fs [] env around (charged units z) next in
        let q : MidOutcome = run setting s d n size k turns (list ++ judged.ready) regs y in
        ends_charged_by setting {c1 = primitive_credit which + judged_credit} {c2 = form_credit + judged_credit} behind_first (count_forms fs)
        (λ (f : FellJudged setting (primitive_credit which + judged_credit) rs valid s d w env around (charged (count_forms fs) (charged 1 z)) regs y judged.test r q). record {
          result = f.result;
          outcome = f.outcome;
          end = f.end;
          w' = f.w';
          reached =
              reached_repaid setting {c1 = primitive_credit which + judged_credit} {c2 = form_credit + judged_credit} behind_first (count_forms fs)
              (let count = stands.fits.0 in omega (arith, count)) f.reached;
          first = f.first;
          second = f.second;
          first_word = f.first_word;
          second_word = f.second_word;
          judged = f.judged;
        })
        (let count = stands.fits.0 in omega (arith, count))
        (subst (λ (x : FlatState). TestEnds setting (primitive_credit which + judged_credit) turns rs valid s d w env around x regs y judged.test r q) same_units
        (subst (λ o. TestAt setting (primitive_credit which + judged_credit) (start_charged setting start units) judged.test o q) same_meaning
        (judged_arguments_law setting s d n size k turns (primitive_credit which + judged_credit) fs p judged.test guarded judged.ready both.0 both.1 guarded_grows
        (λ vs after regs' y' x. by vs after regs' y' x (agrees setting fs vs) refl))))
      where
        -- the first unit, and then one for each argument
        behind_first : Start setting
        behind_first = start_charged setting start 1

        same_units : charged units z ≡ charged (count_forms fs) (charged 1 z)
        same_units =
            let same : z.state.units + (1 + count_forms fs) ≡ z.state.units + 1 + count_forms fs = omega arith in
            ap (λ m. record z { state = record z.state { units = m } }) same

        by :
            (vs : List Value) (after : FlatState) (regs' : Registers) (y' : MidState) (x : ArgumentsThere setting s d n size p (count_forms fs) vs after regs' y') (b : Bool)
            → agrees setting fs vs ≡ b
            → TestEnds setting (primitive_credit which + judged_credit) turns rs valid s d x.w' env around after regs' y' judged.test (guarded vs after)
            (run setting s d n size k turns judged.ready regs' y')
        by vs after regs' y' x true so =
            subst
            (λ (b : Bool). TestAt setting (primitive_credit which + judged_credit) (there vs after regs' y' x) judged.test (if b then next vs after else nothing after)
            (run setting s d n size k turns judged.ready regs' y')) (sym so)
            (judged_law setting k (there vs after regs' y' x) which fs vs x.words (applies vs after regs' y' x) (known vs after regs' y' x so) stands.fits.0
            (let few = registers_behind list judged.ready size names in let same = x.reached.kept.registers.count in omega (arith, few, same)))
        by vs after regs' y' x false so =
            subst
            (λ (b : Bool). TestAt setting (primitive_credit which + judged_credit) (there vs after regs' y' x) judged.test (if b then next vs after else nothing after)
            (run setting s d n size k turns judged.ready regs' y')) (sym so)
            (full_there (unknown vs after regs' y' x judged.ready))

pub primitive_forms_law : LawOfPrimitiveForms
unfolding mean lower
primitive_forms_law setting k turns which fs has does = record {
  value =
      λ rs valid s d n first w env around z regs y stands begins names words.
      value_ends setting k turns which fs has does rs valid s d n first w env around z regs y stands begins words names;
  test =
      λ rs valid s d n first w env around z regs y stands begins names words.
      test_ends setting k turns which fs has does rs valid s d n first w env around z regs y stands begins words names;
}
