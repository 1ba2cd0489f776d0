-- Quick ways of numbers: comparisons, sums and differences of integers.
use Rattle.std.proofs.Common.{◌≡◌, ℕ, ◌+◌, ◌*◌, ◌<◌, ◌≤◌, ℤ, Bool, true, false, List, [], ◌∷◌, length, Option, Some, None, refl, sym, ap, ◌∙◌, subst, arith}
use Rattle.std.specs.Prelude.{slice_get, ◌==◌, ◌%◌, ◌&&◌, if◌then◌else◌}
use Rattle.lang_meaning.specs.Arity.{arity}
use Rattle.lang_meaning.specs.declared.primitive.Primitive.{Primitive}
use Rattle.lang_meaning.specs.declared.program.LiteralRow.{LiteralRow}
use Rattle.lang_meaning.specs.declared.program.LiteralRow.TheVariants as row
use Rattle.lang_meaning.specs.Primitives.{Answer, result, primitive}
use Rattle.lang_meaning.specs.Values.{Value, integer, truth, in_range}
use Rattle.flat_language.specs.FlatForm.{FlatForm, literal, no_form, form_and}
use Rattle.flat_language.specs.FlatNodes.{tables}
use Rattle.flat_language.specs.FlatSignals.{answered}
use Rattle.flat_language.specs.FlatState.{FlatEvaluated}
use Rattle.mid_code.specs.declared.operation.Comparison.{Comparison}
use Rattle.mid_code.specs.Meaning.{Context, exec}
use Rattle.mid_code.specs.MidCode.{code_of}
use Rattle.mid_code.specs.State.{Registers, register, MidState, MidOutcome}
use Rattle.mid_code.specs.State.{charged as mid_charged}
use Rattle.mid_code.specs.Words.{compares}
use Rattle.mid_arena.specs.Tags.{integer_word}
use Rattle.mid_arena.proofs.Telling.{IntegerTold, integer_found, no_integer, integer_told}
use Rattle.back_lowering.specs.declared.placement.Placement.{Placement}
use Rattle.back_lowering.specs.Placement.{literal_word}
use Rattle.back_lowering.specs.Primitives.{truth_where, where_integers, integer_in, known_integer, asked_integers}
use Rattle.back_lowering.specs.Registers.{of_code, enough_for}
use Rattle.back_lowering.specs.Steps.{Steps}
use Rattle.back_relation.specs.Setting.{Setting}
use Rattle.back_relation.specs.Forms.{Begins, FormEnds, context_at, code_at}
use Rattle.back_relation.specs.Starts.{Start, EndsAt}
use Rattle.back_primitives.specs.Applying.{Applies}
use Rattle.back_primitives.specs.Calling.{KnownWords}
use Rattle.back_primitives.proofs.Answered.{SignalPaid}
use Rattle.back_primitives.proofs.Choosing.{Beside, beside_none, beside_less, register_kept, start_beside, ends_less, Chosen, chosen_ends, likely_tag_chosen, integers_chosen}
use Rattle.back_primitives.proofs.Costs.{both_true}
use Rattle.back_primitives.proofs.Quick.{named, branches_named, answer_up, start_with, meant, slow, slow_ends, truth_ends}

-- ---- what is known of arguments

-- which registers are asked, by what is known
abbrev pub asked_by : (d : ℕ) → Option ℕ → List ℕ → List ℕ
asked_by d (Some word) more = more
asked_by d None more = d ∷ more

chosen_word : (b : Bool) (x w : ℕ) → (if b then Some x else None) ≡ Some w → (b ≡ true) × (x ≡ w)
chosen_word true x w e = (refl, cc e)
chosen_word false x w e = absurd (cc e)

known_in : (at : Placement) (i : ℕ) (o : Option LiteralRow) (word : ℕ) → integer_in at i o ≡ Some word → (word % 4 == 0) ≡ true
known_in at i (Some (row.Datum d)) word e =
    let both = chosen_word (literal_word at i % 4 == 0) (literal_word at i) word e in ap (λ w. w % 4 == 0) (sym both.1) ∙ both.0
known_in at i o word e = absurd (cc e)

pub known_tag : (at : Placement) (literals : List LiteralRow) (f : FlatForm) (word : ℕ) → known_integer at literals f ≡ Some word → (word % 4 == 0) ≡ true
known_tag at literals (literal i) word e = known_in at i (slice_get literals i) word e
known_tag at literals f word e = absurd (cc e)

module _ (setting : Setting) (k : ℕ) (a : Start setting) (which : Primitive) (v1 v2 : Value) (w1 w2 : ℕ) (f1 f2 : FlatForm)
    (g : Applies setting k a which (v1 ∷ v2 ∷ []) (w1 ∷ w2 ∷ []))
    (known : KnownWords setting.at setting.program.literals (form_and f1 (form_and f2 no_form)) (w1 ∷ w2 ∷ [])) where
  abbrev pub c : Context
  c = code_at setting k a.turns

  abbrev pub t : ℕ
  t = a.d + 2

  abbrev pub the_meaning : FlatEvaluated
  the_meaning = meant setting k a which (v1 ∷ v2 ∷ []) (w1 ∷ w2 ∷ []) g

  abbrev pub slowly : Steps
  slowly = slow setting k a which (v1 ∷ v2 ∷ []) (w1 ∷ w2 ∷ []) g

  -- some steps do so, wherever registers behind those of the arguments were set
  abbrev pub DoesBy : (ℕ → Registers → MidState → MidOutcome → Type 0) → ℕ → Steps → Type 0
  DoesBy E credit first =
      (regs : Registers) (y : MidState) (begins : Begins setting a.rs a.valid a.s a.d a.n a.w a.env a.around a.z regs y) → Beside (a.d + 2) a.regs regs
      → enough_for (of_code (code_of first)) ≤ length a.regs → E credit regs y (exec c (code_of first) regs y)

  abbrev pub IntegersBy : (ℕ → Registers → MidState → MidOutcome → Type 0) → ℕ → Steps → Type 0
  IntegersBy E credit first =
      (i j : ℤ) → v1 ≡ integer i → v2 ≡ integer j → in_range i ≡ true → in_range j ≡ true → w1 ≡ integer_word i → w2 ≡ integer_word j → DoesBy E credit first

  -- they do what is meant
  abbrev pub Meant : ℕ → Registers → MidState → MidOutcome → Type 0
  Meant credit regs y q = FormEnds setting credit a.turns a.rs a.valid a.s a.d a.w a.env a.around a.z regs y the_meaning q

  abbrev pub DoesThere : ℕ → Steps → Type 0
  DoesThere credit first = DoesBy Meant credit first

  abbrev pub ofIntegers : ℕ → Steps → Type 0
  ofIntegers credit first = IntegersBy Meant credit first

  pub up_meant : a.z.state.units ≤ the_meaning.state.state.units
  up_meant = answer_up setting k which (v1 ∷ v2 ∷ []) a.around a.z

  pub first_told : IntegerTold v1 w1
  first_told = integer_told setting.names (tables setting.program) a.w.places a.z.state a.y a.begins.call.things.represents v1 w1 g.of_values.0

  pub second_told : IntegerTold v2 w2
  second_told = integer_told setting.names (tables setting.program) a.w.places a.z.state a.y a.begins.call.things.represents v2 w2 g.of_values.1.0

  -- both words are those of integers
  both_integers :
      (E : ℕ → Registers → MidState → MidOutcome → Type 0) {credit : ℕ} (first : Steps) → IntegersBy E credit first → (w1 % 4 == 0) ≡ true → (w2 % 4 == 0) ≡ true
      → DoesBy E credit first
  both_integers E {credit} first does e f = by first_told second_told
    where
      by : IntegerTold v1 w1 → IntegerTold v2 w2 → DoesBy E credit first
      by (integer_found i p q r x y) (integer_found j p' q' r' x' y') = does i j p p' r r' x x'
      by (no_integer p q) o = absurd (cc (sym e ∙ q))
      by (integer_found i p q r x y) (no_integer p' q') = absurd (cc (sym f ∙ q'))

  pub slowly_does : {credit : ℕ} → 210 + 256 * arity which ≤ credit → SignalPaid which credit → DoesThere credit slowly
  slowly_does paid signals regs y begins beside enough = slow_ends setting k a which (v1 ∷ v2 ∷ []) (w1 ∷ w2 ∷ []) g regs y begins beside enough paid signals

  -- one of both, in a choice
  chosen_does :
      (E : ℕ → Registers → MidState → MidOutcome → Type 0) {credit : ℕ} (first second : Steps) (b : Bool) → (b ≡ true → DoesBy E credit first)
      → (b ≡ false → DoesBy E credit second)
      → enough_for (of_code (code_of first)) ≤ length a.regs → enough_for (of_code (code_of second)) ≤ length a.regs
      → (regs : Registers) (y : MidState) (begins : Begins setting a.rs a.valid a.s a.d a.n a.w a.env a.around a.z regs y) → Beside (a.d + 2) a.regs regs
      → E credit regs y (exec c (code_of (if b then first else second)) regs y)
  chosen_does E first second true if_so if_not e f regs y begins beside = if_so refl regs y begins beside e
  chosen_does E first second false if_so if_not e f regs y begins beside = if_not refl regs y begins beside f

  -- **integers are asked for**, where one may be known: then the first steps, and else the second ones
  pub integers_by :
      (E : ℕ → Registers → MidState → MidOutcome → Type 0) {c1 credit : ℕ}
      → ((most : ℕ) (code first second : Steps) (b : Bool) (h : Chosen setting c a.regs a.y t most code first second b) → c1 + most ≤ credit
      → E c1 h.regs' (mid_charged h.cost a.y) (exec c (code_of (if b then first else second)) h.regs' (mid_charged h.cost a.y))
      → E credit a.regs a.y (exec c (code_of code) a.regs a.y))
      → ((q : MidOutcome) → E c1 a.regs a.y q → E credit a.regs a.y q) → (first second : Steps) → IntegersBy E c1 first → DoesBy E c1 second → c1 + 46 ≤ credit
      → enough_for (of_code (code_of (where_integers (asked_integers setting.at setting.program.literals a.d (form_and f1 (form_and f2 no_form))) t first second))) ≤ length a.regs
      → E credit a.regs a.y
      (exec c (code_of (where_integers (asked_integers setting.at setting.program.literals a.d (form_and f1 (form_and f2 no_form))) t first second)) a.regs a.y)
  integers_by E {c1} {credit} chooses less first second does else_does more enough =
      by (known_integer setting.at setting.program.literals f1) (known_integer setting.at setting.program.literals f2) refl refl enough
    where
      front_one : ℕ → List ℕ
      front_one of = t ∷ t ∷ of ∷ t ∷ (t + 1) ∷ t ∷ (t + 1) ∷ []

      by : (o1 o2 : Option ℕ) → known_integer setting.at setting.program.literals f1 ≡ o1 → known_integer setting.at setting.program.literals f2 ≡ o2
          → enough_for (of_code (code_of (where_integers (asked_by a.d o1 (asked_by (a.d + 1) o2 [])) t first second))) ≤ length a.regs
          → E credit a.regs a.y (exec c (code_of (where_integers (asked_by a.d o1 (asked_by (a.d + 1) o2 [])) t first second)) a.regs a.y)
      by None None e f enough =
          let there : t + 1 < length a.regs = named (of_code (code_of (where_integers (a.d ∷ (a.d + 1) ∷ []) t first second))) 3 (t + 1) (length a.regs) refl enough in
          let parts = branches_named (t ∷ a.d ∷ (a.d + 1) ∷ (t + 1) ∷ t ∷ t ∷ (t + 1) ∷ (t + 1) ∷ t ∷ (t + 1) ∷ []) (of_code (code_of second)) (of_code (code_of first)) (length a.regs) enough in
          let chosen : Chosen setting c a.regs a.y t 46 (where_integers (a.d ∷ (a.d + 1) ∷ []) t first second) first second ((w1 % 4 == 0) && (w2 % 4 == 0)) =
          integers_chosen setting c a.regs a.y t there a.d (a.d + 1) w1 w2 first second ((w1 % 4 == 0) && (w2 % 4 == 0)) g.in_registers.0 g.in_registers.1.0 refl in
          chooses 46 (where_integers (a.d ∷ (a.d + 1) ∷ []) t first second) first second ((w1 % 4 == 0) && (w2 % 4 == 0)) chosen more
          (chosen_does E first second ((w1 % 4 == 0) && (w2 % 4 == 0))
          (λ so. let both = both_true (w1 % 4 == 0) (w2 % 4 == 0) so in both_integers E first does both.0 both.1) (λ not_so. else_does) parts.1 parts.0
          chosen.regs' (mid_charged chosen.cost a.y) (start_beside setting a chosen.regs' chosen.cost (beside_less (omega arith) chosen.beside)).begins chosen.beside)
      by None (Some u) e f enough =
          let there : t + 1 < length a.regs = named (of_code (code_of (where_integers (a.d ∷ []) t first second))) 4 (t + 1) (length a.regs) refl enough in
          let parts = branches_named (front_one a.d) (of_code (code_of second)) (of_code (code_of first)) (length a.regs) enough in
          let other : (w2 % 4 == 0) ≡ true = ap (λ w. w % 4 == 0) (known.1.0 u f) ∙ known_tag setting.at setting.program.literals f2 u f in
          let chosen : Chosen setting c a.regs a.y t 36 (where_integers (a.d ∷ []) t first second) first second (w1 % 4 == 0) =
          likely_tag_chosen setting c a.regs a.y t there a.d w1 0 first second (w1 % 4 == 0) g.in_registers.0 (omega arith) refl in
          chooses 36 (where_integers (a.d ∷ []) t first second) first second (w1 % 4 == 0) chosen (omega (arith, more))
          (chosen_does E first second (w1 % 4 == 0) (λ so. both_integers E first does so other) (λ not_so. else_does) parts.1 parts.0
          chosen.regs' (mid_charged chosen.cost a.y) (start_beside setting a chosen.regs' chosen.cost (beside_less (omega arith) chosen.beside)).begins chosen.beside)
      by (Some u) None e f enough =
          let there : t + 1 < length a.regs = named (of_code (code_of (where_integers ((a.d + 1) ∷ []) t first second))) 4 (t + 1) (length a.regs) refl enough in
          let parts = branches_named (front_one (a.d + 1)) (of_code (code_of second)) (of_code (code_of first)) (length a.regs) enough in
          let one : (w1 % 4 == 0) ≡ true = ap (λ w. w % 4 == 0) (known.0 u e) ∙ known_tag setting.at setting.program.literals f1 u e in
          let chosen : Chosen setting c a.regs a.y t 36 (where_integers ((a.d + 1) ∷ []) t first second) first second (w2 % 4 == 0) =
          likely_tag_chosen setting c a.regs a.y t there (a.d + 1) w2 0 first second (w2 % 4 == 0) g.in_registers.1.0 (omega arith) refl in
          chooses 36 (where_integers ((a.d + 1) ∷ []) t first second) first second (w2 % 4 == 0) chosen (omega (arith, more))
          (chosen_does E first second (w2 % 4 == 0) (λ so. both_integers E first does one so) (λ not_so. else_does) parts.1 parts.0
          chosen.regs' (mid_charged chosen.cost a.y) (start_beside setting a chosen.regs' chosen.cost (beside_less (omega arith) chosen.beside)).begins chosen.beside)
      by (Some u) (Some u') e f enough =
          let one : (w1 % 4 == 0) ≡ true = ap (λ w. w % 4 == 0) (known.0 u e) ∙ known_tag setting.at setting.program.literals f1 u e in
          let other : (w2 % 4 == 0) ≡ true = ap (λ w. w % 4 == 0) (known.1.0 u' f) ∙ known_tag setting.at setting.program.literals f2 u' f in
          less _ (both_integers E first does one other a.regs a.y a.begins (beside_none (a.d + 2) a.regs) enough)

  -- of a value: else the slow way
  pub integers_end :
      {c1 credit : ℕ} (first : Steps) → ofIntegers c1 first → c1 + 46 ≤ credit → 210 + 256 * arity which ≤ c1 → SignalPaid which c1
      → enough_for (of_code (code_of (where_integers (asked_integers setting.at setting.program.literals a.d (form_and f1 (form_and f2 no_form))) t first slowly))) ≤ length a.regs
      → EndsAt setting credit a the_meaning
      (exec c (code_of (where_integers (asked_integers setting.at setting.program.literals a.d (form_and f1 (form_and f2 no_form))) t first slowly)) a.regs a.y)
  integers_end {c1} {credit} first does more paid signals enough =
      integers_by Meant {c1 = c1} {credit = credit} (λ most code first second b h few e. chosen_ends setting {c1 = c1} a c h (omega arith) the_meaning up_meant few e)
      (λ q e. ends_less setting {c1 = c1} a (omega (arith, more)) e) first slowly does (slowly_does paid signals) more enough

  -- ---- comparisons

  -- what is meant where both are integers and the primitive answers so
  pub meant_at :
      (i j : ℤ) (answer : Answer) → v1 ≡ integer i → v2 ≡ integer j
      → primitive setting.names (tables setting.program) which (integer i ∷ integer j ∷ []) a.z.state ≡ answer
      → answered (context_at setting k) answer a.around a.z ≡ the_meaning
  meant_at i j answer e f same =
      sym
      (ap (λ v. answered (context_at setting k) (primitive setting.names (tables setting.program) which (v ∷ v2 ∷ []) a.z.state) a.around a.z) e
      ∙ ap (λ v. answered (context_at setting k) (primitive setting.names (tables setting.program) which (integer i ∷ v ∷ []) a.z.state) a.around a.z) f
      ∙ ap (λ x. answered (context_at setting k) x a.around a.z) same)

  pub compared_quick :
      (how : Comparison) (p q : ℕ) (one other : ℕ → ℕ → ℕ) (holds : ℤ → ℤ → Bool)
      → ((regs : Registers) → register a.d regs ≡ Some w1 → register (a.d + 1) regs ≡ Some w2 → (register p regs ≡ Some (one w1 w2)) × (register q regs ≡ Some (other w1 w2)))
      → ((i j : ℤ) → in_range i ≡ true → in_range j ≡ true
      → compares how (one (integer_word i) (integer_word j)) (other (integer_word i) (integer_word j)) ≡ holds i j)
      → ((i j : ℤ) → primitive setting.names (tables setting.program) which (integer i ∷ integer j ∷ []) a.z.state ≡ result (truth (holds i j)) a.z.state)
      → {credit : ℕ} → 28 ≤ credit → ofIntegers credit (truth_where how a.d p q)
  compared_quick how p q one other holds reads tells says {credit} enough i j e f r s x x' regs y begins beside names =
      let words = reads regs (register_kept a.d (omega arith) beside ∙ g.in_registers.0) (register_kept (a.d + 1) (omega arith) beside ∙ g.in_registers.1.0) in
      subst (λ o. EndsAt setting credit (start_with setting a regs y begins) o (exec c (code_of (truth_where how a.d p q)) regs y))
      (meant_at i j (result (truth (holds i j)) a.z.state) e f (says i j))
      (truth_ends setting (start_with setting a regs y begins) c how p q (one w1 w2) (other w1 w2) (holds i j) words.0 words.1
      (ap (λ w. compares how (one w w2) (other w w2)) x ∙ ap (λ w. compares how (one (integer_word i) w) (other (integer_word i) w)) x' ∙ tells i j r s) enough)
