-- Quick ways: what is asked of arguments, and the slow way where they are not of the kind.
use Rattle.std.proofs.Common.{◌≡◌, ℕ, zero, suc, ◌+◌, ◌*◌, ◌<◌, ◌≤◌, Bool, true, false, List, [], ◌∷◌, ◌++◌, length, Some, refl, arith}
use Rattle.std.specs.Prelude.{slice_get, slice_set, if◌then◌else◌}
use Rattle.lang_meaning.specs.Arity.{arity}
use Rattle.lang_meaning.specs.declared.primitive.Primitive.{Primitive}
use Rattle.lang_meaning.specs.Primitives.{primitive}
use Rattle.lang_meaning.specs.State.{DynamicContext}
use Rattle.std.proofs.Math.ListN.{length-set}
use Rattle.lang_meaning.specs.Values.{Value, truth}
use Rattle.flat_language.specs.FlatNodes.{tables}
use Rattle.flat_language.specs.FlatSignals.{answered}
use Rattle.flat_language.specs.FlatState.{FlatState, FlatEvaluated, gives}
use Rattle.flat_laws.specs.FlatLater.{FlatLater}
use Rattle.flat_laws.proofs.Forms.{answers}
use Rattle.flat_laws.proofs.Later.{later_kept}
use Rattle.flat_laws.proofs.Steps.{primitive_step}
use Rattle.mid_code.specs.declared.operation.Comparison.{Comparison}
use Rattle.mid_code.specs.Meaning.{Context, exec}
use Rattle.mid_code.specs.MidCode.{code_of}
use Rattle.mid_code.specs.State.{Registers, register, MidState}
use Rattle.mid_code.specs.State.{charged as mid_charged}
use Rattle.mid_code.specs.Words.{compares}
use Rattle.mid_arena.specs.FixedWords.{true_address}
use Rattle.mid_arena.specs.Tags.{nil_word}
use Rattle.mid_arena.proofs.Registers.{register_here}
use Rattle.mid_arena.proofs.Running.{and_then, none_left, costing, constant_falls, load_falls, address_above}
use Rattle.back_lowering.specs.declared.placement.Placement.{Placement}
use Rattle.back_lowering.specs.declared.scope.SitePlace.{SitePlace}
use Rattle.back_lowering.specs.Primitives.{truth_where, by_procedure}
use Rattle.back_lowering.specs.Registers.{of_code, enough_for}
use Rattle.back_lowering.specs.Leaves.{site_stored}
use Rattle.back_lowering.specs.Routines.{pending_routine}
use Rattle.back_lowering.specs.Scope.{registers_from}
use Rattle.back_lowering.specs.Steps.{Steps, constant, call, if_equal, load_from}
use Rattle.back_relation.specs.Setting.{Setting}
use Rattle.back_relation.specs.Forms.{Begins, context_at, code_at}
use Rattle.back_relation.specs.Starts.{Start, EndsAt}
use Rattle.back_relation.proofs.Fitting.{enough_front, enough_behind}
use Rattle.back_calling.proofs.Growing.{tasks_below}
use Rattle.back_primitives.specs.Applying.{Applies}
use Rattle.back_primitives.proofs.Answered.{SignalPaid, by_procedure_ends}
use Rattle.back_primitives.proofs.Choosing.{Beside, beside_none, beside_set, beside_less, words_kept, start_beside, quick_ends, Chosen, chosen_ends, compared}

-- ---- registers that code names

pub named : (rs : List ℕ) (i r size : ℕ) → slice_get rs i ≡ Some r → enough_for rs ≤ size → r < size
named [] i r size e h = absurd (cc e)
named (q ∷ rs) zero r size e h = let same : q ≡ r = cc e in omega (arith, same, h)
named (q ∷ rs) (suc i) r size e h = named rs i r size e (omega (arith, h))

-- of a choice behind some steps
pub branches_named :
    (front first second : List ℕ) (size : ℕ) → enough_for (front ++ ((first ++ second) ++ [])) ≤ size → (enough_for first ≤ size) × (enough_for second ≤ size)
branches_named front first second size h =
    let one = enough_behind front ((first ++ second) ++ []) in
    let two = enough_front (first ++ second) [] in
    let three = enough_front first second in
    let four = enough_behind first second in
    (omega (arith, h, one, two, three), omega (arith, h, one, two, four))

behind_front : (front rest : List ℕ) (r size : ℕ) → enough_for (front ++ r ∷ rest) ≤ size → r < size
behind_front front rest r size h = let one = enough_behind front (r ∷ rest) in omega (arith, h, one)

pub slow_names :
    (at : Placement) (which : Primitive) (count d size : ℕ) (site : SitePlace) → enough_for (of_code (code_of (by_procedure at which count d site))) ≤ size
    → d + 1 < size
slow_names at which count d size site h =
    behind_front (d ∷ registers_from d count)
    (of_code (code_of (if_equal d (d + 1) (site_stored site d (d + 1) ++ (call d (pending_routine at) [] ∷ [])) [] ∷ []))) (d + 1) size h

-- ---- what the answer comes to is later

pub answer_up :
    (setting : Setting) (k : ℕ) (which : Primitive) (vs : List Value) (around : DynamicContext) (z : FlatState)
    → z.state.units ≤ (answered (context_at setting k) (primitive setting.names (tables setting.program) which vs z.state) around z).state.state.units
answer_up setting k which vs around z =
    (answers {R = FlatLater} {k = later_kept} (context_at setting k) (tasks_below setting k) (primitive setting.names (tables setting.program) which vs z.state) around z
    (primitive_step FlatLater later_kept setting.names (tables setting.program) which vs z)).grows.later.units

-- ---- the slow way, where registers behind those of the arguments were set

-- the start at other registers and a state where so much more was paid
abbrev pub start_with :
    (setting : Setting) (a : Start setting) (regs : Registers) (y : MidState)
    → Begins setting a.rs a.valid a.s a.d a.n a.w a.env a.around a.z regs y → Start setting
start_with setting a regs y begins = record {
  turns = a.turns;
  rs = a.rs;
  valid = a.valid;
  s = a.s;
  d = a.d;
  n = a.n;
  w = a.w;
  env = a.env;
  around = a.around;
  z = a.z;
  regs = regs;
  y = y;
  begins = begins;
}

module _ (setting : Setting) (k : ℕ) (a : Start setting) (which : Primitive) (vs : List Value) (ws : List ℕ) (g : Applies setting k a which vs ws) where
  abbrev pub meant : FlatEvaluated
  meant = answered (context_at setting k) (primitive setting.names (tables setting.program) which vs a.z.state) a.around a.z

  abbrev pub slow : Steps
  slow = by_procedure setting.at which (length ws) a.d a.s.code.site

  pub slow_ends :
      {credit : ℕ} (regs : Registers) (y : MidState) (begins : Begins setting a.rs a.valid a.s a.d a.n a.w a.env a.around a.z regs y)
      → Beside (a.d + length ws) a.regs regs → enough_for (of_code (code_of slow)) ≤ length a.regs → 210 + 256 * arity which ≤ credit → SignalPaid which credit
      → EndsAt setting credit (start_with setting a regs y begins) meant (exec (code_at setting k a.turns) (code_of slow) regs y)
  slow_ends {credit} regs y begins beside enough paid signals =
      by_procedure_ends setting g.placed k credit (start_with setting a regs y begins) which vs ws g.there g.pending
      (let two = slow_names setting.at which (length ws) a.d (length a.regs) a.s.code.site enough in omega (arith, two, beside.count)) g.room g.of_values
      (words_kept a.d ws (omega arith) beside g.in_registers) g.many paid (λ s. signals)

-- ---- t or nil

pub truth_ends :
    (setting : Setting) {credit : ℕ} (a : Start setting) (c : Context) (how : Comparison) (p q v w : ℕ) (b : Bool) → register p a.regs ≡ Some v
    → register q a.regs ≡ Some w → compares how v w ≡ b → 28 ≤ credit
    → EndsAt setting credit a (gives (truth b) a.z) (exec c (code_of (truth_where how a.d p q)) a.regs a.y)
truth_ends setting {credit} a c how p q v w b held also so enough =
    chosen_ends setting {c1 = 14} a c chosen (omega arith) (gives (truth b) a.z) (omega arith) (omega (arith, enough)) (by b)
  where
    first : Steps
    first = load_from a.d a.d true_address

    second : Steps
    second = constant a.d nil_word ∷ []

    chosen : Chosen setting c a.regs a.y a.d 14 (truth_where how a.d p q) first second b
    chosen = record {
      regs' = a.regs;
      cost = 12;
      run = (compared c how p q v w first second b a.regs a.y held also so).same;
      beside = beside_none a.d a.regs;
      within = omega arith;
    }

    by : (b : Bool)
        → EndsAt setting 14 (start_beside setting a a.regs 12 (beside_less (omega arith) (beside_none a.d a.regs))) (gives (truth b) a.z)
        (exec c (code_of (if b then first else second)) a.regs (mid_charged 12 a.y))
    by true =
        let t = a.begins.call.things.represents.fixed.true_value in
        let once : Registers = slice_set a.regs a.d (Some 0) in
        quick_ends setting (start_beside setting a a.regs 12 (beside_less (omega arith) (beside_none a.d a.regs))) c (code_of first)
        (slice_set once a.d (Some t.word)) 14 t.word (truth true)
        (costing {n = a.y.cost + 12 + 14}
        (and_then constant_falls
        (and_then (load_falls (register_here a.regs a.d 0 a.begins.first) (address_above 0 true_address true_address refl (omega arith)) t.stands) none_left))
        (omega arith))
        (beside_set a.d t.word (omega arith) (beside_set a.d 0 (omega arith) (beside_none a.d a.regs)))
        (register_here once a.d t.word (omega (arith, a.begins.first, length-set a.regs a.d (Some 0)))) t.of_value (omega arith)
    by false =
        quick_ends setting (start_beside setting a a.regs 12 (beside_less (omega arith) (beside_none a.d a.regs))) c (code_of second)
        (slice_set a.regs a.d (Some nil_word)) 6 nil_word (truth false) (costing {n = a.y.cost + 12 + 6} (and_then constant_falls none_left) (omega arith))
        (beside_set a.d nil_word (omega arith) (beside_none a.d a.regs)) (register_here a.regs a.d nil_word a.begins.first) refl (omega arith)
