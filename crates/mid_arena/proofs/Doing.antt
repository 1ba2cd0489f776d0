-- A run of the code of a primitive beside the answer of the meaning: how a run goes on, and how it ends with a value.
use Rattle.std.proofs.Common.{◌≡◌, ℕ, ◌+◌, ◌*◌, ◌≤◌, true, false, List, ◌++◌, Some, refl, arith}
use Rattle.lang_meaning.specs.declared.program.ProgramRows.{ProgramRows}
use Rattle.lang_meaning.specs.Values.{Value}
use Rattle.lang_meaning.specs.State as meaning
use Rattle.lang_meaning.specs.Primitives.{Answer, result, makes, makes_symbol, fails, domain_error}
use Rattle.mid_code.specs.declared.program.MidProcedure.{MidProcedure}
use Rattle.mid_code.specs.declared.operation.Test.{Test}
use Rattle.mid_code.specs.Words.{compares}
use Rattle.mid_code.specs.MidCode.{MidStep, choose, return_word, MidCode, no_step, step_and, code_of}
use Rattle.mid_code.specs.State.{Registers, MidState, MidOutcome, falls, returns, ends, register}
use Rattle.mid_code.specs.Meaning.{Task}
use Rattle.mid_arena.specs.Places.{Places, word_of}
use Rattle.mid_arena.specs.Represents.{Represents}
use Rattle.mid_arena.specs.Answers.{Comes, done, no_words, Done, units_after}
use Rattle.mid_arena.proofs.Running.{RunsTo, StepsTo, IsLast, turning, none_left, and_then, and_ends, return_ends, choose_first_falls}
use Rattle.mid_arena.proofs.Running.{choose_second_falls, choose_first_ends, choose_second_ends, parts_then, parts_end}
use Rattle.mid_arena.proofs.Growing.{grows_same}
use Rattle.mid_arena.proofs.Representing.{kept_grown, represents_grown, represents_same}

-- a state of the meaning with the same objects, fresh symbols, output and input
pub record SameObjects (z z' : meaning.State) : Type 0 where
  pub store : z'.store ≡ z.store
  pub symbols : z'.symbols ≡ z.symbols
  pub printed : z'.printed ≡ z.printed
  pub input : z'.input ≡ z.input

pub alike_self : (z : meaning.State) → SameObjects z z
alike_self z = record { store = refl; symbols = refl; printed = refl; input = refl }

pub alike_charged : (z : meaning.State) (n : ℕ) → SameObjects z (meaning.charged n z)
alike_charged z n = record { store = refl; symbols = refl; printed = refl; input = refl }

-- a state where so much was paid
abbrev pub paid : MidState → ℕ → MidState
paid y k = record y { cost = k }

module _ (names : List (List ℕ)) (program : ProgramRows) (places : Places) (z : meaning.State) (y : MidState) where
  -- what a run came to that began in a state: the answer, within a budget to which each unit behind it adds 250
  pub record Answers (budget : ℕ) (answer : Answer) (r : MidOutcome) : Type 0 where
    pub comes : Comes names program places z y 0 answer r
    pub cost : r.state.cost + 250 * z.units ≤ budget + 250 * units_after names program answer

  -- what came to an answer did not fall out
  pub answers_last : {budget : ℕ} (answer : Answer) (r : MidOutcome) → Answers budget answer r → IsLast r.end
  answers_last answer r a = by answer a.comes
    where
      returned : (w : ℕ) → r.end ≡ returns w → IsLast r.end
      returned w e = rw e tt

      of_done : (one : Answer) → Done names program places z y one r → IsLast r.end
      of_done (result v x) d = returned d.word d.end
      of_done (makes size besides o x) d = returned d.word d.end
      of_done (makes_symbol x) d = returned d.word d.end
      of_done (fails class slots x) d = returned _ d.end
      of_done (domain_error v expected x) d = returned _ d.end

      by : (one : Answer) → Comes names program places z y 0 one r → IsLast r.end
      by one (done d) = of_done one d
      by one (no_words w) = rw w.end tt

  -- the word of a value was returned, where things stand as they stood
  pub value_answers :
      (r : Represents names program places z y) {budget k w : ℕ} {v : Value} {z' : meaning.State} {rs : Registers} → word_of places v ≡ Some w → SameObjects z z'
      → k + 250 * z.units ≤ budget + 250 * z'.units → Answers budget (result v z') (ends (returns w) rs (paid y k))
  value_answers r {k = k} {w = w} {z' = z'} e alike cost = record {
    comes = done (record {
      word = w;
      end = refl;
      of_value = e;
      represents =
          represents_same names program places z z' (paid y k) alike.store alike.symbols alike.printed alike.input
          (represents_grown names program places z y r (paid y k) (grows_same y.arena r.arena).heap refl refl);
      arena = record { size = refl; laid_from = refl; laid_to = refl; heap_from = refl; heap_to = omega arith };
      blocks = refl;
      kept = kept_grown names program places z y r y.arena (grows_same y.arena r.arena);
    });
    cost = cost;
  }

  module _ (procedures : List MidProcedure) (below : Task → MidState → MidOutcome) where
    -- code that comes to an answer, with so many turns, from registers on, where so much was paid
    pub record Run (n budget : ℕ) (answer : Answer) (code : MidCode) (rs : Registers) (k : ℕ) : Type 0 where
      pub outcome : MidOutcome
      pub runs : RunsTo (turning procedures below n) code rs (paid y k) outcome
      pub answers : Answers budget answer outcome

    -- a step falls out, having cost some, and the code behind it goes on
    pub goes_on :
        {n budget k k' : ℕ} {answer : Answer} {s : MidStep} {code : MidCode} {rs rs' : Registers}
        → StepsTo (turning procedures below n) s rs (paid y k) (ends falls rs' (paid y k'))
        → Run n budget answer code rs' k' → Run n budget answer (step_and s code) rs k
    goes_on g h = record { outcome = h.outcome; runs = and_then g h.runs; answers = h.answers }

    -- a step returns with the word of a value, where things stand as they stood; and the step that returns the word of a register
    pub step_returns :
        (r : Represents names program places z y) {n budget k k' w : ℕ} {v : Value} {z' : meaning.State} {s : MidStep} {code : MidCode} {rs rs' : Registers}
        → StepsTo (turning procedures below n) s rs (paid y k) (ends (returns w) rs' (paid y k')) → word_of places v ≡ Some w → SameObjects z z'
        → k' + 250 * z.units ≤ budget + 250 * z'.units → Run n budget (result v z') (step_and s code) rs k
    step_returns r {k' = k'} {w = w} {rs' = rs'} g e alike cost =
        record { outcome = ends (returns w) rs' (paid y k'); runs = and_ends tt g; answers = value_answers r e alike cost }

    pub returns_value :
        (r : Represents names program places z y) {n budget k at w : ℕ} {v : Value} {z' : meaning.State} {code : MidCode} {rs : Registers}
        → register at rs ≡ Some w → word_of places v ≡ Some w → SameObjects z z' → k + 14 + 250 * z.units ≤ budget + 250 * z'.units
        → Run n budget (result v z') (step_and (return_word at) code) rs k
    returns_value r e f alike cost = step_returns r (return_ends e) f alike cost

    -- a test holds, and its branch falls out at once; or its branch comes to the answer, or the other branch
    pub test_passes :
        {n budget k a b : ℕ} {answer : Answer} {t : Test} {second code : MidCode} {rs : Registers} → register t.first rs ≡ Some a → register t.second rs ≡ Some b
        → compares t.comparison a b ≡ true → Run n budget answer code rs (k + 12 + 2) → Run n budget answer (step_and (choose t no_step second) code) rs k
    test_passes e f h more = goes_on (choose_first_falls e f h none_left) more

    pub test_fails :
        {n budget k a b : ℕ} {answer : Answer} {t : Test} {first code : MidCode} {rs : Registers} → register t.first rs ≡ Some a → register t.second rs ≡ Some b
        → compares t.comparison a b ≡ false → Run n budget answer code rs (k + 12 + 2) → Run n budget answer (step_and (choose t first no_step) code) rs k
    test_fails e f h more = goes_on (choose_second_falls e f h none_left) more

    pub first_answers :
        {n budget k a b : ℕ} {answer : Answer} {t : Test} {first second code : MidCode} {rs : Registers} → register t.first rs ≡ Some a → register t.second rs ≡ Some b
        → compares t.comparison a b ≡ true → Run n budget answer first rs (k + 12) → Run n budget answer (step_and (choose t first second) code) rs k
    first_answers {answer = answer} e f h more =
        let last : IsLast more.outcome.end = answers_last answer more.outcome more.answers in
        record { outcome = more.outcome; runs = and_ends last (choose_first_ends last e f h more.runs); answers = more.answers }

    pub second_answers :
        {n budget k a b : ℕ} {answer : Answer} {t : Test} {first second code : MidCode} {rs : Registers} → register t.first rs ≡ Some a → register t.second rs ≡ Some b
        → compares t.comparison a b ≡ false → Run n budget answer second rs (k + 12) → Run n budget answer (step_and (choose t first second) code) rs k
    second_answers {answer = answer} e f h more =
        let last : IsLast more.outcome.end = answers_last answer more.outcome more.answers in
        record { outcome = more.outcome; runs = and_ends last (choose_second_ends last e f h more.runs); answers = more.answers }

    -- code in two parts: the first one falls out, or it comes to the answer
    pub part_then :
        {n budget k k' : ℕ} {answer : Answer} (ss ts : List MidStep) {rs rs' : Registers}
        → RunsTo (turning procedures below n) (code_of ss) rs (paid y k) (ends falls rs' (paid y k'))
        → Run n budget answer (code_of ts) rs' k' → Run n budget answer (code_of (ss ++ ts)) rs k
    part_then ss ts g h = record { outcome = h.outcome; runs = parts_then ss ts g h.runs; answers = h.answers }

    pub part_answers :
        {n budget k : ℕ} {answer : Answer} (ss ts : List MidStep) {rs : Registers} → Run n budget answer (code_of ss) rs k
        → Run n budget answer (code_of (ss ++ ts)) rs k
    part_answers {answer = answer} ss ts h =
        record { outcome = h.outcome; runs = parts_end ss ts (answers_last answer h.outcome h.answers) h.runs; answers = h.answers }
