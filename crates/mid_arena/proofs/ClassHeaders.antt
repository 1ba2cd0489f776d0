-- The code that finds the word of the class of an object or a symbol, by its header, beside the meaning's class of it.
use Rattle.std.proofs.Common.{◌≡◌, ℕ, ◌+◌, ◌-◌, ◌*◌, ◌%◌, ◌^◌, ◌<◌, ◌≤◌, pos, Bool, true, false, List, length, Some, refl, ◌∙◌, arith}
use Rattle.std.specs.Prelude.{◌==◌, nat_lt, nat_le, slice_set, if◌then◌else◌}
use Rattle.std.proofs.lemmas.Bool.Decides.{nat_tests}
use Rattle.lang_meaning.specs.declared.program.ProgramRows.{ProgramRows}
use Rattle.lang_meaning.specs.Objects.{vector_class, string_class, function_class, generic_function_class, symbol_class, stream_class, built_in_class_class, standard_class_class}
use Rattle.lang_meaning.specs.State as meaning
use Rattle.lang_meaning.specs.InitialHeap.{class_value}
use Rattle.mid_code.specs.declared.program.MidProcedure.{MidProcedure}
use Rattle.mid_code.specs.declared.operation.Test.{Test}
use Rattle.mid_code.specs.Arena.{word_at}
use Rattle.base.specs.Arithmetic.{shift_left}
use Rattle.mid_code.specs.Words.{compares}
use Rattle.mid_code.specs.MidCode.{MidStep, choose, MidCode, no_step, step_and, code_of}
use Rattle.mid_code.specs.State.{Registers, MidState, MidOutcome, falls, ends, register}
use Rattle.mid_code.specs.Meaning.{Task}
use Rattle.mid_arena.specs.Tags.{class_header, string_header, vector_header, function_header, generic_header, input_header, output_header, symbol_header, fresh_header}
use Rattle.mid_arena.specs.Places.{Places, word_of}
use Rattle.mid_arena.specs.FixedWords.{class_address}
use Rattle.mid_arena.specs.Represents.{Represents}
use Rattle.mid_arena.specs.Steps as steps
use Rattle.mid_arena.specs.Steps.{class_by_header, class_of_object}
use Rattle.mid_arena.proofs.WordFacts.{low_four_bits_tested}
use Rattle.mid_arena.proofs.Running.{RunsTo, StepsTo, turning, none_left, and_then, constant_falls, compute_falls, load_falls, choose_first_falls, choose_second_falls, address_up}
use Rattle.mid_arena.proofs.Running.{address_above, address_below}
use Rattle.mid_arena.proofs.Doing.{paid}
use Rattle.mid_arena.proofs.Registers.{register_beside, register_here, same_size, six_here}

-- a header of an object that is no class and no instance, or of a symbol, with the number of the class
pub data KindHeader : (header class : ℕ) → Type 0 where
  of_string : KindHeader string_header string_class
  of_vector : KindHeader vector_header vector_class
  of_function : KindHeader function_header function_class
  of_generic : KindHeader generic_header generic_function_class
  of_input : KindHeader input_header stream_class
  of_output : KindHeader output_header stream_class
  of_symbol : KindHeader symbol_header symbol_class
  of_fresh : KindHeader fresh_header symbol_class

-- Where the class of a value is sought: a represented state, how a run goes on, the registers at its beginning, of which one of the first has
-- the word of the value, and the one where the word of the class is to come.
pub record Seeking (names : List (List ℕ)) (program : ProgramRows) (places : Places) (z : meaning.State) (y : MidState) : Type 0 where
  pub represents : Represents names program places z y
  pub procedures : List MidProcedure
  pub below : Task → MidState → MidOutcome
  pub turns : ℕ
  pub to : ℕ
  pub to_low : to < 3
  pub of : ℕ
  pub of_low : of < 3
  pub word : ℕ
  pub start : Registers
  pub held : register of start ≡ Some word

-- the word is in register 0, and that of the class is to come into register 2
abbrev pub seeking_first :
    {names : List (List ℕ)} {program : ProgramRows} {places : Places} {z : meaning.State} {y : MidState} (r : Represents names program places z y)
    (procedures : List MidProcedure) (below : Task → MidState → MidOutcome) (n w : ℕ) (start : Registers) → register 0 start ≡ Some w → Seeking names program places z y
seeking_first r procedures below n w start held = record {
  represents = r;
  procedures = procedures;
  below = below;
  turns = n;
  to = 2;
  to_low = omega arith;
  of = 0;
  of_low = omega arith;
  word = w;
  start = start;
  held = held;
}

module _ {names : List (List ℕ)} {program : ProgramRows} {places : Places} {z : meaning.State} {y : MidState} (here : Seeking names program places z y) where
  -- Registers on the way: those of the arguments are as they were, 0 is in register 5, and that word is in register 7.
  pub record OnTheWay (seventh : ℕ) (rs : Registers) : Type 0 where
    pub size : length rs ≡ 8
    pub others : (i : ℕ) → i < 3 → register i rs ≡ register i here.start
    pub zero_there : register 5 rs ≡ Some 0
    pub seven : register 7 rs ≡ Some seventh

  -- Code falls out with the word of a class in the register, for at most so much; the other arguments are as they were.
  pub record Finds (class : ℕ) (code : MidCode) (rs : Registers) (k bound : ℕ) : Type 0 where
    pub registers : Registers
    pub cost : ℕ
    pub word : ℕ
    pub runs : RunsTo (turning here.procedures here.below here.turns) code rs (paid y k) (ends falls registers (paid y cost))
    pub of_class : word_of places (class_value names program class) ≡ Some word
    pub there : register here.to registers ≡ Some word
    pub size : length registers ≡ 8
    pub others : (i : ℕ) → i < 3 → (here.to ≡ i → ⊥) → register i registers ≡ register i here.start
    pub within : cost ≤ k + bound

  pub finds_within : {class k bound more : ℕ} {code : MidCode} {rs : Registers} → Finds class code rs k bound → bound ≤ more → Finds class code rs k more
  finds_within f h = record {
    registers = f.registers;
    cost = f.cost;
    word = f.word;
    runs = f.runs;
    of_class = f.of_class;
    there = f.there;
    size = f.size;
    others = f.others;
    within = omega (arith, f.within, h);
  }

  -- behind a step that falls out
  pub finds_after :
      {class k bound : ℕ} {s : MidStep} {code : MidCode} {rs rs' : Registers} (k' : ℕ)
      → StepsTo (turning here.procedures here.below here.turns) s rs (paid y k) (ends falls rs' (paid y (k + k'))) → Finds class code rs' (k + k') bound
      → Finds class (step_and s code) rs k (k' + bound)
  finds_after k' g f = record {
    registers = f.registers;
    cost = f.cost;
    word = f.word;
    runs = and_then g f.runs;
    of_class = f.of_class;
    there = f.there;
    size = f.size;
    others = f.others;
    within = omega (arith, f.within);
  }

  -- in a branch
  finds_branch :
      {class k bound : ℕ} {s : MidStep} {branch : MidCode} {rs : Registers} (f : Finds class branch rs (k + 12) bound)
      → StepsTo (turning here.procedures here.below here.turns) s rs (paid y k) (ends falls f.registers (paid y (f.cost + 2))) → Finds class (step_and s no_step) rs k (14 + bound)
  finds_branch f g = record {
    registers = f.registers;
    cost = f.cost + 2;
    word = f.word;
    runs = and_then g none_left;
    of_class = f.of_class;
    there = f.there;
    size = f.size;
    others = f.others;
    within = omega (arith, f.within);
  }

  pub finds_first :
      {class k bound a b : ℕ} {t : Test} {first second : MidCode} {rs : Registers} → register t.first rs ≡ Some a → register t.second rs ≡ Some b
      → compares t.comparison a b ≡ true → Finds class first rs (k + 12) bound → Finds class (step_and (choose t first second) no_step) rs k (14 + bound)
  finds_first e g h f = finds_branch f (choose_first_falls e g h f.runs)

  pub finds_second :
      {class k bound a b : ℕ} {t : Test} {first second : MidCode} {rs : Registers} → register t.first rs ≡ Some a → register t.second rs ≡ Some b
      → compares t.comparison a b ≡ false → Finds class second rs (k + 12) bound → Finds class (step_and (choose t first second) no_step) rs k (14 + bound)
  finds_second e g h f = finds_branch f (choose_second_falls e g h f.runs)

  -- a word is put into register 4, 6 or 7
  pub six : {v : ℕ} {rs : Registers} (x : ℕ) → OnTheWay v rs → OnTheWay v (slice_set rs 6 (Some x))
  six {rs = rs} x o = record {
    size = same_size rs 6 (Some x) o.size;
    others = λ i h. register_beside rs 6 i (Some x) (omega arith) ∙ o.others i h;
    zero_there = register_beside rs 6 5 (Some x) (omega arith) ∙ o.zero_there;
    seven = register_beside rs 6 7 (Some x) (omega arith) ∙ o.seven;
  }

  four : {v : ℕ} {rs : Registers} (x : ℕ) → OnTheWay v rs → OnTheWay v (slice_set rs 4 (Some x))
  four {rs = rs} x o = record {
    size = same_size rs 4 (Some x) o.size;
    others = λ i h. register_beside rs 4 i (Some x) (omega arith) ∙ o.others i h;
    zero_there = register_beside rs 4 5 (Some x) (omega arith) ∙ o.zero_there;
    seven = register_beside rs 4 7 (Some x) (omega arith) ∙ o.seven;
  }

  seven_put : {v : ℕ} {rs : Registers} (x : ℕ) → OnTheWay v rs → OnTheWay x (slice_set rs 7 (Some x))
  seven_put {rs = rs} x o = record {
    size = same_size rs 7 (Some x) o.size;
    others = λ i h. register_beside rs 7 i (Some x) (omega arith) ∙ o.others i h;
    zero_there = register_beside rs 7 5 (Some x) (omega arith) ∙ o.zero_there;
    seven = register_here rs 7 x (omega (arith, o.size));
  }

  pub six_there : {v : ℕ} {rs : Registers} (x : ℕ) → OnTheWay v rs → register 6 (slice_set rs 6 (Some x)) ≡ Some x
  six_there {rs = rs} x o = six_here rs x o.size

  -- the word of the class comes into the register
  put_there :
      {class v k x : ℕ} {s : MidStep} {rs : Registers} (k' : ℕ) → OnTheWay v rs → word_of places (class_value names program class) ≡ Some x
      → StepsTo (turning here.procedures here.below here.turns) s rs (paid y k) (ends falls (slice_set rs here.to (Some x)) (paid y (k + k')))
      → Finds class (step_and s no_step) rs k k'
  put_there {k = k} {x = x} {rs = rs} k' o e g = record {
    registers = slice_set rs here.to (Some x);
    cost = k + k';
    word = x;
    runs = and_then g none_left;
    of_class = e;
    there = register_here rs here.to x (omega (arith, o.size, here.to_low));
    size = same_size rs here.to (Some x) o.size;
    others = λ i h other. register_beside rs here.to i (Some x) other ∙ o.others i h;
    within = omega arith;
  }

  -- the word of a class that is built in
  pub finds_fixed : {v k : ℕ} {rs : Registers} (class : ℕ) → OnTheWay v rs → class < 34 → Finds class (code_of (steps.fixed_class here.to (pos (class_address class)))) rs k 8
  finds_fixed class o h =
      let at = here.represents.fixed.classes class h in
      put_there 8 o at.of_value (load_falls o.zero_there (address_above 0 (class_address class) (class_address class) (omega arith) (omega arith)) at.stands)

  -- the word in a register is that one, or another one
  pub finds_where :
      {v u k : ℕ} {rs : Registers} (from word class : ℕ) (otherwise : List MidStep) → OnTheWay v rs → register from (slice_set rs 6 (Some word)) ≡ Some u → class < 34
      → (u == word) ≡ true → Finds class (code_of (steps.class_where here.to from word (pos (class_address class)) otherwise)) rs k 28
  finds_where from word class otherwise o at h e = finds_after 6 constant_falls (finds_first at (six_there word o) e (finds_fixed class (six word o) h))

  pub finds_otherwise :
      {v u k bound class : ℕ} {rs : Registers} (from word other : ℕ) (otherwise : List MidStep) → OnTheWay v rs
      → register from (slice_set rs 6 (Some word)) ≡ Some u → (u == word) ≡ false
      → Finds class (code_of otherwise) (slice_set rs 6 (Some word)) (k + 6 + 12) bound
      → Finds class (code_of (steps.class_where here.to from word (pos (class_address other)) otherwise)) rs k (20 + bound)
  finds_otherwise from word other otherwise o at e f = finds_within (finds_after 6 constant_falls (finds_second at (six_there word o) e f)) (omega arith)

  -- the word in register 7 is below another, or not
  finds_below :
      {v k : ℕ} {rs : Registers} (word class other : ℕ) → OnTheWay v rs → class < 34 → nat_lt v word ≡ true
      → Finds class (code_of (steps.class_below here.to word (pos (class_address class)) (pos (class_address other)))) rs k 28
  finds_below word class other o h e = finds_after 6 constant_falls (finds_first (six word o).seven (six_there word o) e (finds_fixed class (six word o) h))

  finds_above :
      {v k : ℕ} {rs : Registers} (word class other : ℕ) → OnTheWay v rs → class < 34 → nat_lt v word ≡ false
      → Finds class (code_of (steps.class_below here.to word (pos (class_address other)) (pos (class_address class)))) rs k 28
  finds_above word class other o h e = finds_after 6 constant_falls (finds_second (six word o).seven (six_there word o) e (finds_fixed class (six word o) h))

  -- ---- by the header

  -- what the code looks for behind each header
  abbrev behind_generic : List MidStep
  behind_generic = steps.class_below here.to symbol_header (pos (class_address stream_class)) (pos (class_address symbol_class))

  abbrev behind_function : List MidStep
  behind_function = steps.class_where here.to 7 generic_header (pos (class_address generic_function_class)) behind_generic

  abbrev behind_vector : List MidStep
  behind_vector = steps.class_where here.to 7 function_header (pos (class_address function_class)) behind_function

  abbrev behind_string : List MidStep
  behind_string = steps.class_where here.to 7 vector_header (pos (class_address vector_class)) behind_vector

  finds_behind_function : {h class k : ℕ} {rs : Registers} → KindHeader h class → 5 ≤ h → OnTheWay h rs → Finds class (code_of behind_function) rs k 48
  finds_behind_function of_generic high o = finds_within (finds_where 7 generic_header generic_function_class behind_generic o (six _ o).seven (omega arith) refl) (omega arith)
  finds_behind_function of_input high o =
      finds_otherwise 7 generic_header generic_function_class behind_generic o (six _ o).seven refl (finds_below symbol_header stream_class symbol_class (six _ o) (omega arith) refl)
  finds_behind_function of_output high o =
      finds_otherwise 7 generic_header generic_function_class behind_generic o (six _ o).seven refl (finds_below symbol_header stream_class symbol_class (six _ o) (omega arith) refl)
  finds_behind_function of_symbol high o =
      finds_otherwise 7 generic_header generic_function_class behind_generic o (six _ o).seven refl (finds_above symbol_header symbol_class stream_class (six _ o) (omega arith) refl)
  finds_behind_function of_fresh high o =
      finds_otherwise 7 generic_header generic_function_class behind_generic o (six _ o).seven refl (finds_above symbol_header symbol_class stream_class (six _ o) (omega arith) refl)
  finds_behind_function of_string high o = absurd (omega (arith, high))
  finds_behind_function of_vector high o = absurd (omega (arith, high))
  finds_behind_function of_function high o = absurd (omega (arith, high))

  finds_higher :
      {h class k : ℕ} {rs : Registers} → KindHeader h class → 5 ≤ h → (h == string_header) ≡ false → (h == vector_header) ≡ false → (h == function_header) ≡ false
      → OnTheWay h rs → Finds class (code_of (steps.class_where here.to 7 string_header (pos (class_address string_class)) behind_string)) rs k 108
  finds_higher kind high no_string no_vector no_function o =
      finds_otherwise 7 string_header string_class behind_string o (six _ o).seven no_string
      (finds_otherwise 7 vector_header vector_class behind_vector (six _ o) (six _ (six _ o)).seven no_vector
      (finds_otherwise 7 function_header function_class behind_function (six _ (six _ o)) (six _ (six _ (six _ o))).seven no_function
      (finds_behind_function kind high (six _ (six _ (six _ o))))))

  finds_kind :
      {h class k : ℕ} {rs : Registers} → KindHeader h class → OnTheWay h rs
      → Finds class (code_of (steps.class_where here.to 7 string_header (pos (class_address string_class)) behind_string)) rs k 108
  finds_kind of_string o = finds_within (finds_where 7 string_header string_class behind_string o (six _ o).seven (omega arith) refl) (omega arith)
  finds_kind of_vector o =
      finds_within (finds_otherwise 7 string_header string_class behind_string o (six _ o).seven refl
      (finds_where 7 vector_header vector_class behind_vector (six _ o) (six _ (six _ o)).seven (omega arith) refl)) (omega arith)
  finds_kind of_function o =
      finds_within (finds_otherwise 7 string_header string_class behind_string o (six _ o).seven refl
      (finds_otherwise 7 vector_header vector_class behind_vector (six _ o) (six _ (six _ o)).seven refl
      (finds_where 7 function_header function_class behind_function (six _ (six _ o)) (six _ (six _ (six _ o))).seven (omega arith) refl))) (omega arith)
  finds_kind of_generic o = finds_higher of_generic (omega arith) refl refl refl o
  finds_kind of_input o = finds_higher of_input (omega arith) refl refl refl o
  finds_kind of_output o = finds_higher of_output (omega arith) refl refl refl o
  finds_kind of_symbol o = finds_higher of_symbol (omega arith) refl refl refl o
  finds_kind of_fresh o = finds_higher of_fresh (omega arith) refl refl refl o

  -- of an object that is no class and no instance, or of a symbol
  pub finds_by_header :
      {h class k : ℕ} {rs : Registers} → KindHeader h class → (h == class_header) ≡ false → OnTheWay h rs
      → Finds class (code_of (class_by_header here.to here.of)) rs k 128
  unfolding class_by_header
  finds_by_header kind no_class o = finds_within (finds_after 6 constant_falls (finds_second (six _ o).seven (six_there _ o) no_class (finds_kind kind (six _ o)))) (omega arith)

  -- of a class, by its number
  pub finds_of_class :
      {k : ℕ} {rs : Registers} (c : ℕ) → here.word + 2 < 2 ^ 32 → word_at y.arena (here.word + 2) ≡ Some (4 * c) → OnTheWay class_header rs
      → Finds (if nat_le c 16 then built_in_class_class else standard_class_class) (code_of (class_by_header here.to here.of)) rs k 128
  unfolding class_by_header
  finds_of_class {k = k} {rs = rs} c bounded at o =
      finds_within (finds_after 6 constant_falls (finds_first (six _ o).seven (six_there _ o) refl
      (finds_after 8 (load_falls ((six _ o).others here.of here.of_low ∙ here.held) (address_up here.word 2 bounded) at)
      (by (nat_le c 16) refl (seven_put (4 * c) (six _ o)))))) (omega arith)
    where
      tested : nat_lt (4 * c) (4 * 17) ≡ nat_le c 16
      tested = grind (arith, nat_tests)

      by :
          {k : ℕ} {rs : Registers} (b : Bool) → nat_le c 16 ≡ b → OnTheWay (4 * c) rs
          → Finds (if nat_le c 16 then built_in_class_class else standard_class_class)
          (code_of (steps.class_below here.to (4 * 17) (pos (class_address built_in_class_class)) (pos (class_address standard_class_class)))) rs k 28
      by true e p = rw e (finds_below (4 * 17) built_in_class_class standard_class_class p (omega arith) (tested ∙ e))
      by false e p = rw e (finds_above (4 * 17) standard_class_class built_in_class_class p (omega arith) (tested ∙ e))

  -- the registers where the lowest bits of a header are tested
  abbrev tested_header : ℕ → Registers → Registers
  tested_header h rs =
      slice_set (slice_set (slice_set (slice_set rs 7 (Some h)) 6 (Some 28)) 4 (Some (shift_left h 28))) 6 (Some (3 * 2 ^ 28))

  module _ (h : ℕ) (rs : Registers) {v : ℕ} (o : OnTheWay v rs) where
    loaded : OnTheWay h (slice_set (slice_set rs 7 (Some h)) 6 (Some 28))
    loaded = six 28 (seven_put h o)

    tested_way : OnTheWay h (tested_header h rs)
    tested_way = six (3 * 2 ^ 28) (four (shift_left h 28) loaded)

    four_there : register 4 (tested_header h rs) ≡ Some (shift_left h 28)
    four_there =
        register_beside (slice_set (slice_set (slice_set rs 7 (Some h)) 6 (Some 28)) 4 (Some (shift_left h 28))) 6 4 (Some (3 * 2 ^ 28)) (omega arith)
        ∙ register_here (slice_set (slice_set rs 7 (Some h)) 6 (Some 28)) 4 (shift_left h 28) (omega (arith, loaded.size))

  -- of what has a header: of an instance its class, which stands behind its header
  pub finds_of_instance :
      {v k x class h : ℕ} {rs : Registers} → OnTheWay v rs → 2 ≤ here.word → here.word + 2 < 2 ^ 32 → word_at y.arena (here.word - 2) ≡ Some h → (h % 16 == 3) ≡ true
      → word_at y.arena (here.word + 2) ≡ Some x → word_of places (class_value names program class) ≡ Some x
      → Finds class (code_of (class_of_object here.to here.of)) rs k 172
  unfolding class_of_object
  finds_of_instance {h = h} {rs = rs} o high bounded at_header kind at of_class =
      finds_within
      (finds_after 8 (load_falls (o.others here.of here.of_low ∙ here.held) (address_below here.word 1 (here.word - 2) (omega arith) (omega arith)) at_header)
      (finds_after 6 constant_falls
      (finds_after 10 (compute_falls (loaded h rs o).seven (six_there 28 (seven_put h o)))
      (finds_after 6 constant_falls
      (finds_first (four_there h rs o) (six_there (3 * 2 ^ 28) (four (shift_left h 28) (loaded h rs o))) (low_four_bits_tested h 3 ∙ kind)
      (put_there 8 (tested_way h rs o) of_class (load_falls ((tested_way h rs o).others here.of here.of_low ∙ here.held) (address_up here.word 2 bounded) at)))))))
      (omega arith)

  pub finds_of_other :
      {v k class h : ℕ} {rs : Registers} → OnTheWay v rs → 2 ≤ here.word → here.word < 2 ^ 32 → word_at y.arena (here.word - 2) ≡ Some h → (h % 16 == 3) ≡ false
      → ((k : ℕ) (rs : Registers) → OnTheWay h rs → Finds class (code_of (class_by_header here.to here.of)) rs k 128)
      → Finds class (code_of (class_of_object here.to here.of)) rs k 172
  unfolding class_of_object
  finds_of_other {h = h} {rs = rs} o high bounded at_header kind f =
      finds_within
      (finds_after 8 (load_falls (o.others here.of here.of_low ∙ here.held) (address_below here.word 1 (here.word - 2) (omega arith) (omega arith)) at_header)
      (finds_after 6 constant_falls
      (finds_after 10 (compute_falls (loaded h rs o).seven (six_there 28 (seven_put h o)))
      (finds_after 6 constant_falls
      (finds_second (four_there h rs o) (six_there (3 * 2 ^ 28) (four (shift_left h 28) (loaded h rs o))) (low_four_bits_tested h 3 ∙ kind)
      (f _ _ (tested_way h rs o)))))))
      (omega arith)
