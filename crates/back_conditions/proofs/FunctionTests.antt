-- Whether a value is a function, by its tag and its header.
use Rattle.std.proofs.Common.{◌≡◌, inl, ℕ, suc, ◌+◌, ◌-◌, ◌^◌, ◌<◌, ◌≤◌, Bool, true, false, [], ◌∷◌, Some, None, refl, sym, ap, subst, arith}
use Rattle.std.specs.Prelude.{◌==◌, ◌||◌, if◌then◌else◌}
use Rattle.std.proofs.lemmas.Bool.Decides.{nat_tests}
use Rattle.std.proofs.lemmas.Nat.{and_mask}
use Rattle.lang_meaning.specs.Classes.{fetch}
use Rattle.lang_meaning.specs.Primitives.{is_function}
use Rattle.lang_meaning.specs.Values.{Value}
use Rattle.flat_language.specs.FlatNodes.{tables}
use Rattle.flat_language.specs.FlatState.{FlatState}
use Rattle.mid_code.specs.declared.operation.Counted.TheVariants.{Turn}
use Rattle.mid_code.specs.declared.program.MidProcedure.{MidProcedure}
use Rattle.mid_code.specs.Arena.{left}
use Rattle.mid_code.specs.Meaning.{Context, levels}
use Rattle.mid_code.specs.MidCode.{code_of}
use Rattle.mid_code.specs.State.{Registers, MidState, returns, ends}
use Rattle.mid_arena.specs.Places.{word_of}
use Rattle.mid_arena.specs.Tags.{object_tag, function_header, generic_header}
use Rattle.mid_arena.proofs.Arguments.{word_told}
use Rattle.mid_arena.proofs.Doing.{paid}
use Rattle.mid_arena.proofs.HeaderKinds.{function_kind}
use Rattle.mid_arena.proofs.Leaving.{represents_frame}
use Rattle.mid_arena.proofs.Running.{RunsTo, turning, frame_of, entered, and_then, and_ends, costing, constant_falls, compute_known, load_falls, return_ends, choose_first_ends, choose_first_falls, choose_second_falls, choose_second_ends, none_left, address_below}
use Rattle.mid_arena.proofs.Telling.{ByHeader, of_kind, of_other_kind, of_other_tag, header_decides}
use Rattle.back_lowering.specs.Program.{procedure_with}
use Rattle.back_lowering.specs.RoutineCodes.{is_function_code}
use Rattle.back_lowering.specs.Routines.{is_function_routine}
use Rattle.back_relation.specs.Setting.{Setting}
use Rattle.back_relation.specs.Things.{Things}
use Rattle.back_relation.specs.Worlds.{World}
use Rattle.back_relation.specs.RoutineClaims.{is_function_cost}
use Rattle.back_relation.specs.Room.{looking_words}
use Rattle.back_conditions.specs.Looking.{LawOfFunctionTests, LawOfFunctionClaims}
use Rattle.back_conditions.proofs.Entering.{with_frame_of, BodyLooks, looks_up}
use Rattle.back_conditions.proofs.Finding.{routine_used}

abbrev is_kind : ℕ → Bool
is_kind h = h == function_header || h == generic_header

abbrev pub told_word : Bool → ℕ
told_word answer = if answer then 1 else 0

-- code returns a word, for at most so much
pub record Says (c : Context) (setting : Setting) (w word : ℕ) (y : MidState) : Type 0 where
  pub registers : Registers
  pub cost : ℕ
  pub runs : RunsTo c (code_of (is_function_code setting.at)) (Some w ∷ None ∷ None ∷ []) y (ends (returns word) registers (paid y cost))
  pub within : cost ≤ y.cost + 104

-- the routine's code says whether the header is one of a function's
pub kind_told :
    (setting : Setting) (c : Context) (y : MidState) (w : ℕ) (answer : Bool) → w < 2 ^ 32 → ByHeader y.arena w is_kind answer → Says c setting w (told_word answer) y
unfolding is_function_code
kind_told setting c y w answer low (of_other_tag none tag) = record {
  registers = Some w ∷ Some 0 ∷ Some object_tag ∷ [];
  cost = y.cost + 56;
  runs =
      subst (λ word. RunsTo c (code_of (is_function_code setting.at)) (Some w ∷ None ∷ None ∷ []) y (ends (returns word) (Some w ∷ Some 0 ∷ Some object_tag ∷ []) (paid y (y.cost + 56))))
      (sym (ap told_word none))
      (costing {n = y.cost + 56}
      (and_then constant_falls
      (and_then (compute_known refl refl (and_mask w 2))
      (and_then constant_falls
      (and_then (choose_second_falls refl refl tag none_left)
      (and_then constant_falls
      (and_ends tt (return_ends refl)))))))
      (omega arith));
  within = omega arith;
}
kind_told setting c y w answer low (of_other_kind h none tag at kind) = by (h == function_header) refl kind
  where
    high : 2 ≤ w
    high = grind (arith, nat_tests, tag)

    start : w ≡ (w - 2) + suc 1
    start = omega (arith, high)

    by : (b : Bool) → (h == function_header) ≡ b → (b || h == generic_header) ≡ false → Says c setting w (told_word answer) y
    by true e g = absurd (cc g)
    by false e g = record {
      registers = Some w ∷ Some 0 ∷ Some generic_header ∷ [];
      cost = y.cost + 104;
      runs =
          subst (λ word. RunsTo c (code_of (is_function_code setting.at)) (Some w ∷ None ∷ None ∷ []) y (ends (returns word) (Some w ∷ Some 0 ∷ Some generic_header ∷ []) (paid y (y.cost + 104))))
          (sym (ap told_word none))
          (costing {n = y.cost + 104}
          (and_then constant_falls
          (and_then (compute_known refl refl (and_mask w 2))
          (and_then constant_falls
          (and_then
          (choose_first_falls refl refl tag
          (and_then (load_falls refl (address_below w 1 (w - 2) start low) at)
          (and_then constant_falls
          (and_then (choose_second_falls refl refl e (and_then constant_falls (and_then (choose_second_falls refl refl g none_left) none_left))) none_left))))
          (and_then constant_falls
          (and_ends tt (return_ends refl)))))))
          (omega arith));
      within = omega arith;
    }
kind_told setting c y w answer low (of_kind h some tag at kind) = by (h == function_header) refl kind
  where
    high : 2 ≤ w
    high = grind (arith, nat_tests, tag)

    start : w ≡ (w - 2) + suc 1
    start = omega (arith, high)

    by : (b : Bool) → (h == function_header) ≡ b → (b || h == generic_header) ≡ true → Says c setting w (told_word answer) y
    by true e g = record {
      registers = Some w ∷ Some 1 ∷ Some function_header ∷ [];
      cost = y.cost + 80;
      runs =
          subst (λ word. RunsTo c (code_of (is_function_code setting.at)) (Some w ∷ None ∷ None ∷ []) y (ends (returns word) (Some w ∷ Some 1 ∷ Some function_header ∷ []) (paid y (y.cost + 80))))
          (sym (ap told_word some))
          (costing {n = y.cost + 80}
          (and_then constant_falls
          (and_then (compute_known refl refl (and_mask w 2))
          (and_then constant_falls
          (and_ends tt
          (choose_first_ends tt refl refl tag
          (and_then (load_falls refl (address_below w 1 (w - 2) start low) at)
          (and_then constant_falls
          (and_ends tt (choose_first_ends tt refl refl e (and_then constant_falls (and_ends tt (return_ends refl))))))))))))
          (omega arith));
      within = omega arith;
    }
    by false e g = record {
      registers = Some w ∷ Some 1 ∷ Some generic_header ∷ [];
      cost = y.cost + 98;
      runs =
          subst (λ word. RunsTo c (code_of (is_function_code setting.at)) (Some w ∷ None ∷ None ∷ []) y (ends (returns word) (Some w ∷ Some 1 ∷ Some generic_header ∷ []) (paid y (y.cost + 98))))
          (sym (ap told_word some))
          (costing {n = y.cost + 98}
          (and_then constant_falls
          (and_then (compute_known refl refl (and_mask w 2))
          (and_then constant_falls
          (and_ends tt
          (choose_first_ends tt refl refl tag
          (and_then (load_falls refl (address_below w 1 (w - 2) start low) at)
          (and_then constant_falls
          (and_ends tt
          (choose_second_ends tt refl refl e
          (and_then constant_falls (and_ends tt (choose_first_ends tt refl refl g (and_then constant_falls (and_ends tt (return_ends refl)))))))))))))))
          (omega arith));
      within = omega arith;
    }

abbrev pub given : Setting → MidProcedure
given setting = procedure_with Turn 1 (is_function_code setting.at)

pub given_small : (setting : Setting) → (given setting).frame ≤ 8
unfolding is_function_code
given_small setting = omega arith

-- the body, where its frame is laid
pub body_says :
    (setting : Setting) (k n frame : ℕ) (w : World) (z : FlatState) (y : MidState) (v : Value) (word : ℕ) → Things setting w z y → word_of w.places v ≡ Some word
    → frame ≤ left y.arena → BodyLooks setting k n (with_frame_of frame (given setting)) (word ∷ []) (told_word (is_function (fetch z.state v))) is_function_cost y
unfolding is_function_code
body_says setting k n frame w z y v word t e some =
    let p = with_frame_of frame (given setting) in
    let r = represents_frame setting.names (tables setting.program) w.places z.state y t.represents (frame_of p) 26 some in
    let said =
    kind_told setting (turning setting.procedures (levels setting.procedures setting.turns_each k) n) (entered p y) word (is_function (fetch z.state v))
    (word_told setting.names (tables setting.program) w.places z.state y t.represents v word e)
    (header_decides setting.names (tables setting.program) w.places z.state (entered p y) r is_function is_kind function_kind v word e)
    in
    record { registers = said.registers; cost = said.cost; runs = said.runs; within = omega (arith, said.within) }

-- **whether a value is a function**
pub function_tests_law : LawOfFunctionTests
function_tests_law setting k turns rs valid w around z y room placed v word e =
    looks_up setting k turns rs valid w around z y room is_function_cost (is_function_routine setting.at) (word ∷ []) (told_word (is_function (fetch z.state v))) (given setting)
    (routine_used setting 19 (given setting) placed refl) refl refl (given_small setting) (omega arith)
    (λ n frame few begins some. inl (body_says setting k n frame w z y v word begins.things e some))

pub function_claims_law : LawOfFunctionClaims
function_claims_law setting k turns rs valid w around z y placed v word e begins =
    function_tests_law setting k turns rs valid w around z y looking_words placed v word e (omega arith) begins
