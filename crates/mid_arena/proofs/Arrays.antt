-- What the primitives of vectors, strings and slots have in common: the tests of a length and of an index, and the return from a state where
-- an object was changed.
use Rattle.std.proofs.Common.{◌≡◌, ℕ, ◌+◌, ◌*◌, ◌/◌, ◌%◌, ◌^◌, ◌<◌, ◌≤◌, ℤ, pos, true, List, [], ◌∷◌, length, Option, Some, None, refl, ap, ◌∙◌, arith}
use Rattle.std.specs.Prelude.{is_some, slice_get, slice_set}
use Rattle.std.proofs.Math.ListN.{length-set}
use Rattle.lang_meaning.specs.declared.program.ProgramRows.{ProgramRows}
use Rattle.lang_meaning.specs.Values.{Value, object, in_range}
use Rattle.lang_meaning.specs.Objects.{Object, function, integer_class, program_error_class}
use Rattle.lang_meaning.specs.State as meaning
use Rattle.lang_meaning.specs.Primitives.{Answer, result, needs, program_error, domain_error, length_of, index_of, an_index, change}
use Rattle.mid_code.specs.declared.program.MidProcedure.{MidProcedure}
use Rattle.mid_code.specs.declared.operation.Comparison.TheVariants.{AtLeast, LessUnsigned}
use Rattle.mid_code.specs.Words.{compares, address}
use Rattle.mid_code.specs.Arena.{Arena, with_word}
use Rattle.mid_code.specs.MidCode.{MidStep, return_word, code_of}
use Rattle.mid_code.specs.State.{Registers, MidState, MidOutcome, returns, ends, register}
use Rattle.mid_code.specs.Meaning.{Task}
use Rattle.mid_arena.specs.Tags.{integer_word}
use Rattle.mid_arena.specs.Places.{Spot, end_of, Places, of_object, spot_of, word_of}
use Rattle.mid_arena.specs.FixedWords.{class_address}
use Rattle.mid_arena.specs.Layouts.{ObjectAt}
use Rattle.mid_arena.specs.Represents.{Represents}
use Rattle.mid_arena.specs.Answers.{done}
use Rattle.mid_arena.specs.Steps as steps
use Rattle.mid_arena.proofs.WordFacts.{length_tested, length_word, index_is, index_word, index_tested}
use Rattle.mid_arena.proofs.Running.{constant_falls, and_then, and_ends, store_in_spot, return_ends}
use Rattle.mid_arena.specs.Growing.{Changes}
use Rattle.mid_arena.proofs.Growing.{changes_part, spot_below}
use Rattle.mid_arena.proofs.ClassesKept.{IsNewObject}
use Rattle.mid_arena.proofs.Representing.{represents_changed, kept_changed}
use Rattle.mid_arena.proofs.FixedChanges.{one_word}
use Rattle.mid_arena.proofs.Making.{changes_stored}
use Rattle.mid_arena.proofs.Doing.{alike_self, Answers, Run, goes_on, test_passes, second_answers}
use Rattle.mid_arena.proofs.Conditions.{program_error as of_program, domain_error_run, signal_run}
use Rattle.mid_arena.proofs.Registers.{Scratched, not_scratched, scratched_six, six_here}

-- ---- lengths and indices

-- the lines that the integer in register 0 is a length
abbrev pub length_test : List MidStep → List MidStep
length_test rest = steps.constant 6 0 ∷ steps.either (steps.comparing AtLeast 0 6) [] (steps.domain_error 0 (pos (class_address integer_class))) ∷ rest

module _
    (names : List (List ℕ)) (program : ProgramRows) (places : Places) (z : meaning.State) (y : MidState) (r : Represents names program places z y)
    (procedures : List MidProcedure) (below : Task → MidState → MidOutcome)
  where
    -- An integer is an index of so many, whose word is in register 7, or the answer is a program error. It costs 14 to find it.
    pub index_needed :
        (n budget k of count : ℕ) (i : ℤ) (next : ℕ → Answer) (rest : List MidStep) (rs : Registers) → length rs ≡ 8 → register of rs ≡ Some (integer_word i)
        → register 7 rs ≡ Some (4 * count) → in_range i ≡ true → count < 2 ^ 29 → k + 142 + 250 * z.units ≤ budget + 250 * (z.units + 3)
        → ((j : ℕ) → j < count → integer_word i ≡ 4 * j → Run names program places z y procedures below n budget (next j) (code_of rest) rs (k + 12 + 2))
        → Run names program places z y procedures below n budget (an_index i count z next)
        (code_of (steps.need_below of 7 ∷ rest)) rs k
    index_needed n budget k of count i next rest rs size held limit range small cost more = by (index_of i count) refl
      where
        tested : (o : Option ℕ) → index_of i count ≡ o → compares LessUnsigned (integer_word i) (4 * count) ≡ is_some o
        tested o e = index_tested i count range small ∙ ap (λ x. is_some x) e

        by :
            (o : Option ℕ) → index_of i count ≡ o
            → Run names program places z y procedures below n budget (needs (index_of i count) (program_error z) next)
            (code_of (steps.need_below of 7 ∷ rest)) rs k
        by None e =
            rw e
            (second_answers names program places z y procedures below held limit (tested None e)
            (signal_run names program places z y r procedures below n budget (k + 12) program_error_class z rs size of_program (alike_self z) (omega (arith, cost))))
        by (Some j) e =
            rw e
            (test_passes names program places z y procedures below held limit (tested (Some j) e)
            (more j (index_is i count j e).1 (index_word i count j small e)))

    -- a value is returned where an object was changed in its spot
    pub returns_changed :
        (budget k i w : ℕ) (s : Spot) (before now : Object) (v : Value) (b : Arena) (rs : Registers) → slice_get z.store i ≡ Some before
        → IsNewObject program before → IsNewObject program now → ((p : ℕ) → before ≡ function p → ⊥) → spot_of places (of_object i) ≡ Some s → Changes s y.arena b → ObjectAt names program places b s now
        → word_of places v ≡ Some w → length b.memory ≡ length y.arena.memory → b.heap_to ≡ y.arena.heap_to → b.blocks ≡ y.arena.blocks → k ≤ budget
        → Answers names program places z y budget (result v (meaning.changed i now z)) (ends (returns w) rs (record y { arena = b; cost = k }))
    returns_changed budget k i w s before now v b rs stored was is_made no_function at c made word size heap blocks cost = record {
      comes = done (record {
        word = w;
        end = refl;
        of_value = word;
        represents = represents_changed names program places z y r i s before now (record y { arena = b; cost = k }) stored was is_made at c made refl refl;
        arena = record { size = size; laid_from = c.laid_from; laid_to = c.laid_to; heap_from = c.heap_from; heap_to = omega (arith, heap) };
        blocks = blocks;
        kept = kept_changed names program places z y r i s at b c before stored no_function;
      });
      cost = omega (arith, cost);
    }

    -- a word of an object is stored, which changes it, and a value is returned
    pub stores_changed :
        (n budget k i from base at b x stored_word w : ℕ) (offset : ℤ) (s : Spot) (before now : Object) (v of : Value) (rs : Registers)
        → register from rs ≡ Some stored_word → register base rs ≡ Some b → address b offset ≡ x → register at rs ≡ Some w → word_of places v ≡ Some w
        → x % 4 ≡ 0 → s.address ≤ x → x < end_of s → slice_get z.store i ≡ Some before → IsNewObject program before → IsNewObject program now
        → ((p : ℕ) → before ≡ function p → ⊥) → spot_of places (of_object i) ≡ Some s → of ≡ object i → ObjectAt names program places (with_word x stored_word y.arena) s now → k + 22 ≤ budget
        → Run names program places z y procedures below n budget (result v (change of now z)) (code_of (steps.store from base offset ∷ return_word at ∷ [])) rs k
    stores_changed n budget k i from base at b x stored_word w offset s before now v of rs held based same returned word aligned low high there was is_made no_function spot value made cost =
        let stands = r.spots (of_object i) s spot in
        rw value (record {
          outcome = ends (returns w) rs (record y { arena = with_word x stored_word y.arena; cost = k + 8 + 14 });
          runs = and_then (store_in_spot stands held based same aligned low high) (and_ends tt (return_ends returned));
          answers =
              returns_changed budget (k + 8 + 14) i w s before now v (with_word x stored_word y.arena) rs there was is_made no_function spot
              (changes_part s (one_word x) y.arena (with_word x stored_word y.arena) low (omega (arith, stands.aligned)) (changes_stored x stored_word r.arena aligned (omega (arith, spot_below r.arena stands, high))))
              made word (length-set y.arena.memory (x / 4) (Some stored_word)) refl refl (omega (arith, cost));
        })

    -- An integer whose word is in register 0 is a length, or the answer is a domain error. It costs 20 to find it.
    pub length_needed :
        (n budget k a : ℕ) (i : ℤ) (v : Value) (next : ℕ → Answer) (rest : List MidStep) (rs : Registers) → length rs ≡ 8 → register 0 rs ≡ Some a
        → word_of places v ≡ Some a → in_range i ≡ true → a ≡ integer_word i → k + 178 + 250 * z.units ≤ budget + 250 * (z.units + 5)
        → ((count : ℕ) → length_of i ≡ Some count → count < 2 ^ 29 → a ≡ 4 * count
        → Run names program places z y procedures below n budget (next count) (code_of rest) (slice_set rs 6 (Some 0)) (k + 6 + 12 + 2))
        → Run names program places z y procedures below n budget (needs (length_of i) (domain_error v integer_class z) next)
        (code_of (length_test rest)) rs k
    length_needed n budget k a i v next rest rs size held word range same cost more = by (length_of i) refl
      where
        scratched : Scratched rs (slice_set rs 6 (Some 0))
        scratched = scratched_six _ _ _ (not_scratched rs size)

        tested : (o : Option ℕ) → length_of i ≡ o → compares AtLeast a 0 ≡ is_some o
        tested o e = ap (λ w. compares AtLeast w 0) same ∙ length_tested i range ∙ ap (λ x. is_some x) e

        by :
            (o : Option ℕ) → length_of i ≡ o
            → Run names program places z y procedures below n budget (needs (length_of i) (domain_error v integer_class z) next)
            (code_of (length_test rest)) rs k
        by None e =
            rw e
            (goes_on names program places z y procedures below constant_falls
            (second_answers names program places z y procedures below (scratched.others 0 (omega arith) ∙ held) (six_here rs 0 size) (tested None e)
            (domain_error_run names program places z y r procedures below n budget (k + 6 + 12) 0 a integer_class v z (slice_set rs 6 (Some 0)) (omega arith) scratched.size
            (scratched.others 0 (omega arith) ∙ held) word (omega arith) (alike_self z) (omega (arith, cost)))))
        by (Some count) e =
            let it = length_word i count range e in
            rw e
            (goes_on names program places z y procedures below constant_falls
            (test_passes names program places z y procedures below (scratched.others 0 (omega arith) ∙ held) (six_here rs 0 size) (tested (Some count) e)
            (more count e it.2 (same ∙ it.1))))
