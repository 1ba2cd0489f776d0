-- What tells values apart: whether two are the same, and of which kind one is.
use Rattle.std.proofs.Common.{◌≡◌, ℕ, ◌+◌, ◌-◌, ◌*◌, ◌%◌, ◌^◌, ◌<◌, ◌≤◌, pos, Bool, true, false, List, [], ◌∷◌, ◌++◌, Option, Some, None, refl, ap, ◌∙◌, arith}
use Rattle.std.specs.Prelude.{negsuc, ◌==◌, ◌||◌, not, nat_lt, is_some, slice_set}
use Rattle.std.proofs.lemmas.Bool.Decides.{nat_tests}
use Rattle.lang_meaning.specs.declared.program.ProgramRows.{ProgramRows}
use Rattle.lang_meaning.specs.declared.primitive.Primitive.TheVariants.{Same, IsNull, IsCons, IsInteger, IsSymbol, IsCharacter, IsString, IsVector, IsFunction, IsGeneric}
use Rattle.lang_meaning.specs.Values.{Value, nil, same}
use Rattle.lang_meaning.specs.Objects.{Object}
use Rattle.lang_meaning.specs.State as meaning
use Rattle.lang_meaning.specs.Classes.{fetch}
use Rattle.lang_meaning.specs.Primitives.{says, as_integer, as_character, as_cons, as_string, as_vector, as_symbol, is_function, is_generic}
use Rattle.mid_code.specs.declared.program.MidProcedure.{MidProcedure}
use Rattle.mid_code.specs.declared.operation.Arithmetic.TheVariants as which
use Rattle.mid_code.specs.declared.operation.Comparison.TheVariants as comparison
use Rattle.mid_code.specs.Arena.{word_at}
use Rattle.base.specs.Arithmetic.{shift_left, difference32}
use Rattle.mid_code.specs.MidCode.{MidStep, return_word, code_of}
use Rattle.mid_code.specs.State.{Registers, MidState, MidOutcome, first_registers}
use Rattle.mid_code.specs.Meaning.{Task}
use Rattle.mid_arena.specs.Tags.{nil_word, object_tag, string_header, vector_header, function_header, generic_header, symbol_header, fresh_header}
use Rattle.mid_arena.specs.Places.{Places, word_of}
use Rattle.mid_arena.specs.FixedWords.{true_address}
use Rattle.mid_arena.specs.Represents.{Represents}
use Rattle.mid_arena.specs.Steps as steps
use Rattle.mid_arena.proofs.WordFacts.{tag_tested, low_byte_tested, equal_bit, two_headers_tested}
use Rattle.mid_arena.proofs.Running.{constant_falls, compute_falls, load_falls, address_up, address_below}
use Rattle.mid_arena.proofs.Arguments.{word_told}
use Rattle.mid_arena.proofs.Telling.{IntegerTold, integer_found, no_integer, CharacterTold, character_found, no_character, ConsTold, cons_found, no_cons}
use Rattle.mid_arena.proofs.HeaderKinds.{IsKindOf, string_kind, vector_kind, function_kind, generic_kind}
use Rattle.mid_arena.proofs.Telling.{ByHeader, of_kind, of_other_kind, of_other_tag, header_decides}
use Rattle.mid_arena.proofs.Telling.{SymbolTold, nil_found, name_found, serial_found, no_symbol_header, no_symbol_tag}
use Rattle.mid_arena.proofs.Telling.{integer_told, character_told, cons_told, symbol_told, nil_told}
use Rattle.mid_arena.proofs.Sameness.{same_value_same_word}
use Rattle.mid_arena.proofs.Doing.{alike_self, Run, goes_on, returns_value, test_fails, first_answers}
use Rattle.mid_arena.proofs.Checking.{header_bounded}
use Rattle.mid_arena.proofs.Saying.{says_run}
use Rattle.mid_arena.proofs.Taking.{does_one, does_two}
use Rattle.std.proofs.lemmas.Bool.{or_from}
use Rattle.mid_arena.proofs.Entering.{InEveryFrame}

-- ---- words compared

pub same_does : InEveryFrame Same
same_does = does_two Same refl (λ v u w x names program places z y procedures below n r are units.
    says_run names program places z y r procedures below n (y.cost + 130 + 244 * 2) y.cost w x (same v u) (steps.comparing comparison.Equal 0 1) z
    (first_registers 8 (w ∷ x ∷ [])) refl (λ e. omega arith) (λ e. omega arith) refl refl
    (same_value_same_word names program places z y r v u w x are.0 are.1.0) (alike_self z) (omega arith))

pub is_null_does : InEveryFrame IsNull
is_null_does = does_one IsNull refl (λ v w names program places z y procedures below n r are units.
    goes_on names program places z y procedures below constant_falls
    (says_run names program places z y r procedures below n (y.cost + 130 + 244) (y.cost + 6) w nil_word (same v nil) (steps.comparing comparison.Equal 0 6) z
    (slice_set (first_registers 8 (w ∷ [])) 6 (Some nil_word)) refl (λ e. omega arith) (λ e. omega arith) refl refl
    (nil_told names program places z y r v w are.0) (alike_self z) (omega arith)))

-- ---- by the lowest bits of the word

-- the lines that say whether a word that is shifted to the left is that one
abbrev shifted_is : (by bits : ℕ) → List MidStep
shifted_is by bits = steps.compute_by 7 which.ShiftLeft 0 by ++ steps.constant 6 bits ∷ steps.says (steps.comparing comparison.Equal 7 6)

module _
    (names : List (List ℕ)) (program : ProgramRows) (places : Places) (z : meaning.State) (y : MidState) (r : Represents names program places z y)
    (procedures : List MidProcedure) (below : Task → MidState → MidOutcome)
  where
    shifted_says :
        (n budget k w by bits : ℕ) (holds : Bool) → (shift_left w by == bits) ≡ holds → k + 70 ≤ budget
        → Run names program places z y procedures below n budget (says holds z) (code_of (shifted_is by bits)) (first_registers 8 (w ∷ [])) k
    shifted_says n budget k w by bits holds tells cost =
        goes_on names program places z y procedures below constant_falls
        (goes_on names program places z y procedures below (compute_falls refl refl)
        (goes_on names program places z y procedures below constant_falls
        (says_run names program places z y r procedures below n budget (k + 6 + 10 + 6) (shift_left w by) bits holds (steps.comparing comparison.Equal 7 6) z
        (slice_set (slice_set (slice_set (first_registers 8 (w ∷ [])) 6 (Some by)) 7 (Some (shift_left w by))) 6 (Some bits))
        refl (λ e. omega arith) (λ e. omega arith) refl refl tells (alike_self z) (omega (arith, cost)))))

integer_tag_says : (v : Value) (w : ℕ) → IntegerTold v w → (w % 4 == 0) ≡ is_some (as_integer v)
integer_tag_says v w (integer_found i is found range at tag) = rw found tag
integer_tag_says v w (no_integer none tag) = rw none tag

cons_tag_says : (o : Option Object) (w : ℕ) → ConsTold o w → (w % 4 == 1) ≡ is_some (as_cons o)
cons_tag_says o w (cons_found car cdr is found tag) = rw found tag
cons_tag_says o w (no_cons none tag) = rw none tag

character_byte_says : (v : Value) (w : ℕ) → CharacterTold v w → (w % 256 == 15) ≡ is_some (as_character v)
character_byte_says v w (character_found c is found small at byte) = rw found byte
character_byte_says v w (no_character none byte) = rw none byte

pub is_integer_does : InEveryFrame IsInteger
is_integer_does = does_one IsInteger refl (λ v w names program places z y procedures below n r are units.
    shifted_says names program places z y r procedures below n (y.cost + 130 + 244) y.cost w 30 0 (is_some (as_integer v))
    (tag_tested w 0 ∙ integer_tag_says v w (integer_told names program places z y r v w are.0)) (omega arith))

pub is_cons_does : InEveryFrame IsCons
is_cons_does = does_one IsCons refl (λ v w names program places z y procedures below n r are units.
    shifted_says names program places z y r procedures below n (y.cost + 130 + 244) y.cost w 30 (2 ^ 30) (is_some (as_cons (fetch z v)))
    (tag_tested w 1 ∙ cons_tag_says (fetch z v) w (cons_told names program places z y r v w are.0)) (omega arith))

pub is_character_does : InEveryFrame IsCharacter
is_character_does = does_one IsCharacter refl (λ v w names program places z y procedures below n r are units.
    shifted_says names program places z y r procedures below n (y.cost + 130 + 244) y.cost w 24 (15 * 2 ^ 24) (is_some (as_character v))
    (low_byte_tested w 15 ∙ character_byte_says v w (character_told names program places z y r v w are.0)) (omega arith))

-- ---- by the header

module _
    (names : List (List ℕ)) (program : ProgramRows) (places : Places) (z : meaning.State) (y : MidState) (r : Represents names program places z y)
    (procedures : List MidProcedure) (below : Task → MidState → MidOutcome)
  where
    module _ (n budget k w : ℕ) (v : Value) (word : word_of places v ≡ Some w) (second third fourth fifth sixth seventh eighth : Option ℕ) where
      -- the registers where the argument is in the first one
      abbrev argument_first : Registers
      argument_first = Some w ∷ second ∷ third ∷ fourth ∷ fifth ∷ sixth ∷ seventh ∷ eighth ∷ []

      header_says :
          (header count : ℕ) (is_kind : ℕ → Bool) (holds : Bool) → ((h : ℕ) → h < 2 ^ 32 → nat_lt (difference32 h header) count ≡ is_kind h)
          → ByHeader y.arena w is_kind holds → k + 140 ≤ budget
          → Run names program places z y procedures below n budget (says holds z) (code_of (steps.says_header header count)) argument_first k
      header_says header count is_kind holds tested told cost =
          goes_on names program places z y procedures below constant_falls
          (goes_on names program places z y procedures below (compute_falls refl refl)
          (goes_on names program places z y procedures below constant_falls
          (goes_on names program places z y procedures below constant_falls
          (by told))))
        where
          tag_put : Registers
          tag_put = Some w ∷ second ∷ third ∷ fourth ∷ fifth ∷ Some nil_word ∷ Some (2 ^ 31) ∷ Some (shift_left w 30) ∷ []

          rest : List MidStep
          rest =
              steps.load 7 0 (negsuc 1) ∷ steps.compute_by 7 which.Subtract 7 header
              ++ steps.constant 6 count ∷ steps.return_if (steps.comparing comparison.AtLeastUnsigned 7 6) 5
              ∷ steps.constant 5 0 ∷ steps.load 5 5 (pos true_address) ∷ return_word 5 ∷ []

          behind_header : (h : ℕ) → Registers
          behind_header h = Some w ∷ second ∷ third ∷ fourth ∷ fifth ∷ Some nil_word ∷ Some count ∷ Some (difference32 h header) ∷ []

          ending : List MidStep
          ending =
              steps.return_if (steps.comparing comparison.AtLeastUnsigned 7 6) 5
              ∷ steps.constant 5 0 ∷ steps.load 5 5 (pos true_address) ∷ return_word 5 ∷ []

          -- the header was loaded and is tested
          loads :
              (h : ℕ) → (w % 4 == object_tag) ≡ true → word_at y.arena (w - 2) ≡ Some h
              → Run names program places z y procedures below n budget (says holds z) (code_of ending) (behind_header h) (k + 6 + 10 + 6 + 6 + 12 + 2 + 8 + 6 + 10 + 6)
              → Run names program places z y procedures below n budget (says holds z) (code_of (steps.return_if (steps.comparing comparison.Different 7 6) 5 ∷ rest)) tag_put (k + 6 + 10 + 6 + 6)
          loads h tag at more =
              let tag_is : w % 4 ≡ 2 = grind (arith, nat_tests) in
              test_fails names program places z y procedures below refl refl (ap not (tag_tested w 2 ∙ tag))
              (goes_on names program places z y procedures below
              (load_falls refl (address_below w 1 (w - 2) (omega arith) (word_told names program places z y r v w word)) at)
              (goes_on names program places z y procedures below constant_falls
              (goes_on names program places z y procedures below (compute_falls refl refl)
              (goes_on names program places z y procedures below constant_falls more))))

          by :
              ByHeader y.arena w is_kind holds
              → Run names program places z y procedures below n budget (says holds z) (code_of (steps.return_if (steps.comparing comparison.Different 7 6) 5 ∷ rest)) tag_put (k + 6 + 10 + 6 + 6)
          by (of_kind h is tag at kind) =
              loads h tag at
              (test_fails names program places z y procedures below refl refl
              (ap not (tested h (header_bounded names program places z y r procedures below v w h word tag at) ∙ kind))
              (goes_on names program places z y procedures below constant_falls
              (goes_on names program places z y procedures below (load_falls refl (address_up 0 true_address (omega arith)) r.fixed.true_value.stands)
              (rw is (returns_value names program places z y procedures below r refl r.fixed.true_value.of_value (alike_self z) (omega (arith, cost)))))))
          by (of_other_kind h is tag at kind) =
              loads h tag at
              (first_answers names program places z y procedures below refl refl
              (ap not (tested h (header_bounded names program places z y r procedures below v w h word tag at) ∙ kind))
              (rw is (returns_value names program places z y procedures below r refl refl (alike_self z) (omega (arith, cost)))))
          by (of_other_tag is tag) =
              first_answers names program places z y procedures below refl refl (ap not (tag_tested w 2 ∙ tag))
              (rw is (returns_value names program places z y procedures below r refl refl (alike_self z) (omega (arith, cost))))

    -- what says by its header of which kind the object of its argument is
    kind_says :
        (n w : ℕ) (v : Value) (header count : ℕ) (p : Option Object → Bool) (is_kind : ℕ → Bool) → IsKindOf p is_kind
        → ((h : ℕ) → h < 2 ^ 32 → nat_lt (difference32 h header) count ≡ is_kind h) → word_of places v ≡ Some w
        → Run names program places z y procedures below n (y.cost + 130 + 244) (says (p (fetch z v)) z) (code_of (steps.says_header header count)) (first_registers 8 (w ∷ [])) y.cost
    kind_says n w v header count p is_kind kind tested word =
        header_says n (y.cost + 130 + 244) y.cost w v word None None None None None None None header count is_kind (p (fetch z v)) tested
        (header_decides names program places z y r p is_kind kind v w word) (omega arith)

pub is_string_does : InEveryFrame IsString
is_string_does = does_one IsString refl (λ v w names program places z y procedures below n r are units.
    kind_says names program places z y r procedures below n w v string_header 1 (λ o. is_some (as_string o)) (λ h. h == string_header) string_kind
    (λ h low. equal_bit h string_header low (omega arith)) are.0)

pub is_vector_does : InEveryFrame IsVector
is_vector_does = does_one IsVector refl (λ v w names program places z y procedures below n r are units.
    kind_says names program places z y r procedures below n w v vector_header 1 (λ o. is_some (as_vector o)) (λ h. h == vector_header) vector_kind
    (λ h low. equal_bit h vector_header low (omega arith)) are.0)

pub is_function_does : InEveryFrame IsFunction
is_function_does = does_one IsFunction refl (λ v w names program places z y procedures below n r are units.
    kind_says names program places z y r procedures below n w v function_header 2 is_function (λ h. h == function_header || h == generic_header) function_kind
    (λ h low. two_headers_tested h function_header low (omega arith)) are.0)

pub is_generic_does : InEveryFrame IsGeneric
is_generic_does = does_one IsGeneric refl (λ v w names program places z y procedures below n r are units.
    kind_says names program places z y r procedures below n w v generic_header 1 is_generic (λ h. h == generic_header) generic_kind
    (λ h low. equal_bit h generic_header low (omega arith)) are.0)

-- ---- symbols

abbrev is_symbol_header : ℕ → Bool
is_symbol_header h = h == symbol_header || h == fresh_header

-- the lines that say so of nil, and else by the header
abbrev is_nil_or_symbol : List MidStep
is_nil_or_symbol =
    steps.constant 6 nil_word ∷ steps.constant 5 0 ∷ steps.load 5 5 (pos true_address) ∷ steps.return_if (steps.comparing comparison.Equal 0 6) 5
    ∷ steps.says_header symbol_header 2

module _
    (names : List (List ℕ)) (program : ProgramRows) (places : Places) (z : meaning.State) (y : MidState) (r : Represents names program places z y)
    (procedures : List MidProcedure) (below : Task → MidState → MidOutcome)
  where
    -- nil was told apart, and the header tells the rest
    behind_nil :
        (n w : ℕ) (v : Value) (holds : Bool) → word_of places v ≡ Some w → (w == nil_word) ≡ false → ByHeader y.arena w is_symbol_header holds
        → Run names program places z y procedures below n (y.cost + 130 + 244) (says holds z)
        (code_of is_nil_or_symbol) (first_registers 8 (w ∷ [])) y.cost
    behind_nil n w v holds word not_nil told =
        goes_on names program places z y procedures below constant_falls
        (goes_on names program places z y procedures below constant_falls
        (goes_on names program places z y procedures below (load_falls refl (address_up 0 true_address (omega arith)) r.fixed.true_value.stands)
        (test_fails names program places z y procedures below refl refl not_nil
        (header_says names program places z y r procedures below n (y.cost + 130 + 244) (y.cost + 6 + 6 + 8 + 12 + 2) w v word
        None None None None (Some r.fixed.true_value.word) (Some nil_word) None symbol_header 2 is_symbol_header holds
        (λ h low. two_headers_tested h symbol_header low (omega arith)) told (omega arith)))))

    symbol_says :
        (n w : ℕ) (v : Value) → word_of places v ≡ Some w → SymbolTold y.arena v (as_symbol z v) w
        → Run names program places z y procedures below n (y.cost + 130 + 244) (says (is_some (as_symbol z v)) z)
        (code_of is_nil_or_symbol) (first_registers 8 (w ∷ [])) y.cost
    symbol_says n w v word (nil_found is tested) =
        rw is
        (goes_on names program places z y procedures below constant_falls
        (goes_on names program places z y procedures below constant_falls
        (goes_on names program places z y procedures below (load_falls refl (address_up 0 true_address (omega arith)) r.fixed.true_value.stands)
        (first_answers names program places z y procedures below refl refl tested
        (returns_value names program places z y procedures below r refl r.fixed.true_value.of_value (alike_self z) (omega arith))))))
    symbol_says n w v word (name_found name is not_nil tag at) =
        behind_nil n w v (is_some (as_symbol z v)) word not_nil (of_kind symbol_header (rw is refl) tag at refl)
    symbol_says n w v word (serial_found serial is not_nil tag at behind) =
        behind_nil n w v (is_some (as_symbol z v)) word not_nil (of_kind fresh_header (rw is refl) tag at refl)
    symbol_says n w v word (no_symbol_header h none not_nil tag at first second) =
        behind_nil n w v (is_some (as_symbol z v)) word not_nil (of_other_kind h (rw none refl) tag at (or_from (h == symbol_header) (h == fresh_header) first second))
    symbol_says n w v word (no_symbol_tag none not_nil tag) =
        behind_nil n w v (is_some (as_symbol z v)) word not_nil (of_other_tag (rw none refl) tag)

pub is_symbol_does : InEveryFrame IsSymbol
is_symbol_does = does_one IsSymbol refl (λ v w names program places z y procedures below n r are units.
    symbol_says names program places z y r procedures below n w v are.0 (symbol_told names program places z y r v w are.0))
