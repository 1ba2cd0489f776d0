-- The length of a vector, an element of it, and an element that is set do what the meaning says of them.
use Rattle.std.proofs.Common.{◌≡◌, ℕ, ◌+◌, ◌*◌, ◌^◌, ◌<◌, pos, List, [], ◌∷◌, ◌++◌, length, Some, ⊎_elim, refl, sym, ap, ◌∙◌, arith}
use Rattle.std.specs.Prelude.{slice_set, slice_index_or, ◌≢◌}
use Rattle.std.proofs.lemmas.Bool.{cases_eq}
use Rattle.std.proofs.lemmas.List.{get_or-set_same, get_or-set_other}
use Rattle.std.proofs.Math.ListN.{length-set}
use Rattle.lang_meaning.specs.declared.program.ProgramRows.{ProgramRows}
use Rattle.lang_meaning.specs.declared.primitive.Primitive.TheVariants.{VectorLength, VectorRef, SetVectorRef}
use Rattle.lang_meaning.specs.Values.{Value, integer, nil}
use Rattle.lang_meaning.specs.Objects.{vector}
use Rattle.lang_meaning.specs.State as meaning
use Rattle.lang_meaning.specs.Primitives.{result, an_integer, an_index, change}
use Rattle.mid_code.specs.declared.operation.Arithmetic.TheVariants as which
use Rattle.base.specs.Arithmetic.{sum32}
use Rattle.mid_code.specs.Arena.{Arena, word_at, with_word}
use Rattle.mid_code.specs.MidCode.{MidStep, return_word}
use Rattle.mid_code.specs.State.{MidState, first_registers}
use Rattle.mid_arena.specs.Places.{Spot, Places, word_of}
use Rattle.mid_arena.specs.Standing.{ArenaStands, SpotStands, ValueAt}
use Rattle.mid_arena.specs.Layouts.{VectorAt}
use Rattle.mid_arena.specs.Represents.{Represents}
use Rattle.mid_arena.specs.Steps as steps
use Rattle.mid_arena.proofs.Running.{load_falls, compute_known, address_above}
use Rattle.mid_arena.proofs.Memory.{stored_in_spot, spot_low, others_in_spot}
use Rattle.mid_arena.proofs.Arguments.{ObjectFound, object_found, length_word_is}
use Rattle.mid_arena.proofs.Doing.{alike_self, goes_on, returns_value}
use Rattle.mid_arena.proofs.Checking.{integer_needed}
use Rattle.mid_arena.proofs.Needing.{vector_needed}
use Rattle.mid_arena.proofs.Arrays.{index_needed, stores_changed}
use Rattle.mid_arena.proofs.Taking.{does_one, does_two, does_three}
use Rattle.mid_arena.proofs.Entering.{InEveryFrame}

-- a vector in whose spot one element was set
pub vector_set :
    (places : Places) (a : Arena) (s : Spot) (vs : List Value) (i w : ℕ) (v : Value) → ArenaStands a → SpotStands a s → i < length vs
    → word_of places v ≡ Some w → VectorAt places a s vs → VectorAt places (with_word (s.address + 4 * (2 + i)) w a) s (slice_set vs i v)
vector_set places a s vs i w v arena stands low word t =
    let same : length (slice_set vs i v) ≡ length vs = length-set vs i v in
    record {
      size = record { words = t.size.words ∙ ap (λ n. 2 + n) (sym same); tag = t.size.tag };
      header = elsewhere s.address (omega arith) ∙ t.header;
      count = elsewhere (s.address + 4) (omega arith) ∙ t.count ∙ ap (λ n. Some (4 * n)) (sym same);
      values = λ j h. ⊎_elim (here j) (beside j (omega (arith, same))) (cases_eq j i);
    }
  where
    elsewhere : (x : ℕ) → s.address + 4 * (2 + i) ≢ x → word_at (with_word (s.address + 4 * (2 + i)) w a) x ≡ word_at a x
    elsewhere x other = others_in_spot (2 + i) w x stands other

    here : (j : ℕ) → j ≡ i → ValueAt places (with_word (s.address + 4 * (2 + i)) w a) (s.address + 8 + 4 * j) (slice_index_or (slice_set vs i v) j nil)
    here j e = record {
      word = w;
      of_value = ap (λ k. word_of places (slice_index_or (slice_set vs i v) k nil)) e ∙ ap (word_of places) (get_or-set_same vs i v nil low) ∙ word;
      stands = stored_in_spot (2 + i) w (s.address + 8 + 4 * j) arena stands (omega (arith, t.size.words)) (omega arith);
    }

    beside :
        (j : ℕ) → j < length vs → j ≢ i
        → ValueAt places (with_word (s.address + 4 * (2 + i)) w a) (s.address + 8 + 4 * j) (slice_index_or (slice_set vs i v) j nil)
    beside j h other =
        let at = t.values j h in
        record {
          word = at.word;
          of_value = ap (word_of places) (get_or-set_other vs i j v nil other) ∙ at.of_value;
          stands = elsewhere (s.address + 8 + 4 * j) (λ e. other (omega arith)) ∙ at.stands;
        }

module _ (names : List (List ℕ)) (program : ProgramRows) (places : Places) (z : meaning.State) (y : MidState) (r : Represents names program places z y) where
  -- a vector stands in the heap or beside the code, so its word and its length are not large
  vector_low : (v : Value) (w : ℕ) (vs : List Value) → ObjectFound names program places z y r v w (vector vs) → w + 4 * length vs + 8 < 2 ^ 27
  vector_low v w vs it =
      let high = spot_low r.arena it.spot_stands in
      omega (arith, it.word, it.stands.size.words, high)

pub vector_length_does : InEveryFrame VectorLength
vector_length_does = does_one VectorLength refl (λ v a names program places z y procedures below n r are units.
    vector_needed names program places z y r procedures below n (y.cost + 130 + 244 * 1) y.cost 0 a v (λ vs. result (integer (pos (length vs))) z)
    (steps.load 5 0 (pos 2) ∷ return_word 5 ∷ []) (first_registers 8 (a ∷ [])) (omega arith) refl refl are.0 (omega arith)
    (λ vs found.
    let it = object_found names program places z y r v a (vector vs) are.0 found in
    let low = vector_low names program places z y r v a vs it in
    goes_on names program places z y procedures below
    (load_falls refl (address_above a 2 (it.spot.address + 4) (omega (arith, it.word)) (omega (arith, it.word, low))) it.stands.count)
    (returns_value names program places z y procedures below r refl (length_word_is places (length vs) (omega (arith, low))) (alike_self z) (omega arith))))

-- behind the tests of the vector and the index: the element is returned
abbrev taking : List MidStep
taking = steps.compute 5 which.Add 0 1 ∷ steps.load 5 5 (pos 6) ∷ return_word 5 ∷ []

pub vector_ref_does : InEveryFrame VectorRef
vector_ref_does = does_two VectorRef refl (λ v w a b names program places z y procedures below n r are units.
    vector_needed names program places z y r procedures below n (y.cost + 130 + 244 * 2) y.cost 0 a v
    (λ vs. an_integer w z (λ m. an_index m (length vs) z (λ i. result (slice_index_or vs i nil) z)))
    (steps.need_integer 1 ++ steps.load 7 0 (pos 2) ∷ steps.need_below 1 7 ∷ taking)
    (first_registers 8 (a ∷ b ∷ [])) (omega arith) refl refl are.0 (omega arith)
    (λ vs found.
    let it = object_found names program places z y r v a (vector vs) are.0 found in
    let low = vector_low names program places z y r v a vs it in
    integer_needed names program places z y r procedures below n (y.cost + 130 + 244 * 2) _ 1 b w
    (λ m. an_index m (length vs) z (λ i. result (slice_index_or vs i nil) z)) (steps.load 7 0 (pos 2) ∷ steps.need_below 1 7 ∷ taking)
    _ (omega arith) refl refl are.1.0 (omega arith)
    (λ m m_is range m_word.
    goes_on names program places z y procedures below
    (load_falls refl (address_above a 2 (it.spot.address + 4) (omega (arith, it.word)) (omega (arith, it.word, low))) it.stands.count)
    (index_needed names program places z y r procedures below n (y.cost + 130 + 244 * 2) _ 1 (length vs) m (λ i. result (slice_index_or vs i nil) z) taking
    _ refl (ap (λ x. Some x) m_word) refl range (omega (arith, low)) (omega arith)
    (λ i inside i_word.
    let at = it.stands.values i inside in
    goes_on names program places z y procedures below
    (compute_known refl refl (let sum : sum32 a b ≡ it.spot.address + 2 + 4 * i = omega (arith, it.word, m_word, i_word, low, inside) in sum))
    (goes_on names program places z y procedures below
    (load_falls refl (address_above (it.spot.address + 2 + 4 * i) 6 (it.spot.address + 8 + 4 * i) (omega arith) (omega (arith, it.word, low, inside))) at.stands)
    (returns_value names program places z y procedures below r refl at.of_value (alike_self z) (omega arith))))))))

-- the element is stored, and returned
abbrev setting : List MidStep
setting = steps.compute 5 which.Add 1 2 ∷ steps.store 0 5 (pos 6) ∷ return_word 0 ∷ []

pub set_vector_ref_does : InEveryFrame SetVectorRef
set_vector_ref_does = does_three SetVectorRef refl (λ v w u a b c names program places z y procedures below n r are units.
    vector_needed names program places z y r procedures below n (y.cost + 130 + 244 * 3) y.cost 1 b w
    (λ vs. an_integer u z (λ m. an_index m (length vs) z (λ i. result v (change w (vector (slice_set vs i v)) z))))
    (steps.need_integer 2 ++ steps.load 7 1 (pos 2) ∷ steps.need_below 2 7 ∷ setting)
    (first_registers 8 (a ∷ b ∷ c ∷ [])) (omega arith) refl refl are.1.0 (omega arith)
    (λ vs found.
    let it = object_found names program places z y r w b (vector vs) are.1.0 found in
    let low = vector_low names program places z y r w b vs it in
    integer_needed names program places z y r procedures below n (y.cost + 130 + 244 * 3) _ 2 c u
    (λ m. an_index m (length vs) z (λ i. result v (change w (vector (slice_set vs i v)) z))) (steps.load 7 1 (pos 2) ∷ steps.need_below 2 7 ∷ setting)
    _ (omega arith) refl refl are.1.1.0 (omega arith)
    (λ m m_is range m_word.
    goes_on names program places z y procedures below
    (load_falls refl (address_above b 2 (it.spot.address + 4) (omega (arith, it.word)) (omega (arith, it.word, low))) it.stands.count)
    (index_needed names program places z y r procedures below n (y.cost + 130 + 244 * 3) _ 2 (length vs) m
    (λ i. result v (change w (vector (slice_set vs i v)) z)) setting _ refl (ap (λ x. Some x) m_word) refl range (omega (arith, low)) (omega arith)
    (λ i inside i_word.
    goes_on names program places z y procedures below
    (compute_known refl refl (let sum : sum32 b c ≡ it.spot.address + 2 + 4 * i = omega (arith, it.word, m_word, i_word, low, inside) in sum))
    (stores_changed names program places z y r procedures below n (y.cost + 130 + 244 * 3) _ it.number 0 5 0 (it.spot.address + 2 + 4 * i)
    (it.spot.address + 4 * (2 + i)) a a (pos 6) it.spot (vector vs) (vector (slice_set vs i v)) v w _ refl refl
    (address_above (it.spot.address + 2 + 4 * i) 6 (it.spot.address + 4 * (2 + i)) (omega arith) (omega (arith, it.word, low, inside)))
    refl are.0 (omega (arith, it.spot_stands.aligned)) (omega arith) (omega (arith, it.stands.size.words)) it.stored tt tt (λ p e. cc e) it.found it.value
    (vector_set places y.arena it.spot vs i a v r.arena it.spot_stands inside are.0 it.stands) (omega arith)))))))
